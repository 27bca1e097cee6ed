-- The assembly step by step: what each call asks of the work words that the ones before have left.
use Prim.Native.Nat.{ℕ, ◌+◌, ◌*◌, ◌-◌, ◌≤◌, ◌<◌}
use mathlib.Core.Path.{◌≡◌, sym, ap, subst, ◌∙◌}
use mathlib.Core.Logic.{◌⊎◌, inl, inr}
use mathlib.Core.List.Memᴰ.{of_map}
use mathlib.Core.List.{List, [], map, map-map, map-id, Memᴰ as In}
use native.Mathlib.Omega.{arith}
use native.Mathlib.Nat.{mul_assoc}
use lib.Dec.{eqb}
use lib.ListN.{length, get_or, replicate, length-replicate}
use lib.Seq.{sets}
use Rattle.rules.specs.Lists.{keep, upto}
use Rattle.rules.specs.Picture.{Picture, picture, OUTSIDE, Dart}
use Rattle.rules.specs.Face.{label_of, firsts, contours, islands, island_of, face, faces}
use Rattle.rules.specs.Records.{contours_of, NONE}
use Rattle.rules.proofs.Ground.Lists.{in_at, flat_in, keep_in, keep_same, keep_few, upto_in, length_upto, at_map}
use Rattle.rules.proofs.Ground.Pigeonhole.{rearranged_length}
use Rattle.rules.proofs.Lattice.Frame.{Framed}
use Rattle.rules.proofs.Tracing.Counts.{segment_count_lem, crack_count}
use Rattle.rules.proofs.Contours.Painted.{Painted, painted, reference_count}
use Rattle.rules.proofs.Islands.Pixels.{width_pos, label_of_is}
use Rattle.rules.proofs.Waste.{seen_inside}
use Rattle.rules.proofs.Faces.FirstPixels.{First, first_pixels, first_in_lem, in_firsts, firsts_all}
use Rattle.rules.proofs.Faces.Faced.{faced}
use Rattle.store.specs.Words.{part}
use Rattle.store.proofs.Writes.{filled, sets_kept}
use Rattle.store.proofs.Parts.{length_part, part_same}
use Rattle.lattice.specs.declared.Size.{Size}
use Rattle.lattice.specs.Size.{Map, pic}
use Rattle.lattice.proofs.Frame.{framed}
use Rattle.lattice.proofs.Laws.{product}
use Rattle.lattice.specs.Planes.{plane}
use Rattle.rules.proofs.Contours.Few.{contours_few}
use Rattle.face.specs.Order.{Unsorted, InOrder}
use Rattle.face.proofs.order.FacesInOrder.{sort_firsts}
use Rattle.assemble.specs.Words.{island_in}
use Rattle.assemble.specs.Changes.{Changed}
use Rattle.assemble.specs.Trails.{first_of, end_of, after, Strung}
use Rattle.assemble.specs.Stage.{Ready, Finds}
use Rattle.assemble.specs.Groups.{leads, Pages, Leaders, Loose, belongs, members, Threads}
use Rattle.assemble.specs.Writing.{Fits, Gathered, nothing, Ordered}
use Rattle.assemble.specs.Assembly.{Standing}
use Rattle.assemble.proofs.Lists.{keep_numbers, length_rearranged}
use Rattle.assemble.proofs.Changes.{changed_then, outside_in}
use Rattle.assemble.proofs.Trails.{along_same, end_in_lem, strung_same}
use Rattle.assemble.proofs.Leaders.{island_leaders}
use Rattle.assemble.proofs.Readings.{contour_starts, contour_island, island_first}

module _ {s : Size} {ls nodes segs points : List ℕ} {n : ℕ} {work : List ℕ} {ss : List (List Dart)} (M : Map s ls) (b : s.paints ≤ OUTSIDE) (g : Standing s ls nodes segs points n work ss) {C : ℕ} (words : C ≡ plane s.width s.height) where
  abbrev P : Picture
  P = pic s ls

  abbrev F : Framed P
  F = framed s ls

  abbrev cs : List (List ℕ)
  cs = contours P ss s.paints

  abbrev ok : Painted P ss s.paints cs
  ok = painted F g.drawn.describes s.paints b

  -- only the plane 5 and what lies behind the eight planes is kept
  abbrev Used : List ℕ → List ℕ → Type 0
  Used = Changed 0 (5 * C) (6 * C) (2 * C)

  -- BOUNDS

  plane_low : C ≤ 268468225
  plane_low = rw words (product (s.width + 1) (s.height + 1) (omega (arith, M.wide)) (omega (arith, M.high)))

  pixels_in : s.width * s.height ≤ C
  pixels_in = omega arith

  pub trail_in_lem : 2 * n ≤ 4 * C
  unfolding picture
  trail_in_lem = omega (arith, g.total, segment_count_lem F g.drawn.describes, crack_count F, mul_assoc 2 s.width s.height)

  contours_in_lem : length cs ≤ C
  unfolding picture
  contours_in_lem = omega (arith, contours_few F s.paints g.drawn.describes b)

  -- THE TRAIL cleared
  module _ {work₁ : List ℕ} (e₁ : work₁ ≡ sets work 0 (replicate (2 * n) NONE)) where
    used₁ : Used work work₁
    used₁ =
        let k = sets_kept work 0 (replicate (2 * n) NONE) in
        rw e₁ (record { long = k.long; others = λ i p q. k.others i (outside_in 0 (5 * C) 0 (length (replicate (2 * n) NONE)) (omega arith) (omega (arith, trail_in_lem, length-replicate {A = ℕ} (2 * n) NONE)) p) })

    pub ready : Ready s ls nodes segs ss 0 (7 * C) (2 * n) work₁
    ready = record {
      drawn = g.drawn;
      total = ap (λ n. 2 * n) g.total;
      apart = omega (arith, trail_in_lem, g.total);
      space = omega (arith, contours_in_lem, g.planes, used₁.long);
      blank = λ q h. rw e₁ (filled work 0 (2 * n) NONE q (omega (arith, trail_in_lem, g.planes)) (omega (arith, g.total)));
    }

    -- THE CONTOURS found
    module _ {count : ℕ} {work₂ : List ℕ} (f : Finds s ls ss 0 (7 * C) work₁ count work₂) where
      used₂ : Used work work₂
      used₂ = changed_then used₁ (record {
        long = f.changed.long;
        others = λ i p q. f.changed.others i (outside_in 0 (5 * C) 0 (2 * length ss) (omega arith) (omega (arith, trail_in_lem, g.total)) p) (outside_in (6 * C) (2 * C) (7 * C) (length cs) (omega arith) (omega (arith, contours_in_lem)) q);
      })

      pub pages : Pages (4 * C) (5 * C) (6 * C) (length ls) work₂
      pages = record {
        apart = omega (arith, M.count, pixels_in);
        behind = omega (arith, M.count, pixels_in);
        room = omega (arith, M.count, pixels_in, g.planes, used₂.long);
        low = omega (arith, M.count, pixels_in, plane_low);
      }

      -- THE ISLANDS listed
      module _ {m : ℕ} {work₃ : List ℕ} (l : Leaders s.paints s.bound (4 * C) (5 * C) (6 * C) ls work₂ (length ls) m work₃) where
        used₃ : Used work work₃
        used₃ = changed_then used₂ (record {
          long = l.changed.long;
          others = λ i p q. l.changed.others i (outside_in 0 (5 * C) (4 * C) (length ls) (omega arith) (omega (arith, M.count, pixels_in)) p) (outside_in (6 * C) (2 * C) (6 * C) (length ls) (omega arith) (omega (arith, M.count, pixels_in)) q);
        })

        numbers : (w : List ℕ) → Used work w → (p : ℕ) → p < s.width * s.height → (label_of P p ≡ OUTSIDE → ⊥) → get_or w (5 * C + p) 0 ≡ get_or (firsts P) p 0
        numbers w k p h o = k.others (5 * C + p) (inr (omega arith)) (inl (omega (arith, pixels_in))) ∙ ap (λ C. get_or work (5 * C + p) 0) words ∙ g.numbers p h o

        -- the trail and the list of contours still stand
        same₃ : (i : ℕ) → (i < 4 * C) ⊎ (7 * C ≤ i) → get_or work₃ i 0 ≡ get_or work₂ i 0
        same₃ i (inl h) = l.changed.others i (inl h) (inl (omega arith))
        same₃ i (inr h) = l.changed.others i (inr (omega (arith, M.count, pixels_in))) (inr (omega (arith, M.count, pixels_in)))

        trail₃ : (c : List ℕ) → In c cs → (q : ℕ) → In q c → after 0 work₃ q ≡ after 0 work₂ q
        trail₃ c i q j = let z = (ok.member c i q j).below in same₃ (0 + q) (inl (omega (arith, trail_in_lem, g.total)))

        island₃ : {k : ℕ} → k < length cs → island_in s segs points work₃ (5 * C) (first_of (get_or cs k [])) ≡ island_of P ss (get_or cs k [])
        island₃ h = contour_island M g.drawn g.pointed b h work₃ (5 * C) (numbers work₃ used₃)

        leaders_are : keep (leads s.paints s.bound (5 * C) ls work₂) (upto (length ls) 0) ≡ islands P s.paints
        leaders_are = island_leaders M b (5 * C) work₂ (numbers work₂ used₂)

        islands_few : m ≤ s.width * s.height
        islands_few =
            omega (arith, length_part work₃ (6 * C) m, ap length l.listed, keep_few (leads s.paints s.bound (5 * C) ls work₂) (upto (length ls) 0), length_upto (length ls) 0, M.count)

        -- no island has a contour yet
        none_yet : (p : ℕ) → First P s.paints p → get_or work₃ (4 * C + p) 0 ≡ NONE
        none_yet p h = l.empty p (subst (In p) (sym leaders_are) ((firsts_all P s.paints).into p (in_firsts P s.paints p h)))

        pub loose : Loose s segs points 0 (2 * length ss) (4 * C) (5 * C) (7 * C) count work₃ cs
        unfolding picture
        loose = record {
          apart = omega (arith, trail_in_lem, g.total);
          behind = omega (arith, pixels_in);
          last = omega (arith, pixels_in);
          room = omega (arith, f.listed.count, contours_in_lem, g.planes, used₃.long);
          total = f.listed.count;
          once = ok.once;
          below = λ q i. let c = flat_in cs q i in (ok.member c.0 c.1 q c.2).below;
          listed = λ k h. let i = low h in same₃ (7 * C + k) (inr (omega arith)) ∙ f.listed.words k i ∙ at_map end_of cs k [] 0 i;
          along = λ k h. along_same 0 work₂ work₃ (get_or cs k []) (trail₃ (get_or cs k []) (here h)) (f.along (get_or cs k []) (here h)).0;
          closed = λ k h. let a = f.along (get_or cs k []) (here h) in trail₃ (get_or cs k []) (here h) (end_of (get_or cs k [])) (end_in_lem 0 work₂ work₂ (get_or cs k []) a.0) ∙ a.1;
          begin = λ k h. contour_starts M g.drawn g.pointed b (low h);
          inside = λ k h. rw (island₃ (low h)) (island_first M g.drawn g.pointed b (low h)).on;
          empty = λ k h. ap (λ p. get_or work₃ (4 * C + p) 0) (island₃ (low h)) ∙ none_yet (island_of P ss (get_or cs k [])) (island_first M g.drawn g.pointed b (low h));
        }
          where
            low : {k : ℕ} → k < count → k < length cs
            low h = omega (arith, f.listed.count)

            here : {k : ℕ} → k < count → In (get_or cs k []) cs
            here {k} h = in_at cs k [] (low h)

        -- THE CONTOURS strung
        module _ {work₄ : List ℕ} (t : Threads s segs points 0 (2 * length ss) (4 * C) (5 * C) work₃ cs 0 work₄) where
          used₄ : Used work work₄
          used₄ = changed_then used₃ (record {
            long = t.changed.long;
            others = λ i p q. t.changed.others i (outside_in 0 (5 * C) 0 (2 * length ss) (omega arith) (omega (arith, trail_in_lem, g.total)) p) (outside_in 0 (5 * C) (4 * C) (s.width * s.height) (omega arith) (omega (arith, pixels_in)) p);
          })

          listed₄ : part work₄ (6 * C) m ≡ islands P s.paints
          listed₄ =
              part_same work₄ work₃ (6 * C) (6 * C) m (λ i h. t.changed.others (6 * C + i) (inr (omega (arith, trail_in_lem, g.total))) (inr (omega (arith, pixels_in))))
              ∙ l.listed ∙ leaders_are

          pub unsorted : Unsorted (6 * C) m work₄
          unsorted = record {
            room = omega (arith, islands_few, pixels_in, g.planes, used₄.long);
            once = rw listed₄ (firsts_all P s.paints).second;
          }

          -- THE ISLANDS in order
          module _ {work₅ : List ℕ} (o : InOrder ls (6 * C) m work₄ work₅) where
            same₅ : (i : ℕ) → (i < 6 * C) ⊎ (6 * C + 2 * C ≤ i) → get_or work₅ i 0 ≡ get_or work₄ i 0
            same₅ i (inl h) = o.kept.others i (inl h)
            same₅ i (inr h) = o.kept.others i (inr (omega (arith, islands_few, pixels_in)))

            pub used₅ : Used work work₅
            used₅ = changed_then used₄ (record { long = o.kept.long; others = λ i p q. same₅ i q })

            -- a painted label is read as it is
            painted_label : (p : ℕ) → First P s.paints p → label_of P p ≡ get_or ls p 0
            unfolding picture
            painted_label p f =
                let e = label_of_is s.width s.height s.bound ls M.count p f.on in
                e ∙ seen_inside s.bound (get_or ls p 0) (omega (arith, e, f.painted, b))

            first_labels : (p : ℕ) → In p (islands P s.paints) → get_or ls p 0 ≡ label_of P p
            first_labels p i = sym (painted_label p (first_in_lem P s.paints p ((firsts_all P s.paints).onto p i)))

            listed₅ : part work₅ (6 * C) m ≡ first_pixels P s.paints
            listed₅ = sort_firsts P s.paints o listed₄ first_labels

            -- the face of a first pixel
            module _ (p : ℕ) (i : In p (first_pixels P s.paints)) where
              first : First P s.paints p
              first = first_in_lem P s.paints p i

              own : (face P ss cs p).contours ≡ members s segs points (5 * C) work₃ cs 0 p
              unfolding face
              own =
                  let z : length cs ≡ length cs - 0 = omega arith in
                  keep_numbers (λ c. eqb (island_of P ss c) p) [] cs
                  ∙ ap (map (λ k. get_or cs k [])) (keep_same (λ k. eqb (island_of P ss (get_or cs k [])) p) (belongs s segs points (5 * C) work₃ cs p) (upto (length cs) 0)
                  (λ k j. ap (λ q. eqb q p) (sym (island₃ (let u = upto_in (length cs) 0 k j in omega arith))))
                  ∙ ap (λ n. keep (belongs s segs points (5 * C) work₃ cs p) (upto n 0)) z)

              strung : Strung 0 work₅ (get_or work₅ (4 * C + p) 0) (face P ss cs p).contours
              unfolding picture face
              strung =
                  rw same_head
                  (strung_same 0 work₄ work₅ (get_or work₄ (4 * C + p) 0) (face P ss cs p).contours (λ c j q k. let y = (ok.member c (keep_in (λ c. eqb (island_of P ss c) p) cs c j).0 q k).below in same₅ (0 + q) (inl (omega (arith, trail_in_lem, g.total))))
                  (subst (Strung 0 work₄ (get_or work₄ (4 * C + p) 0)) (sym own) (t.lists p first.on (none_yet p first))))
                where
                  same_head : get_or work₅ (4 * C + p) 0 ≡ get_or work₄ (4 * C + p) 0
                  same_head = same₅ (4 * C + p) (inl (omega (arith, first.on, pixels_in)))

              gathered : Gathered ls 0 (4 * C) work₅ (face P ss cs p)
              unfolding face picture
              gathered = record { strung = strung; region = painted_label p first }

            fits : Fits (contours_of (faces P ss s.paints)) nothing
            fits =
                let r = (faced F g.drawn.describes b).arranged in
                record {
                  contours = omega (arith, rearranged_length r, contours_in_lem, plane_low);
                  references = omega (arith, length_rearranged (contours_of (faces P ss s.paints)) cs r, reference_count ok, g.drawn.few);
                }

            pub ordered : Ordered s.width ls 0 (4 * C) (6 * C) m work₅ (faces P ss s.paints)
            unfolding faces face
            ordered = record {
              firsts = listed₅ ∙ sym (map-map (λ f. f.first) (face P ss cs) (first_pixels P s.paints) ∙ map-id (first_pixels P s.paints));
              gathered = λ h i. let q = of_map (face P ss cs) (first_pixels P s.paints) i in subst (Gathered ls 0 (4 * C) work₅) q.2 (gathered q.0 q.1);
              fits = fits;
              low = omega (arith, islands_few, pixels_in, plane_low);
              wide = λ h. width_pos s.width s.height 0 (omega (arith, islands_few));
              begins = record { in_trail = omega arith; in_heads = omega (arith, g.planes, used₅.long); in_list = omega (arith, g.planes, used₅.long) };
            }
