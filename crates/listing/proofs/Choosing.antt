-- The named islands chosen, step by step: what each call asks of the work words that the ones before have left.
use Prim.Native.Nat.{ℕ, zero, suc, ◌+◌, ◌*◌, ◌<◌, ◌≤◌}
use mathlib.Core.Path.{◌≡◌, refl, sym, ap, ◌∙◌, subst}
use mathlib.Core.Bool.{Bool, true, false, not}
use mathlib.Core.Logic.{inl, inr, ⊎_elim}
use mathlib.Core.List.Memᴰ.{cast as in-cast}
use mathlib.Core.List.{List, [], ◌∷◌, map, Memᴰ as In}
use native.Mathlib.Omega.{arith}
use native.Mathlib.Decide.{ℕ_discrete}
use lib.ListN.{length, get_or, replicate, length-replicate}
use lib.Seq.{sets, length-sets}
use borrow.Author.Tests.{eq-eqb, ne_eqb}
use Rattle.rules.specs.Lists.{keep, upto, among}
use Rattle.rules.specs.Picture.{Picture, picture, OUTSIDE}
use Rattle.rules.specs.Face.{label_of, firsts, islands}
use Rattle.rules.specs.Records.{NONE}
use Rattle.rules.proofs.Ground.Lists.{in_at, upto_in, keep_same, map_same, among_in, in_among, not_among, in_keep, keep_in}
use Rattle.rules.proofs.Ground.Order.{Ordered, before_least}
use Rattle.rules.proofs.Islands.Pixels.{label_of_is}
use Rattle.rules.proofs.Waste.{seen_inside}
use Rattle.rules.proofs.Faces.FirstPixels.{First, first_pixels, first_in_lem, in_firsts, firsts_all}
use Rattle.benches.proofs.SameListing.{is_named, named_firsts, named_first}
use Rattle.store.specs.Words.{part}
use Rattle.store.proofs.Parts.{length_part, part_same, part_at}
use Rattle.store.proofs.Writes.{sets_before, sets_after, filled}
use Rattle.lattice.specs.declared.Size.{Size}
use Rattle.lattice.specs.Size.{Map, pic}
use Rattle.lattice.specs.Planes.{plane}
use Rattle.face.specs.Islands.{Numbered, plan}
use Rattle.face.specs.Order.{label_in, Sooner, Unsorted, InOrder}
use Rattle.face.proofs.order.FacesInOrder.{sort_firsts}
use Rattle.assemble.specs.Groups.{leads, Leaders}
use Rattle.assemble.proofs.Lists.{keep_numbers}
use Rattle.assemble.proofs.Leaders.{island_leaders}
use Rattle.listing.specs.Names.{label_at, Unmarked, MarksNames, Keepable, has_mark, Keeps}
use Rattle.listing.specs.Preparing.{Chosen}

-- a list is the part of itself that is all of it
part_whole : (ws : List ℕ) → part ws 0 (length ws) ≡ ws
part_whole [] = refl
part_whole (w ∷ ws) = ap (λ l. w ∷ l) (part_same (w ∷ ws) ws 1 0 (length ws) (λ i h. let z : 1 + i ≡ suc i = omega arith in let y : 0 + i ≡ i = omega arith in rw (z, y)) ∙ part_whole ws)

-- an earlier member comes before a later one
ordered_at : (R : ℕ → ℕ → Type 0) (l : List ℕ) → Ordered R l → (i j : ℕ) → i < j → j < length l → R (get_or l i 0) (get_or l j 0)
ordered_at R [] o i j h k = absurd (omega arith)
ordered_at R (a ∷ l) o zero zero h k = absurd (omega arith)
ordered_at R (a ∷ l) o zero (suc j) h k = o.0 (get_or l j 0) (in_at l j 0 (omega arith))
ordered_at R (a ∷ l) o (suc i) zero h k = absurd (omega arith)
ordered_at R (a ∷ l) o (suc i) (suc j) h k = ordered_at R l o.1 i j (omega arith) (omega arith)

module _ {s : Size} {ls : List ℕ} (M : Map s ls) (b : s.paints ≤ OUTSIDE) where
  abbrev P : Picture
  P = pic s ls

  abbrev C : ℕ
  C = plane s.width s.height

  abbrev area : ℕ
  area = s.width * s.height

  pixels_in : area ≤ C
  pixels_in = omega arith

  -- a painted label is read as it is
  pub own_label : (p : ℕ) → First P s.paints p → get_or ls p 0 ≡ label_of P p
  unfolding picture
  own_label p f =
      let e = label_of_is s.width s.height s.bound ls M.count p f.on in
      sym (e ∙ seen_inside s.bound (get_or ls p 0) (omega (arith, e, f.painted, b)))

  -- THE ISLANDS numbered
  module _ {work₀ : List ℕ} {r : ℕ} {work₁ : List ℕ} (g : Numbered (plan s) s.paints ls work₀ r work₁) (room : 8 * C ≤ length work₀) where
    numbers : (p : ℕ) → p < area → (label_of P p ≡ OUTSIDE → ⊥) → get_or work₁ (5 * C + p) 0 ≡ get_or (firsts P) p 0
    numbers p h o = g.numbers p h o

    leaders_are : keep (leads s.paints s.bound (5 * C) ls work₁) (upto (length ls) 0) ≡ islands P s.paints
    leaders_are = island_leaders M b (5 * C) work₁ numbers

    -- and listed
    module _ {m : ℕ} {work₂ : List ℕ} (l : Leaders s.paints s.bound (4 * C) (5 * C) (6 * C) ls work₁ (length ls) m work₂) where
      few : m ≤ area
      few = omega (arith, l.few, M.count)

      listed₂ : part work₂ (6 * C) m ≡ islands P s.paints
      listed₂ = l.listed ∙ leaders_are

      long₂ : length work₂ ≡ length work₀
      long₂ = l.changed.long ∙ g.kept.long

      pub unsorted : Unsorted (6 * C) m work₂
      unsorted = record {
        room = omega (arith, few, pixels_in, room, long₂);
        once = rw listed₂ (firsts_all P s.paints).second;
      }

      -- sorted
      module _ {work₃ : List ℕ} (o : InOrder ls (6 * C) m work₂ work₃) where
        abbrev fp : List ℕ
        fp = first_pixels P s.paints

        listed₃ : part work₃ (6 * C) m ≡ fp
        listed₃ = sort_firsts P s.paints o listed₂ (λ p i. own_label p (first_in_lem P s.paints p ((firsts_all P s.paints).onto p i)))

        count : length fp ≡ m
        count = ap length (sym listed₃) ∙ length_part work₃ (6 * C) m

        first_at : (i : ℕ) → i < m → First P s.paints (get_or fp i 0)
        first_at i h = first_in_lem P s.paints (get_or fp i 0) (in_at fp i 0 (omega (arith, count)))

        on_at : (i : ℕ) → i < m → get_or fp i 0 < area
        unfolding picture
        on_at i h = (first_at i h).on

        label_at_lem : (i : ℕ) → i < m → get_or ls (get_or fp i 0) 0 ≡ label_of P (get_or fp i 0)
        label_at_lem i h = own_label (get_or fp i 0) (first_at i h)

        by_label : (i j : ℕ) → i ≤ j → j < m → label_in ls (get_or fp i 0) ≤ label_in ls (get_or fp j 0)
        by_label i j h k = elim (ℕ_discrete i j) [
          | yes e ↦ let z : label_in ls (get_or fp i 0) ≡ label_in ls (get_or fp j 0) = ap (λ i. label_in ls (get_or fp i 0)) e in omega arith
          | no n ↦ before_least (label_in ls) (get_or fp i 0) (get_or fp j 0) (ordered_at (Sooner ls) fp (subst (Ordered (Sooner ls)) listed₃ o.ordered) i j (omega arith) (omega (arith, count)))
        ]

        pub fillable : 7 * C + m ≤ length work₃
        fillable = omega (arith, few, pixels_in, room, long₂, o.kept.long)

        -- without a mark
        module _ {work₄ : List ℕ} (e₄ : work₄ ≡ sets work₃ (7 * C) (replicate m 0)) where
          long₄ : length work₄ ≡ length work₀
          long₄ = ap length e₄ ∙ length-sets work₃ (7 * C) (replicate m 0) ∙ o.kept.long ∙ long₂

          before₄ : (i : ℕ) → i < 7 * C → get_or work₄ i 0 ≡ get_or work₃ i 0
          before₄ i h = ap (λ (w : List ℕ). get_or w i 0) e₄ ∙ sets_before work₃ (7 * C) (replicate m 0) i h

          at₃ : (i : ℕ) → i < m → get_or work₃ (6 * C + i) 0 ≡ get_or fp i 0
          at₃ i h = sym (part_at work₃ (6 * C) m i h) ∙ ap (λ (l : List ℕ). get_or l i 0) listed₃

          at₄ : (i : ℕ) → i < m → get_or work₄ (6 * C + i) 0 ≡ get_or fp i 0
          at₄ i h = before₄ (6 * C + i) (omega (arith, few, pixels_in)) ∙ at₃ i h

          label₄ : (i : ℕ) → i < m → label_at ls (6 * C) work₄ i ≡ label_in ls (get_or fp i 0)
          label₄ i h = ap (label_in ls) (at₄ i h)

          pub unmarked : Unmarked ls (6 * C) (7 * C) m work₄
          unmarked = record {
            labels = record {
              room = omega (arith, few, pixels_in, room, long₄);
              order = λ i j h k. omega (arith, label₄ i (omega arith), label₄ j k, by_label i j h k);
            };
            apart = omega (arith, few, pixels_in);
            room = omega (arith, few, pixels_in, room, long₄);
            blank = λ i h. ap (λ (w : List ℕ). get_or w (7 * C + i) 0) e₄ ∙ filled work₃ (7 * C) m 0 i fillable h;
            small = λ i h. omega (arith, label₄ i h, label_at_lem i h, (first_at i h).painted);
          }

          -- marked
          module _ {names work₅ : List ℕ} (k : MarksNames ls (6 * C) (7 * C) m work₄ names (length names) work₅) where
            before₅ : (i : ℕ) → i < 7 * C → get_or work₅ i 0 ≡ get_or work₃ i 0
            before₅ i h = k.kept.others i (inl h) ∙ before₄ i h

            at₅ : (i : ℕ) → i < m → get_or work₅ (6 * C + i) 0 ≡ get_or fp i 0
            at₅ i h = before₅ (6 * C + i) (omega (arith, few, pixels_in)) ∙ at₃ i h

            pub keepable : Keepable (4 * C) (6 * C) (7 * C) m work₅
            keepable = record {
              room = omega (arith, few, pixels_in, room, long₄, k.kept.long);
              apart = omega (arith, few, pixels_in);
              island = λ i h. omega (arith, at₅ i h, on_at i h, pixels_in);
            }

            label₅ : (i : ℕ) → i < m → label_at ls (6 * C) work₄ i ≡ label_of P (get_or fp i 0)
            label₅ i h = label₄ i h ∙ label_at_lem i h

            mark_is : (i : ℕ) → i < m → has_mark (7 * C) work₅ i ≡ is_named P names (get_or fp i 0)
            mark_is i h = go (among (label_of P (get_or fp i 0)) names) refl
              where
                go : (t : Bool) → among (label_of P (get_or fp i 0)) names ≡ t → has_mark (7 * C) work₅ i ≡ t
                go true e =
                    let z = k.named i h (subst (In (label_at ls (6 * C) work₄ i)) (sym (part_whole names)) (in-cast (label₅ i h) (among_in (label_of P (get_or fp i 0)) names e))) in
                    ap not (ne_eqb (get_or work₅ (7 * C + i) 0) 0 (λ y. omega (arith, z, y)))
                go false e =
                    ap not (eq-eqb (get_or work₅ (7 * C + i) 0) 0
                    (k.others i h (λ y. not_among (label_of P (get_or fp i 0)) names e (in-cast (sym (label₅ i h)) (subst (In (label_at ls (6 * C) work₄ i)) (part_whole names) y)))))

            -- and those with a mark kept
            module _ {n : ℕ} {work₆ : List ℕ} (u : Keeps (4 * C) (6 * C) (7 * C) m work₅ m n work₆) where
              listed₆ : part work₆ (6 * C) n ≡ named_firsts P s.paints names
              listed₆ =
                  u.kept
                  ∙ ap (map (λ j. get_or work₅ (6 * C + j) 0)) (keep_same (has_mark (7 * C) work₅) (λ i. is_named P names (get_or fp i 0)) (upto m 0) (λ i j. mark_is i (let y = upto_in m 0 i j in omega arith)))
                  ∙ map_same (λ j. get_or work₅ (6 * C + j) 0) (λ j. get_or fp j 0) (keep (λ i. is_named P names (get_or fp i 0)) (upto m 0))
                  (λ i j. at₅ i (let y = upto_in m 0 i (keep_in (λ i. is_named P names (get_or fp i 0)) (upto m 0) i j).0 in omega arith))
                  ∙ ap (λ m. map (λ j. get_or fp j 0) (keep (λ i. is_named P names (get_or fp i 0)) (upto m 0))) (sym count)
                  ∙ sym (keep_numbers (is_named P names) 0 fp)

              low : (p : ℕ) → In p (part work₆ (6 * C) n) → p < area
              unfolding picture
              low p i = (named_first P s.paints names p (subst (In p) listed₆ i)).first.on

              long₆ : length work₆ ≡ length work₀
              long₆ = u.long ∙ k.kept.long ∙ long₄

              same₅ : (i : ℕ) → 5 * C ≤ i → i < 6 * C → get_or work₆ i 0 ≡ get_or work₅ i 0
              same₅ i h j = u.others i (inl j) (λ p y e. omega (arith, low p y, pixels_in))

              same₂ : (i : ℕ) → i < 6 * C → get_or work₅ i 0 ≡ get_or work₂ i 0
              same₂ i h = before₅ i (omega arith) ∙ o.kept.others i (inl h)

              behind : (i : ℕ) → 8 * C ≤ i → get_or work₆ i 0 ≡ get_or work₀ i 0
              behind i h =
                  u.others i (inr (omega (arith, few, pixels_in))) (λ p y e. omega (arith, low p y, pixels_in))
                  ∙ k.kept.others i (inr (omega (arith, few, pixels_in)))
                  ∙ ap (λ (w : List ℕ). get_or w i 0) e₄ ∙ sets_after work₃ (7 * C) (replicate m 0) i (omega (arith, few, pixels_in, length-replicate {A = ℕ} m 0))
                  ∙ o.kept.others i (inr (omega (arith, few, pixels_in)))
                  ∙ l.changed.others i (inr (omega (arith, M.count, pixels_in))) (inr (omega (arith, M.count, pixels_in)))
                  ∙ g.kept.others i (inr (omega (arith, pixels_in)))

              in_chosen : (p : ℕ) → First P s.paints p → In (label_of P p) names → In p (part work₆ (6 * C) n)
              in_chosen p f i = subst (In p) (sym listed₆) (in_keep (is_named P names) fp p (in_among (label_of P p) names i) (in_firsts P s.paints p f))

              none_yet : (p : ℕ) → First P s.paints p → get_or work₂ (4 * C + p) 0 ≡ NONE
              none_yet p f = l.empty p (subst (In p) (sym leaders_are) ((firsts_all P s.paints).into p (in_firsts P s.paints p f)))

              on : (p : ℕ) → First P s.paints p → p < area
              unfolding picture
              on p f = f.on

              pub chosen : Chosen s ls names work₀ n work₆
              chosen = record {
                ready = record {
                  map = M;
                  paints = b;
                  room = omega (arith, room, long₆);
                  numbers = λ p h y. same₅ (5 * C + p) (omega arith) (omega (arith, pixels_in)) ∙ same₂ (5 * C + p) (omega (arith, pixels_in))
                      ∙ l.changed.others (5 * C + p) (inr (omega (arith, M.count, pixels_in))) (inl (omega (arith, pixels_in))) ∙ numbers p h y;
                  chosen = λ p f i. u.heads_are p (in_chosen p f i);
                  others = λ p f z.
                      u.others (4 * C + p) (inl (omega (arith, on p f, pixels_in)))
                      (λ q y e. z (let v : p ≡ q = omega arith in in-cast (ap (label_of P) v) (named_first P s.paints names q (subst (In q) listed₆ y)).named))
                      ∙ same₂ (4 * C + p) (omega (arith, on p f, pixels_in)) ∙ none_yet p f;
                };
                few = omega (arith, u.few, few);
                listed = listed₆;
                kept = record { long = long₆; others = λ i h. ⊎_elim (λ (y : i < 0). absurd (omega arith)) (behind i) h };
              }
