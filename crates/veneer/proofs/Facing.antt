-- The islands listed, put in face order and numbered: what each step asks of the words that the ones before have left.
use Prim.Native.Nat.{ℕ, ◌+◌, ◌*◌, ◌<◌, ◌≤◌}
use mathlib.Core.Path.{◌≡◌, refl, sym, ap, ◌∙◌}
use mathlib.Core.Logic.{inl, inr, ⊎_elim}
use mathlib.Core.List.{List}
use native.Mathlib.Omega.{arith}
use lib.IntN.{ℤ}
use lib.ListN.{length, get_or, replicate, length-replicate}
use lib.Seq.{sets, length-sets}
use Rattle.rules.specs.Picture.{Picture, picture, OUTSIDE}
use Rattle.rules.specs.Face.{label_of, islands}
use Rattle.rules.proofs.Ground.Lists.{in_at}
use Rattle.rules.proofs.Islands.Pixels.{label_of_is}
use Rattle.rules.proofs.Waste.{seen_inside}
use Rattle.rules.proofs.Faces.FirstPixels.{First, first_in_lem, firsts_all, firsts_distinct}
use Rattle.store.specs.Words.{part, Kept}
use Rattle.store.proofs.Parts.{length_part, part_at}
use Rattle.store.proofs.Writes.{sets_before, sets_kept, filled, kept_then, kept_within}
use Rattle.lattice.specs.declared.Size.{Size}
use Rattle.lattice.specs.Size.{Map, pic}
use Rattle.lattice.specs.Planes.{plane}
use Rattle.lattice.proofs.Planes.{plane_low}
use Rattle.face.specs.declared.contours.Found.{Found}
use Rattle.face.specs.Contours.{Blank}
use Rattle.face.specs.Order.{Unsorted, InOrder}
use Rattle.face.proofs.contours.Scanning.{scan_start, start_loops}
use Rattle.face.proofs.order.FacesInOrder.{sort_firsts}
use Rattle.assemble.specs.Groups.{Pages, Leaders}
use Rattle.assemble.proofs.Leaders.{island_leaders}
use Rattle.calls.specs.Steps.{IslandsNumbered}
use Rattle.veneer.specs.Sums.{total}
use Rattle.veneer.specs.Steps.{share, firsts_of, Numberable, Numbers, Named, Measuring, MeasuredAll, MeasuresFaces}

module _ {s : Size} {ls : List ℕ} (M : Map s ls) (b : s.paints ≤ OUTSIDE) (work₀ : List ℕ) (numbers₀ : List ℤ) (room : 8 * plane s.width s.height ≤ length work₀)
    (isles : IslandsNumbered s ls work₀) (enough : length (firsts_of s ls) ≤ length numbers₀) where
  abbrev P : Picture
  P = pic s ls

  abbrev C : ℕ
  C = plane s.width s.height

  abbrev fp : List ℕ
  fp = firsts_of s ls

  pixels_in : s.width * s.height ≤ C
  pixels_in = omega arith

  plane_few : C ≤ 268468225
  plane_few = plane_low s.width s.height M.wide M.high

  pub pages : Pages (4 * C) (5 * C) (6 * C) (length ls) work₀
  pages = record {
    apart = omega (arith, M.count, pixels_in);
    behind = omega (arith, M.count, pixels_in);
    room = omega (arith, M.count, pixels_in, room);
    low = omega (arith, M.count, pixels_in, plane_few);
  }

  -- a painted label is read as it is
  own_label : (p : ℕ) → First P s.paints p → get_or ls p 0 ≡ label_of P p
  unfolding picture
  own_label p f =
      let e = label_of_is s.width s.height s.bound ls M.count p f.on in
      sym (e ∙ seen_inside s.bound (get_or ls p 0) (omega (arith, e, f.painted, b)))

  -- LISTED
  module _ {m : ℕ} {work₁ : List ℕ} (l : Leaders s.paints s.bound (4 * C) (5 * C) (6 * C) ls work₀ (length ls) m work₁) where
    few : m ≤ s.width * s.height
    few = omega (arith, l.few, M.count)

    listed₁ : part work₁ (6 * C) m ≡ islands P s.paints
    listed₁ = l.listed ∙ island_leaders M b (5 * C) work₀ isles

    pub unsorted : Unsorted (6 * C) m work₁
    unsorted = record {
      room = omega (arith, few, pixels_in, room, l.changed.long);
      once = rw listed₁ (firsts_all P s.paints).second;
    }

    -- IN ORDER
    module _ {work₂ : List ℕ} (o : InOrder ls (6 * C) m work₁ work₂) where
      listed₂ : part work₂ (6 * C) m ≡ fp
      listed₂ = sort_firsts P s.paints o listed₁ (λ p i. own_label p (first_in_lem P s.paints p ((firsts_all P s.paints).onto p i)))

      count : length fp ≡ m
      count = ap length (sym listed₂) ∙ length_part work₂ (6 * C) m

      at₂ : (k : ℕ) → k < m → get_or work₂ (6 * C + k) 0 ≡ get_or fp k 0
      at₂ k h = sym (part_at work₂ (6 * C) m k h) ∙ ap (λ (l : List ℕ). get_or l k 0) listed₂

      on_at : (k : ℕ) → k < m → get_or fp k 0 < s.width * s.height
      unfolding picture
      on_at k h = (first_in_lem P s.paints (get_or fp k 0) (in_at fp k 0 (omega (arith, count)))).on

      long₂ : length work₂ ≡ length work₀
      long₂ = o.kept.long ∙ l.changed.long

      isles₂ : (q : ℕ) → q < s.width * s.height → get_or work₂ (5 * C + q) 0 ≡ get_or work₀ (5 * C + q) 0
      isles₂ q h =
          o.kept.others (5 * C + q) (inl (omega (arith, h, pixels_in)))
          ∙ l.changed.others (5 * C + q) (inr (omega (arith, M.count, pixels_in))) (inl (omega (arith, h, pixels_in)))

      kept₂ : Kept 0 (8 * C) work₀ work₂
      kept₂ = record {
        long = long₂;
        others = λ i h. ⊎_elim (λ (k : i < 0). absurd (omega arith)) (λ (k : 8 * C ≤ i). o.kept.others i (inr (omega (arith, few, pixels_in, k))) ∙ l.changed.others i (inr (omega (arith, M.count, pixels_in, k))) (inr (omega (arith, M.count, pixels_in, k)))) h;
      }

      pub numberable : Numberable (4 * C) (5 * C) (6 * C) m work₂ numbers₀
      numberable = record {
        apart = omega arith;
        room = omega (arith, few, pixels_in, room, long₂);
        low = omega (arith, few, pixels_in, plane_few);
        within = λ k h. omega (arith, at₂ k h, on_at k h, pixels_in);
        once = rw listed₂ (firsts_distinct P s.paints);
        long = omega (arith, count, enough);
      }

      -- NUMBERED
      module _ {work₃ : List ℕ} {numbers₃ : List ℤ} (n : Numbers (4 * C) (5 * C) (6 * C) m work₂ numbers₀ work₃ numbers₃) where
        pub fillable : 7 * C + C ≤ length work₃
        fillable = omega (arith, room, long₂, n.kept.long)

        module _ {work₄ : List ℕ} (e : work₄ ≡ sets work₃ (7 * C) (replicate C 0)) where
          blank : Blank s (7 * C) work₄
          blank = record {
            room = omega (arith, fillable, ap length e, length-sets work₃ (7 * C) (replicate C 0));
            blank = λ i h. ap (λ (w : List ℕ). get_or w (7 * C + i) 0) e ∙ filled work₃ (7 * C) C 0 i fillable h;
          }

          before₄ : (i : ℕ) → i < 7 * C → get_or work₄ i 0 ≡ get_or work₃ i 0
          before₄ i h = ap (λ (w : List ℕ). get_or w i 0) e ∙ sets_before work₃ (7 * C) (replicate C 0) i h

          named₄ : Named s ls work₄
          named₄ = record {
            isles = λ q h p.
                before₄ (5 * C + q) (omega (arith, h, pixels_in)) ∙ n.kept.others (5 * C + q) (inr (omega arith)) ∙ isles₂ q h
                ∙ isles q h (λ z. omega (arith, z, p, b));
            heads = λ k h.
                let j : k < m = omega (arith, h, count) in
                before₄ (4 * C + get_or fp k 0) (omega (arith, on_at k j, pixels_in))
                ∙ ap (λ p. get_or work₃ (4 * C + p) 0) (sym (at₂ k j)) ∙ n.named k j;
          }

          pub summable : Measuring s ls (7 * C) 0 0 work₄ numbers₃ (record { contours = 0; references = 0 })
          summable = record {
            word = b;
            scan = scan_start work₄ blank;
            behind = refl;
            named = named₄;
            long = omega (arith, enough, n.long);
            shares = λ k h. n.zeros k (omega (arith, h, count)) ∙ ap (total (share P (get_or fp k 0))) (sym (start_loops s ls (7 * C) work₄ blank));
          }

          -- SUMMED
          pub faces_measured : {work₅ : List ℕ} {numbers₅ : List ℤ} {f : Found} → MeasuredAll s ls (7 * C) work₄ numbers₃ work₅ numbers₅ f → MeasuresFaces s ls work₀ numbers₀ work₅ numbers₅ f
          faces_measured a = record {
            count = a.found.count;
            total = a.found.total;
            pixels = record {
              pixels = a.pixels.pixels;
              long = a.pixels.long ∙ n.long;
              past = λ k h. a.pixels.past k h ∙ n.past k (omega (arith, count, h));
            };
            kept =
                kept_then kept₂
                (kept_then {ws' = work₃} (kept_within (omega arith) (omega arith) n.kept)
                (kept_then {ws' = work₄} (rw e (kept_within (omega arith) (omega (arith, length-replicate {A = ℕ} C 0)) (sets_kept work₃ (7 * C) (replicate C 0))))
                (kept_within (omega arith) (omega arith) a.found.kept)));
          }
