-- The faces numbered: the word of each listed pixel is its place in the list, and its number starts at 0.
use Prim.Native.Nat.{ℕ, ◌+◌, ◌<◌}
use mathlib.Core.Path.{◌≡◌, refl, sym, ap, ◌∙◌, subst}
use mathlib.Core.Logic.{inr}
use mathlib.Core.List.{List}
use native.Mathlib.Omega.{arith}
use native.Mathlib.Decide.{ℕ_discrete}
use lib.IntN.{ℤ, pos}
use lib.ListN.{length, get_or, set, length-set}
use lib.Seq.{get_or-set_same, get_or-set_other}
use Rattle.store.specs.Words.{part}
use Rattle.store.proofs.Parts.{length_part, part_at}
use Rattle.store.proofs.Writes.{kept_none, kept_then, kept_set}
use Rattle.veneer.specs.Steps.{Numberable, Numbers}
use Rattle.veneer.proofs.Finding.{one_place}

module _ {heads ids list : ℕ} {work₀ : List ℕ} {numbers₀ : List ℤ} where
  pub none_yet : Numbers heads ids list 0 work₀ numbers₀ work₀ numbers₀
  none_yet = record { named = λ k h. absurd (omega arith); kept = kept_none; zeros = λ k h. absurd (omega arith); long = refl; past = λ k h. refl }

  module _ {n : ℕ} (b : Numberable heads ids list n work₀ numbers₀) {k : ℕ} (h : k < n) {work : List ℕ} {numbers : List ℤ} (t : Numbers heads ids list k work₀ numbers₀ work numbers)
      {p : ℕ} (at_k : p ≡ get_or work (list + k) 0) where
    pub own : p ≡ get_or work₀ (list + k) 0
    own = at_k ∙ t.kept.others (list + k) (inr (omega (arith, b.apart)))

    pub low : heads + p < ids
    low = omega (arith, own, b.within k h)

    module _ {work' : List ℕ} {numbers' : List ℤ} (e : work' ≡ set work (heads + p) k) (g : numbers' ≡ set numbers k (pos 0)) where
      here : get_or work' (heads + p) 0 ≡ k
      here = ap (λ (l : List ℕ). get_or l (heads + p) 0) e ∙ get_or-set_same work (heads + p) k 0 (omega (arith, low, b.apart, b.room, t.kept.long))

      apart : (j : ℕ) → j < n → (j ≡ k → ⊥) → heads + get_or work₀ (list + j) 0 ≡ heads + p → ⊥
      apart j l m q =
          m (one_place (part work₀ list n) b.once j k (omega (arith, length_part work₀ list n)) (omega (arith, length_part work₀ list n, h))
          (part_at work₀ list n j l ∙ (let z : get_or work₀ (list + j) 0 ≡ p = omega arith in z ∙ own) ∙ sym (part_at work₀ list n k h)))

      pub one_more : Numbers heads ids list (k + 1) work₀ numbers₀ work' numbers'
      one_more = record {
        named = λ j l. elim (ℕ_discrete j k) [
          | yes q ↦ subst (λ j. get_or work' (heads + get_or work₀ (list + j) 0) 0 ≡ j) (sym q) (ap (λ p. get_or work' (heads + p) 0) (sym own) ∙ here)
          | no m ↦ ap (λ (l : List ℕ). get_or l (heads + get_or work₀ (list + j) 0) 0) e
              ∙ get_or-set_other work (heads + p) (heads + get_or work₀ (list + j) 0) k 0 (apart j (omega (arith, l, h)) m) ∙ t.named j (omega (arith, l, m))
        ];
        kept = kept_then t.kept (rw e (kept_set work (heads + p) k (omega arith) low));
        zeros = λ j l. elim (ℕ_discrete j k) [
          | yes q ↦ subst (λ j. get_or numbers' j (pos 0) ≡ pos 0) (sym q) (ap (λ (l : List ℤ). get_or l k (pos 0)) g ∙ get_or-set_same numbers k (pos 0) (pos 0) (omega (arith, h, b.long, t.long)))
          | no m ↦ ap (λ (l : List ℤ). get_or l j (pos 0)) g ∙ get_or-set_other numbers k j (pos 0) (pos 0) m ∙ t.zeros j (omega (arith, l, m))
        ];
        long = ap length g ∙ length-set numbers k (pos 0) ∙ t.long;
        past = λ j l. ap (λ (l : List ℤ). get_or l j (pos 0)) g ∙ get_or-set_other numbers k j (pos 0) (pos 0) (λ q. omega (arith, q, l)) ∙ t.past j (omega (arith, l));
      }
