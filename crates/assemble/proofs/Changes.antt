-- Two parts of a store that change.
use Prim.Native.Nat.{ℕ, ◌+◌, ◌<◌, ◌≤◌}
use mathlib.Core.Path.{◌≡◌, refl, ◌∙◌}
use mathlib.Core.Logic.{◌⊎◌, inl, inr}
use mathlib.Core.List.{List}
use native.Mathlib.Omega.{arith}
use lib.ListN.{set, length-set}
use lib.Seq.{get_or-set_other}
use Rattle.assemble.specs.Changes.{Changed}

-- a place inside is not outside
not_outside : (a n i j : ℕ) → a ≤ i → i < a + n → (j < a) ⊎ (a + n ≤ j) → j ≡ i → ⊥
not_outside a n i j p q (inl h) e = omega arith
not_outside a n i j p q (inr h) e = omega arith

module _ {a n b m : ℕ} where
  pub changed_none : {ws : List ℕ} → Changed a n b m ws ws
  changed_none = record { long = refl; others = λ i p q. refl }

  pub changed_then : {ws ws' ws'' : List ℕ} → Changed a n b m ws ws' → Changed a n b m ws' ws'' → Changed a n b m ws ws''
  changed_then c d = record { long = d.long ∙ c.long; others = λ i p q. d.others i p q ∙ c.others i p q }

  -- one word of the first part, one of the second
  pub set_first : (ws : List ℕ) (i v : ℕ) → a ≤ i → i < a + n → Changed a n b m ws (set ws i v)
  set_first ws i v h k = record { long = length-set ws i v; others = λ j p q. get_or-set_other ws i j v 0 (not_outside a n i j h k p) }

  pub set_second : (ws : List ℕ) (i v : ℕ) → b ≤ i → i < b + m → Changed a n b m ws (set ws i v)
  set_second ws i v h k = record { long = length-set ws i v; others = λ j p q. get_or-set_other ws i j v 0 (not_outside b m i j h k q) }

-- outside a part is outside what lies in it
pub outside_in : (a n b m : ℕ) {i : ℕ} → a ≤ b → b + m ≤ a + n → (i < a) ⊎ (a + n ≤ i) → (i < b) ⊎ (b + m ≤ i)
outside_in a n b m h k (inl p) = inl (omega arith)
outside_in a n b m h k (inr p) = inr (omega arith)
