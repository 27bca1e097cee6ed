-- The few functions and facts on lists that the rules use.
use Rattle.std.specs.Prelude.{ℕ, zero, suc, Bool, true, false, eqb}
use mathlib.Core.List.{List, [], ◌∷◌, ◌++◌, Memᴰ as In}

module _ {A : Type 0} where
  -- those that pass a test
  unfoldable pub keep : (A → Bool) → List A → List A
  keep t [] = []
  keep t (a ∷ l) = elim (t a) [ true ↦ a ∷ keep t l | false ↦ keep t l ]

  -- one list of all
  unfoldable pub flat : List (List A) → List A
  flat [] = []
  flat (l ∷ ls) = l ++ flat ls

  -- the last of a list that starts with a
  abbrev pub last_of : A → List A → A
  last_of a [] = a
  last_of a (b ∷ l) = last_of b l

  -- no member twice
  abbrev pub Distinct : List A → Type 0
  Distinct [] = Unit {0}
  Distinct (a ∷ l) = (In a l → ⊥) × Distinct l

-- n numbers from a on
unfoldable pub upto : ℕ → ℕ → List ℕ
upto zero a = []
upto (suc n) a = a ∷ upto n (suc a)

unfoldable pub among : ℕ → List ℕ → Bool
among a [] = false
among a (b ∷ l) = elim (eqb a b) [ true ↦ true | false ↦ among a l ]
