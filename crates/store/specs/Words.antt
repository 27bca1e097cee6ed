-- Parts of a lent store: the words from a place on, and a store of which only a part has changed.
use Rattle.std.specs.Prelude.{ℕ, zero, suc, ◌<◌, ◌≤◌, ◌≡◌, ◌⊎◌, List, [], ◌∷◌, length, get_or}

-- the n words from b on
abbrev pub part : List ℕ → ℕ → ℕ → List ℕ
part ws b zero = []
part ws b (suc n) = get_or ws b 0 ∷ part ws (suc b) n

-- as long as before, and no word before `from` nor from `end` on has changed
pub record Kept (from end : ℕ) (ws ws' : List ℕ) : Type 0 where
  pub long : length ws' ≡ length ws
  pub others : (i : ℕ) → (i < from) ⊎ (end ≤ i) → get_or ws' i 0 ≡ get_or ws i 0
