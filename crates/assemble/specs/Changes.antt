-- A store of which only two parts have changed.
use Rattle.std.specs.Prelude.{ℕ, ◌+◌, ◌<◌, ◌≤◌, ◌≡◌, ◌⊎◌, List, length, get_or}

-- as long as before; no word has changed but some of the n from a on and of the m from b on
pub record Changed (a n b m : ℕ) (ws ws' : List ℕ) : Type 0 where
  pub long : length ws' ≡ length ws
  pub others : (i : ℕ) → (i < a) ⊎ (a + n ≤ i) → (i < b) ⊎ (b + m ≤ i) → get_or ws' i 0 ≡ get_or ws i 0
