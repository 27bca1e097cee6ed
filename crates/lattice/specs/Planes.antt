-- The work store in planes: one word for each corner, row by row.
use Rattle.std.specs.Prelude.{ℕ, ◌+◌, ◌*◌}

-- the words of a plane
abbrev pub plane : ℕ → ℕ → ℕ
plane w h = (w + 1) * (h + 1)

-- the place of a corner in a plane
abbrev pub place : ℕ → ℕ → ℕ → ℕ
place w x y = y * (w + 1) + x
