-- A move as a C program has it: a number, the place of the next move in two words, and a point (docs/RULES.md, #112).
use Rattle.std.specs.Prelude.{ℕ, not, ◌≡◌, List, [], ◌∷◌, eqb, get_or, Float}
use Rattle.sheet.specs.Sheet.{Action, travel, cut, end}
use Rattle.sheet.specs.Moving.{Said, moved_to, start_of}
use Rattle.sheet.specs.declared.Sheet.{Sheet}
use Rattle.sheet.specs.declared.Mover.{Mover}

-- 0 a travel, 1 a cut, 2 the end, 10
abbrev pub move_code : ℕ → List Action → ℕ
move_code number [] = number
move_code number (travel x y ∷ more) = 0
move_code number (cut x y ∷ more) = 1
move_code number (end ∷ more) = 2

abbrev pub code_of : Said → ℕ
code_of s = move_code s.number s.move

-- the point of the move, or what stood there
abbrev pub move_point : List Action → List Float → List Float
move_point [] old = old
move_point (travel x y ∷ more) old = x ∷ y ∷ []
move_point (cut x y ∷ more) old = x ∷ y ∷ []
move_point (end ∷ more) old = old

abbrev pub point_after : Said → List Float → List Float
point_after s old = move_point s.move old

-- the mover at the place in two words; reversed is 0, or any other word
abbrev pub mover_at : Sheet → ℕ → ℕ → ℕ → ℕ → List ℕ → Mover
mover_at t w h count reversed at = moved_to (start_of t w h count (not (eqb reversed 0))) (get_or at 0 0, get_or at 1 0)

pub record MoveTold (t : Said × Mover) (old : List Float) (code : ℕ) (at : List ℕ) (point : List Float) : Type 0 where
  pub number : code ≡ code_of t.0
  pub place : at ≡ t.1.at.segment ∷ t.1.at.place ∷ []
  pub target : point ≡ point_after t.0 old
