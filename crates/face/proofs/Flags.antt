-- A flag as a number.
use Prim.Native.Nat.{ℕ, ◌≤◌}
use mathlib.Core.Path.{◌≡◌, refl, ap, ◌∙◌}
use mathlib.Core.Bool.{Bool, true, false}
use native.Mathlib.Omega.{arith}
use Rattle.std.specs.Int.{from_bool}
use Rattle.rules.specs.Picture.{one}

from_bool_one : (t : Bool) → from_bool t ≡ one t
from_bool_one true = refl
from_bool_one false = refl

pub byte_one : (n : ℕ) (t u : Bool) → n ≡ from_bool t → t ≡ u → n ≡ one u
byte_one n t u e f = e ∙ ap from_bool f ∙ from_bool_one u

pub one_small : (t : Bool) → one t ≤ 1
one_small true = omega arith
one_small false = omega arith
