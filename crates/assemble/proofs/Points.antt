-- The words of the points: the first and the last step of each segment, read from them.
use Prim.Native.Nat.{ℕ, suc, pred, ◌+◌, ◌*◌}
use mathlib.Core.Path.{◌≡◌, refl, ◌∙◌}
use mathlib.Core.Bool.{true}
use mathlib.Core.List.{List, [], ◌∷◌}
use native.Mathlib.Omega.{arith}
use lib.ListN.{length, get_or}
use borrow.Author.Tests.{lt-ltb, le-ltb}
use Rattle.rules.specs.Lists.{last_of}
use Rattle.rules.specs.Picture.{Picture, Dart, dart, to_x, to_y, ahead_x, ahead_y, crack}
use Rattle.rules.specs.declared.Dir.{Dir}
use Rattle.rules.specs.declared.Dir.TheVariants.{N, E, S, W}
use Rattle.rules.specs.Describes.{Through}
use Rattle.rules.specs.Records.{point_records}
use Rattle.rules.proofs.Lattice.Frame.{Framed}
use Rattle.rules.proofs.Lattice.Darts.{dart_path}
use Rattle.lattice.specs.Walker.{dart_of}
use Rattle.lattice.proofs.Frame.{north, west}
use Rattle.assemble.specs.Words.{point_x, point_y, dir_to, step_in}

-- the direction of a crack, by the two corners
direction' : {P : Picture} (F : Framed P) (x y : ℕ) (d : Dir) → crack P (dart x y d) ≡ true → dir_to x y (to_x x d) (to_y y d) ≡ d
unfolding dir_to to_x to_y
direction' F x y N c = let h = north F x y c in rw (lt-ltb (pred y) y (omega arith))
direction' F x y E c = rw (le-ltb y y (omega arith), lt-ltb x (suc x) (omega arith))
direction' F x y S c = rw (le-ltb (suc y) y (omega arith), le-ltb x x (omega arith), lt-ltb y (suc y) (omega arith))
direction' F x y W c = let h = west F x y c in rw (le-ltb y y (omega arith), le-ltb x (pred x) (omega arith))

-- a step between the two points of a crack
pub step_is : {P : Picture} (F : Framed P) (points : List ℕ) (i j : ℕ) (a : Dart) → crack P a ≡ true → point_x points i ≡ a.x → point_y points i ≡ a.y
    → point_x points j ≡ ahead_x a → point_y points j ≡ ahead_y a → dart_of (step_in points i j) ≡ a
step_is F points i j a c ex ey tx ty =
    dart_path (dart_of (step_in points i j)) a ex ey (rw (ex, ey, tx, ty) (direction' F a.x a.y a.d c))

-- THE POINTS of one segment

module _ (a : Dart) (l : List Dart) where
  pub first_x : get_or (point_records (a ∷ l)) 0 0 ≡ a.x
  unfolding point_records
  first_x = go l
    where
      go : (l : List Dart) → get_or (point_records (a ∷ l)) 0 0 ≡ a.x
      go [] = refl
      go (b ∷ m) = refl

  pub first_y : get_or (point_records (a ∷ l)) 1 0 ≡ a.y
  unfolding point_records
  first_y = go l
    where
      go : (l : List Dart) → get_or (point_records (a ∷ l)) 1 0 ≡ a.y
      go [] = refl
      go (b ∷ m) = refl

pub second_x : (P : Picture) (a : Dart) (l : List Dart) → Through P a l → get_or (point_records (a ∷ l)) 2 0 ≡ ahead_x a
unfolding point_records
second_x P a [] t = refl
second_x P a (b ∷ l) t = first_x b l ∙ t.1

pub second_y : (P : Picture) (a : Dart) (l : List Dart) → Through P a l → get_or (point_records (a ∷ l)) 3 0 ≡ ahead_y a
unfolding point_records
second_y P a [] t = refl
second_y P a (b ∷ l) t = first_y b l ∙ t.2

-- what holds of the last step's points holds of the last points of all
later : (a b : Dart) (l : List Dart) (k : ℕ) → get_or (point_records (a ∷ b ∷ l)) (2 * suc (length l) + k) 0 ≡ get_or (point_records (b ∷ l)) (2 * length l + k) 0
unfolding point_records
later a b l k = let e : 2 * suc (length l) + k ≡ suc (suc (2 * length l + k)) = omega arith in rw e

pub last_points : (a : Dart) (l : List Dart) (k : ℕ) → get_or (point_records (a ∷ l)) (2 * length l + k) 0 ≡ get_or (point_records (last_of a l ∷ [])) k 0
last_points a [] k = let e : 2 * 0 + k ≡ k = omega arith in rw e
last_points a (b ∷ l) k = later a b l k ∙ last_points b l k
