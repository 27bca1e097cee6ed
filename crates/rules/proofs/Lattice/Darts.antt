-- Darts and cracks: where a crack lies, and the same edge the other way.
use Prim.Native.Nat.{ℕ, zero, suc, ◌<◌, ◌≤◌}
use mathlib.Core.Bool.{true, false, ◌&&◌}
use mathlib.Core.Path.{◌≡◌, refl, sym, ◌∙◌}
use native.Mathlib.Omega.{arith}
use lib.Dec.{eqb}
use borrow.Author.Tests.{eqb-true, eqb-false, eq-eqb, ne_eqb, not-true, not-false}
use Rattle.rules.specs.Picture.{Picture, OUTSIDE, right_of, Dart, dart, same_dir, same_dart, to_x, to_y, turned, left_at, left, right, crack, ahead_y, ahead_x}
use Rattle.rules.specs.declared.Dir.{Dir}
use Rattle.rules.specs.declared.Dir.TheVariants.{N, E, S, W}
use Rattle.rules.proofs.Ground.Booleans.{both, and_left, and_right}
use Rattle.rules.proofs.Lattice.Directions.{same_dir_eq, same_dir_refl}
use Rattle.rules.proofs.Lattice.Frame.{Framed}

-- darts with equal parts are equal, and the test for it
pub dart_path : (a b : Dart) → a.x ≡ b.x → a.y ≡ b.y → a.d ≡ b.d → a ≡ b
dart_path a b p q r = λ i. record { x = p i; y = q i; d = r i }

pub same_path : (a b : Dart) → same_dart a b ≡ true → a ≡ b
unfolding same_dart
same_path a b e =
    let xy = and_left (eqb a.x b.x && eqb a.y b.y) (same_dir a.d b.d) e in
    dart_path a b (eqb-true a.x b.x (and_left (eqb a.x b.x) (eqb a.y b.y) xy)) (eqb-true a.y b.y (and_right (eqb a.x b.x) (eqb a.y b.y) xy))
    (same_dir_eq a.d b.d (and_right (eqb a.x b.x && eqb a.y b.y) (same_dir a.d b.d) e))

pub same_refl : (a : Dart) → same_dart a a ≡ true
unfolding same_dart
same_refl a = both (eqb a.x a.x && eqb a.y a.y) (same_dir a.d a.d) (both (eqb a.x a.x) (eqb a.y a.y) (eq-eqb a.x a.x refl) (eq-eqb a.y a.y refl)) (same_dir_refl a.d)

-- a crack is a dart whose two labels differ
module _ (P : Picture) (a : Dart) where
  pub crack_differs : crack P a ≡ true → left P a ≡ right P a → ⊥
  unfolding crack
  crack_differs c = eqb-false (left P a) (right P a) (not-true (eqb (left P a) (right P a)) c)

  pub differs_crack : (left P a ≡ right P a → ⊥) → crack P a ≡ true
  unfolding crack
  differs_crack n = rw (ne_eqb (left P a) (right P a) n)

  pub uncrack_same : crack P a ≡ false → left P a ≡ right P a
  unfolding crack
  uncrack_same c = eqb-true (left P a) (right P a) (not-false (eqb (left P a) (right P a)) c)

-- beyond the sides there is one label
module _ {P : Picture} (F : Framed P) where
  left_at_east : (x y : ℕ) (d : Dir) → P.w < x → left_at P x y d ≡ OUTSIDE
  unfolding left_at
  left_at_east x y N k = F.east x y k
  left_at_east x y E k = F.east (suc x) y (omega arith)
  left_at_east x y S k = F.east (suc x) (suc y) (omega arith)
  left_at_east x y W k = F.east x (suc y) k

  left_at_south : (x y : ℕ) (d : Dir) → P.h < y → left_at P x y d ≡ OUTSIDE
  unfolding left_at
  left_at_south x y N k = F.south x y k
  left_at_south x y E k = F.south (suc x) y k
  left_at_south x y S k = F.south (suc x) (suc y) (omega arith)
  left_at_south x y W k = F.south x (suc y) (omega arith)

  -- a crack leaves a corner of the frame
  pub crack_x : (a : Dart) → crack P a ≡ true → a.x ≤ P.w
  unfolding left right
  crack_x a c =
      let n : ¬ (P.w < a.x) = λ k. crack_differs P a c (left_at_east a.x a.y a.d k ∙ sym (left_at_east a.x a.y (right_of a.d) k)) in
      omega arith

  pub crack_y : (a : Dart) → crack P a ≡ true → a.y ≤ P.h
  unfolding left right
  crack_y a c =
      let n : ¬ (P.h < a.y) = λ k. crack_differs P a c (left_at_south a.x a.y a.d k ∙ sym (left_at_south a.x a.y (right_of a.d) k)) in
      omega arith

  -- no crack leads out of the frame to the north or the west
  pub no_north : (x : ℕ) → crack P (dart x 0 N) ≡ true → ⊥
  unfolding left right left_at
  no_north x c = crack_differs P (dart x 0 N) c (F.north x ∙ sym (F.north (suc x)))

  pub no_west : (y : ℕ) → crack P (dart 0 y W) ≡ true → ⊥
  unfolding left right left_at
  no_west y c = crack_differs P (dart 0 y W) c (F.west (suc y) ∙ sym (F.west y))

  turned_turned' : (x y : ℕ) (d : Dir) → crack P (dart x y d) ≡ true → turned (turned (dart x y d)) ≡ dart x y d
  unfolding turned to_x to_y
  turned_turned' x zero N c = absurd (no_north x c)
  turned_turned' x (suc y) N c = refl
  turned_turned' x y E c = refl
  turned_turned' x y S c = refl
  turned_turned' zero y W c = absurd (no_west y c)
  turned_turned' (suc x) y W c = refl

  turned_left' : (x y : ℕ) (d : Dir) → crack P (dart x y d) ≡ true → left P (turned (dart x y d)) ≡ right P (dart x y d)
  unfolding turned to_x to_y left right left_at
  turned_left' x zero N c = absurd (no_north x c)
  turned_left' x (suc y) N c = refl
  turned_left' x y E c = refl
  turned_left' x y S c = refl
  turned_left' zero y W c = absurd (no_west y c)
  turned_left' (suc x) y W c = refl

  turned_right' : (x y : ℕ) (d : Dir) → crack P (dart x y d) ≡ true → right P (turned (dart x y d)) ≡ left P (dart x y d)
  unfolding turned to_x to_y left right left_at
  turned_right' x zero N c = absurd (no_north x c)
  turned_right' x (suc y) N c = refl
  turned_right' x y E c = refl
  turned_right' x y S c = refl
  turned_right' zero y W c = absurd (no_west y c)
  turned_right' (suc x) y W c = refl

  -- the same edge, the other way
  module _ (a : Dart) (c : crack P a ≡ true) where
    pub turned_turned : turned (turned a) ≡ a
    turned_turned = turned_turned' a.x a.y a.d c

    pub turned_left : left P (turned a) ≡ right P a
    turned_left = turned_left' a.x a.y a.d c

    pub turned_right : right P (turned a) ≡ left P a
    turned_right = turned_right' a.x a.y a.d c

    pub turned_crack : crack P (turned a) ≡ true
    turned_crack = differs_crack P (turned a) (λ e. crack_differs P a c (sym turned_right ∙ sym e ∙ turned_left))

    -- and it leads to a corner of the frame
    pub crack_to_x : ahead_x a ≤ P.w
    unfolding turned
    crack_to_x = crack_x (turned a) turned_crack

    pub crack_to_y : ahead_y a ≤ P.h
    unfolding turned
    crack_to_y = crack_y (turned a) turned_crack
