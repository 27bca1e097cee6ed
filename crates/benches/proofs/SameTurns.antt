-- The sides and turns of a region depend only on where its label lies around a corner.
use Prim.Native.Nat.{ℕ}
use mathlib.Core.Bool.{Bool, true, cond}
use mathlib.Core.Path.{◌≡◌, sym, ap, ap₂, ◌∙◌}
use lib.Dec.{eqb}
use borrow.Author.Tests.{eqb-true, eq-eqb}
use Rattle.rules.specs.Picture.{Picture, right_of, left_of, Dart, dart, to_x, to_y, left_at, left, right, crack}
use Rattle.rules.specs.declared.Dir.{Dir}
use Rattle.rules.specs.Face.{keeps, successor, turn}
use Rattle.rules.proofs.Ground.Booleans.{both, and_left, and_right, same_tests}
use Rattle.rules.proofs.Lattice.Darts.{crack_differs, differs_crack}

-- the label r lies at the same of the four pixels around a corner
abbrev pub SameAt : Picture → Picture → ℕ → ℕ → ℕ → Type 0
SameAt P Q r x y = (e : Dir) → (left_at P x y e ≡ r → left_at Q x y e ≡ r) × (left_at Q x y e ≡ r → left_at P x y e ≡ r)

module _ (P Q : Picture) (r : ℕ) where
  -- a crack with r on its left
  pub same_crack : (a : Dart) → SameAt P Q r a.x a.y → crack P a ≡ true → left P a ≡ r → crack Q a ≡ true
  unfolding left right
  same_crack a s c l = differs_crack Q a (λ e. crack_differs P a c (l ∙ sym ((s (right_of a.d)).1 (sym e ∙ (s a.d).0 l))))

  pub same_left : (a : Dart) → SameAt P Q r a.x a.y → left P a ≡ r → left Q a ≡ r
  unfolding left
  same_left a s l = (s a.d).0 l

  keeps_over : (a : Dart) → SameAt P Q r a.x a.y → keeps P r a ≡ true → keeps Q r a ≡ true
  unfolding keeps
  keeps_over a s k =
      let l = eqb-true (left P a) r (and_right (crack P a) (eqb (left P a) r) k) in
      both (crack Q a) (eqb (left Q a) r) (same_crack a s (and_left (crack P a) (eqb (left P a) r) k) l) (eq-eqb (left Q a) r (same_left a s l))

module _ (P Q : Picture) (r : ℕ) where
  keeps_same : (a : Dart) → SameAt P Q r a.x a.y → keeps P r a ≡ keeps Q r a
  keeps_same a s = same_tests (keeps P r a) (keeps Q r a) (keeps_over P Q r a s) (keeps_over Q P r a (λ e. ((s e).1, (s e).0)))

  successor_same : (x y : ℕ) (d : Dir) → SameAt P Q r x y → successor P x y d r ≡ successor Q x y d r
  unfolding successor
  successor_same x y d s =
      ap₂ (λ (a b : Bool). cond a (right_of d) (cond b d (left_of d))) (keeps_same (dart x y (right_of d)) s) (keeps_same (dart x y d) s)

  -- the turn of a side, by the corner that it leads to
  pub same_turn : (a : Dart) → left P a ≡ r → left Q a ≡ r → SameAt P Q r (to_x a.x a.d) (to_y a.y a.d) → turn P a ≡ turn Q a
  unfolding turn
  same_turn a p q s =
      let x = to_x a.x a.d in
      let y = to_y a.y a.d in
      ap (dart x y) (ap (successor P x y a.d) p ∙ successor_same x y a.d s ∙ sym (ap (successor Q x y a.d) q))
