-- The turn of a contour: at any corner where it arrives with the region on its left there is a way on with the region on its left,
-- and no two arrivals take the same way.
use Prim.Native.Nat.{ℕ}
use mathlib.Core.Bool.{Bool, true, false, cond, not, ◌&&◌, and-true, and-false}
use mathlib.Core.Path.{◌≡◌, refl, sym, ap, ap₂, ◌∙◌}
use lib.Dec.{eqb}
use borrow.Author.Tests.{eqb-true, eq-eqb, ne_eqb}
use Rattle.rules.specs.Picture.{Picture, same_dir, right_of, left_of, back_of, Dart, dart, turned, left_at, left, right, crack, ahead_y, ahead_x}
use Rattle.rules.specs.declared.Dir.{Dir}
use Rattle.rules.specs.declared.Dir.TheVariants.{N, E, S, W}
use Rattle.rules.specs.Graph.{following, meets}
use Rattle.rules.specs.Face.{keeps, successor, turn}
use Rattle.rules.proofs.Lattice.Frame.{Framed}
use Rattle.rules.proofs.Ground.Booleans.{both, and_left, and_right, implies, implied, every_dir, of_every_dir, of_every4, eqb_sym}
use Rattle.rules.proofs.Lattice.Directions.{same_dir_eq, same_dir_refl}
use Rattle.rules.proofs.Lattice.Darts.{crack_differs, turned_turned, turned_left, turned_right, dart_path}
use Rattle.rules.proofs.Lattice.WayOn.{following_only}

-- OVER FOUR BOOLEANS: which of nw, ne, se, sw is the region

abbrev pick : Bool → Bool → Bool → Bool → Dir → Bool
pick n e s w N = n
pick n e s w E = e
pick n e s w S = s
pick n e s w W = w

abbrev keeps_of : Bool → Bool → Bool → Bool → Dir → Bool
keeps_of n e s w f = pick n e s w f && not (pick n e s w (right_of f))

abbrev successor_of : Bool → Bool → Bool → Bool → Dir → Dir
successor_of n e s w d = cond (keeps_of n e s w (right_of d)) (right_of d) (cond (keeps_of n e s w d) d (left_of d))

-- the region is on the left of the heading d and not on its right
abbrev arrives : Bool → Bool → Bool → Bool → Dir → Bool
arrives n e s w d = pick n e s w (right_of (back_of d)) && not (pick n e s w (back_of d))

ways_keep : (n e s w : Bool) (d : Dir) → arrives n e s w d ≡ true → keeps_of n e s w (successor_of n e s w d) ≡ true
ways_keep n e s w d r =
    implied (arrives n e s w d) (keeps_of n e s w (successor_of n e s w d))
    (of_every_dir (λ d. implies (arrives n e s w d) (keeps_of n e s w (successor_of n e s w d)))
    (of_every4 (λ n e s w. every_dir (λ d. implies (arrives n e s w d) (keeps_of n e s w (successor_of n e s w d)))) refl n e s w) d)
    r

abbrev apart : Bool → Bool → Bool → Bool → Dir → Dir → Bool
apart n e s w d f = implies (arrives n e s w d && (arrives n e s w f && same_dir (successor_of n e s w d) (successor_of n e s w f))) (same_dir d f)

ways_apart : (n e s w : Bool) (d f : Dir) → apart n e s w d f ≡ true
ways_apart n e s w d f =
    of_every_dir (λ f. apart n e s w d f)
    (of_every_dir (λ d. every_dir (λ f. apart n e s w d f))
    (of_every4 (λ n e s w. every_dir (λ d. every_dir (λ f. apart n e s w d f))) refl n e s w)
    d)
    f

-- AT A CORNER

module _ (P : Picture) (region x y : ℕ) where
  abbrev at : Dir → Bool
  at f = eqb (left_at P x y f) region

  pick_is : (f : Dir) → pick (at N) (at E) (at S) (at W) f ≡ at f
  pick_is N = refl
  pick_is E = refl
  pick_is S = refl
  pick_is W = refl

  keeps_is' : (f : Dir) → keeps P region (dart x y f) ≡ at f && not (at (right_of f))
  unfolding keeps crack left right
  keeps_is' f = go (at f) refl
    where
      go : (b : Bool) → at f ≡ b → not (eqb (left_at P x y f) (left_at P x y (right_of f))) && b ≡ b && not (at (right_of f))
      go true e = rw (eqb-true (left_at P x y f) region e, eqb_sym region (left_at P x y (right_of f))) (and-true (not (at (right_of f))))
      go false e = and-false (not (eqb (left_at P x y f) (left_at P x y (right_of f))))

  keeps_is : (f : Dir) → keeps P region (dart x y f) ≡ keeps_of (at N) (at E) (at S) (at W) f
  keeps_is f = keeps_is' f ∙ sym (ap₂ (λ a b. a && not b) (pick_is f) (pick_is (right_of f)))

  successor_is : (d : Dir) → successor P x y d region ≡ successor_of (at N) (at E) (at S) (at W) d
  unfolding successor
  successor_is d = rw (keeps_is (right_of d), keeps_is d)

  arrives_is : (d : Dir) → left_at P x y (right_of (back_of d)) ≡ region → (left_at P x y (back_of d) ≡ region → ⊥) → arrives (at N) (at E) (at S) (at W) d ≡ true
  arrives_is d e n =
      both (pick (at N) (at E) (at S) (at W) (right_of (back_of d))) (not (pick (at N) (at E) (at S) (at W) (back_of d)))
      (pick_is (right_of (back_of d)) ∙ eq-eqb (left_at P x y (right_of (back_of d))) region e)
      (ap not (pick_is (back_of d) ∙ ne_eqb (left_at P x y (back_of d)) region n))

  -- two arrivals with the region on the left that take the same way have the same heading
  same_heading : (d f : Dir) → arrives (at N) (at E) (at S) (at W) d ≡ true → arrives (at N) (at E) (at S) (at W) f ≡ true
      → successor P x y d region ≡ successor P x y f region → d ≡ f
  same_heading d f p q e =
      let n = at N in
      let o = at E in
      let s = at S in
      let w = at W in
      let same : same_dir (successor_of n o s w d) (successor_of n o s w f) ≡ true =
      ap (same_dir (successor_of n o s w d)) (sym (successor_is f) ∙ sym e ∙ successor_is d) ∙ same_dir_refl (successor_of n o s w d) in
      same_dir_eq d f
      (implied (arrives n o s w d && (arrives n o s w f && same_dir (successor_of n o s w d) (successor_of n o s w f))) (same_dir d f) (ways_apart n o s w d f)
      (both (arrives n o s w d) (arrives n o s w f && same_dir (successor_of n o s w d) (successor_of n o s w f)) p (both (arrives n o s w f) (same_dir (successor_of n o s w d) (successor_of n o s w f)) q same)))

-- THE TURN of a crack: the corner that it leads to, as the four Booleans see it

abbrev Arrives : Picture → ℕ → ℕ → ℕ → Dir → Type 0
Arrives P region x y d = arrives (at P region x y N) (at P region x y E) (at P region x y S) (at P region x y W) d ≡ true

module _ {P : Picture} (F : Framed P) (a : Dart) (c : crack P a ≡ true) where
  a_arrives : Arrives P (left P a) (ahead_x a) (ahead_y a) a.d
  unfolding left right turned
  a_arrives =
      arrives_is P (left P a) (ahead_x a) (ahead_y a) a.d (turned_right F a c)
      (λ e. crack_differs P a c (sym (sym (turned_left F a c) ∙ e)))

  turn_keeps : keeps P (left P a) (turn P a) ≡ true
  unfolding turn
  turn_keeps =
      let x = ahead_x a in
      let y = ahead_y a in
      let r = left P a in
      ap (λ d. keeps P r (dart x y d)) (successor_is P r x y a.d)
      ∙ keeps_is P r x y (successor_of (at P r x y N) (at P r x y E) (at P r x y S) (at P r x y W) a.d)
      ∙ ways_keep (at P r x y N) (at P r x y E) (at P r x y S) (at P r x y W) a.d a_arrives

  -- it is a crack with the same region on its left
  pub turn_crack : crack P (turn P a) ≡ true
  unfolding keeps
  turn_crack = and_left (crack P (turn P a)) (eqb (left P (turn P a)) (left P a)) turn_keeps

  pub turn_left : left P (turn P a) ≡ left P a
  unfolding keeps
  turn_left = eqb-true (left P (turn P a)) (left P a) (and_right (crack P (turn P a)) (eqb (left P (turn P a)) (left P a)) turn_keeps)

  -- it never turns back
  pub turn_not_back : turn P a ≡ turned a → ⊥
  turn_not_back e = crack_differs P a c (sym turn_left ∙ ap (left P) e ∙ turned_left F a c)

  -- at a corner with two cracks it is the step that follows
  pub turn_following : meets P a ≡ false → turn P a ≡ following P a
  unfolding turn
  turn_following k = following_only F a c k (turn P a) turn_crack refl refl turn_not_back

-- no two cracks have the same turn
pub turn_injective : {P : Picture} (F : Framed P) (a b : Dart) → crack P a ≡ true → crack P b ≡ true → turn P a ≡ turn P b → a ≡ b
unfolding turn turned
turn_injective {P} F a b ca cb e =
    let l : left P b ≡ left P a = sym (turn_left F b cb) ∙ ap (left P) (sym e) ∙ turn_left F a ca in
    let ex = ap (λ c. c.x) e in
    let ey = ap (λ c. c.y) e in
    let r : Arrives P (left P a) (ahead_x a) (ahead_y a) b.d = rw (ex, ey, ← l) (a_arrives F b cb) in
    let s : successor P (ahead_x a) (ahead_y a) a.d (left P a) ≡ successor P (ahead_x a) (ahead_y a) b.d (left P a) = ap (λ c. c.d) e ∙ rw (ex, ey, l) in
    let ed : a.d ≡ b.d = same_heading P (left P a) (ahead_x a) (ahead_y a) a.d b.d (a_arrives F a ca) r s in
    sym (turned_turned F a ca) ∙ ap turned (dart_path (turned a) (turned b) ex ey (ap back_of ed)) ∙ turned_turned F b cb
