-- Corners: how many cracks, and the way on at a corner with two.
use Prim.Native.Nat.{ℕ, ◌+◌}
use mathlib.Core.Bool.{Bool, true, false, cond, not, ◌&&◌, ◌||◌, true≢false}
use mathlib.Core.Path.{◌≡◌, refl, sym, ap, ◌∙◌}
use native.Mathlib.Omega.{arith}
use lib.Dec.{leb, eqb}
use borrow.Author.Tests.{eqb-true, ne_eqb, not-true}
use Rattle.rules.specs.Picture.{Picture, same_dir, right_of, back_of, dart, left_at, left, right, crack, one, degree, node}
use Rattle.rules.specs.declared.Dir.{Dir}
use Rattle.rules.specs.declared.Dir.TheVariants.{N, E, S, W}
use Rattle.rules.specs.Graph.{way_on, onward}
use Rattle.rules.proofs.Lattice.Darts.{crack_differs, uncrack_same}
use Rattle.rules.proofs.Lattice.Directions.{same_dir_eq}
use Rattle.rules.proofs.Ground.Booleans.{both, implies, implied, implied_not, every_dir, of_every_dir, every4, of_every4}

-- THE MASKS: which of N, E, S, W are cracks. Around a corner a label that changes must change back, so one crack alone is what no corner has:
-- of the sixteen masks the four N, E, S and W by themselves never occur

module _ (P : Picture) (x y : ℕ) where
  never_alone : (n e s w : Bool) → crack P (dart x y N) ≡ n → crack P (dart x y E) ≡ e → crack P (dart x y S) ≡ s → crack P (dart x y W) ≡ w
      → one n + one e + one s + one w ≡ 1 → ⊥
  unfolding left right
  never_alone true false false false n e s w k =
      crack_differs P (dart x y N) n (cc (uncrack_same P (dart x y E) e, uncrack_same P (dart x y S) s, uncrack_same P (dart x y W) w))
  never_alone false true false false n e s w k =
      crack_differs P (dart x y E) e (cc (uncrack_same P (dart x y N) n, uncrack_same P (dart x y S) s, uncrack_same P (dart x y W) w))
  never_alone false false true false n e s w k =
      crack_differs P (dart x y S) s (cc (uncrack_same P (dart x y E) e, uncrack_same P (dart x y N) n, uncrack_same P (dart x y W) w))
  never_alone false false false true n e s w k =
      crack_differs P (dart x y W) w (cc (uncrack_same P (dart x y E) e, uncrack_same P (dart x y S) s, uncrack_same P (dart x y N) n))
  never_alone false false false false n e s w k = omega arith
  never_alone false false true true n e s w k = omega arith
  never_alone false true false true n e s w k = omega arith
  never_alone false true true false n e s w k = omega arith
  never_alone false true true true n e s w k = omega arith
  never_alone true false false true n e s w k = omega arith
  never_alone true false true false n e s w k = omega arith
  never_alone true false true true n e s w k = omega arith
  never_alone true true false false n e s w k = omega arith
  never_alone true true false true n e s w k = omega arith
  never_alone true true true false n e s w k = omega arith
  never_alone true true true true n e s w k = omega arith

  pub no_single : degree P x y ≡ 1 → ⊥
  unfolding degree
  no_single k = never_alone (crack P (dart x y N)) (crack P (dart x y E)) (crack P (dart x y S)) (crack P (dart x y W)) refl refl refl refl k

-- THE WAY ON, over four Booleans: decided by computing

abbrev pick : Bool → Bool → Bool → Bool → Dir → Bool
pick n e s w N = n
pick n e s w E = e
pick n e s w S = s
pick n e s w W = w

abbrev onward_of : Bool → Bool → Bool → Bool → Dir → Dir
onward_of n e s w d =
    cond (n && not (same_dir N (back_of d))) N (cond (e && not (same_dir E (back_of d))) E (cond (s && not (same_dir S (back_of d))) S W))

module _ (P : Picture) where
  abbrev count_of : Bool → Bool → Bool → Bool → ℕ
  count_of n e s w = one n + one e + one s + one w

  -- an arrival with the heading d at a corner that is no node and has not one crack
  abbrev arrives : Bool → Bool → Bool → Bool → Dir → Bool
  arrives n e s w d = not (leb 3 (count_of n e s w)) && (not (eqb (count_of n e s w) 1) && pick n e s w (back_of d))

  -- what holds at each such arrival, by computing the 64 cases
  at_arrivals : (f : Bool → Bool → Bool → Bool → Dir → Bool) → every4 (λ n e s w. every_dir (λ d. implies (arrives n e s w d) (f n e s w d))) ≡ true
      → (n e s w : Bool) (d : Dir) → arrives n e s w d ≡ true → f n e s w d ≡ true
  at_arrivals f p n e s w d r =
      implied (arrives n e s w d) (f n e s w d)
      (of_every_dir (λ d. implies (arrives n e s w d) (f n e s w d)) (of_every4 (λ n e s w. every_dir (λ d. implies (arrives n e s w d) (f n e s w d))) p n e s w) d)
      r

  module _ (n e s w : Bool) (d : Dir) (r : arrives n e s w d ≡ true) where
    two_cracks : eqb (count_of n e s w) 2 ≡ true
    two_cracks = at_arrivals (λ n e s w d. eqb (count_of n e s w) 2) refl n e s w d r

    way_there : pick n e s w (onward_of n e s w d) ≡ true
    way_there = at_arrivals (λ n e s w d. pick n e s w (onward_of n e s w d)) refl n e s w d r

    way_other : not (same_dir (onward_of n e s w d) (back_of d)) ≡ true
    way_other = at_arrivals (λ n e s w d. not (same_dir (onward_of n e s w d) (back_of d))) refl n e s w d r

    way_returns : same_dir (onward_of n e s w (back_of (onward_of n e s w d))) (back_of d) ≡ true
    way_returns = at_arrivals (λ n e s w d. same_dir (onward_of n e s w (back_of (onward_of n e s w d))) (back_of d)) refl n e s w d r

    way_rest : (f : Dir) → same_dir f (back_of d) || same_dir f (onward_of n e s w d) ≡ false → pick n e s w f ≡ false
    way_rest f z =
        implied_not (same_dir f (back_of d) || same_dir f (onward_of n e s w d)) (pick n e s w f)
        (of_every_dir (λ f. same_dir f (back_of d) || same_dir f (onward_of n e s w d) || not (pick n e s w f))
        (at_arrivals (λ n e s w d. every_dir (λ f. same_dir f (back_of d) || same_dir f (onward_of n e s w d) || not (pick n e s w f))) refl n e s w d r)
        f)
        z

-- what the way on, o, is for an arrival with the heading d
pub record Way (P : Picture) (x y : ℕ) (d o : Dir) : Type 0 where
  pub two : degree P x y ≡ 2
  pub there : crack P (dart x y o) ≡ true
  pub other : same_dir o (back_of d) ≡ false
  pub returns : onward P x y (back_of o) ≡ back_of d
  pub rest : (f : Dir) → same_dir f (back_of d) || same_dir f o ≡ false → crack P (dart x y f) ≡ false

module _ (P : Picture) (x y : ℕ) where
  pick_is : (f : Dir) → pick (crack P (dart x y N)) (crack P (dart x y E)) (crack P (dart x y S)) (crack P (dart x y W)) f ≡ crack P (dart x y f)
  pick_is N = refl
  pick_is E = refl
  pick_is S = refl
  pick_is W = refl

  pub way : (d : Dir) → node P x y ≡ false → crack P (dart x y (back_of d)) ≡ true → Way P x y d (onward P x y d)
  unfolding onward way_on degree node
  way d k c =
      let n = crack P (dart x y N) in
      let e = crack P (dart x y E) in
      let s = crack P (dart x y S) in
      let w = crack P (dart x y W) in
      let o = onward_of n e s w d in
      let r : arrives P n e s w d ≡ true =
      both (not (leb 3 (count_of P n e s w))) _ (ap not k) (both (not (eqb (count_of P n e s w) 1)) _ (ap not (ne_eqb (count_of P n e s w) 1 (no_single P x y))) (pick_is (back_of d) ∙ c)) in
      record {
        two = eqb-true (count_of P n e s w) 2 (two_cracks P n e s w d r);
        there = sym (pick_is o) ∙ way_there P n e s w d r;
        other = not-true (same_dir o (back_of d)) (way_other P n e s w d r);
        returns = same_dir_eq (onward_of n e s w (back_of o)) (back_of d) (way_returns P n e s w d r);
        rest = λ f z. sym (pick_is f) ∙ way_rest P n e s w d r f z;
      }

  -- the labels between two cracks of a corner that has no others
  pub between : (b e : Dir) → same_dir e b ≡ false
      → ((f : Dir) → same_dir f b || same_dir f e ≡ false → left_at P x y f ≡ left_at P x y (right_of f)) → left_at P x y e ≡ left_at P x y (right_of b)
  between N N p z = absurd (true≢false p)
  between N E p z = refl
  between N S p z = sym (z E refl)
  between N W p z = sym (z E refl ∙ z S refl)
  between E E p z = absurd (true≢false p)
  between E S p z = refl
  between E W p z = sym (z S refl)
  between E N p z = sym (z S refl ∙ z W refl)
  between S S p z = absurd (true≢false p)
  between S W p z = refl
  between S N p z = sym (z W refl)
  between S E p z = sym (z W refl ∙ z N refl)
  between W W p z = absurd (true≢false p)
  between W N p z = refl
  between W E p z = sym (z N refl)
  between W S p z = sym (z N refl ∙ z E refl)
