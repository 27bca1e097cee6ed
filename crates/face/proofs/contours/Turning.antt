-- The turn of a contour by the labels around a corner, and two walkers that are compared.
use Prim.Native.Nat.{ℕ}
use mathlib.Core.Path.{◌≡◌, refl, sym, ap, ◌∙◌}
use mathlib.Core.Bool.{Bool, true, false, ◌&&◌, true≢false}
use borrow.Author.Tests.{eqb-true, eq-eqb}
use denote.Enum.Bare.{sameb, same_true, true_same}
use lib.Dec.{eqb}
use Rattle.rules.specs.Picture.{Picture, right_of, dart, left, ahead_x, ahead_y}
use Rattle.rules.specs.declared.Dir.{Dir}
use Rattle.rules.specs.contracts.Dir.{the_type}
use Rattle.rules.specs.Face.{turn, successor, keeps}
use Rattle.rules.proofs.Ground.Booleans.{both, and_left, and_right}
use Rattle.lattice.specs.declared.Around.{Around}
use Rattle.lattice.specs.declared.Walker.{Walker}
use Rattle.lattice.specs.Around.{around_of}
use Rattle.lattice.specs.Walker.{dart_of}
use Rattle.lattice.proofs.Ways.{crack_in_lem, left_in_lem}
use Rattle.face.specs.Contours.{keeps_in, successor_in, turn_in}

module _ (P : Picture) (x y region : ℕ) where
  keeps_in_lem : (d : Dir) → keeps_in (around_of P x y) region d ≡ keeps P region (dart x y d)
  unfolding keeps
  keeps_in_lem d = rw (crack_in_lem P x y d, left_in_lem P x y d)

  pub successor_in_lem : (d : Dir) → successor_in (around_of P x y) region d ≡ successor P x y d region
  unfolding successor_in successor
  successor_in_lem d = rw (keeps_in_lem (right_of d), keeps_in_lem d)

pub turn_follows : (P : Picture) (c : Walker) (a : Around) (region : ℕ) → a ≡ around_of P (ahead_x (dart_of c)) (ahead_y (dart_of c)) → left P (dart_of c) ≡ region → dart_of (turn_in a region c) ≡ turn P (dart_of c)
unfolding turn
turn_follows P c a region e l = rw (e, successor_in_lem P (ahead_x (dart_of c)) (ahead_y (dart_of c)), l)

-- TWO WALKERS, by what `==` finds

abbrev pub found_same : Walker → Walker → Bool
found_same a b = eqb a.x b.x && (eqb a.y b.y && sameb the_type a.d b.d)

pub same_walker : (a b : Walker) → true ≡ found_same a b → a ≡ b
same_walker a b e =
    let t : found_same a b ≡ true = sym e in
    let x = eqb-true a.x b.x (and_left (eqb a.x b.x) (eqb a.y b.y && sameb the_type a.d b.d) t) in
    let more = and_right (eqb a.x b.x) (eqb a.y b.y && sameb the_type a.d b.d) t in
    let y = eqb-true a.y b.y (and_left (eqb a.y b.y) (sameb the_type a.d b.d) more) in
    let d = same_true the_type tt a.d b.d (and_right (eqb a.y b.y) (sameb the_type a.d b.d) more) in
    λ i. record { x = x i; y = y i; d = d i }

pub other_walker : (a b : Walker) → false ≡ found_same a b → a ≡ b → ⊥
other_walker a b e q =
    let t : found_same a a ≡ true =
    both (eqb a.x a.x) (eqb a.y a.y && sameb the_type a.d a.d) (eq-eqb a.x a.x refl)
    (both (eqb a.y a.y) (sameb the_type a.d a.d) (eq-eqb a.y a.y refl) (true_same the_type a.d a.d refl)) in
    true≢false (sym t ∙ ap (found_same a) q ∙ sym e)
