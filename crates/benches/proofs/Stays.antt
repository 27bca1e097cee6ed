-- An island that stays: where two pictures of one size have a label at the same pixels in and around an island of the one, it is an
-- island of the other, with the same pixels, sides and turns.
use Prim.Native.Nat.{ℕ, suc, pred, ◌*◌, ◌/◌, ◌%◌, ◌<◌, ◌≤◌}
use mathlib.Core.Path.{◌≡◌, sym, ap, ◌∙◌, subst}
use native.Mathlib.Omega.{arith}
use lib.Dec.{eqb}
use lib.ListN.{get_or}
use borrow.Author.Tests.{eqb-true, eq-eqb}
use Rattle.rules.specs.Lists.{upto}
use Rattle.rules.specs.Picture.{Picture, OUTSIDE, Dart, ahead_x, ahead_y, left}
use Rattle.rules.specs.declared.Dir.{Dir}
use Rattle.rules.specs.Face.{pixels, label_of, firsts, beside, beside_at, turn}
use Rattle.rules.proofs.Ground.Booleans.{same_tests}
use Rattle.rules.proofs.Ground.Lists.{keep_same, upto_in}
use Rattle.rules.proofs.Lattice.Frame.{Framed}
use Rattle.rules.proofs.Islands.Pixels.{on_map_lem}
use Rattle.rules.proofs.Islands.Joined.{Step, Joined, step, trans, joined_same, here as stop, turn as back}
use Rattle.rules.proofs.Islands.Firsts.{firsts_in, firsts_least}
use Rattle.rules.proofs.Islands.Beside.{left_x, left_y, left_at_is, beside_is, from_x, from_y, to_x_lem, to_y_lem, at_column, at_line, left_is, beside_in, beside_label}
use Rattle.rules.proofs.Islands.Members.{pixels_of, IsSide}
use Rattle.benches.proofs.SameTurns.{SameAt, same_crack, same_left, same_turn}

-- a picture by its sides and labels
abbrev pub over : ℕ → ℕ → (ℕ → ℕ → ℕ) → Picture
over w h f = record { w = w; h = h; nw = f }

-- the pixel north-west of the corner (x, y) is the pixel q or one of its eight neighbours, on the map or off it
pub record Near (w q x y : ℕ) : Type 0 where
  pub west : q % w ≤ x
  pub east : x ≤ suc (suc (q % w))
  pub north : q / w ≤ y
  pub south : y ≤ suc (suc (q / w))

-- the label of p lies at the same pixels in and around its island
pub record Stays (P Q : Picture) (p : ℕ) : Type 0 where
  pub into : (q x y : ℕ) → Joined P p q → Near P.w q x y → P.nw x y ≡ label_of P p → Q.nw x y ≡ label_of P p
  pub onto : (q x y : ℕ) → Joined P p q → Near P.w q x y → Q.nw x y ≡ label_of P p → P.nw x y ≡ label_of P p

near_self : (w q : ℕ) → Near w q (suc (q % w)) (suc (q / w))
near_self w q = record { west = omega arith; east = omega arith; north = omega arith; south = omega arith }

-- THE ISLAND

module _ {w h : ℕ} {f g : ℕ → ℕ → ℕ} {p : ℕ} (k : Stays (over w h f) (over w h g) p) where
  abbrev P : Picture
  P = over w h f

  abbrev Q : Picture
  Q = over w h g

  -- its pixels have the same label
  pub stays_label : (q : ℕ) → Joined P p q → label_of Q q ≡ label_of P p
  unfolding label_of
  stays_label q j = k.into q (suc (q % w)) (suc (q / w)) j (near_self w q) (sym (joined_same j))

  step_over : (q t : ℕ) → Joined P p q → Step P q t → Step Q q t
  step_over q t j s = record {
    start = s.start;
    end = s.end;
    same = stays_label q j ∙ sym (stays_label t (trans j (step s stop)));
    inside = λ e. s.inside (sym (joined_same j) ∙ sym (stays_label q j) ∙ e);
    right = s.right;
    left = s.left;
    down = s.down;
    up = s.up;
  }

  step_back : (q t : ℕ) → Joined P p q → Step Q q t → Step P q t
  unfolding label_of
  step_back q t j s =
      let n : Near w q (suc (t % w)) (suc (t / w)) = record { west = s.left; east = omega (arith, s.right); north = s.up; south = omega (arith, s.down) } in
      let e : label_of P t ≡ label_of P p = k.onto q (suc (t % w)) (suc (t / w)) j n (sym s.same ∙ stays_label q j) in
      record {
        start = s.start;
        end = s.end;
        same = sym (joined_same j) ∙ sym e;
        inside = λ z. s.inside (stays_label q j ∙ joined_same j ∙ z);
        right = s.right;
        left = s.left;
        down = s.down;
        up = s.up;
      }

  -- and are joined in either
  joined_over : (q t : ℕ) → Joined P p q → Joined P q t → Joined Q q t
  joined_over q t j stop = stop
  joined_over q t j (step {q = u} s i) = step (step_over q u j s) (joined_over u t (trans j (step s stop)) i)

  joined_back : (q t : ℕ) → Joined P p q → Joined Q q t → Joined P q t
  joined_back q t j stop = stop
  joined_back q t j (step {q = u} s i) = let r = step_back q u j s in step r (joined_back u t (trans j (step r stop)) i)

  pub stays_joined : (q : ℕ) → Joined P p q → Joined Q p q
  stays_joined q j = joined_over p q stop j

  pub stays_joined_back : (q : ℕ) → Joined Q p q → Joined P p q
  stays_joined_back q j = joined_back p q stop j

  -- so it stays the other way
  pub stays_back : Stays Q P p
  stays_back =
      let e = stays_label p stop in
      record {
        into = λ q x y j n z. k.onto q x y (stays_joined_back q j) n (z ∙ e) ∙ sym e;
        onto = λ q x y j n z. k.into q x y (stays_joined_back q j) n (z ∙ e) ∙ sym e;
      }

  module _ (F : Framed P) (G : Framed Q) where
    pub stays_firsts : (q : ℕ) → q < w * h → Joined P p q → get_or (firsts Q) q 0 ≡ get_or (firsts P) q 0
    stays_firsts q i j =
        let a = firsts_least Q G q i (get_or (firsts P) q 0) (joined_over q (get_or (firsts P) q 0) j (firsts_in P F q i)) in
        let b = firsts_least P F q i (get_or (firsts Q) q 0) (joined_back q (get_or (firsts Q) q 0) j (firsts_in Q G q i)) in
        omega arith

    stays_own : (q : ℕ) → q < w * h → get_or (firsts P) q 0 ≡ p → get_or (firsts Q) q 0 ≡ p
    stays_own q i e = stays_firsts q i (subst (λ r. Joined P r q) e (back (firsts_in P F q i))) ∙ e

    -- ITS SIDES
    module _ (a : Dart) (s : IsSide P p a) where
      abbrev X : ℕ
      X = left_x a.x a.d

      abbrev Y : ℕ
      Y = left_y a.y a.d

      side_joined : Joined P p (beside P a)
      side_joined = subst (λ r. Joined P r (beside P a)) s.isle (back (firsts_in P F (beside P a) (beside_in F a s.inside)))

      side_label : left P a ≡ label_of P p
      side_label = sym (beside_label F a s.inside) ∙ sym (joined_same side_joined)

      -- the pixels at a corner of the pixel on the left
      near_at : (x y : ℕ) → x ≤ X → X ≤ suc x → y ≤ Y → Y ≤ suc y → (e : Dir) → Near w (beside P a) (left_x x e) (left_y y e)
      near_at x y x₁ x₂ y₁ y₂ e =
          let o : P.nw X Y ≡ OUTSIDE → ⊥ = λ z. s.inside (left_is F a s.inside ∙ z) in
          let m = on_map_lem P F X Y o in
          let c : beside P a % w ≡ pred X = ap (λ q. q % w) (beside_is P a.x a.y a.d) ∙ at_column F X Y o in
          let l : beside P a / w ≡ pred Y = ap (λ q. q / w) (beside_is P a.x a.y a.d) ∙ at_line F X Y o in
          let u = from_x x e in
          let v = from_y y e in
          record { west = omega arith; east = omega arith; north = omega arith; south = omega arith }

      same_at : (x y : ℕ) → x ≤ X → X ≤ suc x → y ≤ Y → Y ≤ suc y → SameAt P Q (label_of P p) x y
      same_at x y x₁ x₂ y₁ y₂ e =
          let n = near_at x y x₁ x₂ y₁ y₂ e in
          let i = left_at_is P x y e in
          let j = left_at_is Q x y e in (
            λ z. j ∙ k.into (beside P a) (left_x x e) (left_y y e) side_joined n (sym i ∙ z),
            λ z. i ∙ k.onto (beside P a) (left_x x e) (left_y y e) side_joined n (sym j ∙ z),
          )

      from_same : SameAt P Q (label_of P p) a.x a.y
      from_same = let u = from_x a.x a.d in let v = from_y a.y a.d in same_at a.x a.y u.0 u.1 v.0 v.1

      to_same : SameAt P Q (label_of P p) (ahead_x a) (ahead_y a)
      to_same = let u = to_x_lem a.x a.d in let v = to_y_lem a.y a.d in same_at (ahead_x a) (ahead_y a) u.0 u.1 v.0 v.1

      left_same : left Q a ≡ label_of P p
      left_same = same_left P Q (label_of P p) a from_same side_label

      pub stays_side : IsSide Q p a
      unfolding beside_at
      stays_side = record {
        cracked = same_crack P Q (label_of P p) a from_same s.cracked side_label;
        inside = λ e. s.inside (side_label ∙ sym left_same ∙ e);
        isle = stays_firsts (beside P a) (beside_in F a s.inside) side_joined ∙ s.isle;
      }

      pub stays_turn : turn P a ≡ turn Q a
      stays_turn = same_turn P Q (label_of P p) a side_label left_same to_same

-- it has the same pixels
pub stays_pixels : {w h : ℕ} {f g : ℕ → ℕ → ℕ} {p : ℕ} → Framed (over w h f) → Framed (over w h g) → Stays (over w h f) (over w h g) p → pixels_of (over w h g) p ≡ pixels_of (over w h f) p
unfolding pixels
stays_pixels {w} {h} {f} {g} {p} F G k =
    keep_same (λ q. eqb (get_or (firsts (over w h g)) q 0) p) (λ q. eqb (get_or (firsts (over w h f)) q 0) p) (upto (w * h) 0)
    (λ q i.
    let u = upto_in (w * h) 0 q i in
    let a = get_or (firsts (over w h g)) q 0 in
    let b = get_or (firsts (over w h f)) q 0 in
    let on : q < w * h = omega arith in
    same_tests (eqb a p) (eqb b p) (λ e. eq-eqb b p (stays_own (stays_back k) G F q on (eqb-true a p e))) (λ e. eq-eqb a p (stays_own k F G q on (eqb-true b p e))))
