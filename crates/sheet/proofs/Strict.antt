-- Different corners have different places on a sheet that a shop can own: a side of 1 mm or more, under a map's side of at most 16,384.
use Prim.Native.Nat.{ℕ, suc, ◌+◌, ◌*◌, ◌-◌, ◌/◌, ◌%◌, ◌^◌, ◌≤◌, ◌<◌}
use mathlib.Core.Bool.{Bool, true, false}
use mathlib.Core.Path.{◌≡◌, refl, sym, ap, ◌∙◌, subst}
use native.Mathlib.Nat.{le_trans, le_of_eq, le_of_lt, lt_of_lt_of_le, lt_of_le_of_lt, lt_irrefl, not-le_of_lt, one-mul, mul-one, mul_comm, mul_assoc, mul-le-mul_right, mul-pos, le_of_mul-le-mul_right, lt_of_mul-lt-mul_right, div-add-mod', mod-lt}
use native.Mathlib.Omega.{arith}
use native.Mathlib.Decide.{ℕ_discrete}
use borrow.Author.Tests.{ltb-true}
use lib.Dec.{T, ltb, lit<, lit≤}
use lib.Arith.{lt_of_le-ne}
use lib.Pow.{pow-add, pow_pos, pow-lt}
use lib.Ieee.{Float, binary64, size, round, lt, le, fits}
use lib.Ieee.Digits.{size-lt, size_reaches}
use lib.Ieee.Exact.{HasValue, round_exact}
use lib.Ieee.Order.{round_mono}
use Rattle.sheet.specs.Sheet.{float, unfit, along}
use Rattle.sheet.proofs.Floats.{not_lt, values_of_le, values_of_not_lt, grid_near, grid_above, last_digit}
use Rattle.sheet.proofs.Within.{one, one_pos, float_value, Allowed, allowed, fine, product, product_most, wide, below, place, below_value, at_end, before_end}

-- NUMBERS

quarter : (n s : ℕ) → 4 ≤ s → 2 ^ (n - 51) ≤ s → 4 * 2 ^ (n - 53) ≤ s
quarter n s f h = go (ltb n 53) refl
  where
    go : (b : Bool) → ltb n 53 ≡ b → 4 * 2 ^ (n - 53) ≤ s
    go true e = let l = ltb-true n 53 e in let k : n - 53 ≡ 0 = omega arith in rw k f
    go false e =
        let l = not_lt n 53 e in
        let k : n - 51 ≡ 2 + (n - 53) = omega arith in
        le_trans (le_of_eq (sym (pow-add 2 2 (n - 53)) ∙ ap (λ (z : ℕ). 2 ^ z) (sym k))) h

-- two multiples of c between a and b
module _ (a b c : ℕ) (C : 0 < c) (h : a + 2 * c ≤ b) where
  from_above : a ≤ suc (a / c) * c
  from_above = go (a / c) (a % c) (div-add-mod' a c) (mod-lt a C)
    where
      go : (q r : ℕ) → q * c + r ≡ a → r < c → a ≤ suc q * c
      go q r e l = omega arith

  to_below : suc (suc (a / c)) * c ≤ b
  to_below = go (a / c) (a % c) (div-add-mod' a c)
    where
      go : (q r : ℕ) → q * c + r ≡ a → suc (suc q) * c ≤ b
      go q r e = omega arith

swap : (m u w o : ℕ) → m * (u * w) * o ≡ m * u * (o * w)
swap m u w o = simp (mul_assoc, mul_comm)

lt_of_values : (x y : Float) (a b : ℕ) → HasValue x false a one → HasValue y false b one → a < b → lt x y ≡ true
lt_of_values x y a b p q h = go (lt x y) refl
  where
    go : (t : Bool) → lt x y ≡ t → t ≡ true
    go true e = refl
    go false e = absurd (not-le_of_lt h (le_of_mul-le-mul_right (values_of_not_lt x y a one b one p q e) one_pos))

-- A SIDE OF 1 mm OR MORE, of at most 16,384 pixels
module _ {side : Float} (A : Allowed side) (big : one ≤ A.parts) (w : ℕ) (W : w ≤ 16384) where
  abbrev s : ℕ
  s = A.parts

  pub W32 : w ≤ 4294967295
  W32 = omega arith

  -- the value of the side's last digit
  abbrev u : ℕ
  u = 2 ^ (size s - 53)

  long : 53 ≤ size s
  long = go (ltb (size s) 53) refl
    where
      go : (b : Bool) → ltb (size s) 53 ≡ b → 53 ≤ size s
      go true e = absurd (lt_irrefl s (lt_of_lt_of_le (size-lt s) (le_trans (le_of_lt (pow-lt (ltb-true (size s) 53 e))) (le_trans (lit≤ tt) big))))
      go false e = not_lt (size s) 53 e

  unit_small : 65536 * u ≤ s
  unit_small =
      let k : size s - 1 ≡ 52 + (size s - 53) = let l = long in omega arith in
      let d : 2 ^ (size s - 1) ≤ s = size_reaches s (size s - 1) (let l = long in omega arith) in
      le_trans (mul-le-mul_right u (lit≤ tt)) (le_trans (le_of_eq (sym (pow-add 2 52 (size s - 53)) ∙ ap (λ (z : ℕ). 2 ^ z) (sym k))) d)

  room : 4 * (u * w) ≤ s
  room =
      let h : 4 * w ≤ 65536 = omega arith in
      le_trans (le_of_eq (ap (λ (z : ℕ). 4 * z) (mul_comm u w) ∙ sym (mul_assoc 4 w u))) (le_trans (mul-le-mul_right u h) unit_small)

  low_digit : (x : ℕ) → x ≤ 16384 → 4 * 2 ^ (size (x * s) - 53) ≤ s
  low_digit x h = quarter (size (x * s)) s (le_trans (lit≤ tt) big) (last_digit 51 15 x s A.above (lit< tt) (let k : x < 32768 = omega arith in k))

  -- the product of a later corner lies more than two such values of each pixel above
  far_products : (x y : ℕ) → x < y → y < w → product A w W32 x + 2 * (u * w) ≤ product A w W32 y
  far_products x y h k =
      let near = grid_near binary64 (x * s) in
      let above = grid_above binary64 (y * s) in
      let next : suc x * s ≤ y * s = mul-le-mul_right s h in
      let p = low_digit x (omega arith) in
      let q = low_digit y (omega arith) in
      let r = room in
      omega arith

  far_end : (x : ℕ) → x < w → product A w W32 x + 2 * (u * w) ≤ w * s
  far_end x h =
      let near = grid_near binary64 (x * s) in
      let next : suc x * s ≤ w * s = mul-le-mul_right s h in
      let p = low_digit x (omega arith) in
      let r = room in
      omega arith

  -- two doubles between a corner's quotient and whatever lies so far above it
  module _ (x : ℕ) (X : x < w) (b : ℕ) (h : product A w W32 x + 2 * (u * w) ≤ b) (k : b ≤ w * s) where
    some : 0 < u * w
    some = mul-pos (pow_pos (size s - 53)) (omega arith)

    abbrev m : ℕ
    m = suc (product A w W32 x / (u * w))

    pub over_it : suc m * (u * w) ≤ b
    over_it = to_below (product A w W32 x) b (u * w) some h

    pub at_most : suc m * u ≤ s
    at_most =
        le_of_mul-le-mul_right {k = w} (le_trans (le_of_eq (mul_assoc (suc m) u w)) (le_trans (le_trans over_it k) (le_of_eq (mul_comm w s)))) (omega arith)

    few : suc m < 2 ^ 53
    few =
        let all : 53 + (size s - 53) ≡ size s = let l = long in omega arith in
        lt_of_mul-lt-mul_right u (lt_of_le_of_lt at_most (lt_of_lt_of_le (size-lt s) (le_of_eq (ap (λ (z : ℕ). 2 ^ z) (sym all) ∙ pow-add 2 53 (size s - 53)))))

    exact : (n : ℕ) → n ≤ suc m → HasValue (round binary64 false (n * u) one) false (n * u) one
    exact n l =
        round_exact binary64 false (n * u) one n (size s - 53) one_pos (lt_of_le_of_lt l few)
        (fine (n * u) (le_trans (mul-le-mul_right u l) (le_trans at_most (le_trans A.most (lit≤ tt))))) refl

    pub place_below : place A w W32 x X ≤ m * u
    place_below =
        let r : T (le (below A w W32 x X) (round binary64 false (m * u) one)) =
        round_mono binary64 (product A w W32 x) (one * w) (m * u) one (wide A w W32 x X) one_pos
        (le_trans (mul-le-mul_right one (from_above (product A w W32 x) b (u * w) some h)) (le_of_eq (swap m u w one))) in
        le_of_mul-le-mul_right
        (values_of_le (below A w W32 x X) (round binary64 false (m * u) one) (place A w W32 x X) one (m * u) one (below_value A w W32 x X) (exact m (omega arith)) r) one_pos

  step_up : (m p : ℕ) → p ≤ m * u → p < suc m * u
  step_up m p h = let c = pow_pos (size s - 53) in omega arith

  pub strict_below : (x y : ℕ) (X : x < w) (Y : y < w) → x < y → lt (below A w W32 x X) (below A w W32 y Y) ≡ true
  strict_below x y X Y h =
      let b = product A w W32 y in
      let far = far_products x y h Y in
      let top = product_most A w W32 y Y in
      let n = suc (m x X b far top) in
      let r : T (le (round binary64 false (n * u) one) (below A w W32 y Y)) =
      round_mono binary64 (n * u) one b (one * w) one_pos (wide A w W32 y Y)
      (le_trans (le_of_eq (sym (swap n u w one))) (mul-le-mul_right one (over_it x X b far top))) in
      let v : n * u ≤ place A w W32 y Y =
      le_of_mul-le-mul_right
      (values_of_le (round binary64 false (n * u) one) (below A w W32 y Y) (n * u) one (place A w W32 y Y) one (exact x X b far top n (omega arith)) (below_value A w W32 y Y) r) one_pos in
      lt_of_values (below A w W32 x X) (below A w W32 y Y) (place A w W32 x X) (place A w W32 y Y) (below_value A w W32 x X) (below_value A w W32 y Y)
      (lt_of_lt_of_le (step_up (m x X b far top) (place A w W32 x X) (place_below x X b far top)) v)

  pub strict_end : (x : ℕ) (X : x < w) → lt (below A w W32 x X) side ≡ true
  strict_end x X =
      let far = far_end x X in
      let top : w * s ≤ w * s = omega arith in
      lt_of_values (below A w W32 x X) side (place A w W32 x X) s (below_value A w W32 x X) A.value
      (lt_of_lt_of_le (step_up (m x X (w * s) far top) (place A w W32 x X) (place_below x X (w * s) far top)) (at_most x X (w * s) far top))

-- THE THEOREM, for a side that 16 does not refuse and that is at least 1
module _ (side : Float) (t : T (fits binary64 side)) (e : unfit side ≡ false) (o : T (le (float 1) side)) (w : ℕ) (W : w ≤ 16384) where
  abbrev A : Allowed side
  A = allowed side t e

  big : one ≤ A.parts
  big =
      le_trans (le_of_eq (sym (one-mul one)))
      (le_trans (values_of_le (float 1) side 1 1 A.parts one (float_value 1 (lit≤ tt)) A.value o) (le_of_eq (mul-one A.parts)))

  pub along_strict : (x y : ℕ) → x < y → y ≤ w → lt (along x w side) (along y w side) ≡ true
  along_strict x y h k =
      let X : x < w = lt_of_lt_of_le h k in
      let W32' = W32 A big w W in
      elim (ℕ_discrete y w) [
        | yes z ↦
            subst (λ (c : Float). lt c (along y w side) ≡ true) (sym (before_end side t e w W32' x X))
            (subst (λ (c : Float). lt (below A w W32' x X) c ≡ true) (sym (at_end side t e w W32' y z)) (strict_end A big w W x X))
        | no n ↦
            let Y : y < w = lt_of_le-ne k n in
            subst (λ (c : Float). lt c (along y w side) ≡ true) (sym (before_end side t e w W32' x X))
            (subst (λ (c : Float). lt (below A w W32' x X) c ≡ true) (sym (before_end side t e w W32' y Y)) (strict_below A big w W x y X Y h))
      ]
