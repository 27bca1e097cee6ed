-- The words of a plane: how many there are, and one for each corner.
use Rattle.std.proofs.Common.{◌≡◌, ℕ, suc, ◌+◌, ◌*◌, ◌<◌, ◌≤◌, List, ap, mul-le-mul_right, suc-mul, add-mul, one-mul, mul-one, mul-add, arith}
use native.Mathlib.Decide.{dec_lt}
use Rattle.rules.specs.Picture.{picture}
use Rattle.rules.specs.Graph.{fuel}
use Rattle.lattice.specs.declared.Size.{Size}
use Rattle.lattice.specs.Size.{Map, pic}
use Rattle.lattice.specs.Planes.{plane, place}
use Rattle.lattice.proofs.Laws.{product, inside}

-- a word for each pixel, and more
pub plane_is : (w h : ℕ) → plane w h ≡ w * h + w + h + 1
plane_is w h = omega (arith, add-mul w 1 (h + 1), mul-add w h 1, mul-one w, one-mul (h + 1))

pub plane_low : (w h : ℕ) → w ≤ 16384 → h ≤ 16384 → plane w h ≤ 268468225
plane_low w h p q = product (w + 1) (h + 1) (omega arith) (omega arith)

-- four darts leave each corner
pub fuel_low : (s : Size) (ls : List ℕ) → Map s ls → fuel (pic s ls) ≤ 1073872900
unfolding fuel picture
fuel_low s ls m = omega (arith, plane_low s.width s.height m.wide m.high)

pub place_low : (w h x y : ℕ) → x ≤ w → y ≤ h → place w x y < plane w h
place_low w h x y p q = inside (w + 1) (h + 1) x y (omega arith) (omega arith)

-- two corners with one place are one corner
pub place_one : (w x y x' y' : ℕ) → x ≤ w → x' ≤ w → place w x y ≡ place w x' y' → (x ≡ x') × (y ≡ y')
place_one w x y x' y' p q e = elim (dec_lt y y') [
  | yes l ↦ absurd (let m : suc y * (w + 1) ≤ y' * (w + 1) = mul-le-mul_right (w + 1) l in omega (arith, suc-mul y (w + 1)))
  | no l ↦ elim (dec_lt y' y) [
    | yes l' ↦ absurd (let m : suc y' * (w + 1) ≤ y * (w + 1) = mul-le-mul_right (w + 1) l' in omega (arith, suc-mul y' (w + 1)))
    | no l' ↦ let z : y ≡ y' = omega arith in let z' : y * (w + 1) ≡ y' * (w + 1) = ap (λ (k : ℕ). k * (w + 1)) z in (omega arith, z)
  ]
]
