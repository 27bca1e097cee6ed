-- The size of a signed number, and sums that a machine word of 64 bits holds.
use Prim.Native.Nat.{ℕ, zero, suc, ◌+◌, ◌-◌, ◌≤◌, ◌<◌, ◌^◌}
use mathlib.Core.Bool.{Bool, true, false, cond}
use mathlib.Core.Path.{◌≡◌, refl, sym, ap₂, ◌∙◌, subst}
use native.Mathlib.Omega.{arith}
use lib.Dec.{ltb}
use lib.IntN.{ℤ, pos, negsuc, neg_ℤ, nat_abs, sub_ℕ, ◌+ℤ◌, ◌-ℤ◌}
use lib.Signed.{mag}
use borrow.Author.Tests.{ltb-true, ltb-false}
use borrow.Author.Rules.{sfits_of}
use mir.Syntax.{w64}
use mir.Val.{SFits, to_z, of_z}
use mir.ValLaws.{to_z-of_z}

difference_size : (a b : ℕ) → nat_abs (sub_ℕ a b) ≤ a + b
difference_size a b = go (ltb a b) refl
  where
    go : (t : Bool) → ltb a b ≡ t → nat_abs (cond t (negsuc (b - suc a)) (pos (a - b))) ≤ a + b
    go true e = let k = ltb-true a b e in omega arith
    go false e = let k = ltb-false a b e in omega arith

pub sum_size : (a b : ℤ) → nat_abs (a +ℤ b) ≤ nat_abs a + nat_abs b
sum_size (pos a) (pos b) = omega arith
sum_size (pos a) (negsuc b) = difference_size a (suc b)
sum_size (negsuc a) (pos b) = let k = difference_size b (suc a) in omega arith
sum_size (negsuc a) (negsuc b) = omega arith

pub minus_size : (a : ℤ) → nat_abs (neg_ℤ a) ≡ nat_abs a
minus_size (pos zero) = refl
minus_size (pos (suc n)) = refl
minus_size (negsuc n) = refl

pub mag_size : (a : ℤ) → mag a ≤ nat_abs a
mag_size (pos n) = omega arith
mag_size (negsuc n) = omega arith

-- IN A MACHINE WORD of 64 bits

pub small_fits : (z : ℤ) → nat_abs z < 2 ^ 63 → SFits w64 z
small_fits z h = sfits_of (let k = mag_size z in omega arith)

-- a sum of two that are read back from their bits
module _ (a b : ℤ) (p : SFits w64 a) (q : SFits w64 b) (h : nat_abs a + nat_abs b < 2 ^ 63) where
  both : to_z w64 (of_z w64 a) +ℤ to_z w64 (of_z w64 b) ≡ a +ℤ b
  both = ap₂ (λ m n. m +ℤ n) (to_z-of_z w64 a p) (to_z-of_z w64 b q)

  pub sum_fits : SFits w64 (to_z w64 (of_z w64 a) +ℤ to_z w64 (of_z w64 b))
  sum_fits = subst (SFits w64) (sym both) (small_fits (a +ℤ b) (let k = sum_size a b in omega arith))

  pub sum_is : to_z w64 (of_z w64 (to_z w64 (of_z w64 a) +ℤ to_z w64 (of_z w64 b))) ≡ a +ℤ b
  sum_is = to_z-of_z w64 (to_z w64 (of_z w64 a) +ℤ to_z w64 (of_z w64 b)) sum_fits ∙ both

  pub difference_fits : SFits w64 (to_z w64 (of_z w64 a) -ℤ to_z w64 (of_z w64 b))
  difference_fits =
      subst (SFits w64) (ap₂ (λ m n. m -ℤ n) (sym (to_z-of_z w64 a p)) (sym (to_z-of_z w64 b q)))
      (small_fits (a -ℤ b) (let k = sum_size a (neg_ℤ b) in let j = minus_size b in omega arith))
