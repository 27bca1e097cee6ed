-- A contour's sum stays far below the ends of a machine word.
use Prim.Native.Nat.{ℕ, ◌*◌, ◌≤◌}
use mathlib.Core.Path.{refl}
use mathlib.Core.List.Memᴰ.{head as here}
use mathlib.Core.List.Memᴰ.{tail as there}
use mathlib.Core.List.{List, [], ◌∷◌, Memᴰ as In}
use native.Mathlib.Nat.{mul-suc}
use native.Mathlib.Omega.{arith}
use lib.IntN.{ℤ, pos, nat_abs}
use lib.ListN.{length}
use Rattle.rules.specs.Picture.{Dart}
use Rattle.rules.specs.declared.Dir.{Dir}
use Rattle.rules.specs.declared.Dir.TheVariants.{N, E, S, W}
use Rattle.veneer.specs.Sums.{total, signed_of, signed}
use Rattle.veneer.proofs.Signed.{sum_size, minus_size}

pub total_size : {A : Type 0} (f : A → ℤ) (b : ℕ) (l : List A) → ((a : A) → In a l → nat_abs (f a) ≤ b) → nat_abs (total f l) ≤ b * length l
total_size f b [] h = omega arith
total_size f b (a ∷ l) h = omega (arith, sum_size (f a) (total f l), h a (here refl), total_size f b l (λ c i. h c (there i)), mul-suc b (length l))

signed_most : (d : Dir) (y : ℕ) → nat_abs (signed_of d y) ≤ y
signed_most N y = omega arith
signed_most E y = omega arith
signed_most S y = omega arith
signed_most W y = omega (arith, minus_size (pos y))

pub signed_size : (a : Dart) → nat_abs (signed a) ≤ a.y
signed_size a = signed_most a.d a.y
