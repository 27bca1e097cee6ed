-- The first step of a reference by the points of its segment, and the pixel on its left.
use Prim.Native.Nat.{ℕ, ◌+◌, ◌*◌, ◌-◌, ◌≤◌, ◌<◌, ◌%◌}
use mathlib.Core.Path.{◌≡◌, refl}
use mathlib.Core.List.{List, []}
use native.Mathlib.Omega.{arith}
use borrow.Author.Tests.{eq-eqb, ne_eqb, lt-ltb, le-ltb}
use Rattle.rules.specs.Picture.{picture}
use Rattle.rules.specs.declared.Dir.TheVariants.{N, E, S, W}
use Rattle.rules.specs.Face.{beside_at, beside}
use Rattle.lattice.specs.declared.Size.{Size}
use Rattle.lattice.specs.declared.Walker.{Walker}
use Rattle.lattice.specs.Size.{pic}
use Rattle.lattice.specs.Walker.{dart_of}
use Rattle.lattice.proofs.Laws.{product}
use Rattle.lattice.proofs.Ways.{by_dir}
use Rattle.assemble.specs.Words.{word_in, dir_to, step_in, first_in, pixel_in}

-- THE DIRECTION

module _ (x y u v : ℕ) where
  pub goes_north : v < y → N ≡ dir_to x y u v
  unfolding dir_to
  goes_north h = rw (lt-ltb v y h)

  pub goes_east : y ≤ v → x < u → E ≡ dir_to x y u v
  unfolding dir_to
  goes_east h k = rw (le-ltb v y h, lt-ltb x u k)

  pub goes_south : y ≤ v → u ≤ x → y < v → S ≡ dir_to x y u v
  unfolding dir_to
  goes_south h k l = rw (le-ltb v y h, le-ltb x u k, lt-ltb y v l)

  pub goes_west : y ≤ v → u ≤ x → v ≤ y → W ≡ dir_to x y u v
  unfolding dir_to
  goes_west h k l = rw (le-ltb v y h, le-ltb x u k, le-ltb y v l)

-- THE STEP

module _ (segs points : List ℕ) (r first n : ℕ) (f : first ≡ word_in segs r 0) where
  pub first_forward : r % 2 ≡ 0 → step_in points first (first + 1) ≡ first_in segs points r
  unfolding first_in
  first_forward e = rw (f, eq-eqb (r % 2) 0 e)

  pub first_back : n ≡ word_in segs r 1 → (r % 2 ≡ 0 → ⊥) → step_in points (first + n - 1) (first + n - 1 - 1) ≡ first_in segs points r
  unfolding first_in
  first_back g e = rw (f, g, ne_eqb (r % 2) 0 e)

-- THE PIXEL on its left

pub pixel_low : (width x y p : ℕ) → p ≡ y * width + x → width ≤ 16384 → x ≤ 16384 → y ≤ 16384 → p ≤ 536870912
pixel_low width x y p e h k l = omega (arith, product y width (omega arith) (omega arith))

pub pixel_is : (s : Size) (ls : List ℕ) (w : Walker) → pixel_in s w ≡ beside (pic s ls) (dart_of w)
unfolding picture beside_at
pixel_is s ls w = by_dir (λ d. beside_at (pic s []) w.x w.y d ≡ beside_at (pic s ls) w.x w.y d) refl refl refl refl w.d
