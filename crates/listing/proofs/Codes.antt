-- The word of a step east or south, and back.
use Prim.Native.Nat.{suc, ◌+◌, ◌/◌, ◌%◌, ◌<◌, ◌≤◌}
use mathlib.Core.Path.{◌≡◌, refl, ap, ◌∙◌}
use mathlib.Core.Logic.{◌⊎◌, inl, inr}
use native.Mathlib.Omega.{arith}
use Rattle.rules.specs.Picture.{code, Dart}
use Rattle.rules.specs.declared.Dir.TheVariants.{E, S}
use Rattle.rules.proofs.Islands.Pixels.{pixel_mod, pixel_div}
use Rattle.benches.proofs.Scan.{EastSouth}
use Rattle.lattice.specs.declared.Size.{Size}
use Rattle.lattice.specs.declared.Walker.{Walker}
use Rattle.lattice.specs.Planes.{place}
use Rattle.lattice.specs.Dirs.{dir}
use Rattle.lattice.specs.Walker.{dart_of}
use Rattle.lattice.proofs.Ways.{dir_code}
use Rattle.listing.specs.Starts.{start_of, code_of, Forth}

pub forth_code : (s : Size) (w : Walker) → Forth s w → (1 ≤ code w.d) × (code w.d ≤ 2)
forth_code s w f = go f.way
  where
    go : (w.d ≡ E) ⊎ (w.d ≡ S) → (1 ≤ code w.d) × (code w.d ≤ 2)
    go (inl e) = let z : code w.d ≡ 1 = ap code e in (omega arith, omega arith)
    go (inr e) = let z : code w.d ≡ 2 = ap code e in (omega arith, omega arith)

-- a step as a walker
abbrev pub walker_of : Dart → Walker
walker_of a = record { x = a.x; y = a.y; d = a.d }

pub walker_dart : (a : Dart) → dart_of (walker_of a) ≡ a
walker_dart a = refl

way_code : (a : Dart) → EastSouth a.d → (1 ≤ code a.d) × (code a.d ≤ 2)
way_code a (inl e) = let z : code a.d ≡ 1 = ap code e in (omega arith, omega arith)
way_code a (inr e) = let z : code a.d ≡ 2 = ap code e in (omega arith, omega arith)

pub start_is : (s : Size) (a : Dart) → a.x ≤ s.width → EastSouth a.d → start_of s (code_of s a) ≡ walker_of a
start_is s a h d =
    let c = way_code a d in
    let p = place s.width a.x a.y in
    let half : code_of s a / 2 ≡ p = omega arith in
    let x : a.x < s.width + 1 = omega arith in
    let y : a.y < suc a.y = omega arith in
    let u : code_of s a / 2 % (s.width + 1) ≡ a.x = ap (λ n. n % (s.width + 1)) half ∙ pixel_mod (s.width + 1) (suc a.y) a.x a.y x y in
    let v : code_of s a / 2 / (s.width + 1) ≡ a.y = ap (λ n. n / (s.width + 1)) half ∙ pixel_div (s.width + 1) (suc a.y) a.x a.y x y in
    let w : 1 + code_of s a % 2 ≡ code a.d = omega arith in
    let z : dir (1 + code_of s a % 2) ≡ a.d = ap dir w ∙ dir_code a.d in
    λ i. record { x = u i; y = v i; d = z i }
