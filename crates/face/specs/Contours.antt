-- Contours walked unit by unit: the turn at a corner, the marks of the steps east, one loop, and all that are found.
use Rattle.std.specs.Prelude.{ℕ, ◌+◌, ◌<◌, ◌≤◌, Bool, true, cond, ◌&&◌, ◌≡◌, ◌⊎◌, eqb, length, get_or, set}
use mathlib.Core.List.{List, [], ◌∷◌, Memᴰ as In}
use Rattle.rules.specs.Lists.{flat}
use Rattle.rules.specs.Picture.{right_of, left_of, same_dir, Dart, dart, ahead_x, ahead_y, crack, left}
use Rattle.rules.specs.declared.Dir.{Dir}
use Rattle.rules.specs.declared.Dir.TheVariants.{E}
use Rattle.rules.specs.Face.{contours}
use Rattle.rules.specs.Describes.{Describes}
use Rattle.rules.proofs.Ground.Sums.{sum}
use Rattle.rules.proofs.Contours.Loops.{loop_of, IsPainted, Loops}
use Rattle.rules.proofs.Contours.Counts.{met, refs_of}
use Rattle.store.specs.Words.{Kept}
use Rattle.lattice.specs.declared.Around.{Around}
use Rattle.lattice.specs.declared.Size.{Size}
use Rattle.lattice.specs.declared.Walker.{Walker}
use Rattle.lattice.specs.Size.{Map, pic}
use Rattle.lattice.specs.Planes.{plane, place}
use Rattle.lattice.specs.Around.{left_in, crack_in}
use Rattle.lattice.specs.Walker.{dart_of}
use Rattle.face.specs.declared.contours.Found.{Found}

-- THE TURN, by the four labels around a corner

-- a crack, with the region on its left
abbrev pub keeps_in : Around → ℕ → Dir → Bool
keeps_in a region d = crack_in a d && eqb (left_in a d) region

unfoldable pub successor_in : Around → ℕ → Dir → Dir
successor_in a region d = cond (keeps_in a region (right_of d)) (right_of d) (cond (keeps_in a region d) d (left_of d))

-- the walker after a step of a contour, by the labels around the corner ahead
abbrev pub turn_in : Around → ℕ → Walker → Walker
turn_in a region w = record { x = ahead_x (dart_of w); y = ahead_y (dart_of w); d = successor_in a region w.d }

-- THE MARKS: in the plane that starts at `at` a word for each corner, for the step that goes east from it

-- the words with a mark for the dart, if it goes east
unfoldable pub east_marked : ℕ → ℕ → List ℕ → Dart → List ℕ
east_marked at w ws a = cond (same_dir a.d E) (set ws (at + place w a.x a.y) 1) ws

-- and for each of the darts
abbrev pub easts_marked : ℕ → ℕ → List ℕ → List Dart → List ℕ
easts_marked at w ws [] = ws
easts_marked at w ws (a ∷ more) = easts_marked at w (east_marked at w ws a) more

-- ONE LOOP

-- a crack of the map, with the region on its left
pub record Starts (s : Size) (ls : List ℕ) (w : Walker) (region : ℕ) : Type 0 where
  pub map : Map s ls
  pub crack : crack (pic s ls) (dart_of w) ≡ true
  pub left : left (pic s ls) (dart_of w) ≡ region

pub record Looped (s : Size) (ls : List ℕ) (at : ℕ) (w : Walker) (work work' : List ℕ) (n : ℕ) : Type 0 where
  pub words : work' ≡ easts_marked at s.width work (loop_of (pic s ls) (dart_of w))
  pub nodes : n ≡ met (pic s ls) (loop_of (pic s ls) (dart_of w))

-- ALL LOOPS

-- a corner before (x, y), row by row
abbrev pub Before : ℕ → ℕ → ℕ → ℕ → Type 0
Before i j x y = (j < y) ⊎ ((j ≡ y) × (i < x))

-- each painted side that goes east from a corner before (x, y) is in a loop that is found, and the marks are those of the loops
pub record Scan (s : Size) (ls : List ℕ) (at x y : ℕ) (work : List ℕ) (f : Found) : Type 0 where
  pub cs : List (List Dart)
  pub loops : Loops (pic s ls) s.paints cs
  pub room : at + plane s.width s.height ≤ length work
  pub marked : (i j : ℕ) → i ≤ s.width → j ≤ s.height → In (dart i j E) (flat cs) → get_or work (at + place s.width i j) 0 ≡ 1
  pub unmarked : (i j : ℕ) → i ≤ s.width → j ≤ s.height → (In (dart i j E) (flat cs) → ⊥) → get_or work (at + place s.width i j) 0 ≡ 0
  pub done : (i j : ℕ) → Before i j x y → IsPainted (pic s ls) s.paints (dart i j E) → In (dart i j E) (flat cs)
  pub count : f.contours ≡ length cs
  pub total : f.references ≡ sum (refs_of (pic s ls)) cs

pub record Scanned (s : Size) (ls : List ℕ) (at x y : ℕ) (work work' : List ℕ) (f : Found) : Type 0 where
  pub scan : Scan s ls at x y work' f
  pub kept : Kept at (at + plane s.width s.height) work work'

-- a plane without marks
pub record Blank (s : Size) (at : ℕ) (work : List ℕ) : Type 0 where
  pub room : at + plane s.width s.height ≤ length work
  pub blank : (i : ℕ) → i < plane s.width s.height → get_or work (at + i) 0 ≡ 0

-- as many contours and references as the rules have, for any segments that describe the map
pub record FoundAll (s : Size) (ls : List ℕ) (at : ℕ) (work work' : List ℕ) (f : Found) : Type 0 where
  pub count : (ss : List (List Dart)) → Describes (pic s ls) ss → f.contours ≡ length (contours (pic s ls) ss s.paints)
  pub total : (ss : List (List Dart)) → Describes (pic s ls) ss → f.references ≡ length (flat (contours (pic s ls) ss s.paints))
  pub kept : Kept at (at + plane s.width s.height) work work'
