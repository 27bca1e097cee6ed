-- The contours of the named islands, found row by row, and then strung by island.
use Rattle.std.specs.Prelude.{ℕ, ◌+◌, ◌*◌, ◌-◌, ◌<◌, ◌≤◌, ◌≡◌, eqb, length, get_or}
use mathlib.Core.List.{List, map, Memᴰ as In}
use Rattle.rules.specs.Lists.{keep, flat, upto}
use Rattle.rules.specs.Picture.{OUTSIDE, Dart}
use Rattle.rules.specs.Face.{label_of, firsts}
use Rattle.rules.specs.Records.{NONE}
use Rattle.rules.proofs.Faces.FirstPixels.{First}
use Rattle.benches.proofs.Scan.{EastSouth, Wanted, loops, Found}
use Rattle.store.specs.Words.{part, Kept}
use Rattle.lattice.specs.declared.Size.{Size}
use Rattle.lattice.specs.declared.Walker.{Walker}
use Rattle.lattice.specs.Size.{Sides, Map, Corner, pic}
use Rattle.lattice.specs.Planes.{plane}
use Rattle.assemble.specs.Words.{Flanked, pixel_in}
use Rattle.listing.specs.Starts.{code_of}
use Rattle.listing.specs.Marks.{mark_in}
use Rattle.listing.specs.Writing.{Chain, start_in, next_in, head_in}

-- THE ISLAND on the left of a step, by the numbers in plane 5
abbrev pub isle_at : Size → List ℕ → Walker → ℕ
isle_at s work w = get_or work (5 * plane s.width s.height + pixel_in s w) 0

-- plane 5 has the first pixel of each pixel's island, and plane 4 by first pixel 0 for the named islands, the none word for the others
pub record Ready (s : Size) (ls names work : List ℕ) : Type 0 where
  pub map : Map s ls
  pub paints : s.paints ≤ OUTSIDE
  pub room : 8 * plane s.width s.height ≤ length work
  pub numbers : (p : ℕ) → p < s.width * s.height → (label_of (pic s ls) p ≡ OUTSIDE → ⊥) → get_or work (5 * plane s.width s.height + p) 0 ≡ get_or (firsts (pic s ls)) p 0
  pub chosen : (p : ℕ) → First (pic s ls) s.paints p → In (label_of (pic s ls) p) names → head_in s work p ≡ 0
  pub others : (p : ℕ) → First (pic s ls) s.paints p → (In (label_of (pic s ls) p) names → ⊥) → head_in s work p ≡ NONE

-- FOUND before the step b: the marks are those of the contours, and plane 2 has their k starts
pub record Finding (s : Size) (ls names work₀ : List ℕ) (b : Dart) (k : ℕ) (work : List ℕ) : Type 0 where
  pub starts : List Dart
  pub found : Found (pic s ls) s.paints names b starts
  pub count : k ≡ length starts
  pub sides : (a : Dart) → In a starts → EastSouth a.d × Wanted (pic s ls) s.paints names a
  pub marked : (a : Dart) → EastSouth a.d → In a (flat (loops (pic s ls) starts)) → get_or work (mark_in s a) 0 ≡ 1
  pub unmarked : (a : Dart) → Corner s a.x a.y → EastSouth a.d → (In a (flat (loops (pic s ls) starts)) → ⊥) → get_or work (mark_in s a) 0 ≡ 0
  pub listed : part work (2 * plane s.width s.height) k ≡ map (code_of s) starts
  pub kept : Kept 0 (3 * plane s.width s.height) work₀ work

pub record Due (s : Size) (ls : List ℕ) (b : Dart) (k : ℕ) (work : List ℕ) : Type 0 where
  pub names : List ℕ
  pub work₀ : List ℕ
  pub ready : Ready s ls names work₀
  pub finding : Finding s ls names work₀ b k work

-- whatever the names are: from the step b on to the step b'
abbrev pub Finds : Size → List ℕ → Dart → ℕ → List ℕ → Dart → ℕ → List ℕ → Type 0
Finds s ls b k work b' k' work' =
    (names work₀ : List ℕ) → Ready s ls names work₀ → Finding s ls names work₀ b k work → Finding s ls names work₀ b' k' work'

-- STRUNG BY ISLAND

abbrev pub isle_in : Size → List ℕ → ℕ → ℕ
isle_in s work j = isle_at s work (start_in s work j)

-- each of the contours starts beside a pixel whose island has none yet
pub record Threadable (s : Size) (count : ℕ) (work : List ℕ) : Type 0 where
  pub sides : Sides s
  pub few : count ≤ plane s.width s.height
  pub room : 8 * plane s.width s.height ≤ length work
  pub flanked : (j : ℕ) → j < count → Flanked s (start_in s work j)
  pub inside : (j : ℕ) → j < count → isle_in s work j < plane s.width s.height
  pub empty : (j : ℕ) → j < count → head_in s work (isle_in s work j) ≡ 0

-- the contours of the island p from the contour k on
abbrev pub members : Size → List ℕ → ℕ → ℕ → ℕ → List ℕ
members s work count k p = keep (λ j. eqb (isle_in s work j) p) (upto (count - k) k)

-- those from k on are strung, in order, where an island had none
pub record Threads (s : Size) (count : ℕ) (work₀ : List ℕ) (k : ℕ) (work : List ℕ) : Type 0 where
  pub kept : Kept (3 * plane s.width s.height) (5 * plane s.width s.height) work₀ work
  pub lists : (p : ℕ) → p < plane s.width s.height → head_in s work₀ p ≡ 0 → Chain (next_in s work) (head_in s work p) (members s work₀ count k p)
