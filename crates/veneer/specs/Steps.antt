-- What the steps of the call ask and leave.
use Rattle.std.specs.Prelude.{ℕ, ◌+◌, ◌*◌, ◌<◌, ◌≤◌, true, false, ◌≡◌, List, [], ◌∷◌, eqb, ltb, ℤ, pos, nat_abs, length, get_or}
use Rattle.rules.specs.Lists.{flat, Distinct}
use Rattle.rules.specs.Picture.{Picture, OUTSIDE, Dart}
use Rattle.rules.specs.Face.{label_of, firsts, island, no_dart, contours}
use Rattle.rules.specs.Describes.{Describes}
use Rattle.rules.specs.Calls.{cut_list, counted, first_hit}
use Rattle.rules.proofs.Contours.Loops.{loop_of}
use Rattle.rules.proofs.Islands.Members.{pixels_of}
use Rattle.rules.proofs.Faces.FirstPixels.{first_pixels}
use Rattle.store.specs.Words.{Kept, part}
use Rattle.lattice.specs.declared.Size.{Size}
use Rattle.lattice.specs.declared.Walker.{Walker}
use Rattle.lattice.specs.Size.{pic}
use Rattle.lattice.specs.Planes.{plane}
use Rattle.lattice.specs.Walker.{dart_of}
use Rattle.face.specs.declared.contours.Found.{Found}
use Rattle.face.specs.Contours.{Looped, Scan, FoundAll}
use Rattle.assemble.specs.Words.{pixel_in}
use Rattle.std.specs.Prelude.{Result}
use Rattle.rules.specs.declared.Refusal.{Refusal}
use Rattle.rules.specs.Refusals.{number_in}
use Rattle.calls.specs.declared.Counts.{Counts}
use Rattle.calls.specs.declared.Refused.{Refused}
use Rattle.calls.specs.Outcome.{map_of, answer_with, answered_by, outcome, answered}
use Rattle.veneer.specs.declared.Round.{Round}
use Rattle.veneer.specs.Sums.{total, signed, sums, sums_after, Measured}

-- ONE LOOP, with its sum
pub record Rounded (s : Size) (ls : List ℕ) (at : ℕ) (w : Walker) (work work' : List ℕ) (r : Round) : Type 0 where
  pub looped : Looped s ls at w work work' r.nodes
  pub sum : r.sum ≡ total signed (loop_of (pic s ls) (dart_of w))

-- what a loop adds to the island p: its sum, if its first step has the island on its left
abbrev pub share : Picture → ℕ → List Dart → ℤ
share P p c = elim (eqb (island P (get_or c 0 no_dart)) p) [ true ↦ total signed c | false ↦ pos 0 ]

-- THE FACES by their first pixels, in face order
abbrev pub firsts_of : Size → List ℕ → List ℕ
firsts_of s ls = first_pixels (pic s ls) s.paints

-- the n words from `list` on are pixels, each once, and each has a word in the part from `heads` up to `ids`
pub record Numberable (heads ids list n : ℕ) (work : List ℕ) (numbers : List ℤ) : Type 0 where
  pub apart : ids ≤ list
  pub room : list + n ≤ length work
  pub low : list + n ≤ 4294967295
  pub within : (k : ℕ) → k < n → heads + get_or work (list + k) 0 < ids
  pub once : Distinct (part work list n)
  pub long : n ≤ length numbers

-- the word of the k-th is k, and the k-th number 0
pub record Numbers (heads ids list n : ℕ) (work : List ℕ) (numbers : List ℤ) (work' : List ℕ) (numbers' : List ℤ) : Type 0 where
  pub named : (k : ℕ) → k < n → get_or work' (heads + get_or work (list + k) 0) 0 ≡ k
  pub kept : Kept heads ids work work'
  pub zeros : (k : ℕ) → k < n → get_or numbers' k (pos 0) ≡ pos 0
  pub long : length numbers' ≡ length numbers
  pub past : (k : ℕ) → n ≤ k → get_or numbers' k (pos 0) ≡ get_or numbers k (pos 0)

-- plane 5 has the first pixel of each painted pixel's island, and plane 4 the face of each first pixel
pub record Named (s : Size) (ls work : List ℕ) : Type 0 where
  pub isles : (q : ℕ) → q < s.width * s.height → label_of (pic s ls) q < s.paints → get_or work (5 * plane s.width s.height + q) 0 ≡ get_or (firsts (pic s ls)) q 0
  pub heads : (k : ℕ) → k < length (firsts_of s ls) → get_or work (4 * plane s.width s.height + get_or (firsts_of s ls) k 0) 0 ≡ k

-- the face on the left of the step ahead of w, by these planes
abbrev pub face_in : Size → List ℕ → Walker → ℕ
face_in s work w = get_or work (4 * plane s.width s.height + get_or work (5 * plane s.width s.height + pixel_in s w) 0) 0

abbrev pub Fits : List ℤ → ℕ → ℤ → Type 0
Fits numbers k t = nat_abs (get_or numbers k (pos 0)) + nat_abs t < 9223372036854775808

-- ALL LOOPS: the number of each face is what the loops that are found add to its island
pub record Measuring (s : Size) (ls : List ℕ) (at x y : ℕ) (work : List ℕ) (numbers : List ℤ) (f : Found) : Type 0 where
  pub word : s.paints ≤ OUTSIDE
  pub scan : Scan s ls at x y work f
  pub behind : at ≡ 7 * plane s.width s.height
  pub named : Named s ls work
  pub long : length (firsts_of s ls) ≤ length numbers
  pub shares : (k : ℕ) → k < length (firsts_of s ls) → get_or numbers k (pos 0) ≡ total (share (pic s ls) (get_or (firsts_of s ls) k 0)) scan.cs

pub record Measures (s : Size) (ls : List ℕ) (at x y : ℕ) (work : List ℕ) (numbers : List ℤ) (work' : List ℕ) (numbers' : List ℤ) (f : Found) : Type 0 where
  pub measuring : Measuring s ls at x y work' numbers' f
  pub kept : Kept at (at + plane s.width s.height) work work'
  pub long : length numbers' ≡ length numbers
  pub past : (k : ℕ) → length (firsts_of s ls) ≤ k → get_or numbers' k (pos 0) ≡ get_or numbers k (pos 0)

-- in the end each face's number is its island's pixel count
pub record Pixels (s : Size) (ls : List ℕ) (numbers numbers' : List ℤ) : Type 0 where
  pub pixels : (k : ℕ) → k < length (firsts_of s ls) → get_or numbers' k (pos 0) ≡ pos (length (pixels_of (pic s ls) (get_or (firsts_of s ls) k 0)))
  pub long : length numbers' ≡ length numbers
  pub past : (k : ℕ) → length (firsts_of s ls) ≤ k → get_or numbers' k (pos 0) ≡ get_or numbers k (pos 0)

pub record MeasuredAll (s : Size) (ls : List ℕ) (at : ℕ) (work : List ℕ) (numbers : List ℤ) (work' : List ℕ) (numbers' : List ℤ) (f : Found) : Type 0 where
  pub found : FoundAll s ls at work work' f
  pub pixels : Pixels s ls numbers numbers'

-- from the islands on
pub record MeasuresFaces (s : Size) (ls work : List ℕ) (numbers : List ℤ) (work' : List ℕ) (numbers' : List ℤ) (f : Found) : Type 0 where
  pub count : (ss : List (List Dart)) → Describes (pic s ls) ss → f.contours ≡ length (contours (pic s ls) ss s.paints)
  pub total : (ss : List (List Dart)) → Describes (pic s ls) ss → f.references ≡ length (flat (contours (pic s ls) ss s.paints))
  pub pixels : Pixels s ls numbers numbers'
  pub kept : Kept 0 (8 * plane s.width s.height) work work'

-- THE ANSWER: the counts, and by the room for the sums whether they are refused
pub record Answered (s : Size) (ls work : List ℕ) (numbers : List ℤ) (work' : List ℕ) (numbers' : List ℤ) (r : Result Counts Refused) : Type 0 where
  pub room : Result (Unit {0}) Refusal
  pub counts : Counts
  pub answer : r ≡ answered_by room counts
  pub number : number_in room ≡ first_hit (record { number = 9; hits = ltb (length numbers) (length (sums (map_of s ls))) } ∷ [])
  pub counted_all : answer_with 0 counts ≡ counted 0 (cut_list (map_of s ls))
  pub sums : numbers' ≡ sums_after (number_in room) (sums (map_of s ls)) numbers
  pub kept : Kept 0 (8 * plane s.width s.height) work work'

-- what the call answered and left, as the rules have it
abbrev pub measured_as : Result Counts Refused → List ℕ → List ℤ → Measured
measured_as a work numbers = record { outcome = outcome a (work ∷ []); sums = numbers }

-- and in words, as C programs have it
abbrev pub measured_words : List ℕ → List ℕ → List ℤ → Measured
measured_words ws work numbers = record { outcome = answered ws (work ∷ []); sums = numbers }
