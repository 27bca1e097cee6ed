-- The picture that a file's faces paint, and the reader's outcome for any bytes (docs/RULES.md, #109).
use Rattle.std.specs.Prelude.{ℕ, zero, suc, ◌+◌, ◌*◌, ◌/◌, ◌%◌, ◌≤◌, Bool, true, false, cond, not, ◌&&◌, ◌≡◌, List, [], ◌∷◌, ◌++◌, map, ltb, eqb, length, get_or, take, drop, replicate}
use Rattle.rules.specs.Lists.{keep, flat, upto}
use Rattle.rules.specs.Picture.{OUTSIDE, Dart, dart, same_dart}
use Rattle.rules.specs.declared.Dir.{Dir}
use Rattle.rules.specs.declared.Dir.TheVariants.{N, E, S, W}
use Rattle.rules.specs.Face.{steps}
use Rattle.rules.specs.Calls.{Map, Accepted, first_hit, store_after}
use Rattle.jobfile.specs.JobFile.{file_of}
use Rattle.jobfile.specs.Entries.{word_at, pairs, entries, headed}

-- SEGMENTS: the steps between the points of each record of kind 2

unfoldable pub heading : ℕ → ℕ → ℕ → ℕ → Dir
heading x y u v = cond (ltb x u) E (cond (ltb u x) W (cond (ltb y v) S N))

unfoldable pub steps_from : ℕ × ℕ → List (ℕ × ℕ) → List Dart
steps_from p [] = []
steps_from p (q ∷ ps) = dart p.0 p.1 (heading p.0 p.1 q.0 q.1) ∷ steps_from q ps

unfoldable pub steps_between : List (ℕ × ℕ) → List Dart
steps_between [] = []
steps_between (p ∷ ps) = steps_from p ps

unfoldable pub steps_of : List ℕ → List Dart
steps_of ws = steps_between (pairs ws)

-- the words of the records of a kind
unfoldable pub of_kind : ℕ → List (ℕ × List ℕ) → List (List ℕ)
of_kind k es = map (λ e. e.1) (keep (λ e. eqb e.0 k) es)

-- FACES: region and sides, the unit steps of its contours

pub record Patch : Type 0 where
  pub region : ℕ
  pub sides : List Dart

-- the references of c contours
unfoldable pub references_in : ℕ → List ℕ → List ℕ
references_in zero ws = []
references_in (suc c) [] = []
references_in (suc c) (k ∷ ws) = take k ws ++ references_in c (drop k ws)

unfoldable pub patch_of : List (List Dart) → List ℕ → Patch
patch_of ss ws = record { region = get_or ws 0 OUTSIDE; sides = flat (map (steps ss) (references_in (get_or ws 3 0) (drop 4 ws))) }

unfoldable pub patches : List ℕ → List Patch
patches b = let es = entries (length b) b in map (patch_of (map steps_of (of_kind 2 es))) (of_kind 3 es)

-- PAINTING: a side that goes south has its region on the east, one that goes north on the west

unfoldable pub has : Dart → List Dart → Bool
has a [] = false
has a (b ∷ l) = elim (same_dart a b) [ true ↦ true | false ↦ has a l ]

unfoldable pub bordered : List Patch → Dart → Bool
bordered [] a = false
bordered (f ∷ fs) a = elim (has a f.sides) [ true ↦ true | false ↦ bordered fs a ]

-- the region of the first face with that side
unfoldable pub region_by : List Patch → Dart → ℕ
region_by [] a = OUTSIDE
region_by (f ∷ fs) a = elim (has a f.sides) [ true ↦ f.region | false ↦ region_by fs a ]

-- the pixel (x, y): the region of the face that begins on its west edge; OUTSIDE where one only ends there; else as the pixel west of it
unfoldable pub paint_at : List Patch → ℕ → ℕ → ℕ
paint_at fs zero y = region_by fs (dart 0 y S)
paint_at fs (suc x) y =
    elim (bordered fs (dart (suc x) y S)) [
      | true ↦ region_by fs (dart (suc x) y S)
      | false ↦ elim (bordered fs (dart (suc x) (suc y) N)) [ true ↦ OUTSIDE | false ↦ paint_at fs x y ]
    ]

unfoldable pub paint_all : ℕ → ℕ → List Patch → List ℕ
paint_all w h fs = map (λ p. paint_at fs (p % w) (p / w)) (upto (w * h) 0)

-- the map that the file paints
unfoldable pub painted : List ℕ → Map
painted b =
    let w = word_at b 6 in
    let h = word_at b 10 in
    record { width = w; height = h; paints = word_at b 14; bound = OUTSIDE; labels = paint_all w h (patches b) }

-- THE READER

-- the writer makes these bytes from this accepted map
pub record MadeFrom (b : List ℕ) (m : Map) : Type 0 where
  pub accepted : Accepted m
  pub few : m.paints ≤ 65535
  pub bytes : file_of m ≡ b

unfoldable pub same_bytes : List ℕ → List ℕ → Bool
same_bytes [] [] = true
same_bytes [] (b ∷ m) = false
same_bytes (a ∷ l) [] = false
same_bytes (a ∷ l) (b ∷ m) = eqb a b && same_bytes l m

-- the writer makes these bytes from some accepted map: if so, from the one that they paint (`Round`)
unfoldable pub is_file : List ℕ → Bool
is_file b = same_bytes (file_of (painted b)) b

unfoldable pub read_words : List ℕ → ℕ
read_words b = 16 * (word_at b 6 + 1) * (word_at b 10 + 1)

-- a number, the work store and the label store afterwards
pub record Read : Type 0 where
  pub number : ℕ
  pub work : List ℕ
  pub labels : List ℕ

unfoldable pub read : List ℕ → List ℕ → List ℕ → Read
read b work labels =
    let ls = (painted b).labels in
    let early = first_hit (record { number = 14; hits = not (headed b) } ∷ record { number = 3; hits = ltb (length work) (read_words b) } ∷ []) in
    let late = first_hit (record { number = 14; hits = not (is_file b) } ∷ record { number = 13; hits = ltb (length labels) (length ls) } ∷ []) in
    elim (eqb early 0) [
      | true ↦ record { number = late; work = replicate (read_words b) 0 ++ drop (read_words b) work; labels = store_after late ls labels }
      | false ↦ record { number = early; work = work; labels = labels }
    ]
