-- What each call answers and what it leaves in every lent store, for every input (docs/RULES.md, "Numbers").
use Rattle.std.specs.Prelude.{ℕ, ◌+◌, ◌*◌, ◌/◌, ◌≤◌, Bool, true, false, not, ◌&&◌, ◌||◌, ◌≡◌, List, [], ◌∷◌, ◌++◌, map, leb, ltb, eqb, length, get_or, drop, replicate}
use Rattle.rules.specs.Lists.{flat}
use Rattle.rules.specs.Picture.{OUTSIDE, Picture, seen, picture, Dart}
use Rattle.rules.specs.Graph.{nodes, segments}
use Rattle.rules.specs.Face.{Face, faces}
use Rattle.rules.specs.Records.{node_words, segment_words, point_words, contours_of, contour_words, face_words}

-- MAPS

pub record Map : Type 0 where
  pub width : ℕ
  pub height : ℕ
  pub paints : ℕ
  -- labels from here on are read as OUTSIDE: OUTSIDE itself, or the paint count where no cut goes through waste (docs/RULES.md, #107)
  pub bound : ℕ
  pub labels : List ℕ

abbrev pub picture_of : Map → Picture
picture_of m = picture m.width m.height m.bound m.labels

-- the same map with its waste cleared: each label at or above the bound replaced by OUTSIDE, and the others read as they are
abbrev pub cleared : Map → Map
cleared m = record { width = m.width; height = m.height; paints = m.paints; bound = OUTSIDE; labels = map (seen m.bound) m.labels }

-- a map that neither 1 nor 2 refuses, its paint count a word
pub record Accepted (m : Map) : Type 0 where
  pub wide : m.width ≤ 16384
  pub tall : m.height ≤ 16384
  pub size : length m.labels ≡ m.width * m.height
  pub word : m.paints ≤ 4294967295

-- the label that is read at the pixel (x, y), which lies on the map
abbrev pub label_at : Map → ℕ → ℕ → ℕ
label_at m x y = seen m.bound (get_or m.labels (y * m.width + x) 0)

-- THE CUT LIST: the words of each store, and the number of steps

pub record CutList : Type 0 where
  pub nodes : List ℕ
  pub segments : List ℕ
  pub points : List ℕ
  pub references : List ℕ
  pub contours : List ℕ
  pub faces : List ℕ
  pub steps : ℕ

-- of a picture, over any segments and faces
unfoldable pub cuts : Picture → List (List Dart) → List Face → CutList
cuts P ss fs =
    let cs = contours_of fs in
    record {
      nodes = node_words ss (nodes P);
      segments = segment_words P 0 ss;
      points = point_words ss;
      references = flat cs;
      contours = contour_words 0 cs;
      faces = face_words P.w 0 fs;
      steps = length (flat ss);
    }

-- of a map, and its part without faces
unfoldable pub cut_list : Map → CutList
cut_list m = let P = picture_of m in cuts P (segments P) (faces P (segments P) m.paints)

unfoldable pub graph_list : Map → CutList
graph_list m = let P = picture_of m in cuts P (segments P) []

-- THE ANSWER: the number, then the seven counts

pub record Answer : Type 0 where
  pub number : ℕ
  pub nodes : ℕ
  pub segments : ℕ
  pub points : ℕ
  pub references : ℕ
  pub contours : ℕ
  pub faces : ℕ
  pub steps : ℕ

unfoldable pub counted : ℕ → CutList → Answer
counted n l =
    record {
      number = n;
      nodes = length l.nodes / 6;
      segments = length l.segments / 8;
      points = length l.points / 2;
      references = length l.references;
      contours = length l.contours / 2;
      faces = length l.faces / 5;
      steps = l.steps;
    }

abbrev pub refused : ℕ → Answer
refused n = record { number = n; nodes = 0; segments = 0; points = 0; references = 0; contours = 0; faces = 0; steps = 0 }

-- THE NUMBER: that of the first check that hits, else 0

pub record Check : Type 0 where
  pub number : ℕ
  pub hits : Bool

unfoldable pub first_hit : List Check → ℕ
first_hit [] = 0
first_hit (c ∷ cs) = elim c.hits [ true ↦ c.number | false ↦ first_hit cs ]

abbrev pub work_words : Map → ℕ
work_words m = 8 * (m.width + 1) * (m.height + 1)

unfoldable pub map_checks : Map → List ℕ → List Check
map_checks m work =
    record { number = 1; hits = ltb 16384 m.width || ltb 16384 m.height } ∷
    record { number = 2; hits = not (eqb (length m.labels) (m.width * m.height)) } ∷
    record { number = 3; hits = ltb (length work) (work_words m) } ∷ []

-- a store holds its length divided by the record's size, rounded down
unfoldable pub short : ℕ → List ℕ → List ℕ → Bool
short size store words = ltb (length store / size) (length words / size)

unfoldable pub graph_checks : CutList → List ℕ → List ℕ → List ℕ → List Check
graph_checks l ns ss ps =
    record { number = 4; hits = short 6 ns l.nodes } ∷
    record { number = 5; hits = short 8 ss l.segments } ∷
    record { number = 6; hits = short 2 ps l.points } ∷ []

unfoldable pub face_checks : CutList → List ℕ → List ℕ → List ℕ → List Check
face_checks l rs cs fs =
    record { number = 7; hits = short 1 rs l.references } ∷
    record { number = 8; hits = short 2 cs l.contours } ∷
    record { number = 9; hits = short 5 fs l.faces } ∷ []

-- AFTERWARDS

-- a refusal before the map was looked at
unfoldable pub early : ℕ → Bool
early n = leb 1 n && leb n 3

unfoldable pub answer : ℕ → CutList → Answer
answer n l = elim (early n) [ true ↦ refused n | false ↦ counted n l ]

unfoldable pub work_after : Map → ℕ → List ℕ → List ℕ
work_after m n work = elim (early n) [ true ↦ work | false ↦ replicate (work_words m) 0 ++ drop (work_words m) work ]

unfoldable pub store_after : ℕ → List ℕ → List ℕ → List ℕ
store_after n words store = elim (eqb n 0) [ true ↦ words ++ drop (length words) store | false ↦ store ]

-- A CALL: the answer, and every lent store afterwards, in the order in which the call takes them

pub record Outcome : Type 0 where
  pub answer : Answer
  pub stores : List (List ℕ)

-- behind the checks of the map and the work store come those of the other stores, each beside the words that belong into it
unfoldable pub call : Map → CutList → List ℕ → List Check → List (List ℕ × List ℕ) → Outcome
call m l work more parts =
    let n = first_hit (map_checks m work ++ more) in
    record { answer = answer n l; stores = work_after m n work ∷ map (λ p. store_after n p.0 p.1) parts }

-- THE THREE CALLS

unfoldable pub size : Map → List ℕ → Outcome
size m work = call m (cut_list m) work [] []

unfoldable pub graph : Map → List ℕ → List ℕ → List ℕ → List ℕ → Outcome
graph m work ns ss ps = let l = graph_list m in call m l work (graph_checks l ns ss ps) ((l.nodes, ns) ∷ (l.segments, ss) ∷ (l.points, ps) ∷ [])

unfoldable pub whole : Map → List ℕ → List ℕ → List ℕ → List ℕ → List ℕ → List ℕ → List ℕ → Outcome
whole m work ns ss ps rs cs fs =
    let l = cut_list m in
    call m l work
    (graph_checks l ns ss ps ++ face_checks l rs cs fs)
    ((l.nodes, ns) ∷ (l.segments, ss) ∷ (l.points, ps) ∷ (l.references, rs) ∷ (l.contours, cs) ∷ (l.faces, fs) ∷ [])
