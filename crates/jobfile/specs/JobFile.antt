-- The job file of a map, byte for byte, and the writer's outcome (docs/RULES.md, #109).
use Rattle.std.specs.Prelude.{ℕ, ◌*◌, ◌/◌, ◌%◌, true, false, List, [], ◌∷◌, ◌++◌, map, ltb, eqb, length}
use Rattle.rules.specs.Lists.{flat}
use Rattle.rules.specs.Picture.{Dart}
use Rattle.rules.specs.Graph.{segments}
use Rattle.rules.specs.Face.{Face, faces}
use Rattle.rules.specs.Records.{point_records}
use Rattle.rules.specs.Calls.{Map, picture_of, cleared, cut_list, Check, graph_checks, face_checks, Outcome, call}

-- #107's MODE: every label that is not painted is read as OUTSIDE

abbrev pub waste_free : Map → Map
waste_free m = record { width = m.width; height = m.height; paints = m.paints; bound = m.paints; labels = m.labels }

-- the map with its painted labels alone, OUTSIDE elsewhere
abbrev pub painted_map : Map → Map
painted_map m = cleared (waste_free m)

-- RECORDS, little-endian: a body length of four bytes, a kind of two, the body in 32-bit words

unfoldable pub word : ℕ → List ℕ
word n = n % 256 ∷ n / 256 % 256 ∷ n / 65536 % 256 ∷ n / 16777216 % 256 ∷ []

unfoldable pub word_bytes : List ℕ → List ℕ
word_bytes ws = flat (map word ws)

-- the record of a kind and the words of its body
abbrev pub Entry : Type 0
Entry = ℕ × List ℕ

unfoldable pub bytes_of : Entry → List ℕ
bytes_of e = word (4 * length e.1) ++ (e.0 % 256 ∷ e.0 / 256 % 256 ∷ word_bytes e.1)

-- kind 1: width, height, paint count
unfoldable pub map_entry : Map → Entry
map_entry m = (1, m.width ∷ m.height ∷ m.paints ∷ [])

-- kind 2: one segment's points, x then y
unfoldable pub segment_entry : List Dart → Entry
segment_entry s = (2, point_records s)

-- kind 3: region, first pixel x and y, contour count, then for each contour its reference count and references
unfoldable pub contour_body : List ℕ → List ℕ
contour_body c = length c ∷ c

unfoldable pub face_body : ℕ → Face → List ℕ
face_body w f = f.region ∷ f.first % w ∷ f.first / w ∷ length f.contours ∷ flat (map contour_body f.contours)

unfoldable pub face_entry : ℕ → Face → Entry
face_entry w f = (3, face_body w f)

-- THE FILE: the map, then its segments, then its faces, each in order

unfoldable pub file_entries : Map → List (List Dart) → List Face → List Entry
file_entries m ss fs = map_entry m ∷ (map segment_entry ss ++ map (face_entry m.width) fs)

unfoldable pub file_bytes : List Entry → List ℕ
file_bytes es = flat (map bytes_of es)

unfoldable pub file_of : Map → List ℕ
file_of m =
    let P = picture_of (waste_free m) in
    file_bytes (file_entries m (segments P) (faces P (segments P) m.paints))

-- THE WRITER: the whole call in #107's mode, then 19 and 13; the file's length is 0 when refused

pub record Written : Type 0 where
  pub outcome : Outcome
  pub length : ℕ

unfoldable pub file_checks : Map → List ℕ → List ℕ → List Check
file_checks m bytes file =
    record { number = 19; hits = ltb 65535 m.paints } ∷
    record { number = 13; hits = ltb (length file) (length bytes) } ∷ []

unfoldable pub write : Map → List ℕ → List ℕ → List ℕ → List ℕ → List ℕ → List ℕ → List ℕ → List ℕ → Written
write m work ns ss ps rs cs fs file =
    let n = waste_free m in
    let l = cut_list n in
    let bytes = file_of m in
    let o =
    call n l work
    (graph_checks l ns ss ps ++ (face_checks l rs cs fs ++ file_checks m bytes file))
    ((l.nodes, ns) ∷ (l.segments, ss) ∷ (l.points, ps) ∷ (l.references, rs) ∷ (l.contours, cs) ∷ (l.faces, fs) ∷ (bytes, file) ∷ []) in
    record { outcome = o; length = elim (eqb o.answer.number 0) [ true ↦ length bytes | false ↦ 0 ] }
