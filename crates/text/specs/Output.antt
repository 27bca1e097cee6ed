-- What is printed: decimals, fields and lines (docs/RULES.md, "textmap").
use Rattle.std.specs.Prelude.{◌≡◌, ℕ, zero, suc, ◌+◌, ◌*◌, ◌/◌, ◌%◌, ◌≤◌, min, Bool, true, false, List, [], ◌∷◌, ◌++◌, map, length, ◌==◌, nat_lt, slice_index}
use Rattle.std.proofs.lemmas.List.Edits.{sets}
use Rattle.rules.specs.Lists.{flat, upto}
use Rattle.rules.specs.Records.{NONE}
use Rattle.rules.specs.Calls.{Answer}
use Rattle.text.specs.Bytes.{bytes}
use Rattle.text.specs.Mark.{outlined}

-- A BUFFER that bytes are put into from a place on: what has no room is dropped. The place that follows is the buffer's length at most
pub record Printed (out : List ℕ) (at : ℕ) (text : List ℕ) (out' : List ℕ) (next : ℕ) : Type 0 where
  pub held : out' ≡ sets out at text
  pub place : next ≡ min (at + length text) (length out)
  pub within : next ≤ length out'

-- DECIMALS, with as much fuel as the number itself

unfoldable pub shown_in : ℕ → ℕ → List ℕ
shown_in zero n = (48 + n) ∷ []
shown_in (suc fuel) n = elim (nat_lt n 10) [ true ↦ (48 + n) ∷ [] | false ↦ shown_in fuel (n / 10) ++ ((48 + n % 10) ∷ []) ]

unfoldable pub shown : ℕ → List ℕ
shown n = shown_in n n

-- FIELDS, each with the space before it

unfoldable pub field : ℕ → List ℕ
field n = 32 ∷ shown n

-- a number, or the byte `none`
unfoldable pub optional : ℕ → ℕ → List ℕ
optional none n = elim (n == NONE) [ true ↦ 32 ∷ none ∷ [] | false ↦ field n ]

-- `f` forward, `r` reversed, `-` none
unfoldable pub way : ℕ → List ℕ
way r = elim (r % 2 == 0) [ true ↦ bytes "f" | false ↦ bytes "r" ]

unfoldable pub reference : ℕ → List ℕ
reference r = elim (r == NONE) [ true ↦ bytes " -" | false ↦ field (r / 2) ++ way r ]

unfoldable pub point : ℕ → ℕ → List ℕ
point x y = field x ++ (bytes "," ++ shown y)

-- A WORD OF A STORE; one past the end is 0

unfoldable pub field_at : List ℕ → ℕ → List ℕ
field_at ws i = field (slice_index ws i)

unfoldable pub optional_at : ℕ → List ℕ → ℕ → List ℕ
optional_at none ws i = optional none (slice_index ws i)

unfoldable pub reference_at : List ℕ → ℕ → List ℕ
reference_at ws i = reference (slice_index ws i)

unfoldable pub point_at : List ℕ → ℕ → List ℕ
point_at ps i = point (slice_index ps (2 * i)) (slice_index ps (2 * i + 1))

-- LINES

-- what each number from f on comes to, n of them
unfoldable pub pieces : (ℕ → List ℕ) → ℕ → ℕ → List ℕ
pieces g n f = flat (map g (upto n f))

unfoldable pub map_line : ℕ → ℕ → ℕ → List ℕ
map_line w h p = bytes "map" ++ (field w ++ (field h ++ (field p ++ bytes "\n")))

-- the seven counts, in order
unfoldable pub count_line : Answer → List ℕ
count_line a =
    bytes "count" ++ (field a.nodes ++ (field a.segments ++ (field a.points ++
    (field a.references ++ (field a.contours ++ (field a.faces ++ (field a.steps ++ bytes "\n")))))))

-- node: number, x, y, out N E S W
unfoldable pub node_line : List ℕ → ℕ → List ℕ
node_line ns i =
    bytes "node" ++ (field i ++ (field_at ns (6 * i) ++ (field_at ns (6 * i + 1) ++
    (reference_at ns (6 * i + 2) ++ (reference_at ns (6 * i + 3) ++ (reference_at ns (6 * i + 4) ++ (reference_at ns (6 * i + 5) ++ bytes "\n")))))))

-- seg: number, start, end (`-` for none), left, right (`.` for OUTSIDE), first and last direction, points
unfoldable pub seg_line : List ℕ → List ℕ → ℕ → List ℕ
seg_line ss ps i =
    bytes "seg" ++ (field i ++ (optional_at 45 ss (8 * i + 2) ++ (optional_at 45 ss (8 * i + 3) ++ (optional_at 46 ss (8 * i + 4) ++ (optional_at 46 ss (8 * i + 5) ++
    (field_at ss (8 * i + 6) ++ (field_at ss (8 * i + 7) ++ (pieces (point_at ps) (slice_index ss (8 * i + 1)) (slice_index ss (8 * i)) ++ bytes "\n"))))))))

-- `O` for an outline, `H` for a hole
unfoldable pub letter : Bool → List ℕ
letter true = bytes " O"
letter false = bytes " H"

unfoldable pub cont_line : List ℕ → List ℕ → List ℕ → List ℕ → ℕ → List ℕ
cont_line ss ps rs cs k = bytes "cont" ++ (letter (outlined ss ps rs cs k) ++ (pieces (reference_at rs) (slice_index cs (2 * k + 1)) (slice_index cs (2 * k)) ++ bytes "\n"))

-- face: number, region, contours, x and y of its first pixel; its `cont` lines follow
unfoldable pub face_lines : List ℕ → List ℕ → List ℕ → List ℕ → List ℕ → ℕ → List ℕ
face_lines ss ps rs cs fs i =
    bytes "face" ++ (field i ++ (field_at fs (5 * i) ++ (field_at fs (5 * i + 2) ++ (field_at fs (5 * i + 3) ++ (field_at fs (5 * i + 4) ++ (bytes "\n" ++
    pieces (cont_line ss ps rs cs) (slice_index fs (5 * i + 2)) (slice_index fs (5 * i + 1))))))))

-- THE WHOLE REPORT of a map: its header, the counts and the stores
unfoldable pub report : ℕ → ℕ → ℕ → Answer → List ℕ → List ℕ → List ℕ → List ℕ → List ℕ → List ℕ → List ℕ
report w h p a ns ss ps rs cs fs =
    map_line w h p ++ (count_line a ++ (pieces (node_line ns) a.nodes 0 ++ (pieces (seg_line ss ps) a.segments 0 ++ pieces (face_lines ss ps rs cs fs) a.faces 0)))
