-- The mark of a contour, from any words of the stores (docs/RULES.md, #102): its steps east, by their y, against its steps west.
use Rattle.std.specs.Prelude.{ℕ, zero, suc, ◌+◌, ◌-◌, ◌*◌, ◌/◌, ◌%◌, ◌^◌, Bool, true, false, List, ◌==◌, nat_lt, slice_index, slice_index_or}

-- the number of a way, or of a turn: 0 as it goes, 1 back
abbrev pub way_of : Bool → ℕ
way_of false = 0
way_of true = 1

-- what n numbers from f on count for, added in 64 bits
unfoldable pub summed : (ℕ → ℕ) → ℕ → ℕ → ℕ
summed g zero f = 0
summed g (suc n) f = (summed g n f + g (f + n)) % 2 ^ 64

-- y of the point i where the point j lies east of it, else 0
unfoldable pub eastward : List ℕ → ℕ → ℕ → ℕ
eastward ps i j = elim (nat_lt (slice_index ps (2 * i)) (slice_index ps (2 * j))) [ true ↦ slice_index_or ps (2 * i + 1) 0 | false ↦ 0 ]

-- of the step from the point i to the next one, or (any other way than 0) of the step back
unfoldable pub step_east : List ℕ → ℕ → ℕ → ℕ
step_east ps way i = elim (way == 0) [ true ↦ eastward ps i (i + 1) | false ↦ eastward ps (i + 1) i ]

-- of the steps between the points of the segment i, forward or back
unfoldable pub segment_east : List ℕ → List ℕ → ℕ → ℕ → ℕ
segment_east ss ps way i = summed (step_east ps way) (slice_index ss (8 * i + 1) - 1) (slice_index ss (8 * i))

-- of the steps of the reference number j, as it goes (turn 0) or turned round (turn 1)
unfoldable pub reference_east : List ℕ → List ℕ → List ℕ → ℕ → ℕ → ℕ
reference_east ss ps rs turn j = segment_east ss ps ((slice_index rs j + turn) % 2) (slice_index rs j / 2)

-- of the steps of the contour k
unfoldable pub contour_east : List ℕ → List ℕ → List ℕ → List ℕ → ℕ → ℕ → ℕ
contour_east ss ps rs cs turn k = summed (reference_east ss ps rs turn) (slice_index cs (2 * k + 1)) (slice_index cs (2 * k))

-- an outline: what goes east along it is more than what goes west, which is what goes east the other way round
unfoldable pub outlined : List ℕ → List ℕ → List ℕ → List ℕ → ℕ → Bool
outlined ss ps rs cs k = nat_lt (contour_east ss ps rs cs 1 k) (contour_east ss ps rs cs 0 k)
