-- The number that stores of given lengths get, whatever cut list has the counts.
use Rattle.std.specs.Prelude.{ℕ, ◌+◌, ◌*◌, ◌≡◌, List, ◌++◌, length}
use Rattle.rules.specs.Calls.{CutList, counted, first_hit, graph_checks, face_checks}
use Rattle.lattice.specs.declared.Size.{Size}
use Rattle.lattice.specs.Planes.{plane}
use Rattle.calls.specs.declared.Counts.{Counts}
use Rattle.calls.specs.Outcome.{answer_with}

abbrev pub GraphRoom : Counts → ℕ → ℕ → ℕ → ℕ → Type 0
GraphRoom c nodes segments points n =
    (l : CutList) (ns ss ps : List ℕ) → answer_with 0 c ≡ counted 0 l
    → length ns ≡ nodes → length ss ≡ segments → length ps ≡ points
    → n ≡ first_hit (graph_checks l ns ss ps)

abbrev pub FaceRoom : Counts → ℕ → ℕ → ℕ → ℕ → Type 0
FaceRoom c references contours faces n =
    (l : CutList) (rs cs fs : List ℕ) → answer_with 0 c ≡ counted 0 l
    → length rs ≡ references → length cs ≡ contours → length fs ≡ faces
    → n ≡ first_hit (face_checks l rs cs fs)

abbrev pub AllRoom : Counts → ℕ → ℕ → ℕ → ℕ → ℕ → ℕ → ℕ → Type 0
AllRoom c nodes segments points references contours faces n =
    (l : CutList) (ns ss ps rs cs fs : List ℕ) → answer_with 0 c ≡ counted 0 l
    → length ns ≡ nodes → length ss ≡ segments → length ps ≡ points → length rs ≡ references → length cs ≡ contours → length fs ≡ faces
    → n ≡ first_hit (graph_checks l ns ss ps ++ face_checks l rs cs fs)

-- the counts that no map of these sides exceeds
abbrev pub most_of : Size → Counts
most_of s =
    let corners = plane s.width s.height in
    let pixels = s.width * s.height in
    let cracks = 2 * pixels + s.width + s.height in
    record { nodes = corners; segments = cracks; points = 2 * cracks; references = 2 * cracks; contours = corners; faces = pixels; steps = cracks }
