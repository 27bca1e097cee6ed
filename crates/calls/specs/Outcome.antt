-- What a call took and what it left, as the rules have them.
use Rattle.std.specs.Prelude.{ℕ, Bool, true, false, List, [], ◌∷◌, get_or, Result, Ok, Err}
use Rattle.rules.specs.declared.Refusal.{Refusal}
use Rattle.rules.specs.Calls.{Map, Answer, Outcome}
use Rattle.rules.specs.Refusals.{number_of}
use Rattle.lattice.specs.declared.Size.{Size}
use Rattle.graph.specs.declared.Counts.{Counts as GraphCounts}
use Rattle.face.specs.declared.Counts.{Counts as FaceCounts}
use Rattle.calls.specs.declared.Counts.{Counts}
use Rattle.calls.specs.declared.Refused.{Refused}

abbrev pub map_with : ℕ → ℕ → ℕ → ℕ → List ℕ → Map
map_with w h paints bound ls = record { width = w; height = h; paints = paints; bound = bound; labels = ls }

abbrev pub map_of : Size → List ℕ → Map
map_of s ls = map_with s.width s.height s.paints s.bound ls

-- COUNTS

-- of a graph, and none of faces
abbrev pub graph_counts : GraphCounts → Counts
graph_counts c = record { nodes = c.nodes; segments = c.segments; points = c.points; references = 0; contours = 0; faces = 0; steps = c.steps }

-- and with those of faces
abbrev pub with_faces : GraphCounts → FaceCounts → Counts
with_faces c f =
    record { nodes = c.nodes; segments = c.segments; points = c.points; references = f.references; contours = f.contours; faces = f.faces; steps = c.steps }

-- THE ANSWER

-- the counts with a number
abbrev pub answer_with : ℕ → Counts → Answer
answer_with n c =
    record {
      number = n;
      nodes = c.nodes;
      segments = c.segments;
      points = c.points;
      references = c.references;
      contours = c.contours;
      faces = c.faces;
      steps = c.steps;
    }

-- a refusal before the map was looked at
abbrev pub unlooked : Refusal → Refused
unlooked why = record { why = why; counts = record { nodes = 0; segments = 0; points = 0; references = 0; contours = 0; faces = 0; steps = 0 } }

abbrev pub answer_of : Result Counts Refused → Answer
answer_of (Ok c) = answer_with 0 c
answer_of (Err r) = answer_with (number_of r.why) r.counts

-- a check's result: whatever says why where it hits
abbrev pub refused_if : {W : Type 0} → Bool → W → Result (Unit {0}) W
refused_if true why = Err why
refused_if false why = Ok tt

-- what is answered after the counting, by the check of the stores
abbrev pub answered_by : Result (Unit {0}) Refusal → Counts → Result Counts Refused
answered_by (Ok u) c = Ok c
answered_by (Err why) c = Err (record { why = why; counts = c })

-- the answer, and every lent store afterwards, in the order of the parameters
abbrev pub outcome : Result Counts Refused → List (List ℕ) → Outcome
outcome r stores = record { answer = answer_of r; stores = stores }

-- IN WORDS, as C programs have it

abbrev pub answer_words : Answer → List ℕ
answer_words a = a.number ∷ a.nodes ∷ a.segments ∷ a.points ∷ a.references ∷ a.contours ∷ a.faces ∷ a.steps ∷ []

abbrev pub answered : List ℕ → List (List ℕ) → Outcome
answered ws stores =
    record {
      answer =
          record {
            number = get_or ws 0 0;
            nodes = get_or ws 1 0;
            segments = get_or ws 2 0;
            points = get_or ws 3 0;
            references = get_or ws 4 0;
            contours = get_or ws 5 0;
            faces = get_or ws 6 0;
            steps = get_or ws 7 0;
          };
      stores = stores;
    }
