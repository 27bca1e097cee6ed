-- That the demands speak of something: every accepted map has a call that answers 0, and what `whole` promises is such a call.
use Prim.Native.Nat.{ℕ, ◌<◌, ◌≤◌}
use mathlib.Core.Path.{◌≡◌, refl}
use mathlib.Core.Logic.{⊎_elim}
use mathlib.Core.List.{List, [], ◌∷◌}
use native.Mathlib.Omega.{arith}
use lib.ListN.{length, get_or, replicate, length-replicate}
use Rattle.std.specs.Prelude.{Result}
use Rattle.rules.specs.Calls.{Map, Accepted, cuts, cut_list, graph_list, work_words, Outcome, call, whole}
use Rattle.lattice.specs.declared.Size.{Size}
use Rattle.calls.specs.declared.Counts.{Counts}
use Rattle.calls.specs.declared.Refused.{Refused}
use Rattle.calls.specs.Outcome.{map_of, answer_of, outcome}
use Rattle.calls.proofs.Called.{Stores, Called}
use Rattle.calls.proofs.Demands.Answered.{every_whole}

-- EVERY ACCEPTED MAP has a call that answers 0: stores with just the room that the table asks for

abbrev pub roomy : Map → Stores
roomy m =
    let l = cut_list m in
    record {
      work = replicate (work_words m) 0;
      nodes = l.nodes;
      segments = l.segments;
      points = l.points;
      references = l.references;
      contours = l.contours;
      faces = l.faces;
    }

abbrev outcome_of : Map → Stores → Outcome
outcome_of m b = whole m b.work b.nodes b.segments b.points b.references b.contours b.faces

abbrev stores_of : Outcome → Stores
stores_of o =
    record {
      work = get_or o.stores 0 [];
      nodes = get_or o.stores 1 [];
      segments = get_or o.stores 2 [];
      points = get_or o.stores 3 [];
      references = get_or o.stores 4 [];
      contours = get_or o.stores 5 [];
      faces = get_or o.stores 6 [];
    }

abbrev lined : Stores → List (List ℕ)
lined a = a.work ∷ a.nodes ∷ a.segments ∷ a.points ∷ a.references ∷ a.contours ∷ a.faces ∷ []

seven : (m : Map) (b : Stores) → record { answer = (outcome_of m b).answer; stores = lined (stores_of (outcome_of m b)) } ≡ outcome_of m b
unfolding whole call
seven m b = refl

irreflexive : (n : ℕ) → n < n → ⊥
irreflexive n h = omega arith

passes : (m : Map) → Accepted m → (outcome_of m (roomy m)).answer.number ≡ 0
passes m a =
    let b = roomy m in
    (every_whole m b.work b.nodes b.segments b.points b.references b.contours b.faces).none.1 (
      ⊎_elim (λ (h : 16384 < m.width). let w = a.wide in omega arith) (λ (h : 16384 < m.height). let t = a.tall in omega arith),
      (
        λ n. n a.size,
        (
          λ h. let e : length (roomy m).work ≡ work_words m = length-replicate (work_words m) 0 in omega arith,
          (irreflexive _, (irreflexive _, (irreflexive _, (irreflexive _, (irreflexive _, (irreflexive _, tt)))))),
        ),
      ),
    )

pub can_be_called : (m : Map) → Accepted m → Called m
can_be_called m a =
    let o = outcome_of m (roomy m) in
    record { before = roomy m; answer = o.answer; after = stores_of o; promise = seven m (roomy m); zero = passes m a; word = a.word }

-- THE PROMISE OF `whole`, word for word its `ensures`, where it answers 0

pub called : (s : Size) (ls : List ℕ) (r : Result Counts Refused) (b a : Stores)
    → outcome r (a.work ∷ a.nodes ∷ a.segments ∷ a.points ∷ a.references ∷ a.contours ∷ a.faces ∷ [])
    ≡ whole (map_of s ls) b.work b.nodes b.segments b.points b.references b.contours b.faces
    → (answer_of r).number ≡ 0 → s.paints ≤ 4294967295
    → Called (map_of s ls)
called s ls r b a p z w = record { before = b; answer = answer_of r; after = a; promise = p; zero = z; word = w }

-- WHAT `graph` WRITES is the cut list's own part, so demand 2 speaks of it too
pub graph_part : (m : Map)
    → ((graph_list m).nodes ≡ (cut_list m).nodes) × ((graph_list m).segments ≡ (cut_list m).segments) × ((graph_list m).points ≡ (cut_list m).points) × ((graph_list m).steps ≡ (cut_list m).steps)
unfolding graph_list cut_list cuts
graph_part m = (refl, refl, refl, refl)
