-- The call `assemble`: the faces of a map over a graph that is handed in (docs/RULES.md, #111).
use Rattle.std.specs.Prelude.{ℕ, Bool, not, List, [], ◌∷◌, get_or}
use Rattle.rules.specs.Face.{faces}
use Rattle.rules.specs.Calls.{Map, picture_of, CutList, cuts, cut_list, Check, face_checks, Outcome, call}
use Rattle.accept.specs.Given.{Given, segments_in}
use Rattle.accept.specs.Test.{accepts}

-- the cut list over the segments of the graph
unfoldable pub given_list : Map → Given → CutList
given_list m g = let P = picture_of m in cuts P (segments_in g) (faces P (segments_in g) m.paints)

-- 15 where the graph does not describe the map
abbrev pub strange : Bool → Check
strange fits = record { number = 15; hits = not fits }

-- 1 to 3, then 15, then 7 to 9. The counts are the map's whatever the graph, so a refused graph has them too. The graph's stores are only read.
unfoldable pub assemble : Map → Given → List ℕ → List ℕ → List ℕ → List ℕ → Outcome
assemble m g work rs cs fs =
    let l = given_list m g in
    call m (cut_list m) work
    (strange (accepts g (picture_of m)) ∷ face_checks (cut_list m) rs cs fs)
    ((l.references, rs) ∷ (l.contours, cs) ∷ (l.faces, fs) ∷ [])

-- the graph that a call of `graph` left: its stores, with the counts that it answered
abbrev pub traced_by : Outcome → Given
traced_by o =
    record {
      nodes = get_or o.stores 1 [];
      node_count = o.answer.nodes;
      segments = get_or o.stores 2 [];
      segment_count = o.answer.segments;
      points = get_or o.stores 3 [];
    }
