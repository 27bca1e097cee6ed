-- The stores and counts while segments are traced.
use Rattle.std.specs.Prelude.{ℕ, ◌+◌, ◌*◌, ◌<◌, ◌≤◌, ◌≡◌, List, length, map, get_or}
use Rattle.std.proofs.lemmas.List.Edits.{sets}
use Rattle.rules.specs.Lists.{flat}
use Rattle.rules.specs.Picture.{Dart, dart}
use Rattle.rules.specs.declared.Dir.{Dir}
use Rattle.rules.specs.Graph.{on, trace, nodes, segments}
use Rattle.rules.specs.Records.{segment_words, point_words}
use Rattle.store.specs.Words.{Kept}
use Rattle.lattice.specs.declared.Size.{Size}
use Rattle.lattice.specs.Size.{Corner, pic}
use Rattle.lattice.specs.Planes.{plane}
use Rattle.graph.specs.declared.Counts.{Counts}
use Rattle.graph.specs.Planes.{marked, Inside, unpacked}
use Rattle.graph.specs.Words.{entries}
use Rattle.graph.specs.Nodes.{Noded, Tallied, found_of}

pub record State : Type 0 where
  pub work : List ℕ
  pub nodes : List ℕ
  pub segments : List ℕ
  pub points : List ℕ
  pub counts : Counts

abbrev pub state : List ℕ → List ℕ → List ℕ → List ℕ → Counts → State
state work nodes segments points c = record { work = work; nodes = nodes; segments = segments; points = points; counts = c }

-- what leaves corners in some directions
abbrev pub starts : List (ℕ × ℕ) → List Dir → List Dart
starts cs ways = flat (map (λ c. map (dart c.0 c.1) ways) cs)

-- behind the marks, n corners of the frame stand in the work words from `at` on
pub record Standing (s : Size) (work : List ℕ) (at n : ℕ) : Type 0 where
  pub behind : 2 * plane s.width s.height ≤ at
  pub room : at + n ≤ length work
  pub inside : (i : ℕ) → i < n → Corner s (unpacked (get_or work (at + i) 0)).0 (unpacked (get_or work (at + i) 0)).1

-- from the state o on, with the darts to do left: the segments so far, and what the stores hold of them
pub record Stage (s : Size) (ls : List ℕ) (o : State) (todo : List Dart) (t : State) : Type 0 where
  pub ss : List (List Dart)
  pub whole : trace (pic s ls) ss todo ≡ segments (pic s ls)
  pub seen : (b : Dart) → Inside s.width s.height b → marked s.width s.height t.work b ≡ on b (flat ss)
  pub noded : Noded s ls t.work
  pub kept : Kept 0 (2 * plane s.width s.height) o.work t.work
  pub outs : t.nodes ≡ entries (pic s ls) o.nodes 0 ss
  pub records : t.segments ≡ sets o.segments 0 (segment_words (pic s ls) 0 ss)
  pub corners : t.points ≡ sets o.points 0 (point_words ss)
  pub words : length (point_words ss) ≡ 2 * t.counts.points
  pub tallied : Tallied s ls (found_of t.counts)
  pub segs : t.counts.segments ≡ length ss
  pub pts : t.counts.points ≡ length (flat ss) + length ss
  pub steps : t.counts.steps ≡ length (flat ss)
