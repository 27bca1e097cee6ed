-- The words of records, and the out entries that segments write.
use Rattle.std.specs.Prelude.{ℕ, suc, ◌+◌, ◌*◌, ◌≤◌, cond, ◌≡◌, List, [], ◌∷◌, length, get_or, set, Option, Some, None}
use Rattle.rules.specs.Picture.{Picture, Dart, code, back_of, turned, node}
use Rattle.rules.specs.Graph.{nodes}
use Rattle.rules.specs.Face.{no_dart}
use Rattle.rules.specs.Records.{NONE, node_at}
use Rattle.lattice.specs.declared.Size.{Size}
use Rattle.lattice.specs.declared.Around.{Around}
use Rattle.lattice.specs.declared.Walker.{Walker}
use Rattle.lattice.specs.Around.{node_in}
use Rattle.lattice.specs.Size.{Sides, Corner}
use Rattle.graph.specs.declared.Segment.{Segment}
use Rattle.graph.specs.declared.Walked.{Walked}
use Rattle.graph.specs.declared.Joined.{Joined}
use Rattle.lattice.specs.Planes.{plane}
use Rattle.graph.specs.Planes.{id_slot}
use Rattle.graph.specs.Walk.{end_of}

-- a node without out entries
abbrev pub node_word : ℕ → ℕ → List ℕ
node_word x y = x ∷ y ∷ NONE ∷ NONE ∷ NONE ∷ NONE ∷ []

-- the nodes of a segment and its last direction, in words
abbrev pub start_word : Option Joined → ℕ
start_word None = NONE
start_word (Some j) = j.start.0

abbrev pub end_word : Option Joined → ℕ
end_word None = NONE
end_word (Some j) = j.end.0

abbrev pub arrives_word : Option Joined → ℕ
arrives_word None = 0
arrives_word (Some j) = code j.arrives

abbrev pub segment_word : Segment → List ℕ
segment_word g = g.first ∷ g.count ∷ start_word g.joined ∷ end_word g.joined ∷ g.left.0 ∷ g.right.0 ∷ code g.leaves ∷ arrives_word g.joined ∷ []

-- what `join` asks
pub record Ended (s : Size) (work : List ℕ) (w : Walker) (e : Walked) (n : ℕ) : Type 0 where
  pub sides : Sides s
  pub planes : 3 * plane s.width s.height ≤ length work
  pub low : n ≤ 1073807360
  pub from : Corner s w.x w.y
  pub to : Corner s e.to.x e.to.y

-- the number of the node at a corner, by the plane of numbers
abbrev pub id_at : Size → List ℕ → ℕ → ℕ → ℕ
id_at s work x y = get_or work (id_slot s.width s.height x y) 0

pub record Linked (s : Size) (a : Around) (work nodes : List ℕ) (n : ℕ) (w : Walker) (e : Walked) (nodes' : List ℕ) (r : Option Joined) : Type 0 where
  pub start : start_word r ≡ cond (node_in a) (id_at s work w.x w.y) NONE
  pub end : end_word r ≡ cond (node_in a) (id_at s work e.to.x e.to.y) NONE
  pub arrives : arrives_word r ≡ cond (node_in a) (code e.to.d) 0
  pub entered : nodes' ≡ cond (node_in a) (set (set nodes (6 * id_at s work w.x w.y + (2 + code w.d)) (2 * n)) (6 * id_at s work e.to.x e.to.y + (2 + code (back_of e.to.d))) (2 * n + 1)) nodes

-- the word of a dart's out entry
abbrev pub entry_slot : Picture → Dart → ℕ
entry_slot P a = 6 * node_at (nodes P) 0 a.x a.y + (2 + code a.d)

-- the words with the out entries of the segment s, number i
unfoldable pub entered : Picture → List ℕ → ℕ → List Dart → List ℕ
entered P l i s =
    cond (node P (get_or s 0 no_dart).x (get_or s 0 no_dart).y)
    (set (set l (entry_slot P (get_or s 0 no_dart)) (2 * i)) (entry_slot P (turned (end_of s))) (2 * i + 1))
    l

-- and of all the segments, numbered from i
unfoldable pub entries : Picture → List ℕ → ℕ → List (List Dart) → List ℕ
entries P l i [] = l
entries P l i (s ∷ ss) = entries P (entered P l i s) (suc i) ss
