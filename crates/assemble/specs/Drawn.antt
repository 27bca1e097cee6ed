-- What the words of a graph's stores must say for the segments ss, which may be any that describe the map.
use Rattle.std.specs.Prelude.{ℕ, ◌*◌, ◌<◌, ◌≤◌, ◌≡◌, true, List, length, get_or}
use Rattle.rules.specs.Picture.{Picture, Dart}
use Rattle.rules.specs.Graph.{nodes as nodes_of}
use Rattle.rules.specs.Records.{node_words, segment_words, point_words}
use Rattle.rules.specs.Face.{first_step, region, is_open, next}
use Rattle.rules.specs.Describes.{Describes}
use Rattle.lattice.specs.declared.Size.{Size}
use Rattle.lattice.specs.Size.{pic}
use Rattle.lattice.specs.Walker.{dart_of}
use Rattle.assemble.specs.Words.{word_in, region_in, open_in, next_in, EndsAt, first_in}
use Rattle.assemble.specs.Trails.{LINK}

-- nodes and segments: region, kind, next one and end of each reference
pub record Drawn (s : Size) (ls nodes segs : List ℕ) (ss : List (List Dart)) : Type 0 where
  pub describes : Describes (pic s ls) ss
  pub few : 2 * length ss < LINK
  pub regions : (r : ℕ) → r < 2 * length ss → region_in segs r ≡ region (pic s ls) ss r
  pub opens : (r : ℕ) → r < 2 * length ss → open_in segs r ≡ is_open (pic s ls) ss r
  pub nexts : (r : ℕ) → r < 2 * length ss → is_open (pic s ls) ss r ≡ true → next_in (pic s ls) nodes segs r ≡ next (pic s ls) ss r
  pub ends : (r : ℕ) → r < 2 * length ss → is_open (pic s ls) ss r ≡ true → EndsAt s nodes segs r

-- segments and points: the first step of each reference
pub record Pointed (segs points : List ℕ) (ss : List (List Dart)) : Type 0 where
  pub two : (r : ℕ) → r < 2 * length ss → 2 ≤ word_in segs r 1
  pub firsts : (r : ℕ) → r < 2 * length ss → dart_of (first_in segs points r) ≡ first_step ss r

-- the definitions' words, from the front of each store, say all that
pub record Written (P : Picture) (ss : List (List Dart)) (nodes segs points : List ℕ) : Type 0 where
  pub node_words_lem : (i : ℕ) → i < 6 * length (nodes_of P) → get_or nodes i 0 ≡ get_or (node_words ss (nodes_of P)) i 0
  pub segment_words_lem : (i : ℕ) → i < 8 * length ss → get_or segs i 0 ≡ get_or (segment_words P 0 ss) i 0
  pub point_words_lem : (i : ℕ) → i < length (point_words ss) → get_or points i 0 ≡ get_or (point_words ss) i 0
