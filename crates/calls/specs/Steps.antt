-- What the steps of a call ask and leave.
use Rattle.std.specs.Prelude.{ℕ, ◌+◌, ◌*◌, ◌<◌, ◌≤◌, ◌≡◌, List, length, get_or}
use Rattle.rules.specs.Picture.{OUTSIDE}
use Rattle.rules.specs.Face.{label_of, firsts}
use Rattle.rules.specs.Calls.{graph_list, cut_list, counted, store_after}
use Rattle.store.specs.Words.{Kept}
use Rattle.lattice.specs.declared.Size.{Size}
use Rattle.lattice.specs.Size.{pic}
use Rattle.lattice.specs.Planes.{plane}
use Rattle.graph.specs.declared.Counts.{Counts as GraphCounts}
use Rattle.graph.specs.Nodes.{Noded, Tallied, found_of}
use Rattle.calls.specs.declared.Counts.{Counts}
use Rattle.calls.specs.Outcome.{map_of, answer_with, graph_counts}

-- COUNTED

-- the graph is counted; its nodes and bends stand in the work store
pub record GraphCounted (s : Size) (ls work : List ℕ) (c : GraphCounts) : Type 0 where
  pub counts : answer_with 0 (graph_counts c) ≡ counted 0 (graph_list (map_of s ls))
  pub noded : Noded s ls work
  pub tallied : Tallied s ls (found_of c)

abbrev pub CountsGraph : Size → List ℕ → List ℕ → List ℕ → GraphCounts → Type 0
CountsGraph s ls work work' c = GraphCounted s ls work' c × Kept 0 (8 * plane s.width s.height) work work'

-- the first pixel of each pixel's island stands in plane 5
abbrev pub IslandsNumbered : Size → List ℕ → List ℕ → Type 0
IslandsNumbered s ls work =
    (p : ℕ) → p < s.width * s.height → (label_of (pic s ls) p ≡ OUTSIDE → ⊥) → get_or work (5 * plane s.width s.height + p) 0 ≡ get_or (firsts (pic s ls)) p 0

-- and its faces are
pub record CountsFaces (s : Size) (ls work : List ℕ) (c : GraphCounts) (work' : List ℕ) (total : Counts) : Type 0 where
  pub counts : answer_with 0 total ≡ counted 0 (cut_list (map_of s ls))
  pub graph : GraphCounted s ls work' c
  pub numbers : IslandsNumbered s ls work'
  pub kept : Kept 0 (8 * plane s.width s.height) work work'

-- WRITTEN, where the number is 0

-- the stores have room for the graph, where the number is 0
pub record GraphRoomy (s : Size) (ls : List ℕ) (n : ℕ) (ns ss ps : List ℕ) : Type 0 where
  pub nodes : n ≡ 0 → length (graph_list (map_of s ls)).nodes ≤ length ns
  pub segments : n ≡ 0 → length (graph_list (map_of s ls)).segments ≤ length ss
  pub points : n ≡ 0 → length (graph_list (map_of s ls)).points ≤ length ps

pub record GraphWritten (s : Size) (ls : List ℕ) (n : ℕ) (work ns ss ps work' ns' ss' ps' : List ℕ) : Type 0 where
  pub nodes : ns' ≡ store_after n (graph_list (map_of s ls)).nodes ns
  pub segments : ss' ≡ store_after n (graph_list (map_of s ls)).segments ss
  pub points : ps' ≡ store_after n (graph_list (map_of s ls)).points ps
  pub kept : Kept 0 (2 * plane s.width s.height) work work'

-- and for the faces
pub record FacesRoomy (s : Size) (ls : List ℕ) (n : ℕ) (rs cs fs : List ℕ) : Type 0 where
  pub references : n ≡ 0 → length (cut_list (map_of s ls)).references ≤ length rs
  pub contours : n ≡ 0 → length (cut_list (map_of s ls)).contours ≤ length cs
  pub faces : n ≡ 0 → length (cut_list (map_of s ls)).faces ≤ length fs

pub record FacesWritten (s : Size) (ls : List ℕ) (n : ℕ) (work rs cs fs work' rs' cs' fs' : List ℕ) : Type 0 where
  pub references : rs' ≡ store_after n (cut_list (map_of s ls)).references rs
  pub contours : cs' ≡ store_after n (cut_list (map_of s ls)).contours cs
  pub faces : fs' ≡ store_after n (cut_list (map_of s ls)).faces fs
  pub kept : Kept 0 (8 * plane s.width s.height) work work'
