-- Nodes and bends that are listed so far, and all of them.
use Rattle.std.specs.Prelude.{ℕ, ◌*◌, ◌≤◌, true, ◌≡◌, length, get_or}
use mathlib.Core.List.{List, ◌∷◌, ◌++◌, Memᴰ as In}
use Rattle.rules.specs.Lists.{keep}
use Rattle.rules.specs.Picture.{Picture, node}
use Rattle.rules.specs.Graph.{corners, nodes}
use Rattle.rules.specs.Records.{node_at}
use Rattle.rules.proofs.Tracing.Bends.{bend}
use Rattle.store.specs.Words.{Kept}
use Rattle.lattice.specs.declared.Size.{Size}
use Rattle.lattice.specs.declared.Around.{Around}
use Rattle.lattice.specs.Size.{Corner, pic}
use Rattle.lattice.specs.Planes.{plane}
use Rattle.lattice.specs.Around.{around_of}
use Rattle.graph.specs.declared.Found.{Found}
use Rattle.graph.specs.declared.Counts.{Counts}
use Rattle.graph.specs.Planes.{id_slot, corners_at}

pub record Listing : Type 0 where
  pub work : List ℕ
  pub found : Found

abbrev pub listing : List ℕ → Found → Listing
listing work f = record { work = work; found = f }

abbrev pub bends : Picture → List (ℕ × ℕ)
bends P = keep (bend P) (corners P)

-- of all corners but those to do, the nodes have their numbers and corners in the work words, and the bends their corners
pub record Listed (s : Size) (ls work₀ : List ℕ) (todo : List (ℕ × ℕ)) (t : Listing) : Type 0 where
  pub done : List (ℕ × ℕ)
  pub whole : done ++ keep (λ c. node (pic s ls) c.0 c.1) todo ≡ nodes (pic s ls)
  pub count : t.found.nodes ≡ length done
  pub ids : (x y : ℕ) → Corner s x y → In (x, y) done → get_or t.work (id_slot s.width s.height x y) 0 ≡ node_at (nodes (pic s ls)) 0 x y
  pub corners : corners_at t.work (3 * plane s.width s.height) t.found.nodes ≡ done
  pub bent : List (ℕ × ℕ)
  pub bent_whole : bent ++ keep (bend (pic s ls)) todo ≡ bends (pic s ls)
  pub bent_count : t.found.bends ≡ length bent
  pub bent_corners : corners_at t.work (4 * plane s.width s.height) t.found.bends ≡ bent
  pub planes : 5 * plane s.width s.height ≤ length t.work
  pub kept : Kept (2 * plane s.width s.height) (5 * plane s.width s.height) work₀ t.work

-- the corner (x, y) is done, of any map that has the labels a around it
abbrev pub Lists : Size → Around → ℕ → ℕ → Listing → Listing → Type 0
Lists s a x y t t' =
    (ls work₀ : List ℕ) (rest : List (ℕ × ℕ))
    → a ≡ around_of (pic s ls) x y
    → Listed s ls work₀ ((x, y) ∷ rest) t
    → Listed s ls work₀ rest t'

-- all nodes and bends stand in the work words
pub record Noded (s : Size) (ls work : List ℕ) : Type 0 where
  pub ids : (x y : ℕ) → Corner s x y → node (pic s ls) x y ≡ true → get_or work (id_slot s.width s.height x y) 0 ≡ node_at (nodes (pic s ls)) 0 x y
  pub corners : corners_at work (3 * plane s.width s.height) (length (nodes (pic s ls))) ≡ nodes (pic s ls)
  pub bent_corners : corners_at work (4 * plane s.width s.height) (length (bends (pic s ls))) ≡ bends (pic s ls)
  pub planes : 5 * plane s.width s.height ≤ length work

-- and so many are they
abbrev pub found_of : Counts → Found
found_of c = record { nodes = c.nodes; bends = c.bends }

pub record Tallied (s : Size) (ls : List ℕ) (f : Found) : Type 0 where
  pub nodes : f.nodes ≡ length (nodes (pic s ls))
  pub bends : f.bends ≡ length (bends (pic s ls))

-- what `classify` ensures
pub record Classified (s : Size) (ls work work' : List ℕ) (f : Found) : Type 0 where
  pub noded : Noded s ls work'
  pub tallied : Tallied s ls f
  pub kept : Kept (2 * plane s.width s.height) (5 * plane s.width s.height) work work'
