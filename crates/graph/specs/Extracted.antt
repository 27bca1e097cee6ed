-- What extraction ensures, for stores of any length.
use Rattle.std.specs.Prelude.{ℕ, ◌+◌, ◌*◌, ◌≡◌, List, length}
use Rattle.std.proofs.lemmas.List.Edits.{sets}
use Rattle.rules.specs.Graph.{nodes, segments, cracks}
use Rattle.rules.specs.Records.{node_words, segment_words, point_words}
use Rattle.store.specs.Words.{Kept}
use Rattle.lattice.specs.declared.Size.{Size}
use Rattle.lattice.specs.Size.{pic}
use Rattle.lattice.specs.Planes.{plane}
use Rattle.graph.specs.declared.Counts.{Counts}
use Rattle.graph.specs.Nodes.{Noded, Tallied, found_of}

pub record Extracted (s : Size) (ls : List ℕ) (used : ℕ) (work nodes₀ segments₀ points₀ work' nodes' segments' points' : List ℕ) (r : Counts) : Type 0 where
  -- the rules' words laid over what each store held, from its front, and cut at its end
  pub node_store : nodes' ≡ sets nodes₀ 0 (node_words (segments (pic s ls)) (nodes (pic s ls)))
  pub segment_store : segments' ≡ sets segments₀ 0 (segment_words (pic s ls) 0 (segments (pic s ls)))
  pub point_store : points' ≡ sets points₀ 0 (point_words (segments (pic s ls)))
  pub tallied : Tallied s ls (found_of r)
  pub segment_count_lem : r.segments ≡ length (segments (pic s ls))
  pub point_count_lem : r.points ≡ length (cracks (pic s ls)) + length (segments (pic s ls))
  pub step_count_lem : r.steps ≡ length (cracks (pic s ls))
  -- of the work store only so many planes have changed, and the nodes still stand there
  pub kept : Kept 0 (used * plane s.width s.height) work work'
  pub noded : Noded s ls work'
