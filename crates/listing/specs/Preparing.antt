-- The named islands chosen, and their contours found and strung: all that the writer asks.
use Rattle.std.specs.Prelude.{ℕ, ◌*◌, ◌≤◌, ◌≡◌, List}
use Rattle.rules.specs.Graph.{segments}
use Rattle.rules.specs.Face.{faces}
use Rattle.benches.specs.Listing.{listing_words}
use Rattle.benches.proofs.SameListing.{named_firsts}
use Rattle.store.specs.Words.{Kept}
use Rattle.lattice.specs.declared.Size.{Size}
use Rattle.lattice.specs.Size.{pic}
use Rattle.lattice.specs.Planes.{plane}
use Rattle.listing.specs.Writing.{islands_in, pieces_in, Planned}
use Rattle.listing.specs.Finding.{Ready}

-- the n named islands stand in plane 6, in the order of the faces
pub record Chosen (s : Size) (ls names work : List ℕ) (n : ℕ) (work' : List ℕ) : Type 0 where
  pub ready : Ready s ls names work'
  pub few : n ≤ s.width * s.height
  pub listed : islands_in s work' n ≡ named_firsts (pic s ls) s.paints names
  pub kept : Kept 0 (8 * plane s.width s.height) work work'

-- the words of the listing, as the rules have them
abbrev pub words_of : Size → List ℕ → List ℕ → List ℕ
words_of s ls names = listing_words (segments (pic s ls)) names (faces (pic s ls) (segments (pic s ls)) s.paints)

-- the n pieces that the work store has make up the listing
pub record Prepared (s : Size) (ls names work : List ℕ) (n : ℕ) (work' : List ℕ) : Type 0 where
  pub planned : Planned s ls work' n
  pub words : pieces_in s ls work' n ≡ words_of s ls names
  pub kept : Kept 0 (8 * plane s.width s.height) work work'
