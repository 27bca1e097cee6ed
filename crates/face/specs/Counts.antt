-- What counting answers, and what it leaves in the work store.
use Rattle.std.specs.Prelude.{ℕ, ◌+◌, ◌*◌, ◌<◌, ◌≡◌, List, length, get_or}
use Rattle.rules.specs.Lists.{flat}
use Rattle.rules.specs.Picture.{OUTSIDE, Dart}
use Rattle.rules.specs.Face.{label_of, firsts, Face, faces}
use Rattle.rules.specs.Records.{contours_of}
use Rattle.rules.specs.Describes.{Describes}
use Rattle.store.specs.Words.{Kept}
use Rattle.lattice.specs.declared.Size.{Size}
use Rattle.lattice.specs.Size.{pic}
use Rattle.lattice.specs.Planes.{plane}
use Rattle.face.specs.declared.Counts.{Counts}

pub record CountsOf (fs : List Face) (r : Counts) : Type 0 where
  pub references : r.references ≡ length (flat (contours_of fs))
  pub contours : r.contours ≡ length (contours_of fs)
  pub faces : r.faces ≡ length fs

pub record Counted (s : Size) (ls work : List ℕ) (r : Counts) (work' : List ℕ) : Type 0 where
  -- those of the rules, for any segments that describe the map
  pub counts : (ss : List (List Dart)) → Describes (pic s ls) ss → CountsOf (faces (pic s ls) ss s.paints) r
  -- the first pixel of each pixel's island, in plane 5
  pub numbers :
      (p : ℕ) → p < s.width * s.height → (label_of (pic s ls) p ≡ OUTSIDE → ⊥) → get_or work' (5 * plane s.width s.height + p) 0 ≡ get_or (firsts (pic s ls)) p 0
  -- planes 5 to 7 are used
  pub kept : Kept (5 * plane s.width s.height) (8 * plane s.width s.height) work work'
