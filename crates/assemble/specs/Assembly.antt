-- What the assembly asks of a graph in its stores and of the work words, and what it leaves.
use Rattle.std.specs.Prelude.{ℕ, ◌+◌, ◌*◌, ◌<◌, ◌≤◌, ◌≡◌, List, length, get_or}
use Rattle.rules.specs.Picture.{OUTSIDE, Dart}
use Rattle.rules.specs.Face.{label_of, firsts, faces}
use Rattle.lattice.specs.declared.Size.{Size}
use Rattle.lattice.specs.Size.{pic}
use Rattle.lattice.specs.Planes.{plane}
use Rattle.assemble.specs.declared.Done.{Done}
use Rattle.assemble.specs.Changes.{Changed}
use Rattle.assemble.specs.Drawn.{Drawn, Pointed}
use Rattle.assemble.specs.Writing.{AllWritten}

-- the stores hold the n segments ss, the work words are eight planes, and the plane 5 holds the first pixel of each pixel's island
pub record Standing (s : Size) (ls nodes segs points : List ℕ) (n : ℕ) (work : List ℕ) (ss : List (List Dart)) : Type 0 where
  pub drawn : Drawn s ls nodes segs ss
  pub pointed : Pointed segs points ss
  pub total : n ≡ length ss
  pub planes : 8 * plane s.width s.height ≤ length work
  pub numbers :
      (p : ℕ) → p < s.width * s.height → (label_of (pic s ls) p ≡ OUTSIDE → ⊥)
      → get_or work (5 * plane s.width s.height + p) 0 ≡ get_or (firsts (pic s ls)) p 0

-- there are such segments
pub record Stands (s : Size) (ls nodes segs points : List ℕ) (n : ℕ) (work : List ℕ) : Type 0 where
  pub ss : List (List Dart)
  pub standing : Standing s ls nodes segs points n work ss

-- the records of the faces of ss; of the work words only the planes 0 to 4, 6 and 7 have changed
pub record Assembled (s : Size) (ls : List ℕ) (ss : List (List Dart)) (work refs cons outs : List ℕ) (done : Done) (work' refs' cons' outs' : List ℕ) : Type 0 where
  pub written : AllWritten s.width (faces (pic s ls) ss s.paints) refs cons outs done refs' cons' outs'
  pub changed : Changed 0 (5 * plane s.width s.height) (6 * plane s.width s.height) (2 * plane s.width s.height) work work'

abbrev pub Assembles : Size → List ℕ → List ℕ → List ℕ → List ℕ → ℕ → List ℕ → List ℕ → List ℕ → List ℕ → Done → List ℕ → List ℕ → List ℕ → List ℕ → Type 0
Assembles s ls nodes segs points n work refs cons outs done work' refs' cons' outs' =
    (ss : List (List Dart)) → Standing s ls nodes segs points n work ss → Assembled s ls ss work refs cons outs done work' refs' cons' outs'
