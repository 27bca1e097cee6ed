-- What `walk` asks and ensures.
use Rattle.std.specs.Prelude.{ℕ, pred, ◌+◌, ◌*◌, true, ◌≡◌, List, [], ◌∷◌, length, get_or}
use Rattle.std.proofs.lemmas.List.Edits.{sets}
use Rattle.rules.specs.Picture.{Dart, crack, ahead_x, ahead_y}
use Rattle.rules.specs.Graph.{walk, fuel}
use Rattle.rules.specs.Face.{no_dart}
use Rattle.lattice.specs.declared.Size.{Size}
use Rattle.lattice.specs.declared.Walker.{Walker}
use Rattle.lattice.specs.Size.{Map, pic}
use Rattle.lattice.specs.Walker.{dart_of}
use Rattle.graph.specs.declared.Walked.{Walked}
use Rattle.graph.specs.Planes.{mark_all}

-- the steps of the walk from w
abbrev pub steps_of : Size → List ℕ → Walker → List Dart
steps_of s ls w = walk (pic s ls) (fuel (pic s ls)) w.x w.y (dart_of w)

-- the corners that steps lead to, as words
abbrev pub reached : List Dart → List ℕ
reached [] = []
reached (a ∷ more) = ahead_x a ∷ ahead_y a ∷ reached more

abbrev pub end_of : List Dart → Dart
end_of l = get_or l (pred (length l)) no_dart

-- a crack of the map
pub record Starts (s : Size) (ls : List ℕ) (w : Walker) : Type 0 where
  pub map : Map s ls
  pub crack : crack (pic s ls) (dart_of w) ≡ true

pub record Went (s : Size) (ls work points : List ℕ) (at : ℕ) (w : Walker) (work' points' : List ℕ) (r : Walked) : Type 0 where
  pub count : r.steps ≡ length (steps_of s ls w)
  pub x : r.to.x ≡ ahead_x (end_of (steps_of s ls w))
  pub y : r.to.y ≡ ahead_y (end_of (steps_of s ls w))
  pub d : r.to.d ≡ (end_of (steps_of s ls w)).d
  pub words : work' ≡ mark_all s.width s.height work (steps_of s ls w)
  pub stored : points' ≡ sets points (2 * (at + 1)) (reached (steps_of s ls w))
