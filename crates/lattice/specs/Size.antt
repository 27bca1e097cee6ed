-- What a caller shows of a size and its labels, and the picture that they make.
use Rattle.std.specs.Prelude.{◌≡◌, ℕ, ◌*◌, ◌≤◌, List, length}
use Rattle.rules.specs.Picture.{Picture, picture}
use Rattle.lattice.specs.declared.Size.{Size}

-- rows and places that no product or sum of theirs leaves a machine word
pub record Small (across x y : ℕ) : Type 0 where
  pub wide : across ≤ 16385
  pub right : x ≤ 16385
  pub low : y ≤ 16385

-- sides that a call accepts
pub record Sides (s : Size) : Type 0 where
  pub wide : s.width ≤ 16384
  pub high : s.height ≤ 16384

-- and labels of the right count
pub record Map (s : Size) (ls : List ℕ) : Type 0 where
  pub wide : s.width ≤ 16384
  pub high : s.height ≤ 16384
  pub count : length ls ≡ s.width * s.height

-- a corner of the frame
pub record Corner (s : Size) (x y : ℕ) : Type 0 where
  pub across : x ≤ s.width
  pub down : y ≤ s.height

abbrev pub pic : Size → List ℕ → Picture
pic s ls = picture s.width s.height s.bound ls
