-- Two maps as two benches and a retoucher see them (docs/RULES.md, #110 and #114).
use Rattle.std.specs.Prelude.{ℕ, suc, ◌*◌, ◌/◌, ◌%◌, ◌<◌, ◌≤◌, ◌≡◌, ◌↔◌, get_or}
use Rattle.rules.specs.Graph.{segments}
use Rattle.rules.specs.Face.{firsts, Face}
use Rattle.rules.specs.Calls.{Map, picture_of, label_at}
use Rattle.benches.specs.Listing.{contours_listed, piece_words}

-- of equal size and paint count
pub record SameShape (m n : Map) : Type 0 where
  pub width : m.width ≡ n.width
  pub height : m.height ≡ n.height
  pub paints : m.paints ≡ n.paints

-- TWO BENCHES: the maps agree on where a label lies
abbrev pub AgreeOn : Map → Map → ℕ → Type 0
AgreeOn m n l = (x y : ℕ) → x < m.width → y < m.height → (label_at m x y ≡ l) ↔ (label_at n x y ≡ l)

-- ONE PIXEL: they differ at most in the pixel c
abbrev pub ButFor : Map → Map → ℕ → Type 0
ButFor m n c = (k : ℕ) → k < m.width * m.height → (k ≡ c → ⊥) → get_or m.labels k 0 ≡ get_or n.labels k 0

-- the pixel p is q, or touches it, even at a corner
pub record Touches (w p q : ℕ) : Type 0 where
  pub right : q % w ≤ suc (p % w)
  pub left : p % w ≤ suc (q % w)
  pub down : q / w ≤ suc (p / w)
  pub up : p / w ≤ suc (q / w)

-- the pixel r belongs to the island of a face
pub record Covers (m : Map) (f : Face) (r : ℕ) : Type 0 where
  pub on : r < m.width * m.height
  pub first : get_or (firsts (picture_of m)) r 0 ≡ f.first

-- the island of a face neither contains c nor touches it
abbrev pub Untouched : Map → ℕ → Face → Type 0
Untouched m c f = (r : ℕ) → Covers m f r → Touches m.width c r → ⊥

-- the same island, by its first pixel and by all its pixels, with the same label, contours and listing
pub record SamePiece (m n : Map) (f g : Face) : Type 0 where
  pub first : g.first ≡ f.first
  pub pixels : (r : ℕ) → Covers m f r ↔ Covers n g r
  pub region : g.region ≡ f.region
  pub contours : contours_listed (segments (picture_of n)) g ≡ contours_listed (segments (picture_of m)) f
  pub words : piece_words (segments (picture_of n)) g ≡ piece_words (segments (picture_of m)) f
