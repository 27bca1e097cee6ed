-- DEMAND 2. On every accepted map the stores hold the rules' words; with it what a shop relies on: every crack is in one segment, once, every painted
-- side in one contour of one face, once, the counts obey their equations, and there is a face for each painted island and no other,
-- with the island's first pixel in its record.
use Prim.Native.Nat.{ℕ, ◌+◌, ◌*◌, ◌<◌}
use mathlib.Core.Bool.{true}
use mathlib.Core.Path.{◌≡◌, sym, ap, subst}
use mathlib.Core.List.{List}
use lib.ListN.{length, get_or}
use Rattle.rules.specs.Picture.{Dart, left as left_label, crack}
use Rattle.rules.specs.Graph.{segments}
use Rattle.rules.specs.Face.{Face, faces, island}
use Rattle.rules.specs.Describes.{Describes}
use Rattle.rules.specs.Calls.{Map, picture_of, CutList, cut_list, Answer}
use Rattle.rules.proofs.Lattice.Frame.{picture_framed}
use Rattle.rules.proofs.Tracing.Partition.{describes}
use Rattle.rules.proofs.Faces.Faced.{Faced, Place, faced, place, one_place}
use Rattle.rules.proofs.CutList.Placed.{Placed, placed_words}
use Rattle.rules.proofs.CutList.Counts.{Counts, Bounds, counts, bounds}
use Rattle.calls.proofs.Called.{Called, left, accepted, counts_are, left_is}

pub record Held (m : Map) (answer : Answer) (l : CutList) : Type 0 where
  -- the words of each store up to its count
  pub words : l ≡ cut_list m
  -- each crack is one step of one segment, once
  pub cracks : Describes (picture_of m) (segments (picture_of m))
  -- each painted side is a side of a contour of a face, that of its own island, and of no other
  pub sides : (a : Dart) → crack (picture_of m) a ≡ true → left_label (picture_of m) a < m.paints
      → (f : Face) × (c : List ℕ) × Place (picture_of m) (segments (picture_of m)) (faces (picture_of m) (segments (picture_of m)) m.paints) a f c
      × (f.first ≡ island (picture_of m) a) × (f.region ≡ left_label (picture_of m) a)
  pub once : (a : Dart) (f g : Face) (c d : List ℕ)
      → Place (picture_of m) (segments (picture_of m)) (faces (picture_of m) (segments (picture_of m)) m.paints) a f c
      → Place (picture_of m) (segments (picture_of m)) (faces (picture_of m) (segments (picture_of m)) m.paints) a g d → (f ≡ g) × (c ≡ d)
  -- a face for each painted island, and no other; in order; with all contours
  pub faced : Faced (picture_of m) (segments (picture_of m)) m.paints (faces (picture_of m) (segments (picture_of m)) m.paints)
  -- the last two words of each face's record: the first pixel, row by row, of its island
  pub pixels : (k : ℕ) (none : Face) → k < length (faces (picture_of m) (segments (picture_of m)) m.paints)
      → Placed (picture_of m) (segments (picture_of m)) (get_or (faces (picture_of m) (segments (picture_of m)) m.paints) k none) (get_or l.faces (5 * k + 3) 0) (get_or l.faces (5 * k + 4) 0)
  -- the counts are those of the records, steps = cracks, points = cracks + segments
  pub counts : Counts (picture_of m) (segments (picture_of m)) (faces (picture_of m) (segments (picture_of m)) m.paints) answer
  pub bounds : Bounds (picture_of m) answer

-- THE DEMAND
pub held : {m : Map} (k : Called m) → Held m k.answer (left k)
unfolding cut_list
held {m} k =
    let P = picture_of m in
    let F = picture_framed m.width m.height m.bound m.labels in
    let D = describes F in
    let b = (accepted k).word in
    record {
      words = left_is k;
      cracks = D;
      sides = place F D b;
      once = one_place F D b;
      faced = faced F D b;
      pixels = λ i none h.
          subst (λ (ws : List ℕ). Placed P (segments P) (get_or (faces P (segments P) m.paints) i none) (get_or ws (5 * i + 3) 0) (get_or ws (5 * i + 4) 0))
          (sym (ap (λ l. l.faces) (left_is k))) (placed_words F D b i none h);
      counts = subst (Counts P (segments P) (faces P (segments P) m.paints)) (sym (counts_are k)) (counts F D (faces P (segments P) m.paints) 0);
      bounds = subst (Bounds P) (sym (counts_are k)) (bounds F D b 0);
    }
