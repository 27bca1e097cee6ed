-- One pixel touched up (docs/RULES.md, #114): a painted island that neither contains the pixel nor touches it stays, with its label and contours.
use Prim.Native.Nat.{ℕ, suc, ◌+◌, ◌*◌, ◌/◌, ◌%◌, ◌≤◌}
use mathlib.Core.Path.{◌≡◌, refl, sym, ap, ap₂, ◌∙◌, subst, subst₃}
use mathlib.Core.List.{List, Memᴰ as In}
use native.Mathlib.Omega.{arith}
use lib.ListN.{length}
use Rattle.rules.specs.Picture.{Picture, picture, seen, OUTSIDE, Dart}
use Rattle.rules.specs.Graph.{segments}
use Rattle.rules.specs.Face.{label_of, Face, faces}
use Rattle.rules.specs.Describes.{Describes}
use Rattle.rules.specs.Calls.{Map, picture_of, Accepted}
use Rattle.benches.specs.Listing.{contours_listed, piece_words, faces_of}
use Rattle.benches.specs.Benches.{SameShape, ButFor, Touches, Covers, Untouched, SamePiece}
use Rattle.rules.proofs.Lattice.Frame.{Framed, picture_framed}
use Rattle.rules.proofs.Tracing.Partition.{describes}
use Rattle.rules.proofs.Islands.Pixels.{pixel_mod, pixel_div, pixel_in_lem}
use Rattle.rules.proofs.Islands.Joined.{Joined, joined_in, here as stop}
use Rattle.rules.proofs.Islands.Firsts.{firsts_same}
use Rattle.rules.proofs.Islands.Members.{pixels_of, own, in_own}
use Rattle.rules.proofs.Faces.Faced.{IsFace, faced}
use Rattle.benches.proofs.Stays.{over, Near, Stays, stays_label, stays_firsts, stays_pixels}
use Rattle.benches.proofs.Pieces.{same_contours, same_piece}
use Rattle.benches.proofs.MapPairs.{everywhere}

-- the same island of two pictures, over any segments
pub record SameIsland (P Q : Picture) (ss ts : List (List Dart)) (f g : Face) : Type 0 where
  pub first : g.first ≡ f.first
  pub pixels : pixels_of Q g.first ≡ pixels_of P f.first
  pub region : g.region ≡ f.region
  pub contours : contours_listed ts g ≡ contours_listed ss f
  pub words : piece_words ts g ≡ piece_words ss f

-- OVER TWO PICTURES of one size that differ at most at the pixel c, and any segments that describe them

module _ {w h : ℕ} {p q : ℕ → ℕ → ℕ} (F : Framed (over w h p)) (G : Framed (over w h q)) {ss ts : List (List Dart)} (D : Describes (over w h p) ss) (E : Describes (over w h q) ts)
    {paints : ℕ} (b : paints ≤ OUTSIDE) (c : ℕ) (d : (x y : ℕ) → (x ≡ suc (c % w) → y ≡ suc (c / w) → ⊥) → p x y ≡ q x y)
    (f : Face) (i : In f (faces (over w h p) ss paints)) (far : (r : ℕ) → In r (pixels_of (over w h p) f.first) → Touches w c r → ⊥) where
  is_face : IsFace (over w h p) ss paints f
  is_face = (faced F D b).face f i

  off : (r x y : ℕ) → Joined (over w h p) f.first r → Near w r x y → p x y ≡ q x y
  off r x y j n =
      d x y (λ u v.
      far r (in_own (over w h p) f.first r (joined_in is_face.on j) (sym (firsts_same (over w h p) F f.first r is_face.on j) ∙ is_face.least))
      (record { right = omega (arith, n.west); left = omega (arith, n.east); down = omega (arith, n.north); up = omega (arith, n.south) }))

  untouched : Stays (over w h p) (over w h q) f.first
  untouched = record { into = λ r x y j n e. sym (off r x y j n) ∙ e; onto = λ r x y j n e. off r x y j n ∙ e }

  pub untouched_piece : (g : Face) × In g (faces (over w h q) ts paints) × SameIsland (over w h p) (over w h q) ss ts f g
  untouched_piece =
      let e = stays_label untouched f.first stop in
      let z = is_face.label in
      let l = is_face.painted in
      let r = (faced G E b).islands f.first is_face.on (omega arith) in
      let g = r.0 in
      let o : g.first ≡ f.first = r.2 ∙ stays_firsts untouched F G f.first is_face.on stop ∙ is_face.least in
      let n : g.region ≡ f.region = sym ((faced G E b).face g r.1).label ∙ ap (label_of (over w h q)) o ∙ e ∙ z in (
        g,
        r.1,
        record {
          first = o;
          pixels = ap (pixels_of (over w h q)) o ∙ stays_pixels F G untouched;
          region = n;
          contours = sym (same_contours F G D E b f g i r.1 o untouched);
          words = sym (same_piece F G D E b f g i r.1 o untouched n);
        },
      )

-- OVER TWO MAPS, read in the same mode

covers_in : (m : Map) (f : Face) (r : ℕ) → Covers m f r → In r (pixels_of (picture_of m) f.first)
unfolding picture
covers_in m f r k = in_own (picture_of m) f.first r k.on k.first

in_covers : (m : Map) (f : Face) (r : ℕ) → In r (pixels_of (picture_of m) f.first) → Covers m f r
unfolding picture
in_covers m f r i = let k = own (picture_of m) f.first r i in record { on = k.0; first = k.1 }

module _ (m n : Map) (a : Accepted m) (b : Accepted n) (e : SameShape m n) (o : m.bound ≡ n.bound) (c : ℕ) (d : ButFor m n c) (f : Face) (i : In f (faces_of m)) (far : Untouched m c f) where
  same_island : (g : Face) × In g (faces_of n) × SameIsland (picture_of m) (picture_of n) (segments (picture_of m)) (segments (picture_of n)) f g
  unfolding picture
  same_island =
      let w = m.width in
      let h = m.height in
      let ls = m.labels in
      let ms = n.labels in
      let size : length ms ≡ w * h = b.size ∙ sym (ap₂ (λ u v. u * v) e.width e.height) in
      let same : (x y : ℕ) → (x ≡ suc (c % w) → y ≡ suc (c / w) → ⊥) → (picture w h m.bound ls).nw x y ≡ (picture w h n.bound ms).nw x y =
      λ x y u. everywhere w h m.bound n.bound ls ms a.size size (λ s t. s ≡ t) refl x y
      (λ s t p q hs ht. ap₂ seen o (d (t * w + s) (pixel_in_lem w h s t hs ht)
      (λ z. u (p ∙ ap suc (sym (pixel_mod w h s t hs ht) ∙ ap (λ k. k % w) z)) (q ∙ ap suc (sym (pixel_div w h s t hs ht) ∙ ap (λ k. k / w) z))))) in
      let F = picture_framed w h m.bound ls in
      let G = picture_framed w h n.bound ms in
      subst₃ (λ w h p.
      let Q = picture w h n.bound ms in
      (g : Face) × In g (faces Q (segments Q) p) × SameIsland (picture_of m) Q (segments (picture_of m)) (segments Q) f g)
      e.width e.height e.paints
      (untouched_piece F G (describes F) (describes G) a.word c same f i (λ r k. far r (in_covers m f r k)))

  pub one_pixel : (g : Face) × In g (faces_of n) × SamePiece m n f g
  one_pixel =
      let r = same_island in
      let g = r.0 in
      let s = r.2 in (
        g,
        r.1,
        record {
          first = s.first;
          pixels = λ q. (
            λ k. in_covers n g q (subst (In q) (sym s.pixels) (covers_in m f q k)),
            λ k. in_covers m f q (subst (In q) s.pixels (covers_in n g q k)),
          );
          region = s.region;
          contours = s.contours;
          words = s.words;
        },
      )
