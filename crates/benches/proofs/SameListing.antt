-- Two pictures of one size in which the painted labels that are named lie at the same pixels have the same listing.
use Prim.Native.Nat.{ℕ, ◌<◌, ◌≤◌}
use mathlib.Core.Bool.{Bool}
use mathlib.Core.Path.{◌≡◌, refl, sym, ap, ◌∙◌}
use mathlib.Core.Logic.{◌↔◌}
use mathlib.Core.List.Memᴰ.{map as in_map}
use mathlib.Core.List.{List, ◌∷◌, map, map-map, Memᴰ as In}
use native.Mathlib.Omega.{arith}
use lib.ListN.{length}
use Rattle.rules.specs.Lists.{keep, flat, among}
use Rattle.rules.specs.Picture.{Picture, OUTSIDE, Dart}
use Rattle.rules.specs.Face.{label_of, contours, face, faces}
use Rattle.rules.specs.Describes.{Describes}
use Rattle.benches.specs.Listing.{loop_words, piece_words, listing_words}
use Rattle.rules.proofs.Ground.Lists.{keep_in, in_keep, keep_map, map_same, among_in, in_among}
use Rattle.rules.proofs.Ground.Order.{Before, ordered_keep}
use Rattle.rules.proofs.Ground.Rearranging.{ordered_as, ordered_one, before_asym, before_as}
use Rattle.rules.proofs.Lattice.Frame.{Framed}
use Rattle.rules.proofs.Islands.Joined.{here as stop}
use Rattle.rules.proofs.Faces.FirstPixels.{First, first_pixels, first_in_lem, in_firsts, firsts_ordered}
use Rattle.benches.proofs.Stays.{over, Stays, stays_label, stays_firsts}
use Rattle.benches.proofs.Pieces.{Bounds, listed_bounds, one_bounds, same_piece}

-- OVER ANY SEGMENTS that describe a picture

abbrev pub is_named : Picture → List ℕ → ℕ → Bool
is_named P named p = among (label_of P p) named

-- the first pixels of the painted islands whose labels are named, in the order of the faces
abbrev pub named_firsts : Picture → ℕ → List ℕ → List ℕ
named_firsts P paints named = keep (is_named P named) (first_pixels P paints)

pub record NamedFirst (P : Picture) (paints : ℕ) (names : List ℕ) (c : ℕ) : Type 0 where
  pub listed : In c (first_pixels P paints)
  pub first : First P paints c
  pub named : In (label_of P c) names

pub named_first : (P : Picture) (paints : ℕ) (named : List ℕ) (c : ℕ) → In c (named_firsts P paints named) → NamedFirst P paints named c
named_first P paints named c i =
    let r = keep_in (is_named P named) (first_pixels P paints) c i in
    record { listed = r.0; first = first_in_lem P paints c r.0; named = among_in (label_of P c) named r.1 }

listing_is : (P : Picture) (ss : List (List Dart)) (paints : ℕ) (named : List ℕ)
    → listing_words ss named (faces P ss paints) ≡ flat (map (λ p. piece_words ss (face P ss (contours P ss paints) p)) (named_firsts P paints named))
unfolding listing_words faces face
listing_is P ss paints named =
    let f = face P ss (contours P ss paints) in
    ap (λ l. flat (map (piece_words ss) l)) (keep_map (λ f. among f.region named) f (first_pixels P paints))
    ∙ ap flat (map-map (piece_words ss) f (named_firsts P paints named))

-- THE LISTING WITHOUT SEGMENTS: whatever gives the contours of each of these islands gives the listing
abbrev pub island_words : Picture → (ℕ → List (List Dart)) → ℕ → List ℕ
island_words P cs p = label_of P p ∷ length (cs p) ∷ flat (map loop_words (cs p))

pub listing_by : {P : Picture} (F : Framed P) {ss : List (List Dart)} (D : Describes P ss) {paints : ℕ} → paints ≤ OUTSIDE → (named : List ℕ)
    → (cs : ℕ → List (List Dart)) → ((p : ℕ) → In p (named_firsts P paints named) → Bounds P p (cs p))
    → listing_words ss named (faces P ss paints) ≡ flat (map (island_words P cs) (named_firsts P paints named))
unfolding faces face piece_words
listing_by {P} F {ss} D {paints} b named cs o =
    let f = face P ss (contours P ss paints) in
    listing_is P ss paints named
    ∙ ap flat (map_same (λ p. piece_words ss (f p)) (island_words P cs) (named_firsts P paints named)
    (λ p i. ap (λ c. label_of P p ∷ length c ∷ flat (map loop_words c))
    (one_bounds (listed_bounds F D b (f p) (in_map f (named_first P paints named p i).listed)) (o p i))))

-- TWO PICTURES of one size in which each painted label that is named lies at the same pixels

abbrev pub SamePlaces : Picture → Picture → ℕ → Type 0
SamePlaces P Q l = (x y : ℕ) → (P.nw x y ≡ l) ↔ (Q.nw x y ≡ l)

module _ {w h : ℕ} {p q : ℕ → ℕ → ℕ} (F : Framed (over w h p)) (G : Framed (over w h q)) (paints : ℕ) (named : List ℕ)
    (s : (l : ℕ) → In l named → l < paints → SamePlaces (over w h p) (over w h q) l) where
  named_stays : (c : ℕ) → NamedFirst (over w h p) paints named c → Stays (over w h p) (over w h q) c
  named_stays c f =
      let t = s (label_of (over w h p) c) f.named f.first.painted in
      record { into = λ r x y j n e. (t x y).0 e; onto = λ r x y j n e. (t x y).1 e }

  same_label : (c : ℕ) → In c (named_firsts (over w h p) paints named) → label_of (over w h q) c ≡ label_of (over w h p) c
  same_label c i = stays_label (named_stays c (named_first (over w h p) paints named c i)) c stop

  named_over : (c : ℕ) → In c (named_firsts (over w h p) paints named) → In c (named_firsts (over w h q) paints named)
  named_over c i =
      let r = named_first (over w h p) paints named c i in
      let f = r.first in
      let e = same_label c i in
      let z = f.painted in
      in_keep (is_named (over w h q) named) (first_pixels (over w h q) paints) c (ap (λ l. among l named) e ∙ in_among (label_of (over w h p) c) named r.named)
      (in_firsts (over w h q) paints c (record { on = f.on; painted = omega arith; least = stays_firsts (named_stays c r) F G c f.on stop ∙ f.least }))

module _ {w h : ℕ} {p q : ℕ → ℕ → ℕ} (F : Framed (over w h p)) (G : Framed (over w h q)) (paints : ℕ) (named : List ℕ)
    (s : (l : ℕ) → In l named → l < paints → SamePlaces (over w h p) (over w h q) l) where
  abbrev P : Picture
  P = over w h p

  abbrev Q : Picture
  Q = over w h q

  back : (l : ℕ) → In l named → l < paints → SamePlaces Q P l
  back l i k x y = ((s l i k x y).1, (s l i k x y).0)

  -- the same islands, in the same order
  same_firsts : named_firsts P paints named ≡ named_firsts Q paints named
  same_firsts =
      ordered_one (Before (label_of P)) (before_asym (label_of P)) (named_firsts P paints named) (named_firsts Q paints named)
      (ordered_keep (Before (label_of P)) (is_named P named) (first_pixels P paints) (firsts_ordered P paints))
      (ordered_as (Before (label_of Q)) (Before (label_of P)) (named_firsts Q paints named)
      (λ a b i j. before_as (label_of Q) (label_of P) a b (sym (same_label G F paints named back a i)) (sym (same_label G F paints named back b j)))
      (ordered_keep (Before (label_of Q)) (is_named Q named) (first_pixels Q paints) (firsts_ordered Q paints)))
      (named_over F G paints named s) (named_over G F paints named back)

  module _ {ss ts : List (List Dart)} (D : Describes P ss) (E : Describes Q ts) (b : paints ≤ OUTSIDE) where
    piece : (c : ℕ) → In c (named_firsts P paints named)
        → piece_words ss (face P ss (contours P ss paints) c) ≡ piece_words ts (face Q ts (contours Q ts paints) c)
    unfolding faces face
    piece c i =
        let f = face P ss (contours P ss paints) in
        let g = face Q ts (contours Q ts paints) in
        let r = named_first P paints named c i in
        let o = named_first Q paints named c (named_over F G paints named s c i) in
        same_piece F G D E b (f c) (g c) (in_map f r.listed) (in_map g o.listed) refl (named_stays F G paints named s c r) (same_label F G paints named s c i)

    pub same_listing : listing_words ss named (faces P ss paints) ≡ listing_words ts named (faces Q ts paints)
    same_listing =
        let g : ℕ → List ℕ = λ c. piece_words ts (face Q ts (contours Q ts paints) c) in
        listing_is P ss paints named
        ∙ ap flat (map_same (λ c. piece_words ss (face P ss (contours P ss paints) c)) g (named_firsts P paints named) piece)
        ∙ ap (λ l. flat (map g l)) same_firsts
        ∙ sym (listing_is Q ts paints named)
