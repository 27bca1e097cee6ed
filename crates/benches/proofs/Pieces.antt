-- The contours of a face as they are listed: they depend only on the sides of its island and their turns.
use Prim.Native.Nat.{ℕ, ◌≤◌}
use mathlib.Core.Path.{◌≡◌, refl, sym, ap, ap₂, subst}
use mathlib.Core.List.{List, ◌∷◌, map, map-map, Memᴰ as In}
use lib.ListN.{length}
use Rattle.rules.specs.Lists.{flat}
use Rattle.rules.specs.Picture.{Picture, OUTSIDE, Dart}
use Rattle.rules.specs.Face.{sides, turn, Face, faces}
use Rattle.benches.specs.Listing.{from_earliest, by_first_step, contours_listed, loop_words, piece_words}
use Rattle.rules.specs.Describes.{Describes}
use Rattle.rules.proofs.Lattice.Frame.{Framed}
use Rattle.rules.proofs.Islands.Members.{IsSide}
use Rattle.rules.proofs.Faces.FaceSides.{face_sides_turn, face_sides_once, face_side, side_face}
use Rattle.benches.proofs.Arranged.{Arranged, arranged, arranged_is, arranged_in, in_arranged, same_arranged}
use Rattle.benches.proofs.Stays.{over, Stays, stays_back, stays_side, stays_turn}

-- the contours of the island whose first pixel is p: cycles of turns, each from its earliest step on and by that step, whose steps are the
-- sides of the island, each once
pub record Bounds (P : Picture) (p : ℕ) (cs : List (List Dart)) : Type 0 where
  pub arranged : Arranged (turn P) cs
  pub side : (a : Dart) → In a (flat cs) → IsSide P p a
  pub whole : (a : Dart) → IsSide P p a → In a (flat cs)

-- an island has one such list
pub one_bounds : {P : Picture} {p : ℕ} {cs ds : List (List Dart)} → Bounds P p cs → Bounds P p ds → cs ≡ ds
one_bounds k j = same_arranged k.arranged j.arranged (λ a i. j.whole a (k.side a i)) (λ a i. k.whole a (j.side a i)) (λ a i. refl)

-- and the same one where it stays
pub stays_bounds : {w h : ℕ} {p q : ℕ → ℕ → ℕ} → Framed (over w h p) → Framed (over w h q) → {n : ℕ} → Stays (over w h p) (over w h q) n
    → {cs ds : List (List Dart)} → Bounds (over w h p) n cs → Bounds (over w h q) n ds → cs ≡ ds
stays_bounds F G k u v =
    same_arranged u.arranged v.arranged (λ a i. v.whole a (stays_side k F G a (u.side a i)))
    (λ a i. u.whole a (stays_side (stays_back k) G F a (v.side a i))) (λ a i. stays_turn k F G a (u.side a i))

-- THE CONTOURS OF A FACE are listed so, whatever segments describe the picture

listed_is : (ss : List (List Dart)) (f : Face) → contours_listed ss f ≡ arranged (map (sides ss) f.contours)
unfolding contours_listed
listed_is ss f = ap by_first_step (sym (map-map from_earliest (sides ss) f.contours))

module _ {P : Picture} (F : Framed P) {ss : List (List Dart)} (D : Describes P ss) {paints : ℕ} (b : paints ≤ OUTSIDE) (f : Face) (i : In f (faces P ss paints)) where
  pub listed_bounds : Bounds P f.first (contours_listed ss f)
  listed_bounds = subst (Bounds P f.first) (sym (listed_is ss f)) (record {
    arranged = arranged_is (face_sides_turn F D b f i) (face_sides_once F D b f i);
    side = λ a j. face_side F D b f i a (arranged_in (map (sides ss) f.contours) a j);
    whole = λ a s. in_arranged (map (sides ss) f.contours) a (side_face F D b f i a s);
  })

-- TWO FACES of an island that stays
module _ {w h : ℕ} {p q : ℕ → ℕ → ℕ} (F : Framed (over w h p)) (G : Framed (over w h q)) {ss ts : List (List Dart)} (D : Describes (over w h p) ss) (E : Describes (over w h q) ts)
    {paints : ℕ} (b : paints ≤ OUTSIDE) (f g : Face) (i : In f (faces (over w h p) ss paints)) (j : In g (faces (over w h q) ts paints))
    (e : g.first ≡ f.first) (k : Stays (over w h p) (over w h q) f.first) where
  pub same_contours : contours_listed ss f ≡ contours_listed ts g
  same_contours = stays_bounds F G k (listed_bounds F D b f i) (subst (λ n. Bounds (over w h q) n (contours_listed ts g)) e (listed_bounds G E b g j))

  pub same_piece : g.region ≡ f.region → piece_words ss f ≡ piece_words ts g
  unfolding piece_words
  same_piece r = ap₂ (λ n cs. n ∷ length cs ∷ flat (map loop_words cs)) (sym r) same_contours
