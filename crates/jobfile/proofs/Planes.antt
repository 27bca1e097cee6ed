-- The words that the reader keeps while it paints: the region on each side of each segment, and at each upright edge the label on its east.
use Prim.Native.Nat.{ℕ, suc, ◌*◌, ◌<◌, ◌≤◌}
use mathlib.Core.Bool.{Bool, true, false, cond}
use mathlib.Core.Path.{◌≡◌, refl, sym, subst}
use mathlib.Core.Logic.{◌⊎◌, inl, inr}
use mathlib.Core.List.{List, [], Memᴰ as In}
use native.Mathlib.Omega.{arith}
use lib.ListN.{length, get_or}
use Rattle.rules.specs.Lists.{flat}
use Rattle.rules.specs.Picture.{Picture, OUTSIDE, Dart, dart, to_x, to_y, turned, left, right, left_at, crack}
use Rattle.rules.specs.declared.Dir.TheVariants.{N, S}
use Rattle.rules.specs.Describes.{Describes}
use Rattle.rules.specs.Face.{steps, region, Face, faces, contours}
use Rattle.rules.specs.Records.{contours_of}
use Rattle.rules.proofs.Lattice.Frame.{Framed}
use Rattle.rules.proofs.Lattice.Darts.{uncrack_same}
use Rattle.rules.proofs.Ground.Lists.{flat_in, in_flat, flat_map_in, flat_at}
use Rattle.rules.proofs.References.Steps.{forward_steps, reversed_steps}
use Rattle.rules.proofs.References.Backwards.{in_backwards}
use Rattle.rules.proofs.References.Ends.{step_left}
use Rattle.rules.proofs.Contours.Painted.{painted}
use Rattle.rules.proofs.Faces.Faced.{faced}
use Rattle.jobfile.proofs.Small.{face_reference}

module _ {P : Picture} (F : Framed P) {ss : List (List Dart)} (D : Describes P ss) where
  -- SIDES: a reference of a painted region is listed in a face of that region, and no other is listed
  module _ {paints : ℕ} (b : paints ≤ OUTSIDE) where
    pub listed : (r : ℕ) → r < 2 * length ss → region P ss r < paints → (f : Face) × In f (faces P ss paints) × In r (flat f.contours) × (f.region ≡ region P ss r)
    unfolding contours_of
    listed r h l =
        let k = faced F D b in
        let c = flat_in (contours P ss paints) r ((painted F D paints b).whole r h l) in
        let f = flat_map_in (λ f. f.contours) (faces P ss paints) c.0 (k.arranged.onto c.0 c.1) in
        (f.0, f.1, in_flat f.0.contours c.0 r f.2 c.2, sym ((k.face f.0 f.1).references c.0 f.2 r c.2))

    pub listed_painted : (f : Face) → In f (faces P ss paints) → (r : ℕ) → In r (flat f.contours) → (r < 2 * length ss) × (region P ss r ≡ f.region) × (region P ss r < paints)
    listed_painted f i r j =
        let q = face_reference F D b f i r j in
        let e = q.1 in
        let l = ((faced F D b).face f i).painted in
        (q.0, q.1, omega arith)

  -- EDGES: the label on the east of an upright step of the segment i
  pub south_east : (i x y : ℕ) → i < length ss → In (dart x y S) (get_or ss i []) → left P (dart x y S) ≡ region P ss (2 * i)
  south_east i x y h j = step_left F D (dart x y S) (2 * i) (omega arith) (subst (In (dart x y S)) (sym (forward_steps ss i)) j)

  pub north_east : (i x y : ℕ) → i < length ss → In (dart x (suc y) N) (get_or ss i []) → left P (dart x y S) ≡ region P ss (suc (2 * i))
  unfolding turned to_x to_y
  north_east i x y h j =
      let k : In (dart x (suc y) N) (steps_of i) = subst (In (dart x (suc y) N)) (sym (forward_steps ss i)) j in
      step_left F D (dart x y S) (suc (2 * i)) (omega arith) (subst (In (dart x y S)) (sym (reversed_steps ss i)) (in_backwards (steps_of i) (dart x (suc y) N) k))
    where
      steps_of : ℕ → List Dart
      steps_of i = steps ss (2 * i)

  -- an upright crack is a step of a segment, one way or the other
  pub upright : (x y : ℕ) → crack P (dart x y S) ≡ true → (i : ℕ) × (i < length ss) × (In (dart x y S) (get_or ss i []) ⊎ In (dart x (suc y) N) (get_or ss i []))
  unfolding turned to_x to_y
  upright x y c = go (D.whole (dart x y S) c)
    where
      go : In (dart x y S) (flat ss) ⊎ In (dart x (suc y) N) (flat ss) → (i : ℕ) × (i < length ss) × (In (dart x y S) (get_or ss i []) ⊎ In (dart x (suc y) N) (get_or ss i []))
      go (inl j) = let r = flat_at ss (dart x y S) j in (r.0, r.1, inl r.2)
      go (inr j) = let r = flat_at ss (dart x (suc y) N) j in (r.0, r.1, inr r.2)

-- FILLING a row: the label on the edge's east where there is a crack, else the one before
pub fill_next : (P : Picture) (x y : ℕ) → P.nw (suc x) (suc y) ≡ cond (crack P (dart x y S)) (left P (dart x y S)) (P.nw x (suc y))
unfolding left right left_at
fill_next P x y = go (crack P (dart x y S)) refl
  where
    go : (t : Bool) → crack P (dart x y S) ≡ t → P.nw (suc x) (suc y) ≡ cond t (P.nw (suc x) (suc y)) (P.nw x (suc y))
    go true c = refl
    go false c = uncrack_same P (dart x y S) c
