-- The faces of a picture paint it again: from the sides of its faces alone every pixel gets its own label back.
use Prim.Native.Nat.{ℕ, zero, suc, ◌<◌, ◌≤◌}
use mathlib.Core.Bool.{Bool, true, false, false≢true, true≢false}
use mathlib.Core.Path.{◌≡◌, refl, sym, ap, ◌∙◌, subst}
use mathlib.Core.Logic.{◌⊎◌, inl, inr}
use mathlib.Core.List.Memᴰ.{head as here}
use mathlib.Core.List.Memᴰ.{map as in_map}
use mathlib.Core.List.Memᴰ.{not-nil}
use mathlib.Core.List.Memᴰ.{of_map}
use mathlib.Core.List.Memᴰ.{tail as there}
use mathlib.Core.List.{List, [], ◌∷◌, map, Memᴰ as In}
use native.Mathlib.Omega.{arith}
use Rattle.rules.specs.Lists.{flat}
use Rattle.rules.specs.Picture.{Picture, OUTSIDE, Dart, dart, same_dart, left_at, left, right, crack}
use Rattle.rules.specs.declared.Dir.TheVariants.{N, S}
use Rattle.rules.specs.Face.{steps, sides, Face, faces}
use Rattle.rules.specs.Describes.{Describes}
use Rattle.rules.proofs.Lattice.Frame.{Framed}
use Rattle.rules.proofs.Lattice.Darts.{same_path, same_refl, crack_differs, differs_crack, uncrack_same}
use Rattle.rules.proofs.Ground.Lists.{in_flat, flat_in}
use Rattle.rules.proofs.Contours.Sides.{sides_in, in_sides, side_of}
use Rattle.rules.proofs.Contours.Painted.{painted}
use Rattle.rules.proofs.Faces.Faced.{faced}
use Rattle.jobfile.specs.Painted.{Patch, has, bordered, region_by, paint_at}

-- A SIDE OF A LIST OF FACES

pub has_in : (a : Dart) (l : List Dart) → has a l ≡ true → In a l
unfolding has
has_in a [] e = absurd (false≢true e)
has_in a (b ∷ l) e = go (same_dart a b) refl e (λ e. has_in a l e)
  where
    go : (t : Bool) → same_dart a b ≡ t → elim t [ true ↦ true | false ↦ has a l ] ≡ true → (has a l ≡ true → In a l) → In a (b ∷ l)
    go true s e f = here (same_path a b s)
    go false s e f = there (f e)

pub in_has : (a : Dart) (l : List Dart) → In a l → has a l ≡ true
unfolding has
in_has a [] i = absurd (not-nil i)
in_has a (b ∷ l) (here e) = rw (ap (same_dart a) (sym e) ∙ same_refl a, has)
in_has a (b ∷ l) (there i) = go (same_dart a b) (in_has a l i)
  where
    go : (t : Bool) → has a l ≡ true → elim t [ true ↦ true | false ↦ has a l ] ≡ true
    go true e = refl
    go false e = e

-- the first face with the side gives the region
abbrev Bordering : List Patch → Dart → Type 0
Bordering fs a = (f : Patch) × In f fs × In a f.sides × (region_by fs a ≡ f.region)

bordered_by : (fs : List Patch) (a : Dart) → bordered fs a ≡ true → Bordering fs a
unfolding bordered region_by
bordered_by [] a e = absurd (false≢true e)
bordered_by (f ∷ fs) a e = go (has a f.sides) refl e (λ e. bordered_by fs a e)
  where
    go : (t : Bool) → has a f.sides ≡ t → elim t [ true ↦ true | false ↦ bordered fs a ] ≡ true → (bordered fs a ≡ true → Bordering fs a)
        → (g : Patch) × In g (f ∷ fs) × In a g.sides × (elim t [ true ↦ f.region | false ↦ region_by fs a ] ≡ g.region)
    go true h e k = (f, here refl, has_in a f.sides h, refl)
    go false h e k = let r = k e in (r.0, there r.1, r.2, r.3)

in_bordered : (fs : List Patch) (a : Dart) (f : Patch) → In f fs → In a f.sides → bordered fs a ≡ true
unfolding bordered
in_bordered [] a f i j = absurd (not-nil i)
in_bordered (g ∷ fs) a f (here e) j = rw (in_has a g.sides (subst (λ f. In a f.sides) e j), bordered)
in_bordered (g ∷ fs) a f (there i) j = go (has a g.sides) (in_bordered fs a f i j)
  where
    go : (t : Bool) → bordered fs a ≡ true → elim t [ true ↦ true | false ↦ bordered fs a ] ≡ true
    go true e = refl
    go false e = e

none_bordered : (fs : List Patch) (a : Dart) → bordered fs a ≡ false → region_by fs a ≡ OUTSIDE
unfolding bordered region_by
none_bordered [] a e = refl
none_bordered (f ∷ fs) a e = go (has a f.sides) e (λ e. none_bordered fs a e)
  where
    go : (t : Bool) → elim t [ true ↦ true | false ↦ bordered fs a ] ≡ false → (bordered fs a ≡ false → region_by fs a ≡ OUTSIDE)
        → elim t [ true ↦ f.region | false ↦ region_by fs a ] ≡ OUTSIDE
    go true e k = absurd (true≢false e)
    go false e k = k e

-- the face as its record in a file tells it
unfoldable pub patch : List (List Dart) → Face → Patch
patch ss f = record { region = f.region; sides = flat (map (steps ss) (flat f.contours)) }

-- #107's mode: a label is painted or OUTSIDE
abbrev pub Clean : ℕ → Picture → Type 0
Clean paints P = (x y : ℕ) → (P.nw x y < paints) ⊎ (P.nw x y ≡ OUTSIDE)

module _ {P : Picture} (F : Framed P) {ss : List (List Dart)} (D : Describes P ss) {paints : ℕ} (b : paints ≤ OUTSIDE) (C : Clean paints P) where
  abbrev ps : List Patch
  ps = map (patch ss) (faces P ss paints)

  -- a side of a face is a crack with the face's region, a painted one, on its left
  side : (a : Dart) → bordered ps a ≡ true → (crack P a ≡ true) × (left P a < paints) × (region_by ps a ≡ left P a)
  unfolding patch sides
  side a e =
      let k = bordered_by ps a e in
      let q = of_map (patch ss) (faces P ss paints) k.1 in
      let f = q.0 in
      let i = (faced F D b).face f q.1 in
      let j : In a (flat (map (steps ss) (flat f.contours))) = subst (λ g. In a g.sides) (sym q.2) k.2 in
      let r = sides_in ss (flat f.contours) a j in
      let c = flat_in f.contours r.0 r.1 in
      let m = in_sides ss c.0 a r.0 c.2 r.2 in
      let o = side_of F D paints _ (painted F D paints b) c.0 (i.contour c.0 c.1) a m in
      (o.0, o.1, k.3 ∙ ap (λ g. g.region) (sym q.2) ∙ sym (i.lefts c.0 c.1 a m))

  -- and each such crack is a side
  sided : (a : Dart) → crack P a ≡ true → left P a < paints → bordered ps a ≡ true
  unfolding patch sides
  sided a c l =
      let q = (faced F D b).sided a c l in
      let f = q.0 in
      let r = sides_in ss q.2 a q.4 in
      in_bordered ps a (patch ss f) (in_map (patch ss) q.1) (in_sides ss (flat f.contours) a r.0 (in_flat f.contours q.2 r.0 q.3 r.1) r.2)

  unbordered : (a : Dart) → bordered ps a ≡ false → crack P a ≡ true → left P a < paints → ⊥
  unbordered a e c l = true≢false (sym (sided a c l) ∙ e)

  -- PAINT: at each pixel (x, y)
  pub paint_label : (x y : ℕ) → paint_at ps x y ≡ P.nw (suc x) (suc y)
  unfolding paint_at left right left_at
  paint_label zero y = go (bordered ps a) refl
    where
      a : Dart
      a = dart 0 y S

      go : (t : Bool) → bordered ps a ≡ t → region_by ps a ≡ P.nw 1 (suc y)
      go true e = (side a e).2
      go false e = none_bordered ps a e ∙ sym (out (C 1 (suc y)))
        where
          out : (P.nw 1 (suc y) < paints) ⊎ (P.nw 1 (suc y) ≡ OUTSIDE) → P.nw 1 (suc y) ≡ OUTSIDE
          out (inl l) = absurd (unbordered a e (differs_crack P a (λ z. let w = F.west (suc y) in let v : P.nw 1 (suc y) ≡ P.nw 0 (suc y) = z in omega arith)) l)
          out (inr o) = o
  paint_label (suc x) y = go (bordered ps a) refl (bordered ps z) refl (paint_label x y)
    where
      a : Dart
      a = dart (suc x) y S

      z : Dart
      z = dart (suc x) (suc y) N

      go : (t : Bool) → bordered ps a ≡ t → (u : Bool) → bordered ps z ≡ u → paint_at ps x y ≡ P.nw (suc x) (suc y)
          → elim t [ true ↦ region_by ps a | false ↦ elim u [ true ↦ OUTSIDE | false ↦ paint_at ps x y ] ] ≡ P.nw (suc (suc x)) (suc y)
      go true e u k r = (side a e).2
      go false e true k r = sym (out (C (suc (suc x)) (suc y)))
        where
          out : (P.nw (suc (suc x)) (suc y) < paints) ⊎ (P.nw (suc (suc x)) (suc y) ≡ OUTSIDE) → P.nw (suc (suc x)) (suc y) ≡ OUTSIDE
          out (inl l) = absurd (unbordered a e (differs_crack P a (λ v. crack_differs P z (side z k).0 (sym v))) l)
          out (inr o) = o
      go false e false k r = r ∙ same (C (suc (suc x)) (suc y)) (C (suc x) (suc y))
        where
          same : (P.nw (suc (suc x)) (suc y) < paints) ⊎ (P.nw (suc (suc x)) (suc y) ≡ OUTSIDE) → (P.nw (suc x) (suc y) < paints) ⊎ (P.nw (suc x) (suc y) ≡ OUTSIDE)
              → P.nw (suc x) (suc y) ≡ P.nw (suc (suc x)) (suc y)
          same (inl l) m = split (crack P a) refl
            where
              split : (t : Bool) → crack P a ≡ t → P.nw (suc x) (suc y) ≡ P.nw (suc (suc x)) (suc y)
              split true c = absurd (unbordered a e c l)
              split false c = sym (uncrack_same P a c)
          same (inr o) (inl l) = split (crack P z) refl
            where
              split : (t : Bool) → crack P z ≡ t → P.nw (suc x) (suc y) ≡ P.nw (suc (suc x)) (suc y)
              split true c = absurd (unbordered z k c l)
              split false c = uncrack_same P z c
          same (inr o) (inr m) = m ∙ sym o
