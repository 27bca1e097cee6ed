-- Two pictures with the same segments and the same faces carry the same painted labels: along a row, the first crack to the west of a painted
-- pixel is a side of one contour, whose face has the pixel's label in either picture.
use Prim.Native.Nat.{ℕ, zero, suc, ◌<◌, ◌≤◌}
use mathlib.Core.Bool.{Bool, true, false, true≢false}
use mathlib.Core.Path.{◌≡◌, refl, sym, ap, ◌∙◌, subst}
use mathlib.Core.Logic.{◌⊎◌, inl, inr}
use mathlib.Core.List.Memᴰ.{map as in_map}
use mathlib.Core.List.Memᴰ.{of_map}
use mathlib.Core.List.{List, map, Memᴰ as In}
use native.Mathlib.Omega.{arith}
use native.Mathlib.Decide.{dec_lt}
use Rattle.rules.specs.Lists.{flat}
use Rattle.rules.specs.Picture.{Picture, OUTSIDE, Dart, dart, turned, left_at, left, right, crack}
use Rattle.rules.specs.declared.Dir.TheVariants.{S}
use Rattle.rules.specs.Face.{Face, faces}
use Rattle.rules.proofs.Lattice.Frame.{Framed}
use Rattle.rules.proofs.Lattice.Darts.{uncrack_same, turned_turned, turned_crack}
use Rattle.rules.proofs.Faces.Faced.{faced}
use Rattle.rules.specs.Describes.{On, Describes}

-- what a cut list tells of a face: its region and its contours
abbrev pub view : Face → ℕ × List (List ℕ)
view f = (f.region, f.contours)

-- two labels are alike: the same painted one, or neither is painted
abbrev pub Alike : ℕ → ℕ → ℕ → Type 0
Alike paints l m = ((l ≡ m) × (l < paints)) ⊎ ((paints ≤ l) × (paints ≤ m))

module _ {P Q : Picture} (F : Framed P) (G : Framed Q) {ss : List (List Dart)} (D : Describes P ss) (E : Describes Q ss) where
  -- the cracks are those of the segments
  same_crack : (a : Dart) → crack P a ≡ true → crack Q a ≡ true
  same_crack a c = go (D.whole a c)
    where
      go : On a (flat ss) → crack Q a ≡ true
      go (inl i) = E.cracked a i
      go (inr i) = ap (crack Q) (sym (turned_turned F a c)) ∙ turned_crack G (turned a) (E.cracked (turned a) i)

module _ {P Q : Picture} (F : Framed P) (G : Framed Q) {ss : List (List Dart)} (D : Describes P ss) (E : Describes Q ss)
    {paints : ℕ} (b : paints ≤ OUTSIDE) (e : map view (faces P ss paints) ≡ map view (faces Q ss paints)) where
  -- a painted side has the label of its face
  same_left : (a : Dart) → crack P a ≡ true → left P a < paints → left Q a ≡ left P a
  same_left a c l =
      let q = (faced F D b).sided a c l in
      let f = q.0 in
      let m = of_map view (faces Q ss paints) (subst (In (view f)) e (in_map view q.1)) in
      let g = m.0 in
      let r : g.region ≡ f.region = ap (λ v. v.0) m.2 in
      let k : f.contours ≡ g.contours = sym (ap (λ v. v.1) m.2) in
      ((faced G E b).face g m.1).lefts q.2 (subst (In q.2) k q.3) a q.4 ∙ r ∙ sym (((faced F D b).face f q.1).lefts q.2 q.3 a q.4)

  -- the pixel (x, y) and the edge on its west
  agree : (x y : ℕ) → P.nw (suc x) (suc y) < paints → Q.nw (suc x) (suc y) ≡ P.nw (suc x) (suc y)
  unfolding left right left_at
  agree zero y l = go (crack P (dart 0 y S)) refl
    where
      go : (t : Bool) → crack P (dart 0 y S) ≡ t → Q.nw 1 (suc y) ≡ P.nw 1 (suc y)
      go true c = same_left (dart 0 y S) c l
      go false c = absurd (let z : P.nw 1 (suc y) ≡ OUTSIDE = uncrack_same P (dart 0 y S) c ∙ F.west (suc y) in omega arith)
  agree (suc x) y l = go (crack P (dart (suc x) y S)) refl (crack Q (dart (suc x) y S)) refl (λ l. agree x y l)
    where
      go : (t : Bool) → crack P (dart (suc x) y S) ≡ t → (u : Bool) → crack Q (dart (suc x) y S) ≡ u
          → (P.nw (suc x) (suc y) < paints → Q.nw (suc x) (suc y) ≡ P.nw (suc x) (suc y)) → Q.nw (suc (suc x)) (suc y) ≡ P.nw (suc (suc x)) (suc y)
      go true c u d f = same_left (dart (suc x) y S) c l
      go false c true d f = absurd (true≢false (sym (same_crack G F E D (dart (suc x) y S) d) ∙ c))
      go false c false d f =
          let p : P.nw (suc (suc x)) (suc y) ≡ P.nw (suc x) (suc y) = uncrack_same P (dart (suc x) y S) c in
          let q : Q.nw (suc (suc x)) (suc y) ≡ Q.nw (suc x) (suc y) = uncrack_same Q (dart (suc x) y S) d in
          q ∙ f (omega arith) ∙ sym p

-- at each pixel (x, y)
pub same_labels : {P Q : Picture} → Framed P → Framed Q → {ss tt : List (List Dart)} → Describes P ss → Describes Q tt → {paints : ℕ} → paints ≤ OUTSIDE
    → ss ≡ tt → map view (faces P ss paints) ≡ map view (faces Q tt paints)
    → (x y : ℕ) → Alike paints (P.nw (suc x) (suc y)) (Q.nw (suc x) (suc y))
same_labels {P} {Q} F G {ss} {tt} D E {paints} b s e x y = go (dec_lt (P.nw (suc x) (suc y)) paints) (dec_lt (Q.nw (suc x) (suc y)) paints)
  where
    E' : Describes Q ss
    E' = subst (Describes Q) (sym s) E

    e' : map view (faces P ss paints) ≡ map view (faces Q ss paints)
    e' = e ∙ ap (λ ss. map view (faces Q ss paints)) (sym s)

    go : Dec (P.nw (suc x) (suc y) < paints) → Dec (Q.nw (suc x) (suc y) < paints) → Alike paints (P.nw (suc x) (suc y)) (Q.nw (suc x) (suc y))
    go (yes l) d = inl (sym (agree F G D E' b e' x y l), l)
    go (no l) (yes m) = absurd (let z = agree G F E' D b (sym e') x y m in omega arith)
    go (no l) (no m) = inr (omega arith, omega arith)
