-- A segment read backwards: it has the turned steps, and is a segment too.
use mathlib.Core.Bool.{true, false}
use mathlib.Core.Path.{◌≡◌, refl, sym, ap, ap₂, ◌∙◌, subst}
use mathlib.Core.Logic.{◌⊎◌, inl, inr}
use mathlib.Core.List.Memᴰ.{append_cases as in-cases}
use mathlib.Core.List.Memᴰ.{append_left as in_left}
use mathlib.Core.List.Memᴰ.{append_right as in_right}
use mathlib.Core.List.Memᴰ.{cast as in-cast}
use mathlib.Core.List.Memᴰ.{eq_of_singleton}
use mathlib.Core.List.Memᴰ.{head as here}
use mathlib.Core.List.Memᴰ.{not-nil}
use mathlib.Core.List.Memᴰ.{tail as there}
use mathlib.Core.List.{List, [], ◌∷◌, ◌++◌, Memᴰ as In}
use Rattle.rules.specs.Picture.{Picture, Dart, turned, crack, node, ahead_y, ahead_x}
use Rattle.rules.specs.Graph.{meets}
use Rattle.rules.specs.Face.{backwards}
use Rattle.rules.proofs.Lattice.Frame.{Framed}
use Rattle.rules.proofs.Lattice.Darts.{turned_turned}
use Rattle.rules.proofs.Ground.Lists.{distinct_append, last_append}
use Rattle.rules.specs.Lists.{Distinct, last_of}
use Rattle.rules.specs.Describes.{Through, Open, Ring, Segment}

-- the steps are the turned ones
pub in_backwards : (l : List Dart) (a : Dart) → In a l → In (turned a) (backwards l)
unfolding backwards
in_backwards [] a i = absurd (not-nil i)
in_backwards (b ∷ l) a (here e) = in_right (backwards l) (here (ap turned e))
in_backwards (b ∷ l) a (there i) = in_left (turned b ∷ []) (in_backwards l a i)

pub backwards_in : (l : List Dart) (a : Dart) → In a (backwards l) → (b : Dart) × In b l × (a ≡ turned b)
unfolding backwards
backwards_in [] a i = absurd (not-nil i)
backwards_in (c ∷ l) a i = go (in-cases (backwards l) i) (λ i. backwards_in l a i)
  where
    go : In a (backwards l) ⊎ In a (turned c ∷ []) → (In a (backwards l) → (b : Dart) × In b l × (a ≡ turned b)) → (b : Dart) × In b (c ∷ l) × (a ≡ turned b)
    go (inl i) f = let r = f i in (r.0, there r.1, r.2)
    go (inr i) f = (c, here refl, eq_of_singleton i)

-- one more step
through_snoc : (P : Picture) (a : Dart) (l : List Dart) (b : Dart) → Through P a l → meets P (last_of a l) ≡ false
    → b.x ≡ ahead_x (last_of a l) → b.y ≡ ahead_y (last_of a l) → Through P a (l ++ (b ∷ []))
through_snoc P a [] b t k ex ey = (k, ex, ey, tt)
through_snoc P a (c ∷ l) b t k ex ey = (t.0, t.1, t.2, through_snoc P c l b t.3 k ex ey)

-- the steps backwards, from the turned last one to the turned first one
abbrev pub Reversed : Picture → Dart → List Dart → Type 0
Reversed P a l = (m : List Dart) × (backwards (a ∷ l) ≡ turned (last_of a l) ∷ m) × Through P (turned (last_of a l)) m × (last_of (turned (last_of a l)) m ≡ turned a)

module _ {P : Picture} (F : Framed P) where
  -- the turned dart leads to the corner that the dart leaves
  turned_x : (a : Dart) → crack P a ≡ true → ahead_x (turned a) ≡ a.x
  unfolding turned
  turned_x a c = ap (λ b. b.x) (turned_turned F a c)

  turned_y : (a : Dart) → crack P a ≡ true → ahead_y (turned a) ≡ a.y
  unfolding turned
  turned_y a c = ap (λ b. b.y) (turned_turned F a c)

  turned_meets : (a : Dart) → crack P a ≡ true → meets P (turned a) ≡ node P a.x a.y
  unfolding meets
  turned_meets a c = ap₂ (node P) (turned_x a c) (turned_y a c)

  -- where b follows a, the turned b leads to where the turned a leaves
  join_x : (a b z : Dart) → crack P b ≡ true → b.x ≡ ahead_x a → z ≡ turned b → ahead_x a ≡ ahead_x z
  join_x a b z c e q = sym e ∙ sym (turned_x b c) ∙ ap (λ c. ahead_x c) (sym q)

  join_y : (a b z : Dart) → crack P b ≡ true → b.y ≡ ahead_y a → z ≡ turned b → ahead_y a ≡ ahead_y z
  join_y a b z c e q = sym e ∙ sym (turned_y b c) ∙ ap (λ c. ahead_y c) (sym q)

  join_meets : (a b z : Dart) → crack P b ≡ true → b.x ≡ ahead_x a → b.y ≡ ahead_y a → z ≡ turned b → meets P z ≡ meets P a
  unfolding meets
  join_meets a b z c ex ey q = sym (ap₂ (node P) (join_x a b z c ex q) (join_y a b z c ey q))

  pub reversed : (a : Dart) (l : List Dart) → ((c : Dart) → In c (a ∷ l) → crack P c ≡ true) → Through P a l → Reversed P a l
  unfolding backwards turned
  reversed a [] f t = ([], refl, tt, refl)
  reversed a (b ∷ l) f t = go (reversed b l (λ c i. f c (there i)) t.3)
    where
      c : crack P b ≡ true
      c = f b (there (here refl))

      z : Dart
      z = turned (last_of b l)

      go : Reversed P b l → Reversed P a (b ∷ l)
      go r = (
        r.0 ++ (turned a ∷ []),
        ap (λ m. m ++ (turned a ∷ [])) r.1,
        through_snoc P z r.0 (turned a) r.2 (join_meets a b (last_of z r.0) c t.1 t.2 r.3 ∙ t.0)
            (join_x a b (last_of z r.0) c t.1 r.3)
            (join_y a b (last_of z r.0) c t.2 r.3),
        last_append z r.0 (turned a) [],
      )

  -- the ends change places
  turned_ends : (a z : Dart) → crack P a ≡ true → Open P a z ⊎ Ring P a z → Open P (turned z) (turned a) ⊎ Ring P (turned z) (turned a)
  unfolding turned meets
  turned_ends a z c (inl o) = inl (o.1, turned_meets a c ∙ o.0)
  turned_ends a z c (inr o) = inr (ap₂ (node P) o.1 o.2 ∙ o.0, turned_x a c ∙ sym o.1, turned_y a c ∙ sym o.2)

  pub backwards_segment : (s : List Dart) → ((c : Dart) → In c s → crack P c ≡ true) → Segment P s → Segment P (backwards s)
  backwards_segment [] f k = absurd k
  backwards_segment (a ∷ l) f k =
      let r = reversed a l f k.0 in
      let z = turned (last_of a l) in
      subst (Segment P) (sym r.1)
      (r.2, subst (λ b. Open P z b ⊎ Ring P z b) (sym r.3) (turned_ends a (last_of a l) (f a (here refl)) k.1))

  -- and no step comes twice
  pub backwards_distinct : (s : List Dart) → ((c : Dart) → In c s → crack P c ≡ true) → Distinct s → Distinct (backwards s)
  unfolding backwards
  backwards_distinct [] f d = tt
  backwards_distinct (a ∷ l) f d = distinct_append (backwards l) (turned a ∷ []) (backwards_distinct l (λ c i. f c (there i)) d.1) (not-nil, tt) cross
    where
      cross : (c : Dart) → In c (backwards l) → In c (turned a ∷ []) → ⊥
      cross c i j =
          let b = backwards_in l c i in
          let e = sym (turned_turned F a (f a (here refl))) ∙ ap turned (sym (eq_of_singleton j) ∙ b.2) ∙ turned_turned F b.0 (f b.0 (there b.1)) in
          d.0 (in-cast e b.1)
