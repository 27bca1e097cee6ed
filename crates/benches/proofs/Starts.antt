-- A cycle from its earliest step on: it has the same steps, and it does not matter where the cycle started before.
use mathlib.Core.Bool.{Bool, true, false, true≢false}
use mathlib.Core.Path.{◌≡◌, refl, sym, ap, ap₂, ◌∙◌, subst}
use mathlib.Core.Logic.{⊎_elim}
use mathlib.Core.List.Memᴰ.{append_cases as in-cases}
use mathlib.Core.List.Memᴰ.{append_left as in_left}
use mathlib.Core.List.Memᴰ.{append_right as in_right}
use mathlib.Core.List.Memᴰ.{head as here}
use mathlib.Core.List.Memᴰ.{not-nil}
use mathlib.Core.List.Memᴰ.{tail as there}
use mathlib.Core.List.{List, [], ◌∷◌, ◌++◌, Memᴰ as In}
use lib.ListN.{get_or}
use Rattle.rules.specs.Lists.{Distinct}
use Rattle.rules.specs.Picture.{Dart, same_dart}
use Rattle.rules.specs.Face.{no_dart}
use Rattle.benches.specs.Listing.{earliest, up_to, from_on, from_earliest}
use Rattle.rules.proofs.Ground.Lists.{distinct_append, distinct_left, distinct_right, distinct_apart}
use Rattle.rules.proofs.Ground.Orbits.{Cycle}
use Rattle.rules.proofs.Ground.Cycles.{cycle_all, cycle_next, cycle_swap, cycle_same}
use Rattle.rules.proofs.Lattice.Darts.{same_path, same_refl}
use Rattle.benches.proofs.Earlier.{NoLater, no_later_both, earliest_in, earliest_least}

-- the two parts of a list at one of its members
split : (a : Dart) (l : List Dart) → In a l → (m : List Dart) × (from_on a l ≡ a ∷ m) × (up_to a l ++ (a ∷ m) ≡ l)
unfolding up_to from_on
split a [] i = absurd (not-nil i)
split a (b ∷ l) i = go (same_dart a b) refl i (λ i. split a l i)
  where
    go : (t : Bool) → same_dart a b ≡ t → In a (b ∷ l) → (In a l → (m : List Dart) × (from_on a l ≡ a ∷ m) × (up_to a l ++ (a ∷ m) ≡ l))
        → (m : List Dart) × (◌≡◌ {A = List Dart} (elim t [ true ↦ b ∷ l | false ↦ from_on a l ]) (a ∷ m)) × (◌≡◌ {A = List Dart} (elim t [ true ↦ [] | false ↦ b ∷ up_to a l ] ++ (a ∷ m)) (b ∷ l))
    go true e i f = let p = same_path a b e in (l, ap (λ c. c ∷ l) (sym p), ap (λ c. c ∷ l) p)
    go false e (here p) f = absurd (true≢false (sym (ap (same_dart a) (sym p) ∙ same_refl a) ∙ e))
    go false e (there j) f = let r = f j in (r.0, r.1, ap (λ m. b ∷ m) r.2)

-- a cycle of f that starts with its earliest step
pub record Canonical (f : Dart → Dart) (c : List Dart) : Type 0 where
  pub first : Dart
  pub rest : List Dart
  pub is : c ≡ first ∷ rest
  pub cycle : Cycle f (first ∷ rest)
  pub once : Distinct (first ∷ rest)
  pub least : (b : Dart) → In b (first ∷ rest) → NoLater first b

pub head_is : {f : Dart → Dart} {c : List Dart} (u : Canonical f c) → get_or c 0 no_dart ≡ u.first
head_is u = ap (λ c. get_or c 0 no_dart) u.is

pub head_in_lem : {f : Dart → Dart} {c : List Dart} (u : Canonical f c) → In u.first c
head_in_lem u = subst (In u.first) (sym u.is) (here refl)

module _ (a : Dart) (l : List Dart) where
  abbrev z : Dart
  z = earliest a l

  abbrev before : List Dart
  before = up_to z (a ∷ l)

  abbrev after : List Dart
  after = (split z (a ∷ l) (earliest_in a l)).0

  parts : before ++ (z ∷ after) ≡ a ∷ l
  parts = (split z (a ∷ l) (earliest_in a l)).2

  started_is : from_earliest (a ∷ l) ≡ z ∷ (after ++ before)
  unfolding from_earliest
  started_is = ap (λ m. m ++ before) (split z (a ∷ l) (earliest_in a l)).1

  swap_in : (b : Dart) → In b (z ∷ (after ++ before)) → In b (a ∷ l)
  swap_in b i = subst (In b) parts (⊎_elim (λ (j : In b (z ∷ after)). in_right before j) (λ (j : In b before). in_left (z ∷ after) j) (in-cases (z ∷ after) i))

  in_swap : (b : Dart) → In b (a ∷ l) → In b (z ∷ (after ++ before))
  in_swap b i = ⊎_elim (λ (j : In b before). in_right (z ∷ after) j) (λ (j : In b (z ∷ after)). in_left before j) (in-cases before (subst (In b) (sym parts) i))

-- the same steps
pub started_in : (c : List Dart) (b : Dart) → In b (from_earliest c) → In b c
unfolding from_earliest
started_in [] b i = i
started_in (a ∷ l) b i = swap_in a l b (subst (In b) (started_is a l) i)

pub in_started : (c : List Dart) (b : Dart) → In b c → In b (from_earliest c)
unfolding from_earliest
in_started [] b i = i
in_started (a ∷ l) b i = subst (In b) (sym (started_is a l)) (in_swap a l b i)

pub canonical : (f : Dart → Dart) (c : List Dart) → Cycle f c → Distinct c → Canonical f (from_earliest c)
canonical f [] k d = absurd k
canonical f (a ∷ l) k d =
    let p = parts a l in
    let u = before a l in
    let v = z a l ∷ after a l in
    let e = subst Distinct (sym p) d in
    record {
      first = z a l;
      rest = after a l ++ u;
      is = started_is a l;
      cycle = cycle_swap f u (z a l) (after a l) (subst (Cycle f) (sym p) k);
      once = distinct_append v u (distinct_right u v e) (distinct_left u v e) (λ b i j. distinct_apart u v e b j i);
      least = λ b i. earliest_least a l b (swap_in a l b i);
    }

-- ONE ONLY: two of them with a step in common, and the same next steps, are one

module _ {f g : Dart → Dart} {c d : List Dart} (u : Canonical f c) (v : Canonical g d) (e : (b : Dart) → In b c → f b ≡ g b) where
  abbrev uc : List Dart
  uc = u.first ∷ u.rest

  abbrev vd : List Dart
  vd = v.first ∷ v.rest

  e' : (b : Dart) → In b uc → f b ≡ g b
  e' b i = e b (subst (In b) (sym u.is) i)

  -- a step of both leads to a step of both
  on : (b : Dart) → In b uc × In b vd → In (f b) uc × In (f b) vd
  on b i = (cycle_next f uc u.cycle b i.0, subst (λ x. In x vd) (sym (e' b i.0)) (cycle_next g vd v.cycle b i.1))

  module _ (a : Dart) (i : In a uc) (j : In a vd) where
    into : (b : Dart) → In b uc → In b vd
    into b k = (cycle_all f uc u.cycle (λ b. In b uc × In b vd) on a i (i, j) b k).1

    onto : (b : Dart) → In b vd → In b uc
    onto b k =
        (cycle_all g vd v.cycle (λ b. In b uc × In b vd) (λ b i. subst (λ x. In x uc × In x vd) (e' b i.0) (on b i)) a j (i, j) b k).0

    same_first : v.first ≡ u.first
    same_first = no_later_both v.first u.first (v.least u.first (into u.first (here refl))) (u.least v.first (onto v.first (here refl)))

    same_rest : u.rest ≡ v.rest
    same_rest =
        cycle_same f g u.first u.rest v.rest e' u.cycle (subst (λ x. Cycle g (x ∷ v.rest)) same_first v.cycle)
        u.once (subst (λ x. Distinct (x ∷ v.rest)) same_first v.once)

  pub canonical_same : (a : Dart) → In a c → In a d → c ≡ d
  canonical_same a i j =
      let p = subst (In a) u.is i in
      let q = subst (In a) v.is j in
      u.is ∙ ap₂ (λ x m. x ∷ m) (sym (same_first a p q)) (same_rest a p q) ∙ sym v.is
