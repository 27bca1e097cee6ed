-- Cycles that start with their earliest steps and stand by them: any cycles without a step in common can be so arranged, in one way only.
use mathlib.Core.Path.{◌≡◌, refl, sym, ◌∙◌, subst}
use mathlib.Core.List.Memᴰ.{cast as in-cast}
use mathlib.Core.List.Memᴰ.{map as in_map}
use mathlib.Core.List.Memᴰ.{of_map}
use mathlib.Core.List.{List, map, Memᴰ as In}
use lib.ListN.{get_or}
use Rattle.rules.specs.Lists.{flat, Distinct}
use Rattle.rules.specs.Picture.{Dart}
use Rattle.rules.specs.Face.{no_dart}
use Rattle.benches.specs.Listing.{from_earliest, by_first_step}
use Rattle.rules.proofs.Ground.Lists.{in_flat, flat_in, flat_apart, flat_once, flat_each, flat_distinct, map_distinct}
use Rattle.rules.proofs.Ground.Order.{Ordered}
use Rattle.rules.proofs.Ground.Rearranging.{ordered_strict, ordered_one}
use Rattle.rules.proofs.Ground.Orbits.{Cycle}
use Rattle.rules.proofs.Contours.Loops.{cycle_some}
use Rattle.benches.proofs.Earlier.{Earlier, earlier_asym}
use Rattle.benches.proofs.Starts.{Canonical, canonical, canonical_same, started_in, in_started, head_is, head_in_lem}
use Rattle.benches.proofs.ByFirstStep.{NoLaterStart, by_first_step_in, in_by_first_step, by_first_step_distinct, by_first_step_ordered}

-- the first step of the one is earlier than that of the other
abbrev pub Sooner : List Dart → List Dart → Type 0
Sooner c d = Earlier (get_or c 0 no_dart) (get_or d 0 no_dart)

pub record Arranged (f : Dart → Dart) (cs : List (List Dart)) : Type 0 where
  pub canonical : (c : List Dart) → In c cs → Canonical f c
  pub once : Distinct (flat cs)
  pub order : Ordered Sooner cs

-- contours with the same first step, of cycles without a step in common, are one
pub one_start : {f : Dart → Dart} {c d : List Dart} → Canonical f c → Canonical f d → get_or c 0 no_dart ≡ get_or d 0 no_dart → c ≡ d
one_start u v e = canonical_same u v (λ b i. refl) u.first (head_in_lem u) (in-cast (sym (head_is u) ∙ e ∙ head_is v) (head_in_lem v))

-- ANY CYCLES, ARRANGED

abbrev pub arranged : List (List Dart) → List (List Dart)
arranged cs = by_first_step (map from_earliest cs)

module _ {f : Dart → Dart} {cs : List (List Dart)} (k : (c : List Dart) → In c cs → Cycle f c) (o : Distinct (flat cs)) where
  started : (c : List Dart) → In c cs → Canonical f (from_earliest c)
  started c i = canonical f c (k c i) (flat_each cs o c i)

  starts_distinct : Distinct (map from_earliest cs)
  starts_distinct = map_distinct from_earliest cs (flat_apart cs (λ c i. cycle_some f c (k c i)) o) same
    where
      same : (c d : List Dart) → In c cs → In d cs → from_earliest c ≡ from_earliest d → c ≡ d
      same c d i j e =
          let u = started c i in
          flat_once cs o u.first c d i j (started_in c u.first (head_in_lem u)) (started_in d u.first (subst (In u.first) e (head_in_lem u)))

  arranged_canonical : (c : List Dart) → In c (arranged cs) → Canonical f c
  arranged_canonical c i = let q = of_map from_earliest cs (by_first_step_in (map from_earliest cs) c i) in subst (Canonical f) q.2 (started q.0 q.1)

  arranged_distinct : Distinct (arranged cs)
  arranged_distinct = by_first_step_distinct (map from_earliest cs) starts_distinct

  pub arranged_is : Arranged f (arranged cs)
  arranged_is = record {
    canonical = arranged_canonical;
    once = flat_distinct (arranged cs) arranged_distinct (λ c i. let u = arranged_canonical c i in subst Distinct (sym u.is) u.once)
        (λ a c d i j p q. canonical_same (arranged_canonical c i) (arranged_canonical d j) (λ b n. refl) a p q);
    order = ordered_strict NoLaterStart Sooner (arranged cs) arranged_distinct
        (λ c d i j n r. (r, λ e. n (one_start (arranged_canonical c i) (arranged_canonical d j) e))) (by_first_step_ordered (map from_earliest cs));
  }

-- the steps stay
pub arranged_in : (cs : List (List Dart)) (a : Dart) → In a (flat (arranged cs)) → In a (flat cs)
arranged_in cs a i =
    let r = flat_in (arranged cs) a i in
    let q = of_map from_earliest cs (by_first_step_in (map from_earliest cs) r.0 r.1) in
    in_flat cs q.0 a q.1 (started_in q.0 a (subst (In a) (sym q.2) r.2))

pub in_arranged : (cs : List (List Dart)) (a : Dart) → In a (flat cs) → In a (flat (arranged cs))
in_arranged cs a i =
    let r = flat_in cs a i in
    in_flat (arranged cs) (from_earliest r.0) a (in_by_first_step (map from_earliest cs) (from_earliest r.0) (in_map from_earliest r.1)) (in_started r.0 a r.2)

-- ONE ARRANGEMENT: with the same steps and the same next steps there is no other

module _ {f g : Dart → Dart} {cs ds : List (List Dart)} (k : Arranged f cs) (j : Arranged g ds)
    (into : (a : Dart) → In a (flat cs) → In a (flat ds)) (e : (a : Dart) → In a (flat cs) → f a ≡ g a) where
  cycle_in : (c : List Dart) → In c cs → In c ds
  cycle_in c i =
      let u = k.canonical c i in
      let q = flat_in ds u.first (into u.first (in_flat cs c u.first i (head_in_lem u))) in
      in-cast (canonical_same u (j.canonical q.0 q.1) (λ b m. e b (in_flat cs c b i m)) u.first (head_in_lem u) q.2) q.1

pub same_arranged : {f g : Dart → Dart} {cs ds : List (List Dart)} → Arranged f cs → Arranged g ds
    → ((a : Dart) → In a (flat cs) → In a (flat ds)) → ((a : Dart) → In a (flat ds) → In a (flat cs))
    → ((a : Dart) → In a (flat cs) → f a ≡ g a) → cs ≡ ds
same_arranged {f} {g} {cs} {ds} k j into onto e =
    ordered_one Sooner (λ c d. earlier_asym (get_or c 0 no_dart) (get_or d 0 no_dart)) cs ds k.order j.order
    (cycle_in k j into e) (cycle_in j k onto (λ a m. sym (e a (onto a m))))
