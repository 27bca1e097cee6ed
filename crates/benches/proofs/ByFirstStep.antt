-- Contours by their first steps: the sort keeps them and puts them in order.
use mathlib.Core.Bool.{Bool, true, false}
use mathlib.Core.Path.{◌≡◌, refl, sym, subst}
use mathlib.Core.List.Memᴰ.{head as here}
use mathlib.Core.List.Memᴰ.{not-nil}
use mathlib.Core.List.Memᴰ.{tail as there}
use mathlib.Core.List.{List, [], ◌∷◌, Memᴰ as In}
use lib.ListN.{get_or}
use Rattle.rules.specs.Lists.{Distinct}
use Rattle.rules.specs.Picture.{Dart}
use Rattle.rules.specs.Face.{no_dart}
use Rattle.benches.specs.Listing.{earlier, put_contour, by_first_step}
use Rattle.rules.proofs.Ground.Order.{Ordered}
use Rattle.benches.proofs.Earlier.{NoLater, no_later_trans, earlier_true, earlier_false}

abbrev pub NoLaterStart : List Dart → List Dart → Type 0
NoLaterStart c d = NoLater (get_or c 0 no_dart) (get_or d 0 no_dart)

put_in : (c : List Dart) (l : List (List Dart)) (e : List Dart) → In e (put_contour c l) → In e (c ∷ l)
unfolding put_contour
put_in c [] e i = i
put_in c (d ∷ l) e i = go (earlier (get_or c 0 no_dart) (get_or d 0 no_dart)) i (λ i. put_in c l e i)
  where
    skip : In e (c ∷ l) → In e (c ∷ d ∷ l)
    skip (here p) = here p
    skip (there i) = there (there i)

    go : (t : Bool) → In e (elim t [ true ↦ c ∷ d ∷ l | false ↦ d ∷ put_contour c l ]) → (In e (put_contour c l) → In e (c ∷ l)) → In e (c ∷ d ∷ l)
    go true i f = i
    go false (here p) f = there (here p)
    go false (there i) f = skip (f i)

in_put : (c : List Dart) (l : List (List Dart)) (e : List Dart) → In e (c ∷ l) → In e (put_contour c l)
unfolding put_contour
in_put c [] e i = i
in_put c (d ∷ l) e i = go (earlier (get_or c 0 no_dart) (get_or d 0 no_dart)) i (λ i. in_put c l e i)
  where
    go : (t : Bool) → In e (c ∷ d ∷ l) → (In e (c ∷ l) → In e (put_contour c l)) → In e (elim t [ true ↦ c ∷ d ∷ l | false ↦ d ∷ put_contour c l ])
    go true i f = i
    go false (here p) f = there (f (here p))
    go false (there (here p)) f = here p
    go false (there (there i)) f = there (f (there i))

put_distinct : (c : List Dart) (l : List (List Dart)) → Distinct (c ∷ l) → Distinct (put_contour c l)
unfolding put_contour
put_distinct c [] d = d
put_distinct c (b ∷ l) d = go (earlier (get_or c 0 no_dart) (get_or b 0 no_dart)) (put_distinct c l (λ i. d.0 (there i), d.1.1))
  where
    new : In b (c ∷ l) → ⊥
    new (here p) = d.0 (here (sym p))
    new (there i) = d.1.0 i

    go : (t : Bool) → Distinct (put_contour c l) → Distinct {A = List Dart} (elim t [ true ↦ c ∷ b ∷ l | false ↦ b ∷ put_contour c l ])
    go true k = d
    go false k = (λ i. new (put_in c l b i), k)

put_ordered : (c : List Dart) (l : List (List Dart)) → Ordered NoLaterStart l → Ordered NoLaterStart (put_contour c l)
unfolding put_contour
put_ordered c [] o = (λ b i. absurd (not-nil i), tt)
put_ordered c (d ∷ l) o = go (earlier (get_or c 0 no_dart) (get_or d 0 no_dart)) refl (put_ordered c l o.1)
  where
    first : List Dart → Dart
    first e = get_or e 0 no_dart

    front : NoLater (first c) (first d) → (e : List Dart) → In e (d ∷ l) → NoLaterStart c e
    front k e (here p) = subst (NoLaterStart c) (sym p) k
    front k e (there i) = no_later_trans (first c) (first d) (first e) k (o.0 e i)

    back : NoLater (first d) (first c) → (e : List Dart) → In e (c ∷ l) → NoLaterStart d e
    back k e (here p) = subst (NoLaterStart d) (sym p) k
    back k e (there i) = o.0 e i

    go : (t : Bool) → earlier (get_or c 0 no_dart) (get_or d 0 no_dart) ≡ t → Ordered NoLaterStart (put_contour c l) → Ordered NoLaterStart (elim t [ true ↦ c ∷ d ∷ l | false ↦ d ∷ put_contour c l ])
    go true e k = (front (earlier_true (first c) (first d) e), o)
    go false e k = (λ b i. back (earlier_false (first c) (first d) e) b (put_in c l b i), k)

pub by_first_step_in : (l : List (List Dart)) (e : List Dart) → In e (by_first_step l) → In e l
unfolding by_first_step
by_first_step_in [] e i = i
by_first_step_in (c ∷ l) e i = go (put_in c (by_first_step l) e i) (λ i. by_first_step_in l e i)
  where
    go : In e (c ∷ by_first_step l) → (In e (by_first_step l) → In e l) → In e (c ∷ l)
    go (here p) f = here p
    go (there j) f = there (f j)

pub in_by_first_step : (l : List (List Dart)) (e : List Dart) → In e l → In e (by_first_step l)
unfolding by_first_step
in_by_first_step [] e i = i
in_by_first_step (c ∷ l) e (here p) = in_put c (by_first_step l) e (here p)
in_by_first_step (c ∷ l) e (there i) = in_put c (by_first_step l) e (there (in_by_first_step l e i))

pub by_first_step_distinct : (l : List (List Dart)) → Distinct l → Distinct (by_first_step l)
unfolding by_first_step
by_first_step_distinct [] d = tt
by_first_step_distinct (c ∷ l) d = put_distinct c (by_first_step l) (λ i. d.0 (by_first_step_in l c i), by_first_step_distinct l d.1)

pub by_first_step_ordered : (l : List (List Dart)) → Ordered NoLaterStart (by_first_step l)
unfolding by_first_step
by_first_step_ordered [] = tt
by_first_step_ordered (c ∷ l) = put_ordered c (by_first_step l) (by_first_step_ordered l)
