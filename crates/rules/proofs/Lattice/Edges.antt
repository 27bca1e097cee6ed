-- Edges on lists of steps: a dart's edge is on a list when the dart or its turned one is a member.
use mathlib.Core.Bool.{Bool, true, false, ◌||◌, false≢true, true≢false}
use mathlib.Core.Path.{◌≡◌, refl, sym, ap, ◌∙◌, subst}
use mathlib.Core.Logic.{◌⊎◌, inl, inr, ⊎_elim}
use mathlib.Core.List.Memᴰ.{append_cases as in-cases}
use mathlib.Core.List.Memᴰ.{append_left as in_left}
use mathlib.Core.List.Memᴰ.{append_right as in_right}
use mathlib.Core.List.Memᴰ.{cast as in-cast}
use mathlib.Core.List.Memᴰ.{head as here}
use mathlib.Core.List.Memᴰ.{not-nil}
use mathlib.Core.List.Memᴰ.{tail as there}
use mathlib.Core.List.{List, [], ◌∷◌, ◌++◌, Memᴰ as In}
use Rattle.rules.specs.Picture.{Picture, Dart, same_dart, turned, crack}
use Rattle.rules.specs.Graph.{on}
use Rattle.rules.specs.Describes.{On, Once}
use Rattle.rules.proofs.Ground.Booleans.{or_true_left}
use Rattle.rules.proofs.Lattice.Directions.{back_other}
use Rattle.rules.proofs.Lattice.Frame.{Framed}
use Rattle.rules.proofs.Lattice.Darts.{same_path, same_refl, turned_turned}
use Rattle.rules.specs.Lists.{Distinct}

-- the test is the fact
on_cons : (a b : Dart) (l : List Dart) → On a l → On a (b ∷ l)
on_cons a b l (inl m) = inl (there m)
on_cons a b l (inr m) = inr (there m)

pub on_true : (a : Dart) (l : List Dart) → on a l ≡ true → On a l
unfolding on
on_true a [] e = absurd (false≢true e)
on_true a (b ∷ l) e = go (same_dart a b) refl (same_dart (turned a) b) refl e (λ e. on_true a l e)
  where
    go : (p : Bool) → same_dart a b ≡ p → (q : Bool) → same_dart (turned a) b ≡ q → elim (p || q) [ true ↦ true | false ↦ on a l ] ≡ true → (on a l ≡ true → On a l) → On a (b ∷ l)
    go true p q r e f = inl (here (same_path a b p))
    go false p true r e f = inr (here (same_path (turned a) b r))
    go false p false r e f = on_cons a b l (f e)

on_here : (a b : Dart) (l : List Dart) → same_dart a b || same_dart (turned a) b ≡ true → on a (b ∷ l) ≡ true
unfolding on
on_here a b l e = rw (e, on)

on_there : (a b : Dart) (l : List Dart) → on a l ≡ true → on a (b ∷ l) ≡ true
unfolding on
on_there a b l k = go (same_dart a b || same_dart (turned a) b)
  where
    go : (p : Bool) → elim p [ true ↦ true | false ↦ on a l ] ≡ true
    go true = refl
    go false = k

pub on_in : (a : Dart) (l : List Dart) → In a l → on a l ≡ true
on_in a [] m = absurd (not-nil m)
on_in a (b ∷ l) (here e) = on_here a b l (rw (ap (same_dart a) (sym e) ∙ same_refl a))
on_in a (b ∷ l) (there m) = on_there a b l (on_in a l m)

pub on_turned : (a : Dart) (l : List Dart) → In (turned a) l → on a l ≡ true
on_turned a [] m = absurd (not-nil m)
on_turned a (b ∷ l) (here e) = on_here a b l (or_true_left (same_dart a b) (same_dart (turned a) b) (ap (same_dart (turned a)) (sym e) ∙ same_refl (turned a)))
on_turned a (b ∷ l) (there m) = on_there a b l (on_turned a l m)

pub on_is : (a : Dart) (l : List Dart) → On a l → on a l ≡ true
on_is a l (inl m) = on_in a l m
on_is a l (inr m) = on_turned a l m

pub on_false : (a : Dart) (l : List Dart) → on a l ≡ false → On a l → ⊥
on_false a l e o = true≢false (sym (on_is a l o) ∙ e)

-- lists one after the other
pub on_left : (a : Dart) (l m : List Dart) → On a l → On a (l ++ m)
on_left a l m (inl k) = inl (in_left m k)
on_left a l m (inr k) = inr (in_left m k)

pub on_right_lem : (a : Dart) (l m : List Dart) → On a m → On a (l ++ m)
on_right_lem a l m (inl k) = inl (in_right l k)
on_right_lem a l m (inr k) = inr (in_right l k)

pub on_cases : (a : Dart) (l m : List Dart) → On a (l ++ m) → On a l ⊎ On a m
on_cases a l m (inl k) = ⊎_elim (λ k. inl (inl k)) (λ k. inr (inl k)) (in-cases l k)
on_cases a l m (inr k) = ⊎_elim (λ k. inl (inr k)) (λ k. inr (inr k)) (in-cases l k)

pub once_append : (l m : List Dart) → Once l → Once m → ((c : Dart) → In c l → On c m → ⊥) → Once (l ++ m)
once_append [] m p q f = q
once_append (a ∷ l) m p q f =
    (λ o. ⊎_elim p.0 (f a (here refl)) (on_cases a l m o), once_append l m p.1 q (λ c k. f c (there k)))

-- no edge twice: no step twice
pub once_distinct : (l : List Dart) → Once l → Distinct l
once_distinct [] o = tt
once_distinct (a ∷ l) o = (λ i. o.0 (inl i), once_distinct l o.1)

pub not_turned : (a b : Dart) → a ≡ b → a ≡ turned b → ⊥
unfolding turned
not_turned a b e q = back_other b.d (ap (λ c. c.d) (sym e ∙ q))

-- an edge is on a list whichever way it is taken
module _ {P : Picture} (F : Framed P) where
  pub on_back : (c : Dart) (l : List Dart) → crack P c ≡ true → On (turned c) l → On c l
  on_back c l k (inl m) = inr m
  on_back c l k (inr m) = inl (in-cast (sym (turned_turned F c k)) m)

  pub on_turn : (c : Dart) (l : List Dart) → crack P c ≡ true → On c l → On (turned c) l
  on_turn c l k (inl m) = inr (in-cast (turned_turned F c k) m)
  on_turn c l k (inr m) = inl m

  -- and no step comes with its turned one
  pub once_apart : (l : List Dart) → Once l → (a : Dart) → crack P a ≡ true → In a l → In (turned a) l → ⊥
  once_apart [] o a c i j = not-nil i
  once_apart (b ∷ l) o a c (here e) (here q) = not_turned b a (sym e) (sym q)
  once_apart (b ∷ l) o a c (here e) (there j) = o.0 (inr (subst (λ a. In (turned a) l) e j))
  once_apart (b ∷ l) o a c (there i) (here q) = o.0 (inr (in-cast (ap turned (sym q) ∙ turned_turned F a c) i))
  once_apart (b ∷ l) o a c (there i) (there j) = once_apart l o.1 a c i j
