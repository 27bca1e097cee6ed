-- Walks of any map f: f again and again, until a test says stop. Where f is injective and no step leads back to the start, no member
-- comes twice, and so a walk among the members of a list stops within the list's length.
use Prim.Native.Nat.{ℕ, zero, suc, ◌+◌, ◌<◌, ◌≤◌}
use mathlib.Core.Bool.{Bool, true, false}
use mathlib.Core.Path.{◌≡◌, refl, sym, ap, ◌∙◌, subst}
use mathlib.Core.Logic.{◌⊎◌, inl, inr, ⊎_map}
use mathlib.Core.List.Memᴰ.{cast as in-cast}
use mathlib.Core.List.Memᴰ.{head as here}
use mathlib.Core.List.Memᴰ.{not-nil}
use mathlib.Core.List.Memᴰ.{tail as there}
use mathlib.Core.List.{List, [], ◌∷◌, ◌++◌, Memᴰ as In}
use native.Mathlib.Omega.{arith}
use lib.ListN.{length}
use Rattle.rules.proofs.Ground.Lists.{in_last}
use Rattle.rules.proofs.Ground.Pigeonhole.{pigeonhole}
use Rattle.rules.specs.Lists.{Distinct, last_of}

-- CYCLES: each member is the f of the one before, and the first that of the last

module _ {A : Type 0} (f : A → A) where
  abbrev pub Linked : A → List A → Type 0
  Linked a [] = Unit {0}
  Linked a (b ∷ l) = (b ≡ f a) × Linked b l

  abbrev pub Cycle : List A → Type 0
  Cycle [] = ⊥
  Cycle (a ∷ l) = Linked a l × (f (last_of a l) ≡ a)

  linked_before : (a : A) (l : List A) → Linked a l → (b : A) → In b l → (p : A) × In p (a ∷ l) × (f p ≡ b)
  linked_before a [] k b i = absurd (not-nil i)
  linked_before a (d ∷ l) k b (here e) = (a, here refl, sym (e ∙ k.0))
  linked_before a (d ∷ l) k b (there i) = let r = linked_before d l k.1 b i in (r.0, there r.1, r.2)

  pub cycle_before : (c : List A) → Cycle c → (b : A) → In b c → (p : A) × In p c × (f p ≡ b)
  cycle_before [] k b i = absurd k
  cycle_before (a ∷ l) k b (here e) = (last_of a l, in_last a l, k.1 ∙ sym e)
  cycle_before (a ∷ l) k b (there i) = linked_before a l k.0 b i

  pub linked_append : (a : A) (l : List A) (b : A) (m : List A) → Linked a l → b ≡ f (last_of a l) → Linked b m → Linked a (l ++ (b ∷ m))
  linked_append a [] b m k e j = (e, j)
  linked_append a (c ∷ l) b m k e j = (k.0, linked_append c l b m k.1 e j)

-- WALKS

module _ {A : Type 0} (f : A → A) (stop : A → Bool) where
  unfoldable pub until : ℕ → A → List A
  until zero a = []
  until (suc k) a = a ∷ elim (stop a) [ true ↦ [] | false ↦ until k (f a) ]

  -- the steps l after a, up to the stop
  abbrev pub Walk : A → List A → Type 0
  Walk a [] = stop a ≡ true
  Walk a (b ∷ l) = (stop a ≡ false) × (b ≡ f a) × Walk b l

  -- the steps before one, the latest first, back to a start
  abbrev pub Trail : (A → Type 0) → A → List A → Type 0
  Trail Start a [] = Start a
  Trail Start b (a ∷ h) = (b ≡ f a) × (stop a ≡ false) × Trail Start a h

  -- after a step comes the stop or the next step
  pub walk_next : (a : A) (l : List A) → Walk a l → (c : A) → In c (a ∷ l) → (stop c ≡ true) ⊎ In (f c) (a ∷ l)
  walk_next a [] w c (here e) = inl (ap stop e ∙ w)
  walk_next a (b ∷ l) w c (here e) = inr (there (here (ap f e ∙ sym w.1)))
  walk_next a [] w c (there m) = absurd (not-nil m)
  walk_next a (b ∷ l) w c (there m) = ⊎_map (λ e. e) (λ m. there m) (walk_next b l w.2 c m)

  -- before it nothing or the step before
  abbrev pub Before : A → List A → A → Type 0
  Before a l d = (d ≡ a) ⊎ ((e : A) × In e (a ∷ l) × (d ≡ f e) × (stop e ≡ false))

  before_later : (a b : A) (l : List A) (d : A) → stop a ≡ false → b ≡ f a → Before b l d → Before a (b ∷ l) d
  before_later a b l d k e (inl q) = inr (a, here refl, q ∙ e, k)
  before_later a b l d k e (inr o) = inr (o.0, there o.1, o.2, o.3)

  walk_before_at : (d a : A) (l : List A) → Walk a l → In d (a ∷ l) → Before a l d
  walk_before_at d a l w (here e) = inl e
  walk_before_at d a [] w (there m) = absurd (not-nil m)
  walk_before_at d a (b ∷ l) w (there m) = before_later a b l d w.0 w.1 (walk_before_at d b l w.2 m)

  pub walk_before : (a : A) (l : List A) → Walk a l → (d : A) → In d (a ∷ l) → Before a l d
  walk_before a l w d i = walk_before_at d a l w i

  pub walk_linked : (a : A) (l : List A) → Walk a l → Linked f a l
  walk_linked a [] w = tt
  walk_linked a (b ∷ l) w = (w.1, walk_linked b l w.2)

  pub walk_last : (a : A) (l : List A) → Walk a l → stop (last_of a l) ≡ true
  walk_last a [] w = w
  walk_last a (b ∷ l) w = walk_last b l w.2

-- NO MEMBER TWICE: what f, the test and the start have to do with one another

pub record Orbit {A : Type 0} (f : A → A) (stop : A → Bool) (Start Ok : A → Type 0) : Type 0 where
  pub first : (a : A) → Start a → Ok a
  pub stays : (a : A) → Ok a → stop a ≡ false → Ok (f a)
  pub away : (a : A) → stop a ≡ false → Start (f a) → ⊥
  pub injective : (a b : A) → Ok a → Ok b → stop a ≡ false → stop b ≡ false → f a ≡ f b → a ≡ b

module _ {A : Type 0} {f : A → A} {stop : A → Bool} {Start Ok : A → Type 0} (O : Orbit f stop Start Ok) where
  pub trail_ok : (b : A) (h : List A) → Trail f stop Start b h → Ok b
  trail_ok b [] t = O.first b t
  trail_ok b (a ∷ h) t = subst Ok (sym t.0) (O.stays a (trail_ok a h t.2) t.1)

  trail_all_at : (c b : A) (h : List A) → Trail f stop Start b h → In c (b ∷ h) → Ok c
  trail_all_at c b h t (here e) = subst Ok (sym e) (trail_ok b h t)
  trail_all_at c b [] t (there m) = absurd (not-nil m)
  trail_all_at c b (a ∷ h) t (there m) = trail_all_at c a h t.2 m

  pub trail_all : (b : A) (h : List A) → Trail f stop Start b h → (c : A) → In c (b ∷ h) → Ok c
  trail_all b h t c i = trail_all_at c b h t i

  walk_all_at : (c a : A) (l : List A) → Ok a → Walk f stop a l → In c (a ∷ l) → Ok c
  walk_all_at c a l k w (here e) = subst Ok (sym e) k
  walk_all_at c a [] k w (there m) = absurd (not-nil m)
  walk_all_at c a (b ∷ l) k w (there m) = walk_all_at c b l (subst Ok (sym w.1) (O.stays a k w.0)) w.2 m

  pub walk_all : (a : A) (l : List A) → Ok a → Walk f stop a l → (c : A) → In c (a ∷ l) → Ok c
  walk_all a l k w c i = walk_all_at c a l k w i

  -- where a step comes from: it is a start, or follows an earlier one
  abbrev Origin : A → List A → Type 0
  Origin c h = Start c ⊎ ((d : A) × In d h × (c ≡ f d) × Ok d × (stop d ≡ false))

  later : (c a : A) (h : List A) → Origin c h → Origin c (a ∷ h)
  later c a h (inl e) = inl e
  later c a h (inr o) = inr (o.0, there o.1, o.2, o.3, o.4)

  origin : (b : A) (h : List A) → Trail f stop Start b h → (c : A) → In c (b ∷ h) → Origin c h
  origin b [] t c (here e) = inl (subst Start (sym e) t)
  origin b (a ∷ h) t c (here e) = inr (a, here refl, e ∙ t.0, trail_ok a h t.2, t.1)
  origin b [] t c (there m) = absurd (not-nil m)
  origin b (a ∷ h) t c (there m) = later c a h (origin a h t.2 c m)

  -- no step comes twice
  pub trail_fresh : (b : A) (h : List A) → Trail f stop Start b h → In b h → ⊥
  trail_fresh b [] t m = not-nil m
  trail_fresh b (a ∷ h) t m = go (origin a h t.2 b m) (λ m. trail_fresh a h t.2 m)
    where
      go : Origin b h → (In a h → ⊥) → ⊥
      go (inl o) below = O.away a t.1 (subst Start t.0 o)
      go (inr o) below = below (in-cast (O.injective a o.0 (trail_ok a h t.2) o.3 t.1 o.4 (sym t.0 ∙ o.2)) o.1)

  trail_distinct : (b : A) (h : List A) → Trail f stop Start b h → Distinct (b ∷ h)
  trail_distinct b [] t = (trail_fresh b [] t, tt)
  trail_distinct b (a ∷ h) t = (trail_fresh b (a ∷ h) t, trail_distinct a h t.2)

  walk_fresh_at : (c a : A) (l h : List A) → Trail f stop Start a h → Walk f stop a l → In c (a ∷ l) → In c h → ⊥
  walk_fresh_at c a l h t w (here e) n = trail_fresh a h t (in-cast (sym e) n)
  walk_fresh_at c a [] h t w (there m) n = not-nil m
  walk_fresh_at c a (b ∷ l) h t w (there m) n = walk_fresh_at c b l (a ∷ h) (w.1, w.0, t) w.2 m (there n)

  pub walk_fresh : (a : A) (l h : List A) → Trail f stop Start a h → Walk f stop a l → (c : A) → In c (a ∷ l) → In c h → ⊥
  walk_fresh a l h t w c i n = walk_fresh_at c a l h t w i n

  pub walk_distinct : (a : A) (l h : List A) → Trail f stop Start a h → Walk f stop a l → Distinct (a ∷ l)
  walk_distinct a [] h t w = (not-nil, tt)
  walk_distinct a (b ∷ l) h t w = (λ m. walk_fresh b l (a ∷ h) (w.1, w.0, t) w.2 a m (here refl), walk_distinct b l (a ∷ h) (w.1, w.0, t) w.2)

  -- so a walk among the members of a list stops within its length
  module _ (all : List A) (inside : (a : A) → Ok a → In a all) where
    trail_short : (b : A) (h : List A) → Trail f stop Start b h → length (b ∷ h) ≤ length all
    trail_short b h t = pigeonhole (b ∷ h) all (trail_distinct b h t) (λ c m. inside c (trail_all b h t c m))

    stops_on : (k : ℕ) (b : A) (h : List A) → Trail f stop Start b h → length all < k + length (b ∷ h) → (l : List A) × (until f stop k b ≡ b ∷ l) × Walk f stop b l
    unfolding until
    stops_on zero b h t e = absurd (omega (arith, trail_short b h t))
    stops_on (suc k) b h t e = go (stop b) refl (λ s. stops_on k (f b) (b ∷ h) (refl, s, t) (omega arith))
      where
        go : (c : Bool) → stop b ≡ c → (stop b ≡ false → (l : List A) × (until f stop k (f b) ≡ f b ∷ l) × Walk f stop (f b) l)
            → (l : List A) × (◌≡◌ {A = List A} (b ∷ elim c [ true ↦ [] | false ↦ until f stop k (f b) ]) (b ∷ l)) × Walk f stop b l
        go true s r = ([], refl, s)
        go false s r = let q = r s in (f b ∷ q.0, ap (λ l. b ∷ l) q.1, (s, refl, q.2))

    pub stops : (k : ℕ) (a : A) → Start a → length all ≤ k → (l : List A) × (until f stop k a ≡ a ∷ l) × Walk f stop a l
    stops k a s e = stops_on k a [] s (omega arith)
