-- Contours along their trail, one by itself and one after the other.
use Prim.Native.Nat.{ℕ, ◌-◌, ◌<◌, ◌≤◌}
use mathlib.Core.Path.{◌≡◌, refl, sym, ap, subst, ◌∙◌}
use mathlib.Core.Bool.{Bool, true, false, cond, ◌||◌}
use mathlib.Core.List.Memᴰ.{cast as in-cast}
use mathlib.Core.List.Memᴰ.{head as here}
use mathlib.Core.List.Memᴰ.{tail as there}
use mathlib.Core.List.{List, [], ◌∷◌, Memᴰ as In}
use native.Mathlib.Omega.{arith}
use lib.Dec.{eqb, leb}
use lib.ListN.{length}
use borrow.Author.Tests.{eq-eqb, ne_eqb, le-leb, lt-leb}
use Rattle.rules.proofs.Ground.Booleans.{or_true_left}
use Rattle.rules.specs.Lists.{last_of, Distinct}
use Rattle.rules.proofs.Ground.Lists.{in_last, last_at}
use Rattle.rules.proofs.Ground.Orbits.{Linked, Cycle, until, Walk}
use Rattle.rules.proofs.Ground.Walking.{walked}
use Rattle.rules.specs.Records.{NONE}
use Rattle.std.specs.Prelude.{Option, Some, None}
use Rattle.assemble.specs.declared.Reference.{Reference}
use Rattle.assemble.specs.Trails.{word_of, Named, Linkable, LINK, first_of, end_of, after, is_last, link_of, Along, Strung}

-- THE LAST of a contour

module _ (trail : ℕ) (work : List ℕ) (r q : ℕ) where
  pub leads_back : after trail work q ≡ r → is_last trail work r q ≡ true
  leads_back e = ap (λ (b : Bool). b || leb LINK (after trail work q)) (eq-eqb (after trail work q) r e)

  pub leads_away : LINK ≤ after trail work q → is_last trail work r q ≡ true
  leads_away h = or_true_left (eqb (after trail work q) r) (leb LINK (after trail work q)) (le-leb LINK (after trail work q) h)

  pub leads_on : (after trail work q ≡ r → ⊥) → after trail work q < LINK → is_last trail work r q ≡ false
  leads_on n h = rw (ne_eqb (after trail work q) r n, lt-leb LINK (after trail work q) h)

-- a cycle of g, where the words are those of g
module _ (trail : ℕ) (work : List ℕ) (g : ℕ → ℕ) (r : ℕ) where
  cycle_walk : (c : ℕ) (l : List ℕ) → ((q : ℕ) → In q (c ∷ l) → (after trail work q ≡ g q) × (g q < LINK)) → Linked g c l → g (last_of c l) ≡ r → (In r l → ⊥)
      → Walk (after trail work) (is_last trail work r) c l
  cycle_walk c [] f k e n = leads_back trail work r c ((f c (here refl)).0 ∙ e)
  cycle_walk c (d ∷ l) f k e n =
      let w = f c (here refl) in
      let z : after trail work c ≡ d = w.0 ∙ sym k.0 in
      let h : after trail work c < LINK = let y = w.1 in omega (arith, w.0) in
      (leads_on trail work r c (λ q. n (here (sym q ∙ z))) h, sym z, cycle_walk d l (λ q i. f q (there i)) k.1 e (λ i. n (there i)))

pub cycle_along : (trail : ℕ) (work : List ℕ) (g : ℕ → ℕ) (c : List ℕ) → Cycle g c → Distinct c → ((q : ℕ) → In q c → (after trail work q ≡ g q) × (q < LINK) × (g q < LINK)) → length c < 4294967296
    → Along trail work c × (after trail work (end_of c) ≡ first_of c)
cycle_along trail work g [] k once f h = absurd k
cycle_along trail work g (r ∷ l) k once f h = (
  record {
    walk = cycle_walk trail work g r r l (λ q i. let w = f q i in (w.0, w.2)) k.0 k.1 once.0;
    short = omega arith;
    low = (f r (here refl)).1;
  },
  ap (after trail work) (last_at r 0 l) ∙ (f (last_of r l) (in_last r l)).0 ∙ k.1,
)

pub ring_along : (trail : ℕ) (work c : List ℕ) (r : ℕ) → c ≡ r ∷ [] → r < LINK → after trail work r ≡ r → Along trail work c × (after trail work (end_of c) ≡ first_of c)
ring_along trail work c r e h k =
    rw e (record { walk = leads_back trail work r r k; short = omega arith; low = h }, k)

-- OTHER WORDS

module _ (trail : ℕ) (work work' : List ℕ) where
  last_same : (r q : ℕ) → after trail work' q ≡ after trail work q → is_last trail work' r q ≡ is_last trail work r q
  last_same r q e = ap (λ v. eqb v r || leb LINK v) e

  -- the words of a contour are the same, but for the last one, which still ends it
  walk_relinked : (r c : ℕ) (l : List ℕ) → Distinct (c ∷ l) → ((q : ℕ) → In q (c ∷ l) → (q ≡ last_of c l → ⊥) → after trail work' q ≡ after trail work q) → is_last trail work' r (last_of c l) ≡ true
      → Walk (after trail work) (is_last trail work r) c l → Walk (after trail work') (is_last trail work' r) c l
  walk_relinked r c [] once f e w = e
  walk_relinked r c (d ∷ l) once f e w =
      let z = f c (here refl) (λ q. once.0 (in-cast q (in_last d l))) in
      (last_same r c z ∙ w.0, w.1 ∙ sym z, walk_relinked r d l once.1 (λ q i n. f q (there i) n) e w.2)

  pub along_relinked : (c : List ℕ) → Distinct c → ((q : ℕ) → In q c → (q ≡ end_of c → ⊥) → after trail work' q ≡ after trail work q) → is_last trail work' (first_of c) (end_of c) ≡ true
      → Along trail work c → Along trail work' c
  along_relinked [] once f e a = a
  along_relinked (r ∷ l) once f e a =
      let z : end_of (r ∷ l) ≡ last_of r l = last_at r 0 l in
      record {
        walk = walk_relinked r r l once (λ q i n. f q i (λ w. n (w ∙ z))) (ap (is_last trail work' r) (sym z) ∙ e) a.walk;
        short = a.short;
        low = a.low;
      }

  -- all of its words are the same
  walk_same : (r c : ℕ) (l : List ℕ) → ((q : ℕ) → In q (c ∷ l) → after trail work' q ≡ after trail work q) → Walk (after trail work) (is_last trail work r) c l → Walk (after trail work') (is_last trail work' r) c l
  walk_same r c [] f w = last_same r c (f c (here refl)) ∙ w
  walk_same r c (d ∷ l) f w = let z = f c (here refl) in (last_same r c z ∙ w.0, w.1 ∙ sym z, walk_same r d l (λ q i. f q (there i)) w.2)

  pub along_same : (c : List ℕ) → ((q : ℕ) → In q c → after trail work' q ≡ after trail work q) → Along trail work c → Along trail work' c
  along_same [] f a = a
  along_same (r ∷ l) f a = record { walk = walk_same r r l f a.walk; short = a.short; low = a.low }

  pub end_in_lem : (c : List ℕ) → Along trail work c → In (end_of c) c
  end_in_lem [] a = absurd a
  end_in_lem (r ∷ l) a = subst (λ q. In q (r ∷ l)) (sym (last_at r 0 l)) (in_last r l)

  pub strung_same : (r : ℕ) (cs : List (List ℕ)) → ((c : List ℕ) → In c cs → (q : ℕ) → In q c → after trail work' q ≡ after trail work q) → Strung trail work r cs → Strung trail work' r cs
  strung_same r [] f t = t
  strung_same r (c ∷ cs) f t =
      let z = f c (here refl) (end_of c) (end_in_lem c t.1) in
      (t.0, along_same c (f c (here refl)) t.1, subst (λ v. Strung trail work' (link_of r v) cs) (sym z) (strung_same (link_of r (after trail work (end_of c))) cs (λ d i. f d (there i)) t.2))

-- ONE AFTER THE OTHER

module _ (trail : ℕ) (work : List ℕ) where
  pub first_low : (c : List ℕ) → Along trail work c → first_of c < LINK
  first_low [] a = absurd a
  first_low (r ∷ l) a = a.low

  pub strung_low : (r : ℕ) (cs : List (List ℕ)) → Strung trail work r cs → (r ≡ NONE → ⊥) → r < LINK
  strung_low r [] t n = absurd (n t)
  strung_low r (c ∷ cs) t n = let z = first_low c t.1 in omega (arith, t.0)

  -- where they start says what they are
  along_one : (c d : List ℕ) → first_of c ≡ first_of d → Along trail work c → Along trail work d → c ≡ d
  along_one [] d e a b = absurd a
  along_one (r ∷ l) [] e a b = absurd b
  along_one (r ∷ l) (q ∷ m) e a b =
      sym (walked (after trail work) (is_last trail work r) 4294967296 r l a.walk a.short)
      ∙ ap (λ r. until (after trail work) (is_last trail work r) 4294967296 r) e
      ∙ walked (after trail work) (is_last trail work q) 4294967296 q m b.walk b.short

  pub strung_one : (r : ℕ) (cs ds : List (List ℕ)) → Strung trail work r cs → Strung trail work r ds → cs ≡ ds
  strung_one r [] [] t u = refl
  strung_one r [] (d ∷ ds) t u = absurd (let z = first_low d u.1 in omega (arith, t, u.0))
  strung_one r (c ∷ cs) [] t u = absurd (let z = first_low c t.1 in omega (arith, u, t.0))
  strung_one r (c ∷ cs) (d ∷ ds) t u =
      let e : c ≡ d = along_one c d (sym t.0 ∙ u.0) t.1 u.1 in
      let f = strung_one (link_of r (after trail work (end_of c))) cs ds t.2 (subst (λ (d : List ℕ). Strung trail work (link_of r (after trail work (end_of d))) ds) (sym e) u.2) in
      λ i. e i ∷ f i

-- THE LINK of the last word

pub link_back : (r v : ℕ) → v ≡ r → link_of r v ≡ NONE
unfolding link_of
link_back r v e = ap (λ (b : Bool). cond b NONE (v - LINK)) (eq-eqb v r e)

pub link_on : (r v : ℕ) → (v ≡ r → ⊥) → link_of r v ≡ v - LINK
unfolding link_of
link_on r v n = ap (λ (b : Bool). cond b NONE (v - LINK)) (ne_eqb v r n)

-- what a word names, where the word is low
pub linkable : (h : Option Reference) → Named h → ((word_of h ≡ NONE → ⊥) → word_of h < LINK) → Linkable h
linkable None n f = tt
linkable (Some r) n f = f n
