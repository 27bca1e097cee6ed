-- References: which steps they have, over any list of segments that describes a picture. Each crack is a step of one reference.
use Prim.Native.Nat.{ℕ, suc, ◌*◌, ◌/◌, ◌%◌, ◌<◌}
use mathlib.Core.Bool.{true}
use mathlib.Core.Path.{◌≡◌, sym, ap, ◌∙◌, subst}
use mathlib.Core.Logic.{◌⊎◌, inl, inr}
use mathlib.Core.List.Memᴰ.{cast as in-cast}
use mathlib.Core.List.{List, [], Memᴰ as In}
use native.Mathlib.Omega.{arith}
use native.Mathlib.Decide.{ℕ_discrete}
use lib.ListN.{length, get_or}
use borrow.Author.Tests.{eq-eqb, ne_eqb}
use Rattle.rules.specs.Lists.{flat, Distinct}
use Rattle.rules.specs.Picture.{Picture, Dart, turned, crack}
use Rattle.rules.specs.Face.{backwards, refs, steps}
use Rattle.rules.proofs.Lattice.Frame.{Framed}
use Rattle.rules.proofs.Lattice.Darts.{turned_turned, turned_crack}
use Rattle.rules.proofs.Ground.Lists.{in_at, flat_at, at_flat, at_once, at_distinct, in_upto, upto_in}
use Rattle.rules.proofs.Lattice.Edges.{once_distinct, once_apart}
use Rattle.rules.proofs.Tracing.Along.{Plain}
use Rattle.rules.proofs.References.Backwards.{in_backwards, backwards_in, backwards_segment, backwards_distinct}
use Rattle.rules.specs.Describes.{Segment, Describes}

-- FORWARD AND REVERSED

module _ (ss : List (List Dart)) where
  steps_elim : (Q : List Dart → Type 0) (r : ℕ) → (r % 2 ≡ 0 → Q (get_or ss (r / 2) [])) → ((r % 2 ≡ 0 → ⊥) → Q (backwards (get_or ss (r / 2) []))) → Q (steps ss r)
  unfolding steps
  steps_elim Q r f g = go (ℕ_discrete (r % 2) 0)
    where
      go : Dec (r % 2 ≡ 0) → Q (steps ss r)
      go (yes e) = rw (eq-eqb (r % 2) 0 e, steps) (f e)
      go (no n) = rw (ne_eqb (r % 2) 0 n, steps) (g n)

  pub forward_steps : (i : ℕ) → steps ss (2 * i) ≡ get_or ss i []
  forward_steps i = steps_elim (λ s. s ≡ get_or ss i []) (2 * i) (λ e. ap (λ j. get_or ss j []) (omega arith)) (λ n. absurd (n (omega arith)))

  pub reversed_steps : (i : ℕ) → steps ss (suc (2 * i)) ≡ backwards (steps ss (2 * i))
  reversed_steps i =
      let h : suc (2 * i) / 2 ≡ i = omega arith in
      steps_elim (λ s. s ≡ backwards (get_or ss i [])) (suc (2 * i)) (λ e. absurd (omega arith)) (λ n. ap (λ j. backwards (get_or ss j [])) h) ∙ ap backwards (sym (forward_steps i))

  pub in_refs : (r : ℕ) → r < 2 * length ss → In r (refs ss)
  unfolding refs
  in_refs r k = in_upto (2 * length ss) 0 r (omega arith) (omega arith)

  pub refs_in : (r : ℕ) → In r (refs ss) → r < 2 * length ss
  unfolding refs
  refs_in r i = let p = upto_in (2 * length ss) 0 r i in omega arith

module _ {P : Picture} (F : Framed P) {ss : List (List Dart)} (D : Describes P ss) where
  -- OF ONE SEGMENT
  crack_at : (i : ℕ) (c : Dart) → In c (get_or ss i []) → crack P c ≡ true
  crack_at i c j = D.cracked c (at_flat ss c i j)

  one_at : (c : Dart) (i j : ℕ) → In c (get_or ss i []) → In c (get_or ss j []) → i ≡ j
  one_at c = at_once ss (once_distinct (flat ss) D.once) c

  apart_at : (c : Dart) (i j : ℕ) → In c (get_or ss i []) → In (turned c) (get_or ss j []) → ⊥
  apart_at c i j p q = once_apart F (flat ss) D.once c (crack_at i c p) (at_flat ss c i p) (at_flat ss (turned c) j q)

  -- the side of its segment that a reference takes
  abbrev Side : Dart → ℕ → Type 0
  Side c r = ((r % 2 ≡ 0) × In c (get_or ss (r / 2) [])) ⊎ ((r % 2 ≡ 0 → ⊥) × In (turned c) (get_or ss (r / 2) []))

  step_side : (c : Dart) (r : ℕ) → In c (steps ss r) → Side c r
  step_side c r = steps_elim ss (λ s. In c s → Side c r) r (λ e i. inl (e, i)) back
    where
      back : (r % 2 ≡ 0 → ⊥) → In c (backwards (get_or ss (r / 2) [])) → Side c r
      back n i = let b = backwards_in (get_or ss (r / 2) []) c i in inr (n, in-cast (ap turned b.2 ∙ turned_turned F b.0 (crack_at (r / 2) b.0 b.1)) b.1)

  -- EACH STEP IS A CRACK, AND NO OTHER REFERENCE HAS IT
  pub step_crack : (c : Dart) (r : ℕ) → In c (steps ss r) → crack P c ≡ true
  step_crack c r = steps_elim ss (λ s. In c s → crack P c ≡ true) r (λ e i. crack_at (r / 2) c i) back
    where
      back : (r % 2 ≡ 0 → ⊥) → In c (backwards (get_or ss (r / 2) [])) → crack P c ≡ true
      back n i = let b = backwards_in (get_or ss (r / 2) []) c i in ap (crack P) b.2 ∙ turned_crack F b.0 (crack_at (r / 2) b.0 b.1)

  pub step_of_one : (c : Dart) (r q : ℕ) → In c (steps ss r) → In c (steps ss q) → r ≡ q
  step_of_one c r q i j = go (step_side c r i) (step_side c q j)
    where
      go : Side c r → Side c q → r ≡ q
      go (inl u) (inl v) = omega (arith, one_at c (r / 2) (q / 2) u.1 v.1, u.0, v.0)
      go (inl u) (inr v) = absurd (apart_at c (r / 2) (q / 2) u.1 v.1)
      go (inr u) (inl v) = absurd (apart_at c (q / 2) (r / 2) v.1 u.1)
      go (inr u) (inr v) = omega (arith, one_at (turned c) (r / 2) (q / 2) u.1 v.1, u.0, v.0)

  -- nor does it come with its turned one, nor twice
  pub steps_plain : (r : ℕ) → Plain P (steps ss r)
  steps_plain r = record { cracks = λ c. step_crack c r; apart = λ c i j. go c (step_side c r i) (step_side (turned c) r j) }
    where
      go : (c : Dart) → Side c r → Side (turned c) r → ⊥
      go c (inl u) (inl v) = apart_at c (r / 2) (r / 2) u.1 v.1
      go c (inl u) (inr v) = v.0 u.0
      go c (inr u) (inl v) = u.0 v.0
      go c (inr u) (inr v) = apart_at (turned c) (r / 2) (r / 2) u.1 v.1

  pub steps_distinct : (r : ℕ) → Distinct (steps ss r)
  steps_distinct r =
      let d = at_distinct ss (once_distinct (flat ss) D.once) (r / 2) in
      steps_elim ss Distinct r (λ _. d) (λ _. backwards_distinct F (get_or ss (r / 2) []) (crack_at (r / 2)) d)

  -- EACH CRACK IS A STEP OF A REFERENCE
  pub step_of : (c : Dart) → crack P c ≡ true → (r : ℕ) × (r < 2 * length ss) × In c (steps ss r)
  step_of c k = go (D.whole c k)
    where
      go : In c (flat ss) ⊎ In (turned c) (flat ss) → (r : ℕ) × (r < 2 * length ss) × In c (steps ss r)
      go (inl i) = let p = flat_at ss c i in (2 * p.0, omega (arith, p.1), subst (In c) (sym (forward_steps ss p.0)) p.2)
      go (inr i) =
          let p = flat_at ss (turned c) i in
          let e = reversed_steps ss p.0 ∙ ap backwards (forward_steps ss p.0) in
          (suc (2 * p.0), omega (arith, p.1), in-cast (sym (turned_turned F c k)) (subst (In (turned (turned c))) (sym e) (in_backwards (get_or ss p.0 []) (turned c) p.2)))

  -- A REFERENCE IS A SEGMENT
  pub steps_segment : (r : ℕ) → r < 2 * length ss → Segment P (steps ss r)
  steps_segment r k =
      let s = D.segment (get_or ss (r / 2) []) (in_at ss (r / 2) [] (omega arith)) in
      steps_elim ss (Segment P) r (λ _. s) (λ _. backwards_segment F (get_or ss (r / 2) []) (crack_at (r / 2)) s)
