-- The definition's numbers are the first pixels of the islands: a round brings a number one step further, and no way is longer than the pixels are many.
use mathlib.Core.Path.{◌≡◌, refl, sym, ◌∙◌, ap, subst}
use mathlib.Core.Bool.{Bool, true, false}
use mathlib.Core.List.Memᴰ.{head as at_head}
use mathlib.Core.List.Memᴰ.{not-nil}
use mathlib.Core.List.Memᴰ.{tail as in_Tail}
use mathlib.Core.List.{List, [], ◌∷◌, Memᴰ as In}
use Prim.Native.Nat.{ℕ, zero, suc, ◌*◌, ◌≤◌, ◌<◌}
use native.Mathlib.Nat.{le_trans, not-suc-le-zero, le_of_suc-le-suc}
use native.Mathlib.Omega.{arith}
use native.Mathlib.Decide.{ℕ_discrete}
use lib.ListN.{length, get_or, length-map}
use Rattle.rules.specs.Lists.{upto, among, Distinct}
use Rattle.rules.specs.Picture.{Picture, OUTSIDE}
use Rattle.rules.specs.Face.{pixels, label_of, least, rounds, firsts}
use Rattle.rules.proofs.Ground.Lists.{at_map, at_upto, length_upto, in_upto, among_in, not_among}
use Rattle.rules.proofs.Ground.Pigeonhole.{pigeonhole}
use Rattle.rules.proofs.Lattice.Frame.{Framed}
use Rattle.rules.proofs.Islands.Joined.{Step, Joined, here, step, stay, trans, turn, joined_in}
use Rattle.rules.proofs.Islands.Least.{least_out, least_le, least_keeps}

-- WAYS: the pixels after p on a chain from p to q

abbrev Way : Picture → ℕ → List ℕ → ℕ → Type 0
Way P p [] q = p ≡ q
Way P p (r ∷ l) q = Step P p r × Way P r l q

module _ (P : Picture) (q : ℕ) where
  -- a way that comes to no pixel twice
  abbrev Straight : ℕ → Type 0
  Straight p = (l : List ℕ) × Way P p l q × Distinct (p ∷ l)

  -- from a later pixel on
  later : (p r : ℕ) (l : List ℕ) → Way P r l q → Distinct (r ∷ l) → In p (r ∷ l) → Straight p
  later p r l w d (at_head e) = subst Straight (sym e) (l, w, d)
  later p r [] w d (in_Tail i) = absurd (not-nil i)
  later p r (t ∷ l) w d (in_Tail i) = later p t l w.1 d.1 i

  straight : {p : ℕ} → Joined P p q → Straight p
  straight here = ([], refl, (not-nil, tt))
  straight (step {p} {q = r} s j) = go (straight j)
    where
      go : Straight r → Straight p
      go v = met (among p (r ∷ v.0)) refl
        where
          met : (b : Bool) → among p (r ∷ v.0) ≡ b → Straight p
          met true e = later p r v.0 v.1 v.2 (among_in p (r ∷ v.0) e)
          met false e = (r ∷ v.0, (s, v.1), (not_among p (r ∷ v.0) e, v.2))

  way_in_lem_at : (r p : ℕ) (l : List ℕ) → p < P.w * P.h → Way P p l q → In r (p ∷ l) → r < P.w * P.h
  way_in_lem_at r p l h w (at_head e) = rw e h
  way_in_lem_at r p [] h w (in_Tail i) = absurd (not-nil i)
  way_in_lem_at r p (t ∷ l) h w (in_Tail i) = way_in_lem_at r t l w.0.end w.1 i

  way_in_lem : (p : ℕ) (l : List ℕ) → p < P.w * P.h → Way P p l q → (r : ℕ) → In r (p ∷ l) → r < P.w * P.h
  way_in_lem p l h w r i = way_in_lem_at r p l h w i

  straight_short : (p : ℕ) (l : List ℕ) → p < P.w * P.h → Way P p l q → Distinct (p ∷ l) → length l ≤ P.w * P.h
  straight_short p l h w d =
      let k = pigeonhole (p ∷ l) (upto (P.w * P.h) 0) d (λ r i. in_upto (P.w * P.h) 0 r (omega arith) (omega (arith, way_in_lem p l h w r i))) in
      omega (arith, length_upto (P.w * P.h) 0)

-- ROUNDS

module _ (P : Picture) (F : Framed P) where
  -- the number of p after k rounds
  abbrev num : ℕ → ℕ → ℕ
  num k p = get_or (rounds P k) p 0

  length_rounds : (k : ℕ) → length (rounds P k) ≡ P.w * P.h
  unfolding rounds pixels
  length_rounds zero = length_upto _ 0
  length_rounds (suc k) = length-map (upto (P.w * P.h) 0) (least P (rounds P k)) ∙ length_upto _ 0

  num_zero : (p : ℕ) → p < P.w * P.h → num 0 p ≡ p
  unfolding rounds pixels
  num_zero p h = omega (arith, at_upto (P.w * P.h) 0 p 0 h)

  num_suc : (k p : ℕ) → p < P.w * P.h → num (suc k) p ≡ least P (rounds P k) p
  unfolding rounds pixels
  num_suc k p h =
      let i : p < length (upto (P.w * P.h) 0) = omega (arith, length_upto (P.w * P.h) 0) in
      at_map (least P (rounds P k)) (upto (P.w * P.h) 0) p 0 0 i ∙ ap (least P (rounds P k)) (omega (arith, at_upto (P.w * P.h) 0 p 0 h))

  num_out : (k p : ℕ) → p < P.w * P.h → label_of P p ≡ OUTSIDE → num k p ≡ p
  num_out zero p h e = num_zero p h
  num_out (suc k) p h e = num_suc k p h ∙ least_out P F (rounds P k) (length_rounds k) p e

  -- each number is a pixel that is joined to p
  num_joined : (k p : ℕ) → p < P.w * P.h → Joined P p (num k p)
  num_joined zero p h = rw (num_zero p h) here
  num_joined (suc k) p h = go (λ q l. num_joined k q l) (ℕ_discrete (label_of P p) OUTSIDE)
    where
      go : ((q : ℕ) → q < P.w * P.h → Joined P q (num k q)) → Dec (label_of P p ≡ OUTSIDE) → Joined P p (num (suc k) p)
      go ih (yes e) = rw (num_out (suc k) p h e) here
      go ih (no o) = rw (num_suc k p h) (least_keeps P F (rounds P k) (length_rounds k) (λ a. Joined P p a) p h o (λ q s. step s (ih q s.end)))

  -- and no more than any on a way of at most k steps
  num_le : (k p q : ℕ) → Step P p q → num (suc k) p ≤ num k q
  num_le k p q s = rw (num_suc k p s.start) (least_le P F (rounds P k) (length_rounds k) p q s)

  num_own : (k p : ℕ) → p < P.w * P.h → num k p ≤ p
  num_own zero p h = omega (arith, num_zero p h)
  num_own (suc k) p h = go (num_own k p h) (ℕ_discrete (label_of P p) OUTSIDE)
    where
      go : num k p ≤ p → Dec (label_of P p ≡ OUTSIDE) → num (suc k) p ≤ p
      go ih (yes e) = omega (arith, num_out (suc k) p h e)
      go ih (no o) = le_trans (num_le k p p (stay p h o)) ih

  num_way : (k p q : ℕ) (l : List ℕ) → p < P.w * P.h → Way P p l q → length l ≤ k → num k p ≤ q
  num_way k p q [] h w i = omega (arith, num_own k p h)
  num_way zero p q (r ∷ l) h w i = absurd (not-suc-le-zero i)
  num_way (suc k) p q (r ∷ l) h w i = le_trans (num_le k p r w.0) (num_way k r q l w.0.end w.1 (le_of_suc-le-suc i))

  -- THE NUMBER OF p: the least pixel that is joined to p

  pub firsts_in : (p : ℕ) → p < P.w * P.h → Joined P p (get_or (firsts P) p 0)
  unfolding firsts
  firsts_in p h = num_joined (P.w * P.h) p h

  pub firsts_least : (p : ℕ) → p < P.w * P.h → (q : ℕ) → Joined P p q → get_or (firsts P) p 0 ≤ q
  unfolding firsts
  firsts_least p h q j = let v = straight P q j in num_way (P.w * P.h) p q v.0 h v.1 (straight_short P q p v.0 h v.1 v.2)

  -- joined pixels have one number
  pub firsts_same : (p q : ℕ) → p < P.w * P.h → Joined P p q → get_or (firsts P) p 0 ≡ get_or (firsts P) q 0
  firsts_same p q h j =
      let i : q < P.w * P.h = joined_in h j in
      let a : get_or (firsts P) p 0 ≤ get_or (firsts P) q 0 = firsts_least p h _ (trans j (firsts_in q i)) in
      let b : get_or (firsts P) q 0 ≤ get_or (firsts P) p 0 = firsts_least q i _ (trans (turn j) (firsts_in p h)) in
      omega arith
