-- Contours: each side of a segment whose region is painted is in one contour, once, and each contour has one region.
use Prim.Native.Nat.{ℕ, ◌*◌, ◌<◌}
use mathlib.Core.Bool.{Bool, true, false, not, ◌&&◌, false≢true}
use mathlib.Core.Path.{◌≡◌, refl, sym, ap, ◌∙◌, subst}
use mathlib.Core.Logic.{⊎_elim}
use mathlib.Core.List.Memᴰ.{append_cases as in-cases}
use mathlib.Core.List.Memᴰ.{append_left as in_left}
use mathlib.Core.List.Memᴰ.{append_right as in_right}
use mathlib.Core.List.Memᴰ.{cast as in-cast}
use mathlib.Core.List.Memᴰ.{eq_of_singleton}
use mathlib.Core.List.Memᴰ.{head as here}
use mathlib.Core.List.Memᴰ.{not-nil}
use mathlib.Core.List.Memᴰ.{tail as there}
use mathlib.Core.List.{List, [], ◌∷◌, ◌++◌, Memᴰ as In}
use lib.Dec.{eqb}
use lib.ListN.{length, get_or}
use borrow.Author.Tests.{eqb-true, eqb-false}
use Rattle.rules.specs.Lists.{flat, among, Distinct}
use Rattle.rules.specs.Picture.{Picture, OUTSIDE, Dart}
use Rattle.rules.specs.Face.{refs, region, is_open, next, round, enter, discover}
use Rattle.rules.proofs.Lattice.Frame.{Framed}
use Rattle.rules.proofs.Ground.Lists.{distinct_append, flat_snoc, in_flat, flat_in, among_in, not_among}
use Rattle.rules.proofs.Ground.Orbits.{Linked, Cycle, cycle_before}
use Rattle.rules.proofs.References.Steps.{in_refs, refs_in}
use Rattle.rules.proofs.Contours.Rounds.{Live, Round, the_round, next_live, next_injective, next_region}
use Rattle.rules.specs.Describes.{Describes}

-- contours through nodes: cycles of the next reference, with no reference twice
pub record Found (P : Picture) (ss : List (List Dart)) (cs : List (List ℕ)) : Type 0 where
  pub cycles : (c : List ℕ) → In c cs → Cycle (next P ss) c
  pub live : (r : ℕ) → In r (flat cs) → Live P ss r
  pub once : Distinct (flat cs)

module _ {P : Picture} (F : Framed P) {ss : List (List Dart)} (D : Describes P ss) where
  -- ONE MORE ROUND
  module _ (cs : List (List ℕ)) (g : Found P ss cs) where
    -- what leads to a found reference is found
    found_back : (r : ℕ) → Live P ss r → In (next P ss r) (flat cs) → In r (flat cs)
    found_back r v i =
        let c = flat_in cs (next P ss r) i in
        let p = cycle_before (next P ss) c.0 (g.cycles c.0 c.1) (next P ss r) c.2 in
        let j = in_flat cs c.0 p.0 c.1 p.1 in
        let u = g.live p.0 j in
        in-cast (next_injective F D r p.0 v.below v.opens u.below u.opens (sym p.2)) j

    linked_off_at : (r a : ℕ) (l : List ℕ) → Live P ss a → Linked (next P ss) a l → (In a (flat cs) → ⊥) → In r (a ∷ l) → In r (flat cs) → ⊥
    linked_off_at r a l v k n (here e) j = n (in-cast (sym e) j)
    linked_off_at r a [] v k n (there i) j = not-nil i
    linked_off_at r a (b ∷ l) v k n (there i) j =
        linked_off_at r b l (subst (Live P ss) (sym k.0) (next_live F D a v)) k.1 (λ i. n (found_back a v (in-cast (sym k.0) i))) i j

    linked_off : (a : ℕ) (l : List ℕ) → Live P ss a → Linked (next P ss) a l → (In a (flat cs) → ⊥) → (r : ℕ) → In r (a ∷ l) → In r (flat cs) → ⊥
    linked_off a l v k n r i j = linked_off_at r a l v k n i j

    add_round : (r : ℕ) (l : List ℕ) → (In r (flat cs) → ⊥) → Round P ss r l → Found P ss (cs ++ ((r ∷ l) ∷ []))
    add_round r l n o = record {
      cycles = λ c i. ⊎_elim (g.cycles c) (λ i. subst (Cycle (next P ss)) (sym (eq_of_singleton i)) o.cycle) (in-cases cs i);
      live = λ q i. ⊎_elim (g.live q) (o.live q) (in-cases (flat cs) (subst (In q) (flat_snoc cs (r ∷ l)) i));
      once = subst Distinct (sym (flat_snoc cs (r ∷ l))) (distinct_append (flat cs) (r ∷ l) g.once o.once (λ q i j. linked_off r l (o.live r (here refl)) o.cycle.0 n q j i));
    }

  -- DISCOVERY

  -- a reference adds nothing, and, if live, was there; or it adds its round
  enter_elim : (Q : List (List ℕ) → Type 0) (cs : List (List ℕ)) (r : ℕ) → r < 2 * length ss → ((Live P ss r → In r (flat cs)) → Q cs)
      → ((l : List ℕ) → (In r (flat cs) → ⊥) → Round P ss r l → Q (cs ++ ((r ∷ l) ∷ []))) → Q (enter P ss cs r)
  unfolding enter
  enter_elim Q cs r k same more = go (is_open P ss r) refl (eqb (region P ss r) OUTSIDE) refl (among r (flat cs)) refl
    where
      go : (p : Bool) → is_open P ss r ≡ p → (q : Bool) → eqb (region P ss r) OUTSIDE ≡ q → (s : Bool) → among r (flat cs) ≡ s
          → Q (elim (p && not q && not s) [ true ↦ cs ++ (round P ss (2 * length ss) r r ∷ []) | false ↦ cs ])
      go false p q e s f = same (λ v. absurd (false≢true (sym p ∙ v.opens)))
      go true p true e s f = same (λ v. absurd (v.inside (eqb-true (region P ss r) OUTSIDE e)))
      go true p false e true f = same (λ v. among_in r (flat cs) f)
      go true p false e false f =
          let o = the_round F D r (record { below = k; opens = p; inside = eqb-false (region P ss r) OUTSIDE e }) in
          subst (λ c. Q (cs ++ (c ∷ []))) (sym o.1) (more o.0 (not_among r (flat cs) f) o.2)

  enter_found : (cs : List (List ℕ)) (r : ℕ) → r < 2 * length ss → Found P ss cs → Found P ss (enter P ss cs r)
  enter_found cs r k g = enter_elim (Found P ss) cs r k (λ _. g) (λ l n o. add_round cs g r l n o)

  enter_keeps : (cs : List (List ℕ)) (r : ℕ) → r < 2 * length ss → (q : ℕ) → In q (flat cs) → In q (flat (enter P ss cs r))
  enter_keeps cs r k q i = enter_elim (λ ds. In q (flat ds)) cs r k (λ _. i) (λ l _ _. subst (In q) (sym (flat_snoc cs (r ∷ l))) (in_left (r ∷ l) i))

  enter_holds : (cs : List (List ℕ)) (r : ℕ) → Live P ss r → In r (flat (enter P ss cs r))
  enter_holds cs r v = enter_elim (λ ds. In r (flat ds)) cs r v.below (λ f. f v) (λ l _ _. subst (In r) (sym (flat_snoc cs (r ∷ l))) (in_right (flat cs) (here refl)))

  discover_found : (rs : List ℕ) (cs : List (List ℕ)) → ((r : ℕ) → In r rs → r < 2 * length ss) → Found P ss cs → Found P ss (discover P ss cs rs)
  unfolding discover
  discover_found [] cs f g = g
  discover_found (r ∷ rs) cs f g = discover_found rs (enter P ss cs r) (λ q i. f q (there i)) (enter_found cs r (f r (here refl)) g)

  discover_keeps : (rs : List ℕ) (cs : List (List ℕ)) → ((r : ℕ) → In r rs → r < 2 * length ss) → (q : ℕ) → In q (flat cs) → In q (flat (discover P ss cs rs))
  unfolding discover
  discover_keeps [] cs f q i = i
  discover_keeps (r ∷ rs) cs f q i = discover_keeps rs (enter P ss cs r) (λ q i. f q (there i)) q (enter_keeps cs r (f r (here refl)) q i)

  discover_holds : (rs : List ℕ) (cs : List (List ℕ)) → ((r : ℕ) → In r rs → r < 2 * length ss) → (q : ℕ) → Live P ss q → In q rs → In q (flat (discover P ss cs rs))
  unfolding discover
  discover_holds [] cs f q v i = absurd (not-nil i)
  discover_holds (r ∷ rs) cs f q v (here e) = discover_keeps rs (enter P ss cs r) (λ q i. f q (there i)) q (in-cast e (enter_holds cs r (subst (Live P ss) e v)))
  discover_holds (r ∷ rs) cs f q v (there i) = discover_holds rs (enter P ss cs r) (λ q i. f q (there i)) q v i

  none_found : Found P ss []
  unfolding flat
  none_found = record { cycles = λ c i. absurd (not-nil i); live = λ r i. absurd (not-nil i); once = tt }

  -- each is a cycle of live references, and no reference comes twice
  pub found : Found P ss (discover P ss [] (refs ss))
  found = discover_found (refs ss) [] (refs_in ss) none_found

  -- and each live reference is there
  pub live_found : (r : ℕ) → Live P ss r → In r (flat (discover P ss [] (refs ss)))
  live_found r v = discover_holds (refs ss) [] (refs_in ss) r v (in_refs ss r v.below)

  -- ONE REGION

  linked_region_at : (r a : ℕ) (l : List ℕ) → ((q : ℕ) → In q (a ∷ l) → Live P ss q) → Linked (next P ss) a l → In r (a ∷ l) → region P ss r ≡ region P ss a
  linked_region_at r a l v k (here e) = ap (region P ss) e
  linked_region_at r a [] v k (there i) = absurd (not-nil i)
  linked_region_at r a (b ∷ l) v k (there i) =
      let u = v a (here refl) in
      linked_region_at r b l (λ q i. v q (there i)) k.1 i ∙ ap (region P ss) k.0 ∙ next_region F D a u.below u.opens

  linked_region : (a : ℕ) (l : List ℕ) → ((q : ℕ) → In q (a ∷ l) → Live P ss q) → Linked (next P ss) a l → (r : ℕ) → In r (a ∷ l) → region P ss r ≡ region P ss a
  linked_region a l v k r i = linked_region_at r a l v k i

  cycle_region : (c : List ℕ) → ((q : ℕ) → In q c → Live P ss q) → Cycle (next P ss) c → (r : ℕ) → In r c → region P ss r ≡ region P ss (get_or c 0 0)
  cycle_region [] v k r i = absurd k
  cycle_region (a ∷ l) v k r i = linked_region a l v k.0 r i

  pub found_region : (c : List ℕ) → In c (discover P ss [] (refs ss)) → (r : ℕ) → In r c → region P ss r ≡ region P ss (get_or c 0 0)
  found_region c i = cycle_region c (λ q j. found.live q (in_flat (discover P ss [] (refs ss)) c q i j)) (found.cycles c i)
