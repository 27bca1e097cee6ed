-- The contours of painted regions: those through nodes, and each ring by itself.
use Prim.Native.Nat.{ℕ, ◌*◌, ◌<◌, ◌≤◌}
use mathlib.Core.Bool.{Bool, true, false, not, true≢false}
use mathlib.Core.Path.{◌≡◌, refl, sym, ap, ◌∙◌, subst}
use mathlib.Core.Logic.{◌⊎◌, inl, inr, ⊎_elim}
use mathlib.Core.List.Memᴰ.{append_cases as in-cases}
use mathlib.Core.List.Memᴰ.{append_left as in_left}
use mathlib.Core.List.Memᴰ.{append_right as in_right}
use mathlib.Core.List.Memᴰ.{eq_of_singleton}
use mathlib.Core.List.Memᴰ.{head as here}
use mathlib.Core.List.Memᴰ.{map as in_map}
use mathlib.Core.List.Memᴰ.{of_map}
use mathlib.Core.List.{List, [], ◌∷◌, ◌++◌, map, Memᴰ as In}
use native.Mathlib.Omega.{arith}
use lib.Dec.{ltb}
use lib.ListN.{length, get_or}
use borrow.Author.Tests.{not-true, ltb-true, lt-ltb}
use Rattle.rules.specs.Lists.{flat, keep, Distinct}
use Rattle.rules.specs.Picture.{Picture, OUTSIDE, Dart}
use Rattle.rules.specs.Face.{refs, region, is_open, next, discover, contours}
use Rattle.rules.proofs.Lattice.Frame.{Framed}
use Rattle.rules.proofs.Ground.Lists.{distinct_append, flat_append, in_flat, flat_in, flat_singles, keep_in, in_keep, keep_distinct, keep_flat_distinct, flat_many, upto_distinct, length_upto}
use Rattle.rules.proofs.Ground.Pigeonhole.{pigeonhole}
use Rattle.rules.proofs.Ground.Orbits.{Cycle}
use Rattle.rules.proofs.References.Steps.{in_refs, refs_in}
use Rattle.rules.proofs.Contours.Discovery.{found, live_found, found_region}
use Rattle.rules.specs.Describes.{Describes}

-- a cycle of open references, or a ring by itself
abbrev pub Contour : Picture → List (List Dart) → List ℕ → Type 0
Contour P ss c = (Cycle (next P ss) c × ((r : ℕ) → In r c → is_open P ss r ≡ true)) ⊎ ((r : ℕ) × (c ≡ r ∷ []) × (is_open P ss r ≡ false))

-- what holds of each reference of a contour: it is one, and has the region of the first
pub record Member (P : Picture) (ss : List (List Dart)) (c : List ℕ) (r : ℕ) : Type 0 where
  pub below : r < 2 * length ss
  pub same : region P ss r ≡ region P ss (get_or c 0 0)

pub record Painted (P : Picture) (ss : List (List Dart)) (paints : ℕ) (cs : List (List ℕ)) : Type 0 where
  pub contour : (c : List ℕ) → In c cs → Contour P ss c
  pub member : (c : List ℕ) → In c cs → (r : ℕ) → In r c → Member P ss c r
  pub painted : (c : List ℕ) → In c cs → (r : ℕ) → In r c → region P ss r < paints
  -- each reference of a painted region is in a contour, and none is twice
  pub whole : (r : ℕ) → r < 2 * length ss → region P ss r < paints → In r (flat cs)
  pub once : Distinct (flat cs)

module _ {P : Picture} (F : Framed P) {ss : List (List Dart)} (D : Describes P ss) where
  abbrev ringed : List ℕ
  ringed = keep (λ r. not (is_open P ss r)) (refs ss)

  abbrev every : List (List ℕ)
  every = discover P ss [] (refs ss) ++ map (λ r. r ∷ []) ringed

  ringed_in : (r : ℕ) → In r ringed → (r < 2 * length ss) × (is_open P ss r ≡ false)
  ringed_in r i = let p = keep_in (λ r. not (is_open P ss r)) (refs ss) r i in (refs_in ss r p.0, not-true (is_open P ss r) p.1)

  -- what is there of each
  every_cases : (c : List ℕ) → In c every → In c (discover P ss [] (refs ss)) ⊎ ((r : ℕ) × In r ringed × (c ≡ r ∷ []))
  every_cases c i = ⊎_elim inl (λ i. let p = of_map (λ r. r ∷ []) ringed i in inr (p.0, p.1, sym p.2)) (in-cases (discover P ss [] (refs ss)) i)

  every_contour : (c : List ℕ) → In c every → Contour P ss c
  every_contour c i = go (every_cases c i)
    where
      go : In c (discover P ss [] (refs ss)) ⊎ ((r : ℕ) × In r ringed × (c ≡ r ∷ [])) → Contour P ss c
      go (inl j) = inl ((found F D).cycles c j, λ r k. ((found F D).live r (in_flat (discover P ss [] (refs ss)) c r j k)).opens)
      go (inr p) = inr (p.0, p.2, (ringed_in p.0 p.1).1)

  every_member : (c : List ℕ) → In c every → (r : ℕ) → In r c → Member P ss c r
  every_member c i r k = go (every_cases c i)
    where
      go : In c (discover P ss [] (refs ss)) ⊎ ((r : ℕ) × In r ringed × (c ≡ r ∷ [])) → Member P ss c r
      go (inl j) = record { below = ((found F D).live r (in_flat (discover P ss [] (refs ss)) c r j k)).below; same = found_region F D c j r k }
      go (inr p) =
          let e : r ≡ p.0 = eq_of_singleton (subst (In r) p.2 k) in
          record { below = subst (λ q. q < 2 * length ss) (sym e) (ringed_in p.0 p.1).0; same = ap (region P ss) (e ∙ ap (λ c. get_or c 0 0) (sym p.2)) }

  every_once : Distinct (flat every)
  unfolding refs
  every_once =
      subst Distinct (sym (flat_append (discover P ss [] (refs ss)) (map (λ r. r ∷ []) ringed) ∙ ap (λ l. flat (discover P ss [] (refs ss)) ++ l) (flat_singles ringed)))
      (distinct_append (flat (discover P ss [] (refs ss))) ringed (found F D).once (keep_distinct (λ r. not (is_open P ss r)) (refs ss) (upto_distinct (2 * length ss) 0))
      (λ r i j. true≢false (sym ((found F D).live r i).opens ∙ (ringed_in r j).1)))

  every_whole : (r : ℕ) → r < 2 * length ss → (region P ss r ≡ OUTSIDE → ⊥) → (c : List ℕ) × In c every × In r c
  every_whole r k n = go (is_open P ss r) refl
    where
      go : (b : Bool) → is_open P ss r ≡ b → (c : List ℕ) × In c every × In r c
      go true o =
          let p = flat_in (discover P ss [] (refs ss)) r (live_found F D r (record { below = k; opens = o; inside = n })) in
          (p.0, in_left (map (λ r. r ∷ []) ringed) p.1, p.2)
      go false o = (r ∷ [], in_right (discover P ss [] (refs ss)) (in_map (λ r. r ∷ []) (in_keep (λ r. not (is_open P ss r)) (refs ss) r (ap not o) (in_refs ss r k))), here refl)

  -- those of painted regions
  module _ (paints : ℕ) where
    abbrev is_painted : List ℕ → Bool
    is_painted c = ltb (region P ss (get_or c 0 0)) paints

    contours_in_lem : (c : List ℕ) → In c (contours P ss paints) → In c every × (is_painted c ≡ true)
    unfolding contours
    contours_in_lem c i = keep_in is_painted every c i

    contours_whole : paints ≤ OUTSIDE → (r : ℕ) → r < 2 * length ss → region P ss r < paints → In r (flat (contours P ss paints))
    unfolding contours
    contours_whole b r k l =
        let p = every_whole r k (λ e. omega arith) in
        let e = (every_member p.0 p.1 r p.2).same in
        in_flat (contours P ss paints) p.0 r (in_keep is_painted every p.0 (lt-ltb (region P ss (get_or p.0 0 0)) paints (omega arith)) p.1) p.2

    contours_once : Distinct (flat (contours P ss paints))
    unfolding contours
    contours_once = keep_flat_distinct is_painted every every_once

    pub painted : paints ≤ OUTSIDE → Painted P ss paints (contours P ss paints)
    painted b = record {
      contour = λ c i. every_contour c (contours_in_lem c i).0;
      member = λ c i. every_member c (contours_in_lem c i).0;
      painted = λ c i r j. let e = (every_member c (contours_in_lem c i).0 r j).same in let l = ltb-true (region P ss (get_or c 0 0)) paints (contours_in_lem c i).1 in omega arith;
      whole = contours_whole b;
      once = contours_once;
    }

-- HOW MANY: each contour has a reference, and there are no more in all than two for each segment

module _ {P : Picture} {ss : List (List Dart)} {paints : ℕ} {cs : List (List ℕ)} (p : Painted P ss paints cs) where
  pub contour_some : (c : List ℕ) → Contour P ss c → 0 < length c
  contour_some [] (inl k) = absurd k.0
  contour_some (r ∷ c) (inl k) = omega arith
  contour_some c (inr k) = omega (arith, ap length k.1)

  pub contour_count : length cs ≤ length (flat cs)
  contour_count = flat_many cs (λ c i. contour_some c (p.contour c i))

  pub reference_count : length (flat cs) ≤ 2 * length ss
  unfolding refs
  reference_count =
      let q = pigeonhole (flat cs) (refs ss) p.once (λ r i. let c = flat_in cs r i in in_refs ss r (p.member c.0 c.1 r c.2).below) in
      omega (arith, q, length_upto (2 * length ss) 0)
