-- The next reference of a contour: over the open references it keeps the region and is injective, so each round closes.
use Prim.Native.Nat.{ℕ, zero, suc, ◌*◌, ◌<◌}
use mathlib.Core.Bool.{true, false}
use mathlib.Core.Path.{◌≡◌, refl, sym, ap, ap₂, ◌∙◌, subst}
use mathlib.Core.Logic.{◌⊎◌, inl, inr}
use mathlib.Core.List.Memᴰ.{cast as in-cast}
use mathlib.Core.List.{List, [], ◌∷◌, Memᴰ as In}
use native.Mathlib.Omega.{arith}
use lib.Dec.{eqb}
use lib.ListN.{length}
use borrow.Author.Tests.{eqb-true, eqb-false}
use Rattle.rules.specs.Picture.{Picture, OUTSIDE, Dart, left, node}
use Rattle.rules.specs.Graph.{meets}
use Rattle.rules.specs.Face.{refs, first_step, last_step, turn, region, is_open, next, round}
use Rattle.rules.proofs.Lattice.Frame.{Framed}
use Rattle.rules.proofs.Lattice.WayOn.{following_only}
use Rattle.rules.proofs.Contours.Turns.{turn_crack, turn_left, turn_injective, turn_following}
use Rattle.rules.proofs.Ground.Lists.{length_upto}
use Rattle.rules.proofs.Ground.Orbits.{until, Orbit, Cycle, walk_linked, walk_last, walk_all, walk_distinct, stops}
use Rattle.rules.proofs.References.Steps.{in_refs, step_of_one, steps_plain}
use Rattle.rules.proofs.References.Ends.{reference, first_in_lem, last_in, first_crack, last_crack, step_left, open_last}
use Rattle.rules.proofs.References.OutEntries.{out_entry_lem}
use Rattle.rules.specs.Lists.{Distinct, last_of}
use Rattle.rules.specs.Describes.{Open, Ring, Describes}

-- an open reference of a region
pub record Live (P : Picture) (ss : List (List Dart)) (r : ℕ) : Type 0 where
  pub below : r < 2 * length ss
  pub opens : is_open P ss r ≡ true
  pub inside : region P ss r ≡ OUTSIDE → ⊥

module _ {P : Picture} (F : Framed P) {ss : List (List Dart)} (D : Describes P ss) where
  -- THE NEXT REFERENCE
  module _ (r : ℕ) (k : r < 2 * length ss) where
    module _ (o : is_open P ss r ≡ true) where
      turn_node : node P (turn P (last_step ss r)).x (turn P (last_step ss r)).y ≡ true
      unfolding turn meets
      turn_node = open_last F D r k o

      -- it starts with the turn of the last step
      pub next_first : (next P ss r < 2 * length ss) × (first_step ss (next P ss r) ≡ turn P (last_step ss r))
      unfolding next
      next_first = out_entry_lem F D (turn P (last_step ss r)) (turn_crack F (last_step ss r) (last_crack F D r k)) turn_node

      pub next_open : is_open P ss (next P ss r) ≡ true
      unfolding is_open
      next_open = ap (λ a. node P a.x a.y) next_first.1 ∙ turn_node

      pub next_region : region P ss (next P ss r) ≡ region P ss r
      unfolding region
      next_region =
          ap (left P) next_first.1 ∙ turn_left F (last_step ss r) (last_crack F D r k) ∙ step_left F D (last_step ss r) r k (last_in F D r k)

    -- a ring's last step turns into its first
    pub ring_turn : is_open P ss r ≡ false → turn P (last_step ss r) ≡ first_step ss r
    unfolding is_open meets
    ring_turn o = go (reference F D r k).ends
      where
        a : Dart
        a = first_step ss r

        z : Dart
        z = last_step ss r

        go : Open P a z ⊎ Ring P a z → turn P z ≡ a
        go (inl e) = absurd (let n : ◌≡◌ {A = ℕ} 0 1 = cc (e.0, o) in omega arith)
        go (inr e) =
            let m : meets P z ≡ false = ap₂ (node P) e.1 e.2 ∙ o in
            turn_following F z (last_crack F D r k) m
            ∙ sym (following_only F z (last_crack F D r k) m a (first_crack F D r k) (sym e.1) (sym e.2) (λ q. (steps_plain F D r).apart z (last_in F D r k) (in-cast (sym q) (first_in_lem F D r k))))

  pub next_injective : (r q : ℕ) → r < 2 * length ss → is_open P ss r ≡ true → q < 2 * length ss → is_open P ss q ≡ true → next P ss r ≡ next P ss q → r ≡ q
  next_injective r q k o j p e =
      let t = sym (next_first r k o).1 ∙ ap (first_step ss) e ∙ (next_first q j p).1 in
      let s = turn_injective F (last_step ss r) (last_step ss q) (last_crack F D r k) (last_crack F D q j) t in
      step_of_one F D (last_step ss r) r q (last_in F D r k) (in-cast s (last_in F D q j))

  pub next_live : (r : ℕ) → Live P ss r → Live P ss (next P ss r)
  next_live r v = record {
    below = (next_first r v.below v.opens).0;
    opens = next_open r v.below v.opens;
    inside = λ e. v.inside (sym (next_region r v.below v.opens) ∙ e);
  }

  -- THE ROUND
  pub round_orbit : (r₀ : ℕ) → Live P ss r₀ → Orbit (next P ss) (λ q. eqb (next P ss q) r₀) (λ r. r ≡ r₀) (Live P ss)
  round_orbit r₀ v₀ = record {
    first = λ r e. subst (Live P ss) (sym e) v₀;
    stays = λ r v k. next_live r v;
    away = λ r k e. eqb-false (next P ss r) r₀ k e;
    injective = λ r q v u k j e. next_injective r q v.below v.opens u.below u.opens e;
  }

module _ (P : Picture) (ss : List (List Dart)) (r₀ : ℕ) where
  round_until : (k r : ℕ) → round P ss k r₀ r ≡ until (next P ss) (λ q. eqb (next P ss q) r₀) k r
  unfolding round until
  round_until zero r = refl
  round_until (suc k) r = ap (λ l. r ∷ elim (eqb (next P ss r) r₀) [ true ↦ [] | false ↦ l ]) (round_until k (next P ss r))

-- a round from r: r and then rest
pub record Round (P : Picture) (ss : List (List Dart)) (r : ℕ) (rest : List ℕ) : Type 0 where
  pub cycle : Cycle (next P ss) (r ∷ rest)
  pub once : Distinct (r ∷ rest)
  pub live : (q : ℕ) → In q (r ∷ rest) → Live P ss q

pub the_round : {P : Picture} → Framed P → {ss : List (List Dart)} → Describes P ss → (r : ℕ) → Live P ss r
    → (rest : List ℕ) × (round P ss (2 * length ss) r r ≡ r ∷ rest) × Round P ss r rest
unfolding refs
the_round {P} F {ss} D r v =
    let f = next P ss in
    let O = round_orbit F D r v in
    let w = stops O (refs ss) (λ q u. in_refs ss q u.below) (2 * length ss) r refl (omega (arith, length_upto (2 * length ss) 0)) in (
      w.0,
      round_until P ss r (2 * length ss) r ∙ w.1,
      record {
        cycle = (walk_linked f (λ q. eqb (next P ss q) r) r w.0 w.2, eqb-true (next P ss (last_of r w.0)) r (walk_last f (λ q. eqb (next P ss q) r) r w.0 w.2));
        once = walk_distinct O r w.0 [] refl w.2;
        live = walk_all O r w.0 v w.2;
      },
    )
