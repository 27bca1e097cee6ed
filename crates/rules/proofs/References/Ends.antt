-- A reference by its first and its last step, and what holds along it.
use Prim.Native.Nat.{ℕ, suc, pred, ◌*◌, ◌<◌}
use mathlib.Core.Bool.{true, true≢false}
use mathlib.Core.Path.{◌≡◌, refl, sym, ap, ap₂, ◌∙◌, subst}
use mathlib.Core.Logic.{◌⊎◌, inl, inr}
use mathlib.Core.List.Memᴰ.{cast as in-cast}
use mathlib.Core.List.Memᴰ.{head as here}
use mathlib.Core.List.Memᴰ.{not-nil}
use mathlib.Core.List.Memᴰ.{tail as there}
use mathlib.Core.List.{List, [], ◌∷◌, Memᴰ as In}
use native.Mathlib.Omega.{arith}
use lib.ListN.{length, get_or}
use Rattle.rules.specs.Picture.{Picture, Dart, turned, left, right, crack, node}
use Rattle.rules.specs.Graph.{meets}
use Rattle.rules.specs.Face.{backwards, no_dart, steps, first_step, last_step, region, is_open, turn}
use Rattle.rules.proofs.Lattice.Frame.{Framed}
use Rattle.rules.proofs.Lattice.Darts.{turned_left}
use Rattle.rules.proofs.Ground.Lists.{in_last, last_at}
use Rattle.rules.proofs.Ground.Orbits.{Linked}
use Rattle.rules.proofs.Tracing.Along.{Plain, Along, through_turns, through_along}
use Rattle.rules.proofs.References.Backwards.{Reversed, reversed}
use Rattle.rules.proofs.References.Steps.{reversed_steps, step_crack, steps_plain, steps_segment}
use Rattle.rules.specs.Lists.{last_of}
use Rattle.rules.specs.Describes.{Through, Open, Ring, Segment, Describes}

-- the steps of a reference, by its first and its last one
pub record Reference (P : Picture) (ss : List (List Dart)) (r : ℕ) : Type 0 where
  pub rest : List Dart
  pub all : steps ss r ≡ first_step ss r ∷ rest
  pub through : Through P (first_step ss r) rest
  pub last : last_step ss r ≡ last_of (first_step ss r) rest
  pub ends : Open P (first_step ss r) (last_step ss r) ⊎ Ring P (first_step ss r) (last_step ss r)

module _ (P : Picture) (ss : List (List Dart)) where
  first_is : (r : ℕ) (a : Dart) (l : List Dart) → steps ss r ≡ a ∷ l → first_step ss r ≡ a
  unfolding first_step
  first_is r a l e = ap (λ s. get_or s 0 no_dart) e

  last_is : (r : ℕ) (a : Dart) (l : List Dart) → steps ss r ≡ a ∷ l → last_step ss r ≡ last_of a l
  unfolding last_step
  last_is r a l e = ap (λ s. get_or s (pred (length s)) no_dart) e ∙ last_at a no_dart l

  as_reference : (r : ℕ) (s : List Dart) → steps ss r ≡ s → Segment P s → Reference P ss r
  as_reference r [] e k = absurd k
  as_reference r (a ∷ l) e k =
      let f = first_is r a l e in
      let z = last_is r a l e in
      record {
        rest = l;
        all = e ∙ ap (λ b. b ∷ l) (sym f);
        through = subst (λ b. Through P b l) (sym f) k.0;
        last = z ∙ ap (λ b. last_of b l) (sym f);
        ends = rw (f, z) k.1;
      }

module _ {P : Picture} (F : Framed P) {ss : List (List Dart)} (D : Describes P ss) where
  pub reference : (r : ℕ) → r < 2 * length ss → Reference P ss r
  reference r k = as_reference P ss r (steps ss r) refl (steps_segment F D r k)

  module _ (r : ℕ) (k : r < 2 * length ss) where
    pub first_in_lem : In (first_step ss r) (steps ss r)
    first_in_lem = let q = reference r k in subst (In (first_step ss r)) (sym q.all) (here refl)

    pub last_in : In (last_step ss r) (steps ss r)
    last_in = let q = reference r k in subst (In (last_step ss r)) (sym q.all) (in-cast q.last (in_last (first_step ss r) q.rest))

    pub first_crack : crack P (first_step ss r) ≡ true
    first_crack = step_crack F D (first_step ss r) r first_in_lem

    pub last_crack : crack P (last_step ss r) ≡ true
    last_crack = step_crack F D (last_step ss r) r last_in

  -- each step is the turn of the one before
  pub reference_turns : (r : ℕ) (k : r < 2 * length ss) → Linked (turn P) (first_step ss r) (reference r k).rest
  reference_turns r k = let q = reference r k in through_turns F (first_step ss r) q.rest (subst (Plain P) q.all (steps_plain F D r)) q.through

  -- and has the labels of the first; the left one is the region
  pub step_along : (c : Dart) (r : ℕ) → r < 2 * length ss → In c (steps ss r) → Along P (first_step ss r) c
  step_along c r k i = let q = reference r k in through_along F (first_step ss r) q.rest (subst (Plain P) q.all (steps_plain F D r)) q.through c (subst (In c) q.all i)

  pub step_left : (c : Dart) (r : ℕ) → r < 2 * length ss → In c (steps ss r) → left P c ≡ region P ss r
  unfolding region
  step_left c r k i = (step_along c r k i).lefts

  -- only its first step leaves a node
  through_node : (a : Dart) (l : List Dart) → Through P a l → (c : Dart) → In c l → node P c.x c.y ≡ true → ⊥
  unfolding meets
  through_node a [] t c i n = not-nil i
  through_node a (b ∷ l) t c (here e) n = true≢false (sym n ∙ ap₂ (node P) (ap (λ c. c.x) e ∙ t.1) (ap (λ c. c.y) e ∙ t.2) ∙ t.0)
  through_node a (b ∷ l) t c (there i) n = through_node b l t.3 c i n

  pub first_of_node : (c : Dart) (r : ℕ) → r < 2 * length ss → In c (steps ss r) → node P c.x c.y ≡ true → first_step ss r ≡ c
  first_of_node c r k i n = let q = reference r k in go q.rest q.through (subst (In c) q.all i)
    where
      go : (l : List Dart) → Through P (first_step ss r) l → In c (first_step ss r ∷ l) → first_step ss r ≡ c
      go l t (here e) = sym e
      go l t (there i) = absurd (through_node (first_step ss r) l t c i n)

  -- an open one ends at a node
  pub open_last : (r : ℕ) → r < 2 * length ss → is_open P ss r ≡ true → meets P (last_step ss r) ≡ true
  unfolding is_open
  open_last r k o = go (reference r k).ends
    where
      go : Open P (first_step ss r) (last_step ss r) ⊎ Ring P (first_step ss r) (last_step ss r) → meets P (last_step ss r) ≡ true
      go (inl e) = e.1
      go (inr e) = absurd (true≢false (sym o ∙ e.0))

  -- FORWARD AND REVERSED: the ends change places, and the region of the one is left, of the other right
  module _ (i : ℕ) (k : i < length ss) where
    module _ (q : Reference P ss (2 * i)) where
      back : Reversed P (first_step ss (2 * i)) q.rest
      back = reversed F (first_step ss (2 * i)) q.rest (λ c j. step_crack F D c (2 * i) (subst (In c) (sym q.all) j)) q.through

      back_steps : steps ss (suc (2 * i)) ≡ turned (last_of (first_step ss (2 * i)) q.rest) ∷ back.0
      back_steps = reversed_steps ss i ∙ ap backwards q.all ∙ back.1

    pub first_reversed : first_step ss (suc (2 * i)) ≡ turned (last_step ss (2 * i))
    first_reversed =
        let q = reference (2 * i) (omega arith) in
        first_is P ss (suc (2 * i)) (turned (last_of (first_step ss (2 * i)) q.rest)) (back q).0 (back_steps q) ∙ ap turned (sym q.last)

    pub last_reversed : last_step ss (suc (2 * i)) ≡ turned (first_step ss (2 * i))
    last_reversed =
        let q = reference (2 * i) (omega arith) in
        last_is P ss (suc (2 * i)) (turned (last_of (first_step ss (2 * i)) q.rest)) (back q).0 (back_steps q) ∙ (back q).3

    pub region_reversed : region P ss (suc (2 * i)) ≡ right P (first_step ss (2 * i))
    unfolding region
    region_reversed =
        let z = last_step ss (2 * i) in
        let j = last_in (2 * i) (omega arith) in
        ap (left P) first_reversed ∙ turned_left F z (step_crack F D z (2 * i) j) ∙ (step_along z (2 * i) (omega arith) j).rights
