-- The order of steps by y, then x, then direction, and the earliest step of a list.
use Prim.Native.Nat.{◌<◌, ◌≤◌}
use mathlib.Core.Bool.{Bool, true, false, cond}
use mathlib.Core.Path.{◌≡◌, refl, sym, subst}
use mathlib.Core.List.Memᴰ.{head as here}
use mathlib.Core.List.Memᴰ.{not-nil}
use mathlib.Core.List.Memᴰ.{tail as there}
use mathlib.Core.List.{List, [], ◌∷◌, Memᴰ as In}
use native.Mathlib.Omega.{arith}
use lib.Dec.{ltb, eqb}
use borrow.Author.Tests.{ltb-true, ltb-false, eqb-true, eqb-false, eq-eqb}
use Rattle.rules.specs.Picture.{code, Dart}
use Rattle.benches.specs.Listing.{earlier, earliest}
use Rattle.rules.proofs.Lattice.Directions.{same_dir_eq}
use Rattle.rules.proofs.Lattice.Darts.{dart_path}

pub data NoLater (a b : Dart) : Type 0 where
  by_y : a.y < b.y → NoLater a b
  by_x : a.y ≡ b.y → a.x < b.x → NoLater a b
  by_d : a.y ≡ b.y → a.x ≡ b.x → code a.d ≤ code b.d → NoLater a b

-- and not the same step
abbrev pub Earlier : Dart → Dart → Type 0
Earlier a b = NoLater a b × (a ≡ b → ⊥)

pub no_later_refl : (a : Dart) → NoLater a a
no_later_refl a = by_d refl refl (omega arith)

pub no_later_trans : (a b c : Dart) → NoLater a b → NoLater b c → NoLater a c
no_later_trans a b c (by_y p) (by_y q) = by_y (omega arith)
no_later_trans a b c (by_y p) (by_x q r) = by_y (omega arith)
no_later_trans a b c (by_y p) (by_d q r s) = by_y (omega arith)
no_later_trans a b c (by_x p u) (by_y q) = by_y (omega arith)
no_later_trans a b c (by_x p u) (by_x q r) = by_x (omega arith) (omega arith)
no_later_trans a b c (by_x p u) (by_d q r s) = by_x (omega arith) (omega arith)
no_later_trans a b c (by_d p u v) (by_y q) = by_y (omega arith)
no_later_trans a b c (by_d p u v) (by_x q r) = by_x (omega arith) (omega arith)
no_later_trans a b c (by_d p u v) (by_d q r s) = by_d (omega arith) (omega arith) (omega arith)

pub no_later_both : (a b : Dart) → NoLater a b → NoLater b a → a ≡ b
no_later_both a b (by_y p) (by_y q) = absurd (omega arith)
no_later_both a b (by_y p) (by_x q r) = absurd (omega arith)
no_later_both a b (by_y p) (by_d q r s) = absurd (omega arith)
no_later_both a b (by_x p u) (by_y q) = absurd (omega arith)
no_later_both a b (by_x p u) (by_x q r) = absurd (omega arith)
no_later_both a b (by_x p u) (by_d q r s) = absurd (omega arith)
no_later_both a b (by_d p u v) (by_y q) = absurd (omega arith)
no_later_both a b (by_d p u v) (by_x q r) = absurd (omega arith)
no_later_both a b (by_d p u v) (by_d q r s) =
    let e : code a.d ≡ code b.d = omega arith in
    dart_path a b u p (same_dir_eq a.d b.d (eq-eqb (code a.d) (code b.d) e))

pub earlier_asym : (a b : Dart) → Earlier a b → Earlier b a → ⊥
earlier_asym a b p q = p.1 (no_later_both a b p.0 q.0)

-- THE TEST

pub earlier_true : (a b : Dart) → earlier a b ≡ true → NoLater a b
unfolding earlier
earlier_true a b = go (eqb a.y b.y) refl (eqb a.x b.x) refl
  where
    go : (s : Bool) → eqb a.y b.y ≡ s → (t : Bool) → eqb a.x b.x ≡ t
        → cond s (cond t (ltb (code a.d) (code b.d)) (ltb a.x b.x)) (ltb a.y b.y) ≡ true → NoLater a b
    go true p true q e = let k = ltb-true (code a.d) (code b.d) e in by_d (eqb-true a.y b.y p) (eqb-true a.x b.x q) (omega arith)
    go true p false q e = by_x (eqb-true a.y b.y p) (ltb-true a.x b.x e)
    go false p t q e = by_y (ltb-true a.y b.y e)

pub earlier_false : (a b : Dart) → earlier a b ≡ false → NoLater b a
unfolding earlier
earlier_false a b = go (eqb a.y b.y) refl (eqb a.x b.x) refl
  where
    go : (s : Bool) → eqb a.y b.y ≡ s → (t : Bool) → eqb a.x b.x ≡ t
        → cond s (cond t (ltb (code a.d) (code b.d)) (ltb a.x b.x)) (ltb a.y b.y) ≡ false → NoLater b a
    go true p true q e = by_d (sym (eqb-true a.y b.y p)) (sym (eqb-true a.x b.x q)) (ltb-false (code a.d) (code b.d) e)
    go true p false q e =
        let k = ltb-false a.x b.x e in
        let n = eqb-false a.x b.x q in
        by_x (sym (eqb-true a.y b.y p)) (omega arith)
    go false p t q e =
        let k = ltb-false a.y b.y e in
        let n = eqb-false a.y b.y p in
        by_y (omega arith)

-- THE EARLIEST of a and more steps

pub earliest_in : (a : Dart) (l : List Dart) → In (earliest a l) (a ∷ l)
unfolding earliest
earliest_in a [] = here refl
earliest_in a (b ∷ l) = go (earlier b a) (earliest_in b l) (earliest_in a l)
  where
    skip : (z : Dart) → In z (a ∷ l) → In z (a ∷ b ∷ l)
    skip z (here e) = here e
    skip z (there i) = there (there i)

    go : (t : Bool) → In (earliest b l) (b ∷ l) → In (earliest a l) (a ∷ l) → In (elim t [ true ↦ earliest b l | false ↦ earliest a l ]) (a ∷ b ∷ l)
    go true i j = there i
    go false i j = skip (earliest a l) j

pub earliest_least : (a : Dart) (l : List Dart) (b : Dart) → In b (a ∷ l) → NoLater (earliest a l) b
unfolding earliest
earliest_least a [] b (here e) = subst (NoLater a) (sym e) (no_later_refl a)
earliest_least a [] b (there i) = absurd (not-nil i)
earliest_least a (c ∷ l) b i = go (earlier c a) refl (λ b i. earliest_least c l b i) (λ b i. earliest_least a l b i)
  where
    go : (t : Bool) → earlier c a ≡ t → ((b : Dart) → In b (c ∷ l) → NoLater (earliest c l) b) → ((b : Dart) → In b (a ∷ l) → NoLater (earliest a l) b)
        → NoLater (elim t [ true ↦ earliest c l | false ↦ earliest a l ]) b
    go true e f g = first i
      where
        first : In b (a ∷ c ∷ l) → NoLater (earliest c l) b
        first (here p) = subst (NoLater (earliest c l)) (sym p) (no_later_trans (earliest c l) c a (f c (here refl)) (earlier_true c a e))
        first (there j) = f b j
    go false e f g = second i
      where
        second : In b (a ∷ c ∷ l) → NoLater (earliest a l) b
        second (here p) = g b (here p)
        second (there (here p)) = subst (NoLater (earliest a l)) (sym p) (no_later_trans (earliest a l) a c (g a (here refl)) (earlier_false c a e))
        second (there (there j)) = g b (there j)
