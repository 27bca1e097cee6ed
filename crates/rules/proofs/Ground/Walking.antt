-- A walk step by step: its last step, its next, and what is left of it.
use Prim.Native.Nat.{ℕ, zero, suc, ◌<◌}
use mathlib.Core.Bool.{Bool, true, false, true≢false}
use mathlib.Core.Path.{◌≡◌, refl, sym, ap, subst, ◌∙◌}
use mathlib.Core.List.{List, [], ◌∷◌}
use native.Mathlib.Omega.{arith}
use lib.ListN.{length}
use Rattle.rules.proofs.Ground.Orbits.{until, Walk}

module _ {A : Type 0} (f : A → A) (stop : A → Bool) where
  pub over : (a : A) (l : List A) → Walk f stop a l → stop a ≡ true → l ≡ []
  over a [] w e = refl
  over a (b ∷ l) w e = absurd (true≢false (sym e ∙ w.0))

  pub goes : (a b : A) (l : List A) → Walk f stop a l → b ≡ f a → stop a ≡ false → (m : List A) × (l ≡ b ∷ m) × Walk f stop b m
  goes a b [] w q e = absurd (true≢false (sym w ∙ e))
  goes a b (c ∷ l) w q e = (l, ap (λ (c : A). c ∷ l) (w.1 ∙ sym q), subst (λ (c : A). Walk f stop c l) (w.1 ∙ sym q) w.2)

  -- what is left, with fuel enough
  pub walked : (k : ℕ) (a : A) (l : List A) → Walk f stop a l → length l < k → until f stop k a ≡ a ∷ l
  unfolding until
  walked zero a l w h = absurd (omega arith)
  walked (suc k) a [] w h = rw (w, until)
  walked (suc k) a (b ∷ l) w h = rw (w.0, until) (ap (λ (m : List A). a ∷ m) (ap (until f stop k) (sym w.1) ∙ walked k b l w.2 (omega arith)))
