-- A walk under way, step by step: f again and again from r on, until a test says stop.
use Prim.Native.Nat.{ℕ, suc, ◌+◌, ◌<◌}
use mathlib.Core.Path.{◌≡◌, refl, sym, ap, subst, ◌∙◌}
use mathlib.Core.Bool.{Bool, true, false}
use mathlib.Core.List.Memᴰ.{append_right as in_right}
use mathlib.Core.List.Memᴰ.{head as here}
use mathlib.Core.List.{List, [], ◌∷◌, ◌++◌, append_assoc, Memᴰ as In}
use native.Mathlib.Omega.{arith}
use lib.ListN.{length, length-append}
use Rattle.rules.proofs.Ground.Orbits.{until, Walk}
use Rattle.rules.proofs.Ground.Walking.{over, goes, walked}

module _ (f : ℕ → ℕ) (stop : ℕ → Bool) (r : ℕ) where
  -- the whole walk
  unfoldable pub all : List ℕ
  all = until f stop 4294967296 r

  -- `done` is walked, c is next, and `more` comes after it
  pub record Way (done : List ℕ) (c : ℕ) (more : List ℕ) : Type 0 where
    pub whole : all ≡ done ++ (c ∷ more)
    pub left : Walk f stop c more
    pub short : length done + length more < 4294967296

  pub begin : (rest : List ℕ) → Walk f stop r rest → length rest < 4294967296 → Way [] r rest
  unfolding all
  begin rest w h = record { whole = walked f stop 4294967296 r rest w h; left = w; short = omega arith }

  module _ {done : List ℕ} {c : ℕ} {more : List ℕ} (o : Way done c more) where
    pub in_way : In c all
    in_way = subst (In c) (sym o.whole) (in_right done (here refl))

    pub over_here : stop c ≡ true → all ≡ done ++ (c ∷ [])
    over_here e = o.whole ∙ ap (λ (l : List ℕ). done ++ (c ∷ l)) (over f stop c more o.left e)

    pub on : (d : ℕ) → d ≡ f c → stop c ≡ false → (m : List ℕ) × Way (done ++ (c ∷ [])) d m × (suc (length m) ≡ length more)
    on d q e =
        let g = goes f stop c d more o.left q e in (
          g.0,
          record {
            whole = o.whole ∙ ap (λ (l : List ℕ). done ++ (c ∷ l)) g.1 ∙ sym (append_assoc done (c ∷ []) (d ∷ g.0));
            left = g.2;
            short = omega (arith, o.short, ap length g.1, length-append done (c ∷ []));
          },
          sym (ap length g.1),
        )

  -- how many are left from c on
  unfoldable pub ahead : ℕ → ℕ
  ahead c = length (until f stop 4294967296 c)

  pub ahead_is : {done : List ℕ} {c : ℕ} {more : List ℕ} → Way done c more → ahead c ≡ suc (length more)
  unfolding ahead
  ahead_is {done} {c} {more} o = ap length (walked f stop 4294967296 c more o.left (omega (arith, o.short)))
