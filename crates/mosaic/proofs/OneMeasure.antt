-- One outcome for `mosaic_veneer`: the eight answer words, the work store and the sums.
use Prim.Native.Nat.{ℕ}
use mathlib.Core.Path.{◌≡◌, sym, ap, ◌∙◌}
use mathlib.Core.List.{List, [], ◌∷◌}
use lib.IntN.{ℤ}
use lib.ListN.{length, get_or}
use Rattle.veneer.specs.Sums.{Measured}
use Rattle.veneer.specs.Steps.{measured_words}
use Rattle.mosaic.proofs.Outcomes.{one_outcome_words}

pub one_measure_words : (o : Measured) (ws vs work work' : List ℕ) (numbers numbers' : List ℤ) → length ws ≡ 8 → length vs ≡ 8
    → measured_words ws work numbers ≡ o → measured_words vs work' numbers' ≡ o → (ws ≡ vs) × (work ≡ work') × (numbers ≡ numbers')
one_measure_words o ws vs work work' numbers numbers' h k p q =
    let r = one_outcome_words o.outcome ws vs (work ∷ []) (work' ∷ []) h k (ap (λ o. o.outcome) p) (ap (λ o. o.outcome) q) in
    (r.0, ap (λ (l : List (List ℕ)). get_or l 0 []) r.1, ap (λ o. o.sums) (p ∙ sym q))
