-- One outcome: two results that meet the promise of the call on the same input are equal, answer, work store and sums.
use Prim.Native.Nat.{ℕ}
use mathlib.Core.Path.{◌≡◌, sym, ap, ◌∙◌}
use mathlib.Core.List.{List, [], ◌∷◌}
use lib.IntN.{ℤ}
use lib.ListN.{get_or}
use Rattle.std.specs.Prelude.{Result}
use Rattle.calls.specs.declared.Counts.{Counts}
use Rattle.calls.specs.declared.Refused.{Refused}
use Rattle.calls.proofs.Demands.Answered.{one_outcome}
use Rattle.veneer.specs.Sums.{Measured}
use Rattle.veneer.specs.Steps.{measured_as}

pub one_measure : (o : Measured) (a b : Result Counts Refused) (work work' : List ℕ) (numbers numbers' : List ℤ) → measured_as a work numbers ≡ o → measured_as b work' numbers' ≡ o
    → (a ≡ b) × (work ≡ work') × (numbers ≡ numbers')
one_measure o a b work work' numbers numbers' p q =
    let r = one_outcome o.outcome a b (work ∷ []) (work' ∷ []) (ap (λ o. o.outcome) p) (ap (λ o. o.outcome) q) in
    (r.0, ap (λ (l : List (List ℕ)). get_or l 0 []) r.1, ap (λ o. o.sums) (p ∙ sym q))
