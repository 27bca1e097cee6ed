-- One outcome for the calls for C: the eight answer words and every lent store.
use Prim.Native.Nat.{ℕ, zero, suc, ◌<◌}
use mathlib.Core.Path.{◌≡◌, sym, ap, ◌∙◌}
use mathlib.Core.List.{List}
use native.Mathlib.Omega.{arith}
use lib.ListN.{length, get_or}
use lib.Seq.{ext_get_or}
use Rattle.rules.specs.Calls.{Outcome}
use Rattle.calls.specs.Outcome.{answered}

eight : (ws vs : List ℕ) (ss ts : List (List ℕ)) → answered ws ss ≡ answered vs ts → (i : ℕ) → i < 8 → get_or ws i 0 ≡ get_or vs i 0
eight ws vs ss ts e zero h = ap (λ o. o.answer.number) e
eight ws vs ss ts e (suc zero) h = ap (λ o. o.answer.nodes) e
eight ws vs ss ts e (suc (suc zero)) h = ap (λ o. o.answer.segments) e
eight ws vs ss ts e (suc (suc (suc zero))) h = ap (λ o. o.answer.points) e
eight ws vs ss ts e (suc (suc (suc (suc zero)))) h = ap (λ o. o.answer.references) e
eight ws vs ss ts e (suc (suc (suc (suc (suc zero))))) h = ap (λ o. o.answer.contours) e
eight ws vs ss ts e (suc (suc (suc (suc (suc (suc zero)))))) h = ap (λ o. o.answer.faces) e
eight ws vs ss ts e (suc (suc (suc (suc (suc (suc (suc zero))))))) h = ap (λ o. o.answer.steps) e
eight ws vs ss ts e (suc (suc (suc (suc (suc (suc (suc (suc i)))))))) h = absurd (omega arith)

pub one_outcome_words : (o : Outcome) (ws vs : List ℕ) (ss ts : List (List ℕ)) → length ws ≡ 8 → length vs ≡ 8
    → answered ws ss ≡ o → answered vs ts ≡ o → (ws ≡ vs) × (ss ≡ ts)
one_outcome_words o ws vs ss ts h k p q =
    let e = p ∙ sym q in
    (ext_get_or 0 ws vs (h ∙ sym k) (λ i b. eight ws vs ss ts e i (omega arith)), ap (λ o. o.stores) e)
