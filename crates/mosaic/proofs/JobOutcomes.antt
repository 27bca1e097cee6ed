-- One outcome for the calls for C about job files: the answer words, the length and every lent store.
use Prim.Native.Nat.{ℕ, zero, suc, ◌<◌}
use mathlib.Core.Path.{◌≡◌, sym, ap, ◌∙◌}
use mathlib.Core.List.{List}
use native.Mathlib.Omega.{arith}
use lib.ListN.{length, get_or}
use lib.Seq.{ext_get_or}
use Rattle.jobfile.specs.JobFile.{Written}
use Rattle.jobfile.specs.Salvage.{Salvaged}
use Rattle.mosaic.specs.JobWords.{written_in, salvaged_in}
use Rattle.mosaic.proofs.Outcomes.{one_outcome_words}

pub one_written_words : (o : Written) (ws vs : List ℕ) (k n : ℕ) (ss ts : List (List ℕ)) → length ws ≡ 8 → length vs ≡ 8
    → written_in ws k ss ≡ o → written_in vs n ts ≡ o → (ws ≡ vs) × (k ≡ n) × (ss ≡ ts)
one_written_words o ws vs k n ss ts g h p q =
    let e = one_outcome_words o.outcome ws vs ss ts g h (ap (λ w. w.outcome) p) (ap (λ w. w.outcome) q) in
    (e.0, ap (λ w. w.length) (p ∙ sym q), e.1)

three : (ws vs a b : List ℕ) → salvaged_in ws a ≡ salvaged_in vs b → (i : ℕ) → i < 3 → get_or ws i 0 ≡ get_or vs i 0
three ws vs a b e zero h = ap (λ o. o.number) e
three ws vs a b e (suc zero) h = ap (λ o. o.length) e
three ws vs a b e (suc (suc zero)) h = ap (λ o. o.kind) e
three ws vs a b e (suc (suc (suc i))) h = absurd (omega arith)

pub one_salvage_words : (o : Salvaged) (ws vs a b : List ℕ) → length ws ≡ 3 → length vs ≡ 3 → salvaged_in ws a ≡ o → salvaged_in vs b ≡ o → (ws ≡ vs) × (a ≡ b)
one_salvage_words o ws vs a b g h p q =
    let e = p ∙ sym q in
    (ext_get_or 0 ws vs (g ∙ sym h) (λ i k. three ws vs a b e i (omega arith)), ap (λ o. o.store) e)
