-- One outcome for the salvage tool: two results that meet its promise on the same input are equal, answer and store.
use Prim.Native.Nat.{ℕ}
use native.Mathlib.Omega.{arith}
use mathlib.Core.Path.{◌≡◌, sym, ap, ◌∙◌}
use mathlib.Core.List.{List}
use Rattle.std.specs.Prelude.{Result, Ok, Err}
use Rattle.rules.specs.declared.Refusal.{Refusal}
use Rattle.rules.specs.Refusals.{number_of}
use Rattle.jobfile.specs.Salvage.{Salvaged}
use Rattle.jobs.specs.declared.salvage.Kept.{Kept}
use Rattle.jobs.specs.Salvaging.{salvaged_as}

same_refusal : (r s : Refusal) → number_of r ≡ number_of s → r ≡ s
same_refusal r s e = grind arith

refused : (r : Refusal) → number_of r ≡ 0 → ⊥
refused r e = grind arith

same_result : (r t : Result Kept Refusal) (a b : List ℕ) → salvaged_as r a ≡ salvaged_as t b → r ≡ t
same_result (Ok k) (Ok m) a b e = λ i. Ok (record { length = (e i).length; kind = (e i).kind })
same_result (Ok k) (Err s) a b e = absurd (refused s (sym (ap (λ o. o.number) e)))
same_result (Err r) (Ok m) a b e = absurd (refused r (ap (λ o. o.number) e))
same_result (Err r) (Err s) a b e = ap Err (same_refusal r s (ap (λ o. o.number) e))

same_store : (r t : Result Kept Refusal) (a b : List ℕ) → salvaged_as r a ≡ salvaged_as t b → a ≡ b
same_store (Ok k) (Ok m) a b e = ap (λ o. o.store) e
same_store (Ok k) (Err s) a b e = ap (λ o. o.store) e
same_store (Err r) (Ok m) a b e = ap (λ o. o.store) e
same_store (Err r) (Err s) a b e = ap (λ o. o.store) e

pub one_salvage : (o : Salvaged) (r t : Result Kept Refusal) (a b : List ℕ) → salvaged_as r a ≡ o → salvaged_as t b ≡ o → (r ≡ t) × (a ≡ b)
one_salvage o r t a b p q = (same_result r t a b (p ∙ sym q), same_store r t a b (p ∙ sym q))
