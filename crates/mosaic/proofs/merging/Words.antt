-- One outcome for the merge for C: the two answer words and the four lent stores.
use Prim.Native.Nat.{ℕ, zero, suc, ◌<◌}
use mathlib.Core.Path.{◌≡◌, sym, ap, ◌∙◌}
use mathlib.Core.List.{List}
use native.Mathlib.Omega.{arith}
use lib.ListN.{length, get_or}
use lib.Seq.{ext_get_or}
use Rattle.merge.specs.Merge.{Outcome}
use Rattle.merge.specs.Called.{answered}

two : (vs us ls ls' cs cs' ws ws' rs rs' : List ℕ) → answered vs ls cs ws rs ≡ answered us ls' cs' ws' rs' → (i : ℕ) → i < 2 → get_or vs i 0 ≡ get_or us i 0
two vs us ls ls' cs cs' ws ws' rs rs' e zero h = ap (λ (o : Outcome). o.number) e
two vs us ls ls' cs cs' ws ws' rs rs' e (suc zero) h = ap (λ (o : Outcome). o.paints) e
two vs us ls ls' cs cs' ws ws' rs rs' e (suc (suc i)) h = absurd (omega arith)

pub one_merge_words :
    (o : Outcome) (vs us ls ls' cs cs' ws ws' rs rs' : List ℕ) → length vs ≡ 2 → length us ≡ 2
    → answered vs ls cs ws rs ≡ o → answered us ls' cs' ws' rs' ≡ o
    → (vs ≡ us) × (ls ≡ ls') × (cs ≡ cs') × (ws ≡ ws') × (rs ≡ rs')
one_merge_words o vs us ls ls' cs cs' ws ws' rs rs' h k p q =
    let e = p ∙ sym q in (
      ext_get_or 0 vs us (h ∙ sym k) (λ i b. two vs us ls ls' cs cs' ws ws' rs rs' e i (omega arith)),
      ap (λ (o : Outcome). o.labels) e,
      ap (λ (o : Outcome). o.colours) e,
      ap (λ (o : Outcome). o.work) e,
      ap (λ (o : Outcome). o.store) e,
    )
