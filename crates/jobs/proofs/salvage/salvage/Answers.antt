-- `jobs::salvage::salvage` meets its contract.
use mathlib.Core.Path.{sym, ap, ◌∙◌}
use native.Mathlib.Omega.{arith}
use Rattle.jobfile.proofs.Again.{kept_length}
use Rattle.jobs.proofs.Scanning.{salvage_unheaded, salvage_short, salvage_copied}
use Rattle.jobs.proofs.salvage.salvage.Goals as goal

pub returns-then-not-headed : goal.returns-then-not-headed
returns-then-not-headed c = let a = c.args in sym (salvage_unheaded a.file.now a.out.now (sym c.headed.ensures ∙ c.if-not-headed.true))

pub keep-k-requires : goal.keep-k-requires
keep-k-requires c = sym c.headed.ensures ∙ c.if-not-headed.false

pub returns-then-out-n : goal.returns-then-out-n
returns-then-out-n c =
    let a = c.args in
    sym (salvage_short a.file.now a.out.now (sym c.headed.ensures ∙ c.if-not-headed.false) (omega (arith, ap (λ s. s.length) c.keep-k.ensures)))

pub copy-requires : goal.copy-requires
copy-requires c =
    let a = c.args in
    (omega (arith, ap (λ s. s.length) c.keep-k.ensures, (kept_length a.file.now (sym c.headed.ensures ∙ c.if-not-headed.false)).1), omega arith)

pub returns : goal.returns
returns c =
    let a = c.args in
    salvage_copied a.file.now a.out.now _ _ _ (sym c.headed.ensures ∙ c.if-not-headed.false) c.keep-k.ensures c.if-out-n.false c.copy.ensures
