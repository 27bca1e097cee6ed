-- `jobs::salvage::copy` meets its contract.
use mathlib.Core.Path.{◌≡◌, refl, ap, ◌∙◌}
use native.Mathlib.Omega.{arith}
use lib.ListN.{get_or, set, length-set}
use Rattle.jobs.proofs.Bodies.{copy_more}
use Rattle.jobs.proofs.salvage.copy.Goals as goal

pub loop-k-init : goal.loop-k-init
loop-k-init c = (refl, refl)

pub loop-k-preserved : goal.loop-k-preserved
loop-k-preserved c =
    let a = c.args in
    let l = c.loop-k in (
      simp length-set l.invariant.0,
      ap (λ ws. set ws l.k (get_or a.from.now l.k 0)) l.invariant.1 ∙ copy_more a.to.now a.from.now l.k (omega (arith, c.requires)) (omega (arith, c.requires)),
    )

pub returns : goal.returns
returns c = let e : c.loop-k.k ≡ c.args.n = omega arith in c.loop-k.invariant.1 ∙ rw e
