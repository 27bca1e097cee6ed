-- `assemble::link` meets its contract.
use Rattle.assemble.proofs.Threads.{link_none, link_some}
use mathlib.Core.Path.{refl}
use native.Mathlib.Omega.{arith}
use Rattle.assemble.proofs.link.Goals as goal

pub returns-in-Some : goal.returns-in-Some
returns-in-Some c =
    let low = rw c.in-Some.is at c.requires in
    rw c.in-Some.is (link_some _ _ _ _ (λ e. omega (arith, low, e)) c.put.ensures)

pub returns-in_default : goal.returns-in_default
returns-in_default c = rw c.in_default.is (link_none _ _ _ refl)
