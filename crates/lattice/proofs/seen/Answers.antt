-- `lattice::seen` meets its contract.
use Rattle.std.proofs.Common.{sym, arith}
use Rattle.rules.proofs.Waste.{seen_below, seen_above}
use Rattle.lattice.proofs.seen.Goals as goal

pub returns-then-label-bound : goal.returns-then-label-bound
returns-then-label-bound c = sym (seen_below _ _ (omega arith))

pub returns-else-label-bound : goal.returns-else-label-bound
returns-else-label-bound c = sym (seen_above _ _ (omega arith))
