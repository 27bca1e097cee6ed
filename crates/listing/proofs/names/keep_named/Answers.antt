-- `names::keep_named` meets its contract.
use Rattle.listing.proofs.Keeping.{none_kept, due, one_more}
use Rattle.listing.proofs.names.keep_named.Goals as goal

pub loop-i-init : goal.loop-i-init
loop-i-init c = none_kept c.requires

pub keep_one-n-requires : goal.keep_one-n-requires
keep_one-n-requires c = due c.requires c.loop-i.invariant c.loop-i-test.true

pub loop-i-preserved : goal.loop-i-preserved
loop-i-preserved c =
    let t = c.loop-i-test.true in
    one_more c.requires c.loop-i.invariant t c.keep_one-n.ensures
