-- `names::mark_names` meets its contract.
use Rattle.listing.proofs.Naming.{no_names, may_mark, one_name}
use Rattle.listing.proofs.names.mark_names.Goals as goal

pub loop-name-init : goal.loop-name-init
loop-name-init c = no_names c.requires

pub mark_name-requires : goal.mark_name-requires
mark_name-requires c = may_mark c.requires c.loop-name.invariant

pub loop-name-preserved : goal.loop-name-preserved
loop-name-preserved c =
    one_name c.requires c.loop-name.invariant c.mark_name.ensures
