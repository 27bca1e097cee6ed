-- `names::below` meets its contract.
use Rattle.std.proofs.Common.{rules}
use Rattle.std.proofs.lemmas.List.Sorted.{IsPartitionPoint-from_clause}
use Rattle.listing.proofs.Naming.{is_below, parted, found}
use Rattle.listing.proofs.names.below.Goals as goal

pub returns : goal.returns
returns c =
    let a = c.args in
    let e = c.partition_point.ensures in
    found a.v c.requires e.bound (IsPartitionPoint-from_clause (is_below a.v c.requires) _ _ e.partitioned (parted a.v c.requires) (λ x r q k. search rules))
