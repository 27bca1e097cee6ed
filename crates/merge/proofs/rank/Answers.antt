-- `rank` meets its contract.
use Rattle.merge.proofs.Calling.{rank_scans, rank_sorts, ranked_list}
use Rattle.merge.proofs.rank.Goals as goal

pub scan-noted-requires : goal.scan-noted-requires
scan-noted-requires c = rank_scans _ _ c.requires _ _ c.plane-corners.ensures.0 c.slots.ensures.0 c.slots.ensures.1

pub sort-requires : goal.sort-requires
sort-requires c = rank_sorts _ _ c.requires _ _ _ c.plane-corners.ensures.0 c.scan-noted.ensures

pub returns : goal.returns
returns c = ranked_list _ _ c.requires _ _ _ c.plane-corners.ensures.0 c.scan-noted.ensures _ _ _ c.sort.ensures
