-- `run` meets its contract.
use Rattle.merge.proofs.Calling.{run_sweeps, run_leaves, ran}
use Rattle.merge.proofs.run.Goals as goal

pub settle-requires : goal.settle-requires
settle-requires c = run_sweeps _ _ _ _ c.requires c.args.limit _ _ _ c.start.ensures c.rank-m.ensures

pub relabel-requires : goal.relabel-requires
relabel-requires c = run_leaves _ _ _ _ c.requires c.args.limit _ _ _ c.start.ensures c.rank-m.ensures _ c.settle.ensures

pub returns : goal.returns
returns c = ran _ _ _ _ c.requires _ _ _ _ c.start.ensures c.rank-m.ensures _ c.settle.ensures _ _ _ _ _ c.relabel.ensures
