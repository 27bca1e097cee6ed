-- `graph::trace_segment` meets its contract.
use native.Mathlib.Omega.{arith}
use Rattle.graph.proofs.Tracing.{count_room, ended, one_segment}
use Rattle.graph.proofs.trace_segment.Goals as goal

pub join-j-requires : goal.join-j-requires
join-j-requires c =
    let d = c.requires.due in
    ended _ _ _ _ _ _ _ _ _ c.args.w d.now c.requires.starts c.requires.unwalked _ _ _ _ c.put_point.ensures c.walk-e.ensures

pub overflow_add-count : goal.overflow_add-count
overflow_add-count c = omega (arith, count_room c.requires.due c.requires.starts c.requires.unwalked c.walk-e.ensures.count)

pub overflow_add-result : goal.overflow_add-result
overflow_add-result c = omega (arith, count_room c.requires.due c.requires.starts c.requires.unwalked c.walk-e.ensures.count)

pub overflow_add-result-2 : goal.overflow_add-result-2
overflow_add-result-2 c = omega (arith, count_room c.requires.due c.requires.starts c.requires.unwalked c.walk-e.ensures.count)

pub overflow_add-result-3 : goal.overflow_add-result-3
overflow_add-result-3 c = omega (arith, count_room c.requires.due c.requires.starts c.requires.unwalked c.walk-e.ensures.count)

pub returns : goal.returns
returns c =
    λ o rest q. one_segment _ _ o rest _ _ _ _ _ c.args.w q c.requires.starts c.requires.unwalked _ _ _ _ c.put_point.ensures c.walk-e.ensures _ c.requires.around _ _ _ c.join-j.ensures _ _ c.left.ensures c.right.ensures c.put_segment.ensures
