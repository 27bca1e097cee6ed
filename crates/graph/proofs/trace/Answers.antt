-- `graph::trace` meets its contract.
use mathlib.Core.List.{[]}
use native.Mathlib.Omega.{arith}
use Rattle.graph.proofs.Numbering.{nodes_few}
use Rattle.graph.proofs.Whole.{second, nodes_standing, bends_standing, first_stage, second_stage, last_stage}
use Rattle.graph.proofs.trace.Goals as goal

pub put_nodes-requires : goal.put_nodes-requires
put_nodes-requires c =
    let a = c.args in
    let pre = c.requires in
    omega (arith, c.plane-p.ensures.0, pre.tallied.nodes, nodes_few a.s a.labels.now, pre.noded.planes)

pub trace_from-k-requires-clause-standing : goal.trace_from-k-requires-clause-standing
trace_from-k-requires-clause-standing c =
    let a = c.args in
    let pre = c.requires in
    nodes_standing a.s a.labels.now a.work.now _ a.f _ pre.noded pre.tallied c.plane-p.ensures.0 c.fill.ensures

pub trace_from-k-requires-clause-due : goal.trace_from-k-requires-clause-due
trace_from-k-requires-clause-due c =
    let a = c.args in
    let pre = c.requires in
    record { o = _; rest = second a.s a.labels.now; now = first_stage a.s a.labels.now a.work.now _ a.f _ pre.noded pre.tallied c.plane-p.ensures.0 c.fill.ensures _ a.segments.now a.points.now }

pub trace_from-requires-clause-standing : goal.trace_from-requires-clause-standing
trace_from-requires-clause-standing c =
    let a = c.args in
    let pre = c.requires in
    let then = c.trace_from-k.ensures _ (second a.s a.labels.now) (first_stage a.s a.labels.now a.work.now _ a.f _ pre.noded pre.tallied c.plane-p.ensures.0 c.fill.ensures _ a.segments.now a.points.now) in
    bends_standing a.s a.labels.now a.work.now _ a.f _ pre.noded pre.tallied c.plane-p.ensures.0 c.fill.ensures c.trace_from-k.new.work then.noded

pub trace_from-requires-clause-due : goal.trace_from-requires-clause-due
trace_from-requires-clause-due c =
    let a = c.args in
    let pre = c.requires in
    let then = c.trace_from-k.ensures _ (second a.s a.labels.now) (first_stage a.s a.labels.now a.work.now _ a.f _ pre.noded pre.tallied c.plane-p.ensures.0 c.fill.ensures _ a.segments.now a.points.now) in
    record { o = _; rest = []; now = second_stage a.s a.labels.now a.work.now _ a.f _ pre.noded pre.tallied c.plane-p.ensures.0 c.fill.ensures c.trace_from-k.new.work then.noded then }

pub returns : goal.returns
returns c =
    let a = c.args in
    let pre = c.requires in
    let plane = c.plane-p.ensures.0 in
    let first = first_stage a.s a.labels.now a.work.now _ a.f _ pre.noded pre.tallied plane c.fill.ensures _ a.segments.now a.points.now in
    let then = c.trace_from-k.ensures _ (second a.s a.labels.now) first in
    last_stage a.s a.labels.now a.work.now _ a.f _ pre.noded pre.tallied plane c.fill.ensures _ a.segments.now a.points.now a.nodes.now _ _ _ _ _ c.put_nodes.ensures
    (c.trace_from.ensures _ [] (second_stage a.s a.labels.now a.work.now _ a.f _ pre.noded pre.tallied plane c.fill.ensures c.trace_from-k.new.work then.noded then))
