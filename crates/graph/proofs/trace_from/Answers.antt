-- `graph::trace_from` meets its contract.
use native.Mathlib.Omega.{arith}
use Rattle.graph.specs.Planes.{corners_at}
use Rattle.graph.specs.Stage.{Stage}
use Rattle.graph.proofs.Listing.{length_corners}
use Rattle.graph.proofs.Loops.{done, starts_of}
use Rattle.graph.proofs.Tracing.{corner_here, due_here, done_here}
use Rattle.graph.proofs.trace_from.Goals as goal

pub look-a-requires-clause-corner : goal.look-a-requires-clause-corner
look-a-requires-clause-corner c =
    let l = c.loop-i in
    let p = c.corner_at-p.ensures in
    corner_here _ _ _ c.requires.standing l.i c.loop-i-test.true l.invariant c.requires.due _ _ p.0 p.1

pub trace_ways-k-requires-clause-due : goal.trace_ways-k-requires-clause-due
trace_ways-k-requires-clause-due c =
    let l = c.loop-i in
    let p = c.corner_at-p.ensures in
    due_here _ _ _ c.requires.standing l.i c.loop-i-test.true l.invariant c.requires.due _ _ p.0 p.1

pub loop-i-preserved : goal.loop-i-preserved
loop-i-preserved c =
    let l = c.loop-i in
    let p = c.corner_at-p.ensures in
    done_here _ _ _ c.requires.standing l.i c.loop-i-test.true l.invariant c.requires.due _ _ p.0 p.1 _ c.trace_ways-k.ensures

pub returns : goal.returns
returns c =
    let a = c.args in
    let l = c.loop-i in
    done (starts_of (corners_at a.work.now a.at a.n) a.ways.now) (Stage a.s a.labels.now) _ _ l.i (omega (arith, c.loop-i-test.false, length_corners a.work.now a.at a.n)) l.invariant
