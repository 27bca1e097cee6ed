-- `graph::trace_ways` meets its contract.
use mathlib.Core.Path.{refl}
use Rattle.rules.specs.declared.Dir.TheVariants.{N}
use Rattle.graph.specs.Stage.{Stage}
use Rattle.graph.proofs.Loops.{begin, due, goes, done, ways_of}
use Rattle.graph.proofs.trace_ways.Goals as goal

pub loop-d-init : goal.loop-d-init
loop-d-init c = let a = c.args in begin (ways_of a.p.x a.p.y a.ways.now) (Stage a.s a.labels.now) _

pub trace_dart-k-requires-clause-due : goal.trace_dart-k-requires-clause-due
trace_dart-k-requires-clause-due c =
    let a = c.args in
    let l = c.loop-d in
    due (ways_of a.p.x a.p.y a.ways.now) (Stage a.s a.labels.now) N _ l.d-index c.loop-d-test.true refl _ _ l.invariant c.requires.due

pub loop-d-preserved : goal.loop-d-preserved
loop-d-preserved c =
    let a = c.args in
    let l = c.loop-d in
    goes (ways_of a.p.x a.p.y a.ways.now) (Stage a.s a.labels.now) N _ l.d-index c.loop-d-test.true refl _ _ _ l.invariant c.trace_dart-k.ensures

pub returns : goal.returns
returns c =
    let a = c.args in
    let l = c.loop-d in
    done (ways_of a.p.x a.p.y a.ways.now) (Stage a.s a.labels.now) _ _ l.d-index c.loop-d-test.false l.invariant
