-- `graph::walk` meets its contract.
use mathlib.Core.Path.{◌≡◌, sym, ◌∙◌}
use native.Mathlib.Omega.{arith}
use Rattle.rules.specs.Graph.{ending}
use Rattle.lattice.proofs.Ways.{edge_corner}
use Rattle.lattice.specs.Walker.{dart_of}
use Rattle.lattice.specs.Size.{pic}
use Rattle.graph.proofs.Along.{edge_ahead, begin, edge, long, steps_low, stop_said, around_ahead, going, gone}
use Rattle.graph.proofs.walk.Goals as goal

pub loop-s-init : goal.loop-s-init
loop-s-init c = begin _ _ _ _ _ _ c.requires.starts

pub mark_visited-requires-clause-edge : goal.mark_visited-requires-clause-edge
mark_visited-requires-clause-edge c = edge _ _ _ _ _ _ c.loop-s.invariant

pub overflow_add-steps : goal.overflow_add-steps
overflow_add-steps c =
    omega (arith, long _ _ _ _ _ _ c.loop-s.invariant, steps_low c.args.s c.args.labels.now c.args.w c.requires.starts.map)

pub moved-m-requires : goal.moved-m-requires
moved-m-requires c = edge_ahead c.requires.starts.map (edge _ _ _ _ _ _ c.loop-s.invariant)

pub look-a-requires-clause-corner : goal.look-a-requires-clause-corner
look-a-requires-clause-corner c = rw c.moved-m.ensures (edge_corner _ _ (edge _ _ _ _ _ _ c.loop-s.invariant))

pub returns-then-stops : goal.returns-then-stops
returns-then-stops c =
    let e : c.stops.result ≡ ending (pic c.args.s c.args.labels.now) c.args.w.x c.args.w.y (dart_of c.loop-s.c) = stop_said _ c.args.w _ _ _ _ c.moved-m.ensures c.look-a.ensures c.stops.ensures in
    gone _ _ _ _ _ _ c.loop-s.invariant c.mark_visited.ensures c.moved-m.ensures c.put_point.ensures (sym e ∙ c.if-stops.true)

pub step-c-requires : goal.step-c-requires
step-c-requires c = edge_ahead c.requires.starts.map (edge _ _ _ _ _ _ c.loop-s.invariant)

pub loop-s-preserved : goal.loop-s-preserved
loop-s-preserved c =
    let e : c.stops.result ≡ ending (pic c.args.s c.args.labels.now) c.args.w.x c.args.w.y (dart_of c.loop-s.c) = stop_said _ c.args.w _ _ _ _ c.moved-m.ensures c.look-a.ensures c.stops.ensures in
    rw c.step-c.ensures (going _ _ _ _ _ _ c.loop-s.invariant c.mark_visited.ensures c.moved-m.ensures c.put_point.ensures _ (around_ahead (pic c.args.s c.args.labels.now) c.loop-s.c _ _ c.moved-m.ensures c.look-a.ensures) (sym e ∙ c.if-stops.false))
