-- `accept::ends_fit` meets its contract.
use Prim.Native.Nat.{◌+◌, ◌-◌}
use native.Mathlib.Omega.{arith}
use mathlib.Core.Path.{refl, sym, ◌∙◌}
use Rattle.accept.proofs.Stepping.{say_no}
use Rattle.accept.proofs.Fielding.{walker_corner, walker_ahead, no_sides, ring_decides, open_decides, last_cracked}
use Rattle.accept.proofs.ends_fit.Goals as goal

pub look-a-requires-clause-corner : goal.look-a-requires-clause-corner
look-a-requires-clause-corner c = walker_corner c.args.s c.args.labels.now c.args.points.now c.args.first c.step-w.ensures c.requires.ready.first_crack

pub returns-then-not-sides_fit : goal.returns-then-not-sides_fit
returns-then-not-sides_fit c = λ count. say_no (no_sides _ _ c.requires.ready c.step-w.ensures c.look-a.ensures refl refl (omega (arith, c.well_formed)) count (c.sides_fit.ensures.no (c.if-not-sides_fit.true)))

pub moved-m-requires : goal.moved-m-requires
moved-m-requires c = walker_ahead c.args.s c.args.labels.now c.args.points.now (c.args.first + (c.args.n - 1)) c.step-z.ensures c.requires.map (last_cracked c.requires.ready)

pub returns-then-word : goal.returns-then-word
returns-then-word c = λ count. ring_decides _ _ c.requires.ready c.step-w.ensures c.look-a.ensures c.step-z.ensures c.moved-m.ensures (omega (arith, c.well_formed)) count (c.sides_fit.ensures.yes (c.if-not-sides_fit.false)) (sym c.word.ensures ∙ c.if-word.true) c.closes.ensures

pub returns-else-word : goal.returns-else-word
returns-else-word c = λ count. open_decides _ _ c.requires.ready c.step-w.ensures c.look-a.ensures c.step-z.ensures c.moved-m.ensures (omega (arith, c.well_formed)) count (c.sides_fit.ensures.yes (c.if-not-sides_fit.false)) (λ e. c.if-word.false (c.word.ensures ∙ e)) c.runs.ensures
