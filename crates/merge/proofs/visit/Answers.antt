-- `visit` meets its contract.
use mathlib.Core.Path.{ap, ◌∙◌}
use native.Mathlib.Omega.{arith}
use lib.ListN.{length}
use Rattle.merge.proofs.Absorbing.{found_both, visit_one, visit_apart, visit_room, visit_takes, visit_done}
use Rattle.merge.proofs.Words.{taken_long}
use Rattle.merge.proofs.visit.Goals as goal

pub returns-then-p-q : goal.returns-then-p-q
returns-then-p-q c = visit_one _ _ _ _ _ _ _ _ (found_both _ _ _ _ _ _ _ _ c.find-p.ensures c.find-q.ensures) c.if-p-q.true

pub apart-requires : goal.apart-requires
apart-requires c = let d = c.requires in visit_room _ c.args.limit _ _ _ _ _ _ (found_both _ _ _ _ _ _ _ _ c.find-p.ensures c.find-q.ensures) d.state d.pair c.if-p-q.false

pub returns-then-from-apart : goal.returns-then-from-apart
returns-then-from-apart c = visit_apart _ _ _ _ _ _ _ _ (found_both _ _ _ _ _ _ _ _ c.find-p.ensures c.find-q.ensures) (omega (arith, c.if-from-apart.true, c.apart.ensures, c.from.ensures))

pub absorb-requires : goal.absorb-requires
absorb-requires c = let d = c.requires in visit_takes _ c.args.limit _ _ _ _ _ _ (found_both _ _ _ _ _ _ _ _ c.find-p.ensures c.find-q.ensures) d.state d.pair c.if-p-q.false

pub returns : goal.returns
returns c = visit_done _ _ _ _ _ _ _ _ (found_both _ _ _ _ _ _ _ _ c.find-p.ensures c.find-q.ensures) _ c.if-p-q.false (omega (arith, c.if-from-apart.false, c.apart.ensures, c.from.ensures)) c.absorb.ensures (ap length c.absorb.ensures ∙ taken_long _ _ _)
