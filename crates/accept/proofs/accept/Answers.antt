-- `accept::accept` meets its contract.
use mathlib.Core.Path.{sym, ◌∙◌}
use native.Mathlib.Omega.{arith}
use Rattle.store.proofs.Writes.{kept_none, kept_then}
use Rattle.accept.proofs.Accepting.{refuse, decide, no_lines, clear_kept, clear_marks, lines_of}
use Rattle.accept.proofs.accept.Goals as goal

pub returns-then-nodes-held : goal.returns-then-nodes-held
returns-then-nodes-held c = (refuse c.args.s _ _ (omega (arith, c.well_formed)) (λ k. let q = k.node_room in omega (arith, c.if-nodes-held.true)), kept_none)

pub returns-then-segments-count : goal.returns-then-segments-count
returns-then-segments-count c = (refuse c.args.s _ _ (omega (arith, c.well_formed)) (λ k. let q = k.segment_room in omega (arith, c.if-segments-count.true)), kept_none)

pub returns-then-held-corners : goal.returns-then-held-corners
returns-then-held-corners c = (refuse c.args.s _ _ (omega (arith, c.well_formed)) (λ k. c.if-held-corners.true (k.node_count_lem ∙ sym c.requires.corners)), kept_none)

pub segments_fit-requires-clause-unmarked : goal.segments_fit-requires-clause-unmarked
segments_fit-requires-clause-unmarked c = clear_marks c.args.s _ _ _ c.plane.ensures.0 c.fill.ensures c.requires.marks

pub returns-else-segments_fit : goal.returns-else-segments_fit
returns-else-segments_fit c = (c.if-segments_fit.false ∙ refuse c.args.s _ _ (omega (arith, c.well_formed)) (no_lines c.args.s _ _ (omega (arith, c.well_formed)) (lines_of c.args.s c.args.labels.now c.requires.cracks c.segments_fit.ensures.0) c.if-segments_fit.false), kept_then (clear_kept c.args.s _ _ _ c.plane.ensures.0 c.fill.ensures) c.segments_fit.ensures.1)

pub returns-then-segments_fit : goal.returns-then-segments_fit
returns-then-segments_fit c = (decide c.args.s _ _ (omega (arith, c.well_formed)) (omega (arith, c.if-nodes-held.false)) (omega (arith, c.if-segments-count.false)) (c.if-held-corners.false ∙ c.requires.corners) ((lines_of c.args.s c.args.labels.now c.requires.cracks c.segments_fit.ensures.0).yes c.if-segments_fit.true) (c.nodes_fit.ensures _), kept_then (clear_kept c.args.s _ _ _ c.plane.ensures.0 c.fill.ensures) c.segments_fit.ensures.1)
