-- `accept::node_fits` meets its contract.
use mathlib.Core.Path.{sym, ◌∙◌}
use native.Mathlib.Omega.{arith}
use Rattle.accept.specs.Walks.{given}
use Rattle.accept.specs.Checked.{Entry}
use Rattle.accept.proofs.Stepping.{say_no, say_yes}
use Rattle.accept.proofs.Noding.{off_map, no_node, fits_entry, node_good, each_way, ways_more}
use Rattle.accept.proofs.node_fits.Goals as goal

pub returns-then-not-in_frame : goal.returns-then-not-in_frame
returns-then-not-in_frame c = λ held points. say_no (off_map c.args.s _ _ _ points held _ _ _ _ c.get-x.ensures c.get-y.ensures (c.in_frame.ensures.no c.if-not-in_frame.true))

pub returns-then-not-node : goal.returns-then-not-node
returns-then-not-node c = λ held points. say_no (no_node c.args.s _ _ _ points held _ _ _ _ c.get-x.ensures c.get-y.ensures _ c.look-a.ensures (sym c.node.ensures ∙ c.if-not-node.true))

pub returns-then-not-entry_fits : goal.returns-then-not-entry_fits
returns-then-not-entry_fits c = λ held points. say_no (λ f. (c.entry_fits.ensures held points).no c.if-not-entry_fits.true (fits_entry c.args.s _ _ _ points held _ _ _ _ c.get-x.ensures c.get-y.ensures _ c.look-a.ensures _ f))

pub loop-d-preserved : goal.loop-d-preserved
loop-d-preserved c = λ held points. ways_more (Entry c.look-a.result (given c.args.nodes.now held c.args.segments.now c.args.count points) c.args.i) c.loop-d.d-index (c.loop-d.invariant held points) ((c.entry_fits.ensures held points).yes c.if-not-entry_fits.false)

pub returns : goal.returns
returns c = λ held points.
    say_yes (node_good c.args.s _ _ _ points held _ _ _ _ c.get-x.ensures c.get-y.ensures _ c.look-a.ensures (sym c.node.ensures ∙ c.if-not-node.false)
    (each_way (Entry c.look-a.result (given c.args.nodes.now held c.args.segments.now c.args.count points) c.args.i) (λ k h. c.loop-d.invariant held points k (omega (arith, h, c.loop-d-test.false)))))
