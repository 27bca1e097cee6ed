-- `islands::Plan::link` meets its contract.
use mathlib.Core.Path.{sym, ◌∙◌}
use Rattle.face.proofs.islands.Linking.{here_label, here_inside, link_outside, link_hand, link_over, hand_then, link_inside}
use Rattle.face.proofs.islands.Neighbours.{left_asks, left_met}
use Rattle.face.proofs.islands.Plan.link.Goals as goal

pub returns-then-read : goal.returns-then-read
returns-then-read c =
    let s = c.requires in
    link_outside s.linked s.within (here_label s.linked s.within ∙ sym c.read.ensures ∙ c.if-read.true)

pub meet-requires : goal.meet-requires
meet-requires c =
    let s = c.requires in
    let i = here_inside s.linked s.within _ c.read.ensures c.if-read.false in
    let leaf = (link_hand s.linked s.within i _ s.column).leaf in
    record { leaf = leaf; before = λ r q. left_asks leaf (link_over s.linked s.within i _ s.column) r (sym c.left.ensures ∙ q) }

pub meet_above-requires : goal.meet_above-requires
meet_above-requires c =
    let s = c.requires in
    let i = here_inside s.linked s.within _ c.read.ensures c.if-read.false in
    hand_then (link_hand s.linked s.within i _ s.column) c.meet.ensures

pub returns : goal.returns
returns c =
    let s = c.requires in
    let i = here_inside s.linked s.within _ c.read.ensures c.if-read.false in
    let h = link_hand s.linked s.within i _ s.column in
    link_inside s.linked s.within i _ s.column (left_met h.leaf (link_over s.linked s.within i _ s.column) (rw c.left.ensures at c.meet.ensures)) c.meet_above.ensures
