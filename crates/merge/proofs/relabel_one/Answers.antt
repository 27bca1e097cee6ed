-- `relabel_one` meets its contract.
use Rattle.merge.proofs.Leaving.{relabel_outside, relabel_leaf, relabel_gives, relabel_room, relabel_inside}
use Rattle.merge.proofs.relabel_one.Goals as goal

pub returns-then-l : goal.returns-then-l
returns-then-l c = relabel_outside _ _ _ _ _ _ _ c.if-l.true

pub find-a-requires : goal.find-a-requires
find-a-requires c = relabel_leaf _ _ _ _ _ _ _ c.if-l.false c.requires

pub give-r-requires : goal.give-r-requires
give-r-requires c = relabel_gives _ _ _ _ _ _ _ c.if-l.false _ _ c.find-a.ensures c.requires

pub get-v-requires : goal.get-v-requires
get-v-requires c = relabel_room _ _ _ _ _ _ _ c.if-l.false _ _ c.find-a.ensures c.requires _ c.give-r.ensures.long

pub returns : goal.returns
returns c = rw c.get-v.ensures (relabel_inside _ _ _ _ _ _ _ c.if-l.false _ _ c.find-a.ensures _ _ _ _ c.give-r.ensures)
