-- The loop of `assemble::write_faces`: what it keeps.
use Rattle.assemble.specs.Writing.{WroteFaces, nothing, Ordered}
use Rattle.rules.specs.Face.{Face}
use mathlib.Core.List.{List}
use lib.ListN.{take}
use Rattle.assemble.proofs.write_faces.Given as goal

abbrev pub invariant-loop-f : goal.invariant-loop-f
invariant-loop-f l =
    (fs : List Face) → Ordered l.g.size.width l.g.labels.now l.p.trail l.p.heads l.p.list l.m l.work fs → WroteFaces l.g.size.width 0 (take l.f fs) nothing l.initial.references l.initial.contours l.initial.faces l.done l.references l.contours l.faces
