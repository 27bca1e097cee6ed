-- The loop of `lines::lines_at`: what is stored of all lines is what is stored of those to come.
use Rattle.std.proofs.Common.{◌-◌, ◌*◌, ◌≤◌, length, drop}
use Rattle.text.specs.Grammar.{lines}
use Rattle.text.proofs.Entries.{Going}
use Rattle.text.proofs.lines.lines_at.Given as goal

abbrev pub invariant-loop-y : goal.invariant-loop-y
invariant-loop-y l =
    (l.place ≤ length l.text) × Going (lines l.width l.height (drop l.at l.text)) l.initial.labels 0 (lines l.width (l.height - l.y) (drop l.place l.text)) l.labels (l.y * l.width)
