-- The loop of `lines::entries_at`: what is stored of the whole line is what is stored of the rest of it.
use Rattle.std.proofs.Common.{◌+◌, ◌-◌, ◌≤◌, length, drop}
use Rattle.text.specs.Grammar.{line, entries}
use Rattle.text.proofs.Entries.{Going}
use Rattle.text.proofs.lines.entries_at.Given as goal

abbrev pub invariant-loop-x : goal.invariant-loop-x
invariant-loop-x l =
    (l.place ≤ length l.text) × Going (line l.width (drop l.at l.text)) l.initial.labels l.base (entries (l.width - 1 - l.x) (drop l.place l.text)) l.labels (l.base + l.x)
