-- The loop of `salvage::references_fit`: what it keeps.
use Prim.Native.Nat.{◌+◌, ◌-◌}
use mathlib.Core.Path.{◌≡◌}
use lib.ListN.{take, drop}
use Rattle.jobfile.specs.Entries.{words_of}
use Rattle.jobfile.specs.Salvage.{all_below}
use Rattle.jobs.proofs.salvage.references_fit.Given as goal

abbrev pub invariant-loop-i : goal.invariant-loop-i
invariant-loop-i l = all_below l.n (take l.count (drop l.from (words_of l.body))) ≡ all_below l.n (take (l.count - l.i) (drop (l.from + l.i) (words_of l.body)))
