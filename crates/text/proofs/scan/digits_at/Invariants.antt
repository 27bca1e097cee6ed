-- The loop of `scan::digits_at`: what is asked is what the rest of the text reads as after the digits passed.
use Rattle.std.proofs.Common.{◌≡◌, drop}
use Rattle.text.specs.Grammar.{more_digits}
use Rattle.text.proofs.scan.digits_at.Given as goal

abbrev pub invariant-loop-i : goal.invariant-loop-i
invariant-loop-i l = more_digits l.start l.most l.stop (drop l.from l.text) ≡ more_digits l.value l.most l.stop (drop l.i l.text)
