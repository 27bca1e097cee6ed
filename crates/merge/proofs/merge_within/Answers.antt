-- `merge_within` meets its contract.
use native.Mathlib.Omega.{arith}
use Rattle.merge.proofs.Calling.{sound_pixels}
use Rattle.merge.proofs.Checking.{within}
use Rattle.merge.proofs.merge_within.Goals as goal

pub overflow_cast-result : goal.overflow_cast-result
overflow_cast-result c = omega (arith, c.run-r.ensures.few, sound_pixels _ c.requires.starts.sound)

pub returns : goal.returns
returns c = within _ _ _ _ _ _ _ _ _ _ _ _ c.run-r.ensures (c.fill.ensures.after (λ y e. e)) (c.fill-2.ensures.after (λ y e. e))
