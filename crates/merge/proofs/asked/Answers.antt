-- `asked` meets its contract.
use mir.Syntax.{w32}
use mir.ValLaws.{to_z-of_z}
use mathlib.Core.Path.{◌∙◌}
use Rattle.merge.proofs.Limits.{asked_few, asked_read}
use Rattle.merge.proofs.asked.Goals as goal

pub returns-then-paints-lt2 : goal.returns-then-paints-lt2
returns-then-paints-lt2 c = asked_few _ _ c.if-paints-lt2.true

pub returns : goal.returns
returns c = c.ok.ensures.value ∙ asked_read _ _ c.ranges.limit c.if-paints-lt2.false _ (rw (to_z-of_z w32 c.args.limit c.ranges.limit) at c.try_from.ensures)
