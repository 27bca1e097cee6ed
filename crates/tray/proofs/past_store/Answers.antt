-- `tray::past_store` meets its contract.
use mathlib.Core.Path.{sym}
use Rattle.tray.proofs.Passing.{past_wide, past_high, past_small}
use Rattle.tray.proofs.past_store.Goals.{then-s-gt16384-via-then-s-gt16384, then-s-gt16384-via-else-s-gt16384+then-s-gt16384-2}
use Rattle.tray.proofs.past_store.Goals as goal

pub returns-then-s-gt16384 : goal.returns-then-s-gt16384
returns-then-s-gt16384 c =
    elim c.then-s-gt16384.branch [
      | then-s-gt16384-via-then-s-gt16384 w ↦ sym (past_wide c.args.s w.if-s-gt16384.true)
      | then-s-gt16384-via-else-s-gt16384+then-s-gt16384-2 w ↦ sym (past_high c.args.s w.if-s-gt16384.false w.if-s-gt16384-2.true)
    ]

pub returns : goal.returns
returns c = sym (past_small c.args.s c.if-s-gt16384.false c.if-s-gt16384-2.false)
