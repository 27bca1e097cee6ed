-- What the check leaves of `put`.
use lib.Seq.{set_out}
use mathlib.Core.Path.{sym}
use Rattle.store.proofs.put.Goals as goal

pub returns-else-i-words : goal.returns-else-i-words
returns-else-i-words c = sym (set_out _ _ _ c.if-i-words.false)
