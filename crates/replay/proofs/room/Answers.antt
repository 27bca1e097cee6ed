-- The length without the list, which is too long to write out.
use Rattle.std.proofs.Common.{ℕ, sym}
use Rattle.std.proofs.lemmas.List.{length-replicate}
use Rattle.replay.proofs.room.Goals as goal

pub returns : goal.returns
returns c = sym (length-replicate {0} {A = ℕ} 1000000 0)
