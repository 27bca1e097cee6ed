-- `jobs::write::put_byte` meets its contract.
use Rattle.jobs.proofs.Putting.{put_in, put_out}
use Rattle.jobs.proofs.write.put_byte.Goals as goal

pub returns-then-at-out : goal.returns-then-at-out
returns-then-at-out c = let a = c.args in put_in a.out.now a.at a.b c.if-at-out.true

pub returns : goal.returns
returns c = let a = c.args in put_out a.out.now a.at a.b c.requires c.if-at-out.false
