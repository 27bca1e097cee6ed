-- `jobs::write::put_word` meets its contract.
use Rattle.jobs.proofs.Putting.{◌then◌, put_as, low_word}
use Rattle.jobs.proofs.write.put_word.Goals as goal

pub returns : goal.returns
returns c = put_as (low_word c.args.n _ c.to_le_bytes.ensures) (c.put_byte-q.ensures then c.put_byte-q-2.ensures then c.put_byte-q-3.ensures then c.put_byte.ensures)
