-- `jobs::write::put_map` meets its contract.
use mathlib.Core.Path.{refl}
use Rattle.rules.specs.Lists.{flat}
use Rattle.jobfile.specs.JobFile.{word, word_bytes, bytes_of}
use Rattle.jobs.specs.Stored.{header_entry}
use Rattle.jobs.proofs.Putting.{◌then◌, put_as}
use Rattle.jobs.proofs.write.put_map.Goals as goal

pub returns : goal.returns
unfolding header_entry bytes_of word_bytes flat word
returns c = put_as refl (c.put_head-q.ensures then c.put_word-q.ensures then c.put_word-q-2.ensures then c.put_word.ensures)
