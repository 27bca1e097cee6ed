-- The sum of `write::file_size` is the definition's.
use native.Mathlib.Omega.{arith}
use Rattle.jobs.specs.Stored.{size_by}
use Rattle.jobs.proofs.write.file_size.Goals as goal

pub returns : goal.returns
unfolding size_by
returns c = omega arith
