-- `mosaic::job::mosaic_salvage` meets its contract.
use mathlib.Core.Path.{◌≡◌, refl}
use mathlib.Core.List.{List}
use Prim.Native.Nat.{ℕ}
use Rattle.std.specs.Prelude.{Result, Ok, Err}
use Rattle.rules.specs.declared.Refusal.{Refusal}
use Rattle.jobs.specs.declared.salvage.Kept.{Kept}
use Rattle.jobs.specs.Salvaging.{salvaged_as}
use Rattle.mosaic.specs.JobWords.{salvage_words, salvaged_in}
use Rattle.mosaic.proofs.job.mosaic_salvage.Goals as goal

same_answer : (r : Result Kept Refusal) (store : List ℕ) → salvaged_in (salvage_words r) store ≡ salvaged_as r store
same_answer (Ok k) store = refl
same_answer (Err r) store = refl

pub returns : goal.returns
returns c = rw (c.put_salvaged.ensures, same_answer) c.salvage.ensures
