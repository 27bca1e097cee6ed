-- The answers about job files as C programs have them.
use Rattle.std.specs.Prelude.{ℕ, List, [], ◌∷◌, Result, Ok, Err, get_or}
use Rattle.rules.specs.declared.Refusal.{Refusal}
use Rattle.rules.specs.Refusals.{number_of}
use Rattle.calls.specs.Outcome.{answered}
use Rattle.jobfile.specs.JobFile.{Written}
use Rattle.jobfile.specs.Salvage.{Salvaged}
use Rattle.jobs.specs.declared.salvage.Kept.{Kept}

-- the writer: eight words, the length, and every lent store
abbrev pub written_in : List ℕ → ℕ → List (List ℕ) → Written
written_in ws length stores = record { outcome = answered ws stores; length = length }

-- the salvage tool: three words, and the store
abbrev pub salvage_words : Result Kept Refusal → List ℕ
salvage_words (Ok k) = 0 ∷ k.length ∷ k.kind ∷ []
salvage_words (Err r) = number_of r ∷ 0 ∷ 0 ∷ []

abbrev pub salvaged_in : List ℕ → List ℕ → Salvaged
salvaged_in ws store = record { number = get_or ws 0 0; length = get_or ws 1 0; kind = get_or ws 2 0; store = store }
