-- How the answers of the salvage code stand for those of the rules.
use Rattle.std.specs.Prelude.{ℕ, Bool, List, Result, Ok, Err}
use Rattle.rules.specs.declared.Refusal.{Refusal}
use Rattle.rules.specs.Refusals.{number_of}
use Rattle.jobfile.specs.Salvage.{Place, Kept, Salvaged}
use Rattle.jobs.specs.declared.salvage.Place.{Place as PlaceCode}
use Rattle.jobs.specs.declared.salvage.Kept.{Kept as KeptCode}

abbrev pub placed : ℕ → ℕ → ℕ → ℕ → Bool → Place
placed width height paints segments faces = record { width = width; height = height; paints = paints; segments = segments; faces = faces }

abbrev pub place_of : PlaceCode → Place
place_of p = placed p.width p.height p.paints p.segments p.faces

abbrev pub kept_as : KeptCode → Kept
kept_as k = record { length = k.length; kind = k.kind }

-- an answer and the store afterwards
abbrev pub salvaged_as : Result KeptCode Refusal → List ℕ → Salvaged
salvaged_as (Ok k) store = record { number = 0; length = k.length; kind = k.kind; store = store }
salvaged_as (Err r) store = record { number = number_of r; length = 0; kind = 0; store = store }
