-- The kinds of records and their numbers (docs/RULES.md, #109).
use Rattle.std.specs.Prelude.{ℕ, ◌≡◌, ◌≢◌, Option, Some, None}
use Rattle.jobs.specs.declared.Kind.{Kind}
use Rattle.jobs.specs.declared.Kind.TheVariants.{Map, Segment, Face}

abbrev pub number_of : Kind → ℕ
number_of Map = 1
number_of Segment = 2
number_of Face = 3

-- the kind of a number, or none where no kind has it
abbrev pub Numbered : ℕ → Option Kind → Type 0
Numbered n (Some k) = number_of k ≡ n
Numbered n None = (n ≢ 1) × (n ≢ 2) × (n ≢ 3)
