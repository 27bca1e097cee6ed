-- What the call of the listing left, as the rules have it.
use Rattle.std.specs.Prelude.{ℕ, List, get_or, Result, Ok, Err}
use Rattle.rules.specs.declared.Refusal.{Refusal}
use Rattle.rules.specs.Refusals.{number_of}
use Rattle.benches.specs.Listing.{ListingAnswer, ListingOutcome}

-- the number and the listing's length, 0 when refused
abbrev pub length_of : Result ℕ Refusal → ListingAnswer
length_of (Ok n) = record { number = 0; length = n }
length_of (Err why) = record { number = number_of why; length = 0 }

abbrev pub listed : Result ℕ Refusal → List (List ℕ) → ListingOutcome
listed r stores = record { answer = length_of r; stores = stores }

-- in words, as C programs have it
abbrev pub listed_words : List ℕ → List (List ℕ) → ListingOutcome
listed_words ws stores = record { answer = record { number = get_or ws 0 0; length = get_or ws 1 0 }; stores = stores }
