-- The numbers of the refusals: each is above 0, and no two are equal.
use Prim.Native.Nat.{ℕ, ◌<◌}
use mathlib.Core.Bool.{true, false}
use mathlib.Core.Path.{◌≡◌, refl, sym, ap, ◌∙◌}
use mathlib.Core.List.{List, [], ◌∷◌}
use native.Mathlib.Omega.{arith}
use lib.ListN.{get_or}
use Rattle.std.specs.Prelude.{Result, Ok, Err, is_ok}
use Rattle.std.proofs.lemmas.Bool.{false≢true, true≢false}
use Rattle.rules.specs.declared.Refusal.{Refusal}
use Rattle.rules.specs.declared.Refusal.TheVariants.{LongSide, LabelCount, ShortWork, ShortNodes, ShortSegments, ShortPoints, ShortReferences, ShortContours, ShortFaces, OutsidePoints, BadLayers, StrayLabel, ShortOutput, NoJobFile, StrangeGraph, BadSheet, MergeStores, ShortAnswers, ManyPaints}
use Rattle.rules.specs.Refusals.{number_of, number_in}

-- all of them, from 1 on
abbrev numbered : List Refusal
numbered = LongSide ∷ LongSide ∷ LabelCount ∷ ShortWork ∷ ShortNodes ∷ ShortSegments ∷ ShortPoints ∷ ShortReferences ∷ ShortContours ∷ ShortFaces ∷ OutsidePoints ∷ BadLayers ∷ StrayLabel ∷ ShortOutput ∷ NoJobFile ∷ StrangeGraph ∷ BadSheet ∷ MergeStores ∷ ShortAnswers ∷ ManyPaints ∷ []

abbrev numbered_as : ℕ → Refusal
numbered_as n = get_or numbered n LongSide

record Known (why : Refusal) : Type 0 where
  pub positive : 0 < number_of why
  pub found : numbered_as (number_of why) ≡ why

known : (why : Refusal) → Known why
known LongSide = record { positive = omega arith; found = refl }
known LabelCount = record { positive = omega arith; found = refl }
known ShortWork = record { positive = omega arith; found = refl }
known ShortNodes = record { positive = omega arith; found = refl }
known ShortSegments = record { positive = omega arith; found = refl }
known ShortPoints = record { positive = omega arith; found = refl }
known ShortReferences = record { positive = omega arith; found = refl }
known ShortContours = record { positive = omega arith; found = refl }
known ShortFaces = record { positive = omega arith; found = refl }
known OutsidePoints = record { positive = omega arith; found = refl }
known BadLayers = record { positive = omega arith; found = refl }
known StrayLabel = record { positive = omega arith; found = refl }
known ShortOutput = record { positive = omega arith; found = refl }
known NoJobFile = record { positive = omega arith; found = refl }
known StrangeGraph = record { positive = omega arith; found = refl }
known BadSheet = record { positive = omega arith; found = refl }
known MergeStores = record { positive = omega arith; found = refl }
known ShortAnswers = record { positive = omega arith; found = refl }
known ManyPaints = record { positive = omega arith; found = refl }

pub positive : (why : Refusal) → 0 < number_of why
positive why = (known why).positive

pub same_number : (a b : Refusal) → number_of a ≡ number_of b → a ≡ b
same_number a b e = sym (known a).found ∙ ap numbered_as e ∙ (known b).found

-- A CHECK'S RESULT has the number 0 where it is Ok, and only there

pub none_in : (r : Result (Unit {0}) Refusal) → is_ok r ≡ true → number_in r ≡ 0
none_in (Ok u) e = refl
none_in (Err why) e = absurd (false≢true e)

pub some_in : (r : Result (Unit {0}) Refusal) → is_ok r ≡ false → number_in r ≡ 0 → ⊥
some_in (Ok u) e z = true≢false e
some_in (Err why) e z = let h = positive why in omega arith
