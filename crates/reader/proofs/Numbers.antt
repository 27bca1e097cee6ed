-- A refusal's number is above 0 and tells which refusal it is.
use Prim.Native.Nat.{◌<◌}
use mathlib.Core.Path.{◌≡◌, refl, sym, ap, ◌∙◌}
use mathlib.Core.List.{List, [], ◌∷◌}
use native.Mathlib.Omega.{arith}
use lib.ListN.{get_or}
use Rattle.rules.specs.declared.Refusal.{Refusal}
use Rattle.rules.specs.declared.Refusal.TheVariants.{LongSide, LabelCount, ShortWork, ShortNodes, ShortSegments, ShortPoints, ShortReferences, ShortContours, ShortFaces, OutsidePoints, BadLayers, StrayLabel, ShortOutput, NoJobFile, StrangeGraph, BadSheet, MergeStores, ShortAnswers, ManyPaints}
use Rattle.rules.specs.Refusals.{number_of}

-- by their numbers, from 1 on
abbrev in_order : List Refusal
in_order = LongSide ∷ LabelCount ∷ ShortWork ∷ ShortNodes ∷ ShortSegments ∷ ShortPoints ∷ ShortReferences ∷ ShortContours ∷ ShortFaces ∷ OutsidePoints ∷ BadLayers ∷ StrayLabel ∷ ShortOutput ∷ NoJobFile ∷ StrangeGraph ∷ BadSheet ∷ MergeStores ∷ ShortAnswers ∷ ManyPaints ∷ []

numbered : (r : Refusal) → (0 < number_of r) × (get_or (LongSide ∷ in_order) (number_of r) LongSide ≡ r)
numbered LongSide = (omega arith, refl)
numbered LabelCount = (omega arith, refl)
numbered ShortWork = (omega arith, refl)
numbered ShortNodes = (omega arith, refl)
numbered ShortSegments = (omega arith, refl)
numbered ShortPoints = (omega arith, refl)
numbered ShortReferences = (omega arith, refl)
numbered ShortContours = (omega arith, refl)
numbered ShortFaces = (omega arith, refl)
numbered OutsidePoints = (omega arith, refl)
numbered BadLayers = (omega arith, refl)
numbered StrayLabel = (omega arith, refl)
numbered ShortOutput = (omega arith, refl)
numbered NoJobFile = (omega arith, refl)
numbered StrangeGraph = (omega arith, refl)
numbered BadSheet = (omega arith, refl)
numbered MergeStores = (omega arith, refl)
numbered ShortAnswers = (omega arith, refl)
numbered ManyPaints = (omega arith, refl)

pub some_number : (r : Refusal) → 0 < number_of r
some_number r = (numbered r).0

pub one_number : (r s : Refusal) → number_of r ≡ number_of s → r ≡ s
one_number r s e = sym (numbered r).1 ∙ ap (λ n. get_or (LongSide ∷ in_order) n LongSide) e ∙ (numbered s).1
