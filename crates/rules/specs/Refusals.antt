-- The number of each refusal (docs/RULES.md, "Numbers").
use Rattle.std.specs.Prelude.{ℕ, Result, Ok, Err}
use Rattle.rules.specs.declared.Refusal.{Refusal}
use Rattle.rules.specs.declared.Refusal.TheVariants.{LongSide, LabelCount, ShortWork, ShortNodes, ShortSegments, ShortPoints, ShortReferences, ShortContours, ShortFaces, OutsidePoints, BadLayers, StrayLabel, ShortOutput, NoJobFile, StrangeGraph, BadSheet, MergeStores, ShortAnswers, ManyPaints}

abbrev pub number_of : Refusal → ℕ
number_of LongSide = 1
number_of LabelCount = 2
number_of ShortWork = 3
number_of ShortNodes = 4
number_of ShortSegments = 5
number_of ShortPoints = 6
number_of ShortReferences = 7
number_of ShortContours = 8
number_of ShortFaces = 9
number_of OutsidePoints = 10
number_of BadLayers = 11
number_of StrayLabel = 12
number_of ShortOutput = 13
number_of NoJobFile = 14
number_of StrangeGraph = 15
number_of BadSheet = 16
number_of MergeStores = 17
number_of ShortAnswers = 18
number_of ManyPaints = 19

-- of a check's result: 0 where it does not hit
abbrev pub number_in : Result (Unit {0}) Refusal → ℕ
number_in (Ok u) = 0
number_in (Err r) = number_of r
