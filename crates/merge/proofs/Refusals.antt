-- The numbers of the refusals: none is 0, and no two are the same.
use Prim.Native.Nat.{ℕ}
use mathlib.Core.Path.{◌≡◌, refl, sym, ap, ◌∙◌}
use mathlib.Core.List.{[], ◌∷◌}
use lib.ListN.{get_or}
use Rattle.rules.specs.Refusals.{number_of}
use Rattle.rules.specs.declared.Refusal.{Refusal}
use Rattle.rules.specs.declared.Refusal.TheVariants.{LongSide, LabelCount, ShortWork, ShortNodes, ShortSegments, ShortPoints, ShortReferences, ShortContours, ShortFaces, OutsidePoints, BadLayers, StrayLabel, ShortOutput, NoJobFile, StrangeGraph, BadSheet, MergeStores, ShortAnswers, ManyPaints}

numbered : ℕ → Refusal
numbered n = get_or (LongSide ∷ LongSide ∷ LabelCount ∷ ShortWork ∷ ShortNodes ∷ ShortSegments ∷ ShortPoints ∷ ShortReferences ∷ ShortContours ∷ ShortFaces ∷ OutsidePoints ∷ BadLayers ∷ StrayLabel ∷ ShortOutput ∷ NoJobFile ∷ StrangeGraph ∷ BadSheet ∷ MergeStores ∷ ShortAnswers ∷ ManyPaints ∷ []) n LongSide

numbered_again : (r : Refusal) → numbered (number_of r) ≡ r
unfolding numbered
numbered_again LongSide = refl
numbered_again LabelCount = refl
numbered_again ShortWork = refl
numbered_again ShortNodes = refl
numbered_again ShortSegments = refl
numbered_again ShortPoints = refl
numbered_again ShortReferences = refl
numbered_again ShortContours = refl
numbered_again ShortFaces = refl
numbered_again OutsidePoints = refl
numbered_again BadLayers = refl
numbered_again StrayLabel = refl
numbered_again ShortOutput = refl
numbered_again NoJobFile = refl
numbered_again StrangeGraph = refl
numbered_again BadSheet = refl
numbered_again MergeStores = refl
numbered_again ShortAnswers = refl
numbered_again ManyPaints = refl

pub number_once : (r s : Refusal) → number_of r ≡ number_of s → r ≡ s
number_once r s e = sym (numbered_again r) ∙ ap numbered e ∙ numbered_again s

pub number_some : (r : Refusal) → number_of r ≡ 0 → ⊥
unfolding numbered
number_some r e = let first : LongSide ≡ r = ap numbered (sym e) ∙ numbered_again r in let one : ◌≡◌ {A = ℕ} 1 0 = ap number_of first ∙ e in cc
