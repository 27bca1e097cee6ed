-- A bench's listing of its pieces, by unit steps, and the call that writes it (docs/RULES.md, #110).
use Rattle.std.specs.Prelude.{ℕ, Bool, true, false, cond, List, [], ◌∷◌, ◌++◌, map, ltb, eqb, length, get_or}
use Rattle.rules.specs.Lists.{keep, flat, among}
use Rattle.rules.specs.Picture.{code, Dart, same_dart}
use Rattle.rules.specs.Graph.{segments}
use Rattle.rules.specs.Face.{no_dart, sides, Face, faces}
use Rattle.rules.specs.Calls.{Map, picture_of, Check, first_hit, map_checks, work_after, store_after}

-- A CONTOUR from its earliest step on

-- a stands before b: by y, then x, then direction
unfoldable pub earlier : Dart → Dart → Bool
earlier a b = cond (eqb a.y b.y) (cond (eqb a.x b.x) (ltb (code a.d) (code b.d)) (ltb a.x b.x)) (ltb a.y b.y)

-- the earliest of a and more steps
unfoldable pub earliest : Dart → List Dart → Dart
earliest a [] = a
earliest a (b ∷ l) = elim (earlier b a) [ true ↦ earliest b l | false ↦ earliest a l ]

-- the steps before the step a, and those from it on
unfoldable pub up_to : Dart → List Dart → List Dart
up_to a [] = []
up_to a (b ∷ l) = elim (same_dart a b) [ true ↦ [] | false ↦ b ∷ up_to a l ]

unfoldable pub from_on : Dart → List Dart → List Dart
from_on a [] = []
from_on a (b ∷ l) = elim (same_dart a b) [ true ↦ b ∷ l | false ↦ from_on a l ]

unfoldable pub from_earliest : List Dart → List Dart
from_earliest [] = []
from_earliest (a ∷ l) = let z = earliest a l in from_on z (a ∷ l) ++ up_to z (a ∷ l)

-- CONTOURS by their first steps

unfoldable pub put_contour : List Dart → List (List Dart) → List (List Dart)
put_contour c [] = c ∷ []
put_contour c (d ∷ l) = elim (earlier (get_or c 0 no_dart) (get_or d 0 no_dart)) [ true ↦ c ∷ d ∷ l | false ↦ d ∷ put_contour c l ]

unfoldable pub by_first_step : List (List Dart) → List (List Dart)
by_first_step [] = []
by_first_step (c ∷ l) = put_contour c (by_first_step l)

-- the contours of a face as they are listed
unfoldable pub contours_listed : List (List Dart) → Face → List (List Dart)
contours_listed ss f = by_first_step (map (λ c. from_earliest (sides ss c)) f.contours)

-- WORDS: x, y and direction of a step; a count of steps, then the steps; region and contour count, then the contours

unfoldable pub step_words : Dart → List ℕ
step_words a = a.x ∷ a.y ∷ code a.d ∷ []

unfoldable pub loop_words : List Dart → List ℕ
loop_words c = length c ∷ flat (map step_words c)

unfoldable pub piece_words : List (List Dart) → Face → List ℕ
piece_words ss f = let cs = contours_listed ss f in f.region ∷ length cs ∷ flat (map loop_words cs)

-- the faces whose region is named, in their order: a label named twice counts once, and an unpainted one has no face
unfoldable pub listing_words : List (List Dart) → List ℕ → List Face → List ℕ
listing_words ss named fs = flat (map (piece_words ss) (keep (λ f. among f.region named) fs))

abbrev pub faces_of : Map → List Face
faces_of m = let P = picture_of m in faces P (segments P) m.paints

unfoldable pub listing_of : Map → List ℕ → List ℕ
listing_of m named = listing_words (segments (picture_of m)) named (faces_of m)

-- THE CALL: the number, the listing's length, 0 when refused, and the work store and the listing store afterwards

pub record ListingAnswer : Type 0 where
  pub number : ℕ
  pub length : ℕ

pub record ListingOutcome : Type 0 where
  pub answer : ListingAnswer
  pub stores : List (List ℕ)

unfoldable pub listing_checks : List ℕ → List ℕ → List Check
listing_checks words store = record { number = 13; hits = ltb (length store) (length words) } ∷ []

unfoldable pub listing : Map → List ℕ → List ℕ → List ℕ → ListingOutcome
listing m work named store =
    let words = listing_of m named in
    let n = first_hit (map_checks m work ++ listing_checks words store) in
    record {
      answer = record { number = n; length = cond (eqb n 0) (length words) 0 };
      stores = work_after m n work ∷ store_after n words store ∷ [];
    }
