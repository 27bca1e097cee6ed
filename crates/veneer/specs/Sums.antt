-- How much veneer is in each piece (docs/RULES.md, #101): sums over the steps of contours, in signed numbers.
use Rattle.std.specs.Prelude.{ℕ, Bool, true, false, List, [], ◌∷◌, ◌++◌, map, ltb, eqb, length, drop, ℤ, pos, negsuc, neg_ℤ, ◌+ℤ◌}
use Rattle.rules.specs.Lists.{keep}
use Rattle.rules.specs.Picture.{Picture, Dart}
use Rattle.rules.specs.declared.Dir.{Dir}
use Rattle.rules.specs.declared.Dir.TheVariants.{N, E, S, W}
use Rattle.rules.specs.Graph.{segments}
use Rattle.rules.specs.Face.{pixels, label_of, sides, Face, faces}
use Rattle.rules.specs.Calls.{Map, picture_of, cut_list, Outcome, call}

-- SUMS

abbrev pub total : {A : Type 0} → (A → ℤ) → List A → ℤ
total f [] = pos 0
total f (a ∷ l) = f a +ℤ total f l

-- y for a step east and minus y for a step west
abbrev pub signed_of : Dir → ℕ → ℤ
signed_of N y = pos 0
signed_of E y = pos y
signed_of S y = pos 0
signed_of W y = neg_ℤ (pos y)

abbrev pub signed : Dart → ℤ
signed a = signed_of a.d a.y

-- over the steps of a contour in their direction, and over the contours of a face
unfoldable pub contour_sum : List (List Dart) → List ℕ → ℤ
contour_sum ss c = total signed (sides ss c)

unfoldable pub face_sum : List (List Dart) → Face → ℤ
face_sum ss f = total (contour_sum ss) f.contours

-- of a map, in face order
unfoldable pub sums : Map → List ℤ
sums m = let P = picture_of m in let ss = segments P in map (face_sum ss) (faces P ss m.paints)

-- the painted pixels of a picture
unfoldable pub painted_pixels : Picture → ℕ → List ℕ
painted_pixels P paints = keep (λ q. ltb (label_of P q) paints) (pixels P)

-- THE CALL: as `size`, with 9 when the store of sums holds too few

-- the answer and the work store, and the sums afterwards
pub record Measured : Type 0 where
  pub outcome : Outcome
  pub sums : List ℤ

unfoldable pub sums_after : ℕ → List ℤ → List ℤ → List ℤ
sums_after n numbers store = elim (eqb n 0) [ true ↦ numbers ++ drop (length numbers) store | false ↦ store ]

unfoldable pub veneer : Map → List ℕ → List ℤ → Measured
veneer m work store =
    let o = call m (cut_list m) work (record { number = 9; hits = ltb (length store) (length (sums m)) } ∷ []) [] in
    record { outcome = o; sums = sums_after o.answer.number (sums m) store }

-- THE OUTLINE MARK (#102): a contour is an outline when its own sum is above zero, else a hole

abbrev pub above_zero : ℤ → Bool
above_zero (pos n) = ltb 0 n
above_zero (negsuc n) = false

unfoldable pub outline : List (List Dart) → List ℕ → Bool
outline ss c = above_zero (contour_sum ss c)
