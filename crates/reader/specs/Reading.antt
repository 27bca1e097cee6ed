-- What the segment reader says at each call, and a run of its calls (docs/RULES.md, "The segment reader").
use Rattle.std.specs.Prelude.{ℕ, zero, suc, ◌+◌, ◌*◌, ◌-◌, ◌/◌, Bool, true, false, cond, Option, None, Some, Result, Ok, Err, List, [], ◌∷◌, leb, ltb, length, get_or}
use Rattle.std.specs.Borrow.{Bor}
use Rattle.rules.specs.declared.Refusal.{Refusal}
use Rattle.rules.specs.declared.Refusal.TheVariants.{OutsidePoints}
use Rattle.rules.specs.Refusals.{number_of}
use Rattle.reader.specs.declared.Corner.{Corner}
use Rattle.reader.specs.declared.Step.{Step}
use Rattle.reader.specs.declared.Reader.{Reader}

-- WHAT IS SAID, in the rules' number and values: 10 where the part does not lie inside, else 0, with the two coordinates of a corner or,
-- at the end, with none

pub record Said : Type 0 where
  pub number : ℕ
  pub corner : List ℕ

abbrev pub said : Result (Option Corner) Refusal → Said
said (Ok (Some c)) = record { number = 0; corner = c.x ∷ c.y ∷ [] }
said (Ok None) = record { number = 0; corner = [] }
said (Err r) = record { number = number_of r; corner = [] }

-- of a step, with the place of the next call
abbrev pub told : Step → Said × ℕ
told s = (said s.corner, s.place)

abbrev pub at_corner : ℕ → ℕ → Said
at_corner x y = said (Ok (Some (record { x = x; y = y })))

abbrev pub at_end : Said
at_end = said (Ok None)

abbrev pub outside_points : Said
outside_points = said (Err OutsidePoints)

-- ONE CALL

-- the point with a number
abbrev pub point_at : List ℕ → ℕ → Said
point_at points i = at_corner (get_or points (2 * i) 0) (get_or points (2 * i + 1) 0)

-- the number of the point that is handed out at a place
abbrev pub number_at : Bool → ℕ → ℕ → ℕ → ℕ
number_at true first count place = first + count - place - 1
number_at false first count place = first + place

-- outside, where the exact sum is above the number of points that the store holds; past the last corner the end; else the corner
abbrev pub say_at : List ℕ → ℕ → ℕ → Bool → ℕ → Said
say_at points first count reversed place =
    cond (ltb (length points / 2) (first + count)) outside_points (cond (leb count place) at_end (point_at points (number_at reversed first count place)))

-- the place moves until it is past the last corner
abbrev pub tell_at : List ℕ → ℕ → ℕ → Bool → ℕ → Said × ℕ
tell_at points first count reversed place = (say_at points first count reversed place, cond (ltb place count) (place + 1) place)

-- MANY: what so many calls say, from a place on
unfoldable pub reads : List ℕ → ℕ → ℕ → Bool → ℕ → ℕ → List Said
reads points first count reversed zero place = []
reads points first count reversed (suc calls) place =
    let t = tell_at points first count reversed place in
    t.0 ∷ reads points first count reversed calls t.1

-- THE READER: the store and the place together

abbrev pub start_of : Bor (List ℕ) → ℕ → ℕ → Bool → Reader
start_of points first count reversed = record { points = points; first = first; end = count; reversed = reversed; place = 0 }

abbrev pub tell_of : Reader → Said × ℕ
tell_of r = tell_at r.points.now r.first r.end r.reversed r.place

abbrev pub moved_to : Reader → ℕ → Reader
moved_to r place = record { points = r.points; first = r.first; end = r.end; reversed = r.reversed; place = place }
