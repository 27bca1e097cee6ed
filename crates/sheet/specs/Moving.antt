-- What the mover says at each call, and a run of its calls (docs/RULES.md, #112).
use Rattle.std.specs.Prelude.{ℕ, zero, suc, ◌+◌, ◌*◌, ◌-◌, ◌/◌, Bool, true, false, cond, Option, None, Some, Result, Ok, Err, List, [], ◌∷◌, leb, ltb, eqb, length, get_or}
use Rattle.rules.specs.declared.Refusal.{Refusal}
use Rattle.rules.specs.declared.Refusal.TheVariants.{OutsidePoints}
use Rattle.rules.specs.Refusals.{number_of}
use Rattle.reader.specs.Reading.{say_at as read_at}
use Rattle.sheet.specs.Sheet.{Action, travel, cut, end, travel_to, cut_to}
use Rattle.sheet.specs.declared.Sheet.{Sheet}
use Rattle.sheet.specs.declared.Move.{Move}
use Rattle.sheet.specs.declared.Move.TheVariants.{Travel, Cut}
use Rattle.sheet.specs.declared.Place.{Place}
use Rattle.sheet.specs.declared.Mover.{Mover}
use Rattle.sheet.specs.declared.Step.{Step}

-- WHAT IS SAID, in the rules' number and values: 10 and no move where a part does not lie inside, else 0 and the move

pub record Said : Type 0 where
  pub number : ℕ
  pub move : List Action

abbrev pub did : Action → Said
did a = record { number = 0; move = a ∷ [] }

abbrev pub did_move : Move → Said
did_move (Travel x y) = did (travel x y)
did_move (Cut x y) = did (cut x y)

abbrev pub said : Result (Option Move) Refusal → Said
said (Ok (Some m)) = did_move m
said (Ok None) = did end
said (Err r) = record { number = number_of r; move = [] }

abbrev pub at_end : Said
at_end = said (Ok None)

abbrev pub outside_points : Said
outside_points = said (Err OutsidePoints)

-- ONE SEGMENT

-- to a corner: at the place 0 a travel, at any other a cut
abbrev pub say_to : Sheet → ℕ → ℕ → ℕ → ℕ → ℕ → Said
say_to t w h place x y = did (cond (eqb place 0) (travel_to t w h (x, y)) (cut_to t w h (x, y)))

-- what the segment reader says, a number and a corner or none, as a move
abbrev pub as_move : Sheet → ℕ → ℕ → ℕ → ℕ → List ℕ → Said
as_move t w h place number [] = cond (eqb number 0) at_end outside_points
as_move t w h place number (x ∷ []) = outside_points
as_move t w h place number (x ∷ y ∷ more) = say_to t w h place x y

-- at a place of a segment's part: 10 as the reader does, at its end the end, else the move to its corner
abbrev pub say_at : Sheet → ℕ → ℕ → List ℕ → ℕ → ℕ → Bool → ℕ → Said
say_at t w h points first count reversed place = let r = read_at points first count reversed place in as_move t w h place r.number r.corner

-- ALL SEGMENTS, by the words of their records

abbrev pub first_of : List ℕ → ℕ → ℕ
first_of segs i = get_or segs (8 * i) 0

abbrev pub count_of : List ℕ → ℕ → ℕ
count_of segs i = get_or segs (8 * i + 1) 0

-- a segment is over: its record and its part lie inside, and its last corner is before the place
abbrev pub is_over : List ℕ → List ℕ → ℕ → ℕ → Bool
is_over segs points i place =
    cond (ltb (length segs) (8 * i + 8)) false (cond (ltb (length points / 2) (first_of segs i + count_of segs i)) false (leb (count_of segs i) place))

-- past the segments that are over, of k that are left
unfoldable pub onward_from : List ℕ → List ℕ → ℕ → ℕ → ℕ → ℕ × ℕ
onward_from segs points zero i place = (i, place)
onward_from segs points (suc k) i place = elim (is_over segs points i place) [ true ↦ onward_from segs points k (i + 1) 0 | false ↦ (i, place) ]

abbrev pub place_of : Place → ℕ × ℕ
place_of p = (p.segment, p.place)

abbrev pub moved_to : Mover → ℕ × ℕ → Mover
moved_to m p =
    record {
      sheet = m.sheet;
      width = m.width;
      height = m.height;
      count = m.count;
      reversed = m.reversed;
      at = record { segment = p.0; place = p.1 };
    }

abbrev pub start_of : Sheet → ℕ → ℕ → ℕ → Bool → Mover
start_of t w h count reversed =
    record { sheet = t; width = w; height = h; count = count; reversed = reversed; at = record { segment = 0; place = 0 } }

-- ONE CALL

-- of a step, with the mover for the next call
abbrev pub told : Step → Said × Mover
told s = (said s.made, s.mover)

-- where the mover stands: past the last segment the end; 10 where the record does not lie inside; else the move at the place, which then moves on
abbrev pub tell_there : List ℕ → List ℕ → Mover → Said × Mover
tell_there segs points m =
    let i = m.at.segment in
    let p = m.at.place in
    cond (leb m.count i)
    (at_end, m)
    (cond (ltb (length segs) (8 * i + 8))
    (outside_points, m)
    (say_at m.sheet m.width m.height points (first_of segs i) (count_of segs i) m.reversed p, moved_to m (i, cond (ltb p (count_of segs i)) (p + 1) p)))

abbrev pub tell_of : List ℕ → List ℕ → Mover → Said × Mover
tell_of segs points m = tell_there segs points (moved_to m (onward_from segs points (m.count - m.at.segment) m.at.segment m.at.place))

-- MANY: what so many calls say
unfoldable pub makes : List ℕ → List ℕ → ℕ → Mover → List Said
makes segs points zero m = []
makes segs points (suc calls) m = let t = tell_of segs points m in t.0 ∷ makes segs points calls t.1
