-- `measured` meets its contract.
use Prim.Native.Nat.{◌≤◌}
use mathlib.Core.Path.{sym, ◌∙◌}
use native.Mathlib.Omega.{arith}
use Rattle.calls.proofs.Refusals.{none_in, some_in}
use Rattle.calls.proofs.Checks.{lone_number}
use Rattle.veneer.proofs.Answering.{too_few, enough_room, summed}
use Rattle.veneer.proofs.measured.Goals as goal

pub measure-found-requires : goal.measure-found-requires
measure-found-requires c =
    let b : c.args.s.paints ≤ 4294967295 = omega (arith, c.well_formed) in
    let i = c.islands-faces.ensures in
    let none = none_in c.short-room.result (sym c.is_ok.ensures.value ∙ c.if-is_ok.true) in
    record { map = c.requires.map; planes = omega (arith, c.requires.planes, i.kept.long); islands = i.numbers; sums = enough_room c.args.s c.args.labels.now c.requires.map b i c.requires.graph c.args.sums.now c.short-room.result (lone_number _ _ _ c.short-room.ensures) none }

pub returns-then-is_ok : goal.returns-then-is_ok
returns-then-is_ok c =
    let b : c.args.s.paints ≤ 4294967295 = omega (arith, c.well_formed) in
    let none = none_in c.short-room.result (sym c.is_ok.ensures.value ∙ c.if-is_ok.true) in
    rw (c.answer.ensures, c.whole_counts.ensures)
    (summed c.args.s c.args.labels.now c.requires.map b c.islands-faces.ensures c.requires.graph c.args.sums.now c.short-room.result (lone_number _ _ _ c.short-room.ensures) none c.measure-found.ensures)

pub returns : goal.returns
returns c =
    let b : c.args.s.paints ≤ 4294967295 = omega (arith, c.well_formed) in
    let some = some_in c.short-room.result (sym c.is_ok.ensures.value ∙ c.if-is_ok.false) in
    rw (c.answer-2.ensures, c.whole_counts-2.ensures)
    (too_few c.args.s c.args.labels.now c.requires.map b c.islands-faces.ensures c.requires.graph c.args.sums.now c.short-room.result (lone_number _ _ _ c.short-room.ensures) some c.count-f.ensures)
