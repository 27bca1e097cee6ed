-- `lines::entries_at` meets its contract.
use Rattle.std.proofs.Common.{◌≡◌, ◌-◌, drop, arith}
use Rattle.text.specs.Grammar.{line}
use Rattle.text.proofs.Entries.{line_starts, line_goes, line_stops, line_ends, line_fails}
use Rattle.text.proofs.lines.entries_at.Goals as goal

pub loop-x-init : goal.loop-x-init
loop-x-init c =
    let a = c.args in
    (c.requires.0, line_starts a.width (drop a.at a.text.now) a.labels.now a.base c.requires.1)

pub returns-in_err-label : goal.returns-in_err-label
returns-in_err-label c =
    let a = c.args in
    let l = c.loop-x in
    let r = line_stops (line a.width (drop a.at a.text.now)) a.labels.now a.base a.width (drop l.place a.text.now) l.labels l.x l.invariant.1 (omega arith) c.in_err-label.ensures in
    rw c.from_residual.ensures (record { place = r.0; stored = r.1 })

pub loop-x-preserved : goal.loop-x-preserved
loop-x-preserved c =
    let a = c.args in
    let l = c.loop-x in
    let f = c.in_ok-label.ensures in (
      f.1,
      rw c.put.ensures (line_goes (line a.width (drop a.at a.text.now)) a.labels.now a.base a.width (drop l.place a.text.now) l.labels l.x l.invariant.1 (omega arith) _ _ f.0),
    )

pub returns-in_err-label-2 : goal.returns-in_err-label-2
returns-in_err-label-2 c =
    let a = c.args in
    let l = c.loop-x in
    let r = line_fails (line a.width (drop a.at a.text.now)) a.labels.now a.base a.width (drop l.place a.text.now) l.labels l.x l.invariant.1 (omega arith) (omega arith) c.in_err-label-2.ensures in
    rw c.from_residual-in_err-label-2.ensures (record { place = r.0; stored = r.1 })

pub returns : goal.returns
returns c =
    let a = c.args in
    let l = c.loop-x in
    let f = c.in_ok-label-2.ensures in
    let r = line_ends (line a.width (drop a.at a.text.now)) a.labels.now a.base a.width (drop l.place a.text.now) l.labels l.x l.invariant.1 (omega arith) (omega arith) _ _ f.0 in
    let e : a.width - 1 ≡ l.x = omega arith in
    record { place = (r.0, f.1); stored = rw (c.put-2.ensures, e) r.1 }
