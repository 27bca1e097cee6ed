-- `lines::lines_at` meets its contract.
use Rattle.std.proofs.Common.{◌≡◌, ◌+◌, ◌*◌, drop, arith}
use Rattle.text.specs.Grammar.{lines}
use Rattle.text.proofs.Entries.{lines_goes, lines_stops, lines_ends}
use Rattle.text.proofs.lines.lines_at.Goals as goal

pub returns-in_err-place : goal.returns-in_err-place
returns-in_err-place c =
    let a = c.args in
    let l = c.loop-y in
    let r = lines_stops (lines a.width a.height (drop a.at a.text.now)) a.labels.now a.width a.height (drop l.place a.text.now) l.labels (l.y * a.width) l.y l.invariant.1
    (omega arith) c.line_at.new.labels c.line_at.ensures.stored c.in_err-place.ensures.place in
    rw c.from_residual.ensures (record { place = r.0; stored = r.1 })

pub loop-y-preserved : goal.loop-y-preserved
loop-y-preserved c =
    let a = c.args in
    let l = c.loop-y in
    let f = c.in_ok-place.ensures.place in
    let e : (l.y + 1) * a.width ≡ l.y * a.width + a.width = omega arith in (
      f.1,
      rw e (lines_goes (lines a.width a.height (drop a.at a.text.now)) a.labels.now a.width a.height (drop l.place a.text.now) l.labels (l.y * a.width) l.y l.invariant.1
          (omega arith) c.line_at.new.labels c.line_at.ensures.stored _ f.0),
    )

pub returns : goal.returns
returns c =
    let a = c.args in
    let l = c.loop-y in
    let r = lines_ends (lines a.width a.height (drop a.at a.text.now)) a.labels.now a.width a.height (drop l.place a.text.now) l.labels (l.y * a.width) l.y l.invariant.1 (omega arith) in
    record { place = (r.0, l.invariant.0); stored = r.1 }
