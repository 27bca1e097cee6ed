-- `parse` meets its contract.
use Rattle.std.proofs.Common.{◌≡◌}
use Rattle.std.proofs.lemmas.Result.{err_from_is_err_and}
use Rattle.text.specs.declared.BadMap.{BadMap}
use Rattle.text.specs.declared.BadMap.TheVariants.{BadText}
use Rattle.text.proofs.Parsing.{is_long, is_headless, is_wide, is_tall, is_broken, is_more, is_map_of}
use Rattle.text.proofs.parse.Goals as goal

pub returns-then-text-gt4096 : goal.returns-then-text-gt4096
returns-then-text-gt4096 c = let a = c.args in is_long a.text.now a.labels.now c.if-text-gt4096.true

pub returns-in_err-size : goal.returns-in_err-size
returns-in_err-size c =
    let e = c.in_err-size.ensures in
    let p = err_from_is_err_and c.from_residual.result c.from_residual.ensures.1 in
    let v : ◌≡◌ {A = BadMap} c.in_err-size.field-0.0 BadText = cc (rw e.ok_part at e.value) in
    rw (p.1, p.2, v) (is_headless c.args.text.now c.args.labels.now c.if-text-gt4096.false (rw e.ok_part at c.header.ensures))

pub returns-then-size-gt16 : goal.returns-then-size-gt16
returns-then-size-gt16 c =
    let a = c.args in
    let h = rw c.in_ok-size.ensures.ok_part at c.header.ensures in
    is_wide a.text.now a.labels.now c.if-text-gt4096.false _ _ _ _ h.0 c.if-size-gt16.true

pub returns-then-size-gt16-2 : goal.returns-then-size-gt16-2
returns-then-size-gt16-2 c =
    let a = c.args in
    let h = rw c.in_ok-size.ensures.ok_part at c.header.ensures in
    is_tall a.text.now a.labels.now c.if-text-gt4096.false _ _ _ _ h.0 c.if-size-gt16.false c.if-size-gt16-2.true

pub returns-in_err-last : goal.returns-in_err-last
returns-in_err-last c =
    let a = c.args in
    let h = rw c.in_ok-size.ensures.ok_part at c.header.ensures in
    let e = c.in_err-last.ensures in
    let p = err_from_is_err_and c.from_residual-in_err-last.result c.from_residual-in_err-last.ensures.1 in
    let v : ◌≡◌ {A = BadMap} c.in_err-last.field-0.0 BadText = cc (rw e.ok_part at e.value) in
    rw (p.1, p.2, v)
    (is_broken a.text.now a.labels.now c.if-text-gt4096.false _ _ _ _ h.0 c.if-size-gt16.false c.if-size-gt16-2.false c.lines_at.new.labels c.lines_at.ensures.stored
    (rw e.ok_part at c.lines_at.ensures.place))

pub returns-then-last-text : goal.returns-then-last-text
returns-then-last-text c =
    let a = c.args in
    let h = rw c.in_ok-size.ensures.ok_part at c.header.ensures in
    let l = rw c.in_ok-last.ensures.ok_part at c.lines_at.ensures.place in
    is_more a.text.now a.labels.now c.if-text-gt4096.false _ _ _ _ h.0 c.if-size-gt16.false c.if-size-gt16-2.false c.lines_at.new.labels c.lines_at.ensures.stored _ l.0 c.if-last-text.true

pub returns : goal.returns
returns c =
    let a = c.args in
    let h = rw c.in_ok-size.ensures.ok_part at c.header.ensures in
    let l = rw c.in_ok-last.ensures.ok_part at c.lines_at.ensures.place in
    is_map_of a.text.now a.labels.now c.if-text-gt4096.false c.in_ok-size.size h.1 _ h.0 c.if-size-gt16.false c.if-size-gt16-2.false c.lines_at.new.labels c.lines_at.ensures.stored _ l.0 c.if-last-text.false
