-- `layers::flatten` meets its contract.
use mathlib.Core.Path.{◌≡◌, sym}
use Rattle.std.proofs.Common.{rules, Err}
use Rattle.layers.proofs.Layering.{all_painted}
use Rattle.layers.proofs.Refusals.{passed, refused_by, answered}
use Rattle.layers.proofs.flatten.Goals as goal

pub returns-in_err-check : goal.returns-in_err-check
returns-in_err-check c =
    let a = c.args in
    let e : c.from_residual.result ≡ Err c.in_err-check.field-0.0 = search rules in
    rw e (refused_by a.width a.height a.layers.now a.masks.now a.labels.now c.in_err-check.field-0.0 c.in_err-check.ensures)

pub paint-requires : goal.paint-requires
paint-requires c =
    let a = c.args in
    passed a.width a.height a.layers.now a.masks.now a.labels.now (sym c.in_ok-check.ensures)

pub returns : goal.returns
returns c =
    let a = c.args in
    let z = sym c.in_ok-check.ensures in
    answered a.width a.height a.layers.now a.masks.now a.labels.now _ z (all_painted a.layers.now a.masks.now a.width a.height a.labels.now _ (passed a.width a.height a.layers.now a.masks.now a.labels.now z).canvas c.paint.ensures)
