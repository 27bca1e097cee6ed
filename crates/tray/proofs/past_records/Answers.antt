-- `tray::past_records` meets its contract.
use Prim.Native.Nat.{ℕ, ◌+◌}
use mathlib.Core.Path.{refl, sym, ap, ◌∙◌}
use native.Mathlib.Omega.{arith}
use Rattle.tray.specs.Tray.{Six, both}
use Rattle.tray.specs.Steps.{used}
use Rattle.tray.proofs.Passing.{wrote_refused, wrote_counted, none_more}
use Rattle.tray.proofs.past_records.Goals as goal

pub returns-in_default : goal.returns-in_default
returns-in_default c =
    let a = c.args in
    record { sums = sym (ap (both ◌+◌ (used a.p)) (wrote_refused c.in_default.is) ∙ none_more (used a.p)); labels = refl }

pub overflow_add-result : goal.overflow_add-result
overflow_add-result c = omega (arith, c.requires.nodes, ap (λ (k : Six ℕ). k.nodes) (wrote_counted c.in-Ok.is))

pub overflow_add-result-2 : goal.overflow_add-result-2
overflow_add-result-2 c = omega (arith, c.requires.segments, ap (λ (k : Six ℕ). k.segments) (wrote_counted c.in-Ok.is))

pub overflow_add-result-3 : goal.overflow_add-result-3
overflow_add-result-3 c = omega (arith, c.requires.points, ap (λ (k : Six ℕ). k.points) (wrote_counted c.in-Ok.is))

pub overflow_add-result-4 : goal.overflow_add-result-4
overflow_add-result-4 c = omega (arith, c.requires.references, ap (λ (k : Six ℕ). k.references) (wrote_counted c.in-Ok.is))

pub overflow_add-result-5 : goal.overflow_add-result-5
overflow_add-result-5 c = omega (arith, c.requires.contours, ap (λ (k : Six ℕ). k.contours) (wrote_counted c.in-Ok.is))

pub overflow_add-result-6 : goal.overflow_add-result-6
overflow_add-result-6 c = omega (arith, c.requires.faces, ap (λ (k : Six ℕ). k.faces) (wrote_counted c.in-Ok.is))

pub returns : goal.returns
returns c = record { sums = sym (ap (both ◌+◌ (used c.args.p)) (wrote_counted c.in-Ok.is)); labels = refl }
