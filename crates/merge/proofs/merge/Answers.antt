-- `merge` meets its contract.
use Prim.Native.Nat.{◌≤◌}
use mir.Syntax.{w32}
use mir.ValLaws.{to_z-of_z}
use mathlib.Core.Path.{◌≡◌, refl, sym, ap, ◌∙◌}
use native.Mathlib.Omega.{arith}
use Rattle.std.proofs.lemmas.Result.{err_from_is_err_and}
use Rattle.std.specs.Prelude.{is_some}
use Rattle.calls.specs.Outcome.{map_of}
use Rattle.merge.specs.Merge.{merges}
use Rattle.merge.proofs.Limits.{asked_merges, asked_none, asked_some}
use Rattle.merge.proofs.Checking.{call_refused, call_merged, call_zero, passed_runs, passed_merged, words_are}
use Rattle.merge.proofs.merge.Goals as goal

pub returns-in_err-check : goal.returns-in_err-check
returns-in_err-check c =
    let asks = rw (to_z-of_z w32 c.args.limit c.ranges.limit) at c.asked-at_most.ensures in
    let merging : c.is_some.result ≡ merges c.args.limit c.args.s.paints = c.is_some.ensures ∙ ap is_some asks ∙ asked_merges _ _ in
    let p = err_from_is_err_and c.from_residual.result c.from_residual.ensures.1 in
    rw (p.1, p.2) (call_refused _ _ _ _ _ _ (rw merging at c.in_err-check.ensures))

pub returns-in_default : goal.returns-in_default
returns-in_default c =
    let asks = rw (to_z-of_z w32 c.args.limit c.ranges.limit) at c.asked-at_most.ensures in
    let merging : c.is_some.result ≡ merges c.args.limit c.args.s.paints = c.is_some.ensures ∙ ap is_some asks ∙ asked_merges _ _ in
    let checked = rw merging at c.in_ok-check.ensures in
    let words = words_are (map_of c.args.s c.args.labels.now) _ c.plane.ensures.0 in
    call_zero _ _ _ _ _ _ words (omega (arith, words, (checked.passes refl).words)) _ (c.fill.ensures.after (λ y e. e)) checked (asked_none _ _ (sym c.in_default.is ∙ asks))

pub merge_within-requires : goal.merge_within-requires
merge_within-requires c =
    let asks = rw (to_z-of_z w32 c.args.limit c.ranges.limit) at c.asked-at_most.ensures in
    let merging : c.is_some.result ≡ merges c.args.limit c.args.s.paints = c.is_some.ensures ∙ ap is_some asks ∙ asked_merges _ _ in
    let checked = rw merging at c.in_ok-check.ensures in
    let words = words_are (map_of c.args.s c.args.labels.now) _ c.plane.ensures.0 in
    let few : c.args.s.paints ≤ 4294967295 = omega arith in
    passed_runs _ _ _ _ _ (checked.passes refl) (asked_some _ _ _ (sym c.in-Some.is ∙ asks)).0 few _ words

pub returns : goal.returns
returns c =
    let asks = rw (to_z-of_z w32 c.args.limit c.ranges.limit) at c.asked-at_most.ensures in
    let merging : c.is_some.result ≡ merges c.args.limit c.args.s.paints = c.is_some.ensures ∙ ap is_some asks ∙ asked_merges _ _ in
    let checked = rw merging at c.in_ok-check.ensures in
    let words = words_are (map_of c.args.s c.args.labels.now) _ c.plane.ensures.0 in
    let few : c.args.s.paints ≤ 4294967295 = omega arith in
    let some = asked_some _ _ _ (sym c.in-Some.is ∙ asks) in
    passed_merged _ _ _ _ _ (checked.passes refl) some.0 few _ words _ _ _ _ _ (rw some.1 at c.merge_within.ensures) ∙ call_merged _ _ _ _ _ checked some.0
