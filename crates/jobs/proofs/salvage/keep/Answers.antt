-- `jobs::salvage::keep` meets its contract. The loop's invariant: what is kept is what lies before `at`, and what a scan from there on keeps.
use Prim.Native.Nat.{ℕ, ◌-◌}
use mathlib.Core.List.{List}
use mathlib.Core.Path.{◌≡◌, sym, ap, ◌∙◌}
use native.Mathlib.Omega.{arith}
use lib.ListN.{length, take, drop, length-drop}
use lib.Seq.{take_all}
use Rattle.jobfile.specs.Salvage.{start}
use Rattle.jobfile.proofs.Again.{long}
use Rattle.jobs.specs.Salvaging.{place_of}
use Rattle.jobs.proofs.Scanning.{from_start, from_over, from_ends, from_next, next_room}
use Rattle.jobs.proofs.salvage.keep.Goals as goal

-- the part from `at` on
rest_whole : (b : List ℕ) (at : ℕ) → take (length b - at) (drop at b) ≡ drop at b
rest_whole b at = take_all (length b - at) (drop at b) (omega (arith, length-drop at b))

pub start-place-requires : goal.start-place-requires
start-place-requires c = omega (arith, long c.args.b.now c.requires)

pub loop-at-init : goal.loop-at-init
unfolding start
loop-at-init c = let b = c.args.b.now in let e = ap (λ p. p.segments) c.start-place.ensures in (long b c.requires, omega arith, from_start b _ c.start-place.ensures)

pub returns-then-not-fits : goal.returns-then-not-fits
returns-then-not-fits c =
    let b = c.args.b.now in
    let l = c.loop-at in
    from_ends b (place_of l.place) l.at l.invariant.2 (omega arith) _ (rest_whole b l.at) c.kind_number-k.result c.kind_number-k.ensures (sym c.fits.ensures ∙ c.if-not-fits.true)

pub overflow_add-at-in-loop-at : goal.overflow_add-at-in-loop-at
overflow_add-at-in-loop-at c =
    let b = c.args.b.now in
    let l = c.loop-at in
    omega (arith, next_room b (place_of l.place) l.at l.invariant.2 (omega arith) _ (rest_whole b l.at) c.word_at.result c.word_at.ensures (sym c.fits.ensures ∙ c.if-not-fits.false), c.well_formed)

pub pass-requires : goal.pass-requires
pass-requires c =
    let b = c.args.b.now in
    let l = c.loop-at in
    let r = next_room b (place_of l.place) l.at l.invariant.2 (omega arith) _ (rest_whole b l.at) c.word_at.result c.word_at.ensures (sym c.fits.ensures ∙ c.if-not-fits.false) in
    omega (arith, c.well_formed, l.invariant.1)

pub loop-at-smaller : goal.loop-at-smaller
loop-at-smaller c =
    let b = c.args.b.now in
    let l = c.loop-at in
    let r = next_room b (place_of l.place) l.at l.invariant.2 (omega arith) _ (rest_whole b l.at) c.word_at.result c.word_at.ensures (sym c.fits.ensures ∙ c.if-not-fits.false) in
    omega arith

pub loop-at-preserved : goal.loop-at-preserved
loop-at-preserved c =
    let b = c.args.b.now in
    let l = c.loop-at in
    let g = sym c.fits.ensures ∙ c.if-not-fits.false in (
      next_room b (place_of l.place) l.at l.invariant.2 (omega arith) _ (rest_whole b l.at) c.word_at.result c.word_at.ensures g,
      omega (arith, l.invariant.1, c.pass.ensures.1),
      from_next b (place_of l.place) l.at l.invariant.2 (omega arith) _ (rest_whole b l.at) c.word_at.result c.word_at.ensures g c.kind_number-k.result _ c.kind_number-k.ensures c.pass.ensures.0,
    )

pub returns : goal.returns
returns c = let l = c.loop-at in sym (from_over c.args.b.now (place_of l.place) l.at l.invariant.2 (omega arith))
