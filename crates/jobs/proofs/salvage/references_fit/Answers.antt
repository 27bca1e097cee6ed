-- `jobs::salvage::references_fit` meets its contract. The loop's invariant: what is asked of all is what is asked of the rest.
use Prim.Native.Nat.{◌/◌}
use mathlib.Core.Path.{sym, ◌∙◌}
use native.Mathlib.Omega.{arith}
use borrow.Author.Tests.{lt-ltb, le-ltb}
use Rattle.jobfile.specs.Entries.{words_of}
use Rattle.jobs.proofs.Bodies.{words_many, reference_start, reference_next, reference_end}
use Rattle.jobs.proofs.salvage.references_fit.Goals as goal

pub loop-i-init : goal.loop-i-init
loop-i-init c =
    let a = c.args in reference_start a.n (words_of a.body.now) a.from a.count

pub overflow_add-from : goal.overflow_add-from
overflow_add-from c = let m = words_many c.args.body.now in omega (arith, c.requires, c.well_formed)

pub word-r-requires : goal.word-r-requires
word-r-requires c = omega (arith, c.requires)

pub returns-then-n-r : goal.returns-then-n-r
returns-then-n-r c =
    let a = c.args in
    let i = c.loop-i.i in
    sym (c.loop-i.invariant ∙ reference_next a.n (words_of a.body.now) a.from a.count i c.word-r.result c.loop-i-test.true (omega (arith, c.requires)) c.word-r.ensures
    ∙ rw (le-ltb (c.word-r.result / 2) a.n c.if-n-r.true))

pub loop-i-preserved : goal.loop-i-preserved
loop-i-preserved c =
    let a = c.args in
    let i = c.loop-i.i in
    c.loop-i.invariant ∙ reference_next a.n (words_of a.body.now) a.from a.count i c.word-r.result c.loop-i-test.true (omega (arith, c.requires)) c.word-r.ensures
    ∙ rw (lt-ltb (c.word-r.result / 2) a.n c.if-n-r.false)

pub returns : goal.returns
returns c =
    let a = c.args in
    sym (c.loop-i.invariant ∙ reference_end a.n (words_of a.body.now) a.from a.count c.loop-i.i c.loop-i-test.false)
