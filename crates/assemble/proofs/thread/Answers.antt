-- `assemble::thread` meets its contract.
use Rattle.assemble.proofs.Trails.{linkable}
use Rattle.assemble.proofs.Threads.{begin, end_is, read_is, head_low, threads_more}
use Prim.Native.Nat.{◌-◌, suc}
use mathlib.Core.Path.{◌≡◌, ◌∙◌}
use native.Mathlib.Omega.{arith}
use Rattle.assemble.proofs.thread.Goals as goal

pub loop-k-init : goal.loop-k-init
loop-k-init c = λ cs span l. begin l

pub island-requires-clause-starts : goal.island-requires-clause-starts
island-requires-clause-starts c =
    let u = c.requires in
    let l = u.loose in
    let k = c.loop-k.k in
    let t = c.loop-k.invariant u.cs u.span l in
    let at : k ≡ suc (k - 1) = omega (arith, c.loop-k-test.true) in
    let b = c.loop-k.auto.k in
    let r = read_is l t at b c.get.ensures c.get-in-loop-k.ensures in
    rw r (l.begin (k - 1) (omega (arith, b)))

pub link-requires : goal.link-requires
link-requires c =
    let u = c.requires in
    let l = u.loose in
    let k = c.loop-k.k in
    let t = c.loop-k.invariant u.cs u.span l in
    let at : k ≡ suc (k - 1) = omega (arith, c.loop-k-test.true) in
    let b = c.loop-k.auto.k in
    let r = read_is l t at b c.get.ensures c.get-in-loop-k.ensures in
    linkable _ c.named-first.ensures.1 (head_low l t at b _ _ (rw (← r) c.island.ensures) (c.named-first.ensures.0 ∙ c.get-in-loop-k-2.ensures))

pub loop-k-preserved : goal.loop-k-preserved
loop-k-preserved c =
    let k = c.loop-k.k in
    let b = c.loop-k.auto.k in
    let at : k ≡ suc (k - 1) = omega (arith, c.loop-k-test.true) in
    λ cs span l.
    let t = c.loop-k.invariant cs span l in
    let r = read_is l t at b c.get.ensures c.get-in-loop-k.ensures in
    threads_more l t at b (rw r at c.island.ensures) (c.named-first.ensures.0 ∙ c.get-in-loop-k-2.ensures) (rw (c.get.ensures, end_is l t at b) at c.link.ensures) (rw r at c.put.ensures)

pub returns : goal.returns
returns c = let e : c.loop-k.k ≡ 0 = omega (arith, c.loop-k-test.false) in rw (← e) c.loop-k.invariant
