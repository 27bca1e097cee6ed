-- `prepare::prepare` meets its contract.
use Rattle.listing.proofs.Preparing.{begun, threadable, prepared}
use Rattle.listing.proofs.prepare.prepare.Goals as goal

pub scan-count-requires : goal.scan-count-requires
scan-count-requires c =
    let ch = c.choose-n.ensures in
    record { names = _; work₀ = _; ready = ch.ready; finding = begun ch (rw c.plane.ensures.0 at c.fill.ensures) }

pub thread-requires : goal.thread-requires
thread-requires c =
    let ch = c.choose-n.ensures in
    threadable ch (c.scan-count.ensures _ _ ch.ready (begun ch (rw c.plane.ensures.0 at c.fill.ensures)))

pub returns : goal.returns
returns c =
    let ch = c.choose-n.ensures in
    prepared ch (c.scan-count.ensures _ _ ch.ready (begun ch (rw c.plane.ensures.0 at c.fill.ensures))) c.thread.ensures
