-- `listing::listing` meets its contract.
use mathlib.Core.Path.{sym}
use native.Mathlib.Omega.{arith}
use Rattle.std.proofs.lemmas.Result.{err_from_is_err_and}
use Rattle.calls.proofs.Calls.{map_passed, planes_passed}
use Rattle.listing.proofs.Listings.{listing_refused, listing_answered}
use Rattle.listing.proofs.listing.Goals as goal

pub returns-in_err-check : goal.returns-in_err-check
returns-in_err-check c =
    let a = c.args in
    let p = err_from_is_err_and c.from_residual.result c.from_residual.ensures.1 in
    rw (p.1, p.2) (listing_refused a.s a.labels.now a.work.now a.named.now a.words.now _ c.in_err-check.ensures)

pub prepare-n-requires : goal.prepare-n-requires
prepare-n-requires c =
    let a = c.args in
    let z = sym c.in_ok-check.ensures in
    record { map = map_passed a.s a.labels.now a.work.now z; room = planes_passed a.s a.labels.now a.work.now z }

pub clear-requires : goal.clear-requires
clear-requires c =
    let a = c.args in
    let z = sym c.in_ok-check.ensures in
    let map = map_passed a.s a.labels.now a.work.now z in
    (map.wide, map.high, omega (arith, planes_passed a.s a.labels.now a.work.now z, c.prepare-n.ensures.kept.long))

pub returns : goal.returns
returns c =
    let a = c.args in
    listing_answered a.s a.labels.now a.work.now a.named.now a.words.now (sym c.in_ok-check.ensures) c.prepare-n.ensures c.write_listing-length.ensures c.clear.ensures
