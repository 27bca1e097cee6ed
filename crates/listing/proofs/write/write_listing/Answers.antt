-- `write::write_listing` meets its contract.
use mathlib.Core.Path.{refl, ap}
use native.Mathlib.Omega.{arith}
use Rattle.std.specs.Prelude.{Ok}
use Rattle.listing.proofs.write.write_listing.Goals as goal

pub returns-then-listing-length : goal.returns-then-listing-length
returns-then-listing-length c = record {
  short = λ h. (refl, refl);
  fits = λ h. absurd (omega (arith, h, c.if-listing-length.true, c.count_pieces-length.ensures));
}

pub returns : goal.returns
returns c = record {
  short = λ h. absurd (omega (arith, h, c.if-listing-length.false, c.count_pieces-length.ensures));
  fits = λ h. (ap Ok c.count_pieces-length.ensures, c.write_pieces.ensures.words);
}
