-- `Channel::put` meets its contract.
use mathlib.Core.Path.{refl}
use native.Mathlib.Omega.{arith}
use Rattle.merge.specs.Stored.{tinted}
use Rattle.merge.proofs.Words.{quotient_small}
use Rattle.merge.proofs.Channel.put.Goals as goal

pub overflow_cast-v-3 : goal.overflow_cast-v-3
overflow_cast-v-3 c = let q = quotient_small _ _ c.requires.fits.0 c.requires.fits.1 in omega arith

pub returns : goal.returns
unfolding tinted
returns c = rw (c.put-3.ensures, c.put-2.ensures, c.put.ensures) refl
