-- `Channel::tint` meets its contract.
use Prim.Native.Nat.{◌*◌}
use mathlib.Core.Path.{◌≡◌, refl}
use native.Mathlib.Omega.{arith}
use Rattle.merge.specs.Stored.{tinted}
use Rattle.merge.proofs.Channel.tint.Goals as goal

pub returns-then-area-eq0 : goal.returns-then-area-eq0
unfolding tinted
returns-then-area-eq0 c = let e = c.if-area-eq0.true in let z : c.args.colour * 0 ≡ 0 = omega arith in rw (c.put-then-area-eq0-2.ensures, c.put-then-area-eq0.ensures, c.put.ensures, e, z) refl
