-- `scan::scan` meets its contract.
use Prim.Native.Nat.{ℕ, suc}
use mathlib.Core.Path.{◌≡◌, subst}
use native.Mathlib.Omega.{arith}
use Rattle.rules.specs.Picture.{dart}
use Rattle.rules.specs.declared.Dir.TheVariants.{E}
use Rattle.listing.specs.Finding.{Finds}
use Rattle.listing.proofs.scan.scan.Goals as goal

pub loop-y-init : goal.loop-y-init
loop-y-init c = λ names work₀ r f. f

pub loop-y-preserved : goal.loop-y-preserved
loop-y-preserved c = λ names work₀ r f. c.scan_row-n.ensures names work₀ r (c.loop-y.invariant names work₀ r f)

pub returns : goal.returns
returns c =
    let a = c.args in
    let l = c.loop-y in
    let e : l.y ≡ suc a.s.height = omega arith in
    subst (λ (y : ℕ). Finds a.s a.labels.now (dart 0 0 E) 0 a.work.now (dart 0 y E) l.n l.work) e l.invariant
