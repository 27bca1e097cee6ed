-- `scan::scan_row` meets its contract.
use Prim.Native.Nat.{suc, ◌+◌}
use mathlib.Core.Path.{◌≡◌, refl}
use mathlib.Core.Logic.{inl, inr}
use native.Mathlib.Omega.{arith}
use Rattle.rules.specs.Picture.{dart}
use Rattle.rules.specs.declared.Dir.TheVariants.{E, S}
use Rattle.listing.proofs.Rows.{to_south, to_next}
use Rattle.listing.proofs.Finding.{row_done}
use Rattle.listing.proofs.scan.scan_row.Goals as goal

pub loop-x-init : goal.loop-x-init
loop-x-init c = λ names work₀ r f. f

pub visit-n-requires : goal.visit-n-requires
visit-n-requires c =
    let u = c.requires.due in record { due = record { names = u.names; work₀ = u.work₀; ready = u.ready; finding = c.loop-x.invariant u.names u.work₀ u.ready u.finding }; forth = record { corner = record { across = omega (arith, c.loop-x-test.true); down = c.requires.row }; way = inl refl } }

pub visit-n-requires-in-loop-x : goal.visit-n-requires-in-loop-x
visit-n-requires-in-loop-x c =
    let u = c.requires.due in
    let l = c.loop-x in record {
      due = record {
        names = u.names;
        work₀ = u.work₀;
        ready = u.ready;
        finding = c.visit-n.ensures (dart l.x c.args.y S) (to_south _ l.x c.args.y) u.names u.work₀ u.ready (l.invariant u.names u.work₀ u.ready u.finding);
      };
      forth = record { corner = record { across = omega (arith, c.loop-x-test.true); down = c.requires.row }; way = inr refl };
    }

pub loop-x-preserved : goal.loop-x-preserved
loop-x-preserved c =
    let l = c.loop-x in
    let y = c.args.y in
    λ names work₀ r f. c.visit-n-in-loop-x.ensures (dart (l.x + 1) y E) (to_next _ l.x y) names work₀ r (c.visit-n.ensures (dart l.x y S) (to_south _ l.x y) names work₀ r (l.invariant names work₀ r f))

pub returns : goal.returns
returns c = λ names work₀ r f.
    let l = c.loop-x in
    let e : l.x ≡ suc c.args.s.width = omega arith in
    row_done r e (l.invariant names work₀ r f)
