-- `lattice::look` meets its contract.
use Rattle.std.proofs.Common.{suc, ◌∙◌, arith}
use Rattle.lattice.proofs.Laws.{one_back}
use Rattle.lattice.proofs.look.Goals as goal

pub returns : goal.returns
returns c =
    let a = c.args in
    let back = one_back a.s.width a.s.height a.s.bound a.labels.now in
    λ i. record {
      nw = (c.label-nw.ensures ∙ back a.x a.y _ _ (omega arith) (omega arith) (omega arith) (omega arith) (omega arith) (omega arith)) i;
      ne = (c.label-ne.ensures ∙ back (suc a.x) a.y a.x _ (omega arith) (omega arith) (omega arith) (omega arith) (omega arith) (omega arith)) i;
      sw = (c.label-sw.ensures ∙ back a.x (suc a.y) _ a.y (omega arith) (omega arith) (omega arith) (omega arith) (omega arith) (omega arith)) i;
      se = (c.label-se.ensures ∙ back (suc a.x) (suc a.y) a.x a.y (omega arith) (omega arith) (omega arith) (omega arith) (omega arith) (omega arith)) i;
    }
