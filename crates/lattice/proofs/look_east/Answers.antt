-- `lattice::look_east` meets its contract.
use Rattle.std.proofs.Common.{ℕ, suc, ◌+◌, sym, ap, ◌∙◌, add-one, arith}
use Rattle.lattice.proofs.Laws.{one_back}
use Rattle.lattice.specs.Size.{pic}
use Rattle.lattice.specs.declared.Around.{Around}
use Rattle.lattice.proofs.look_east.Goals as goal

pub returns : goal.returns
returns c =
    let a = c.args in
    let P = pic a.s a.labels.now in
    let back = one_back a.s.width a.s.height a.s.bound a.labels.now in
    λ i. record {
      nw = (ap (λ (q : Around). q.ne) c.requires.around ∙ ap (λ (x : ℕ). P.nw x a.y) (sym (add-one a.x))) i;
      ne = (c.label-ne.ensures ∙ back (suc (a.x + 1)) a.y (a.x + 1) _ (omega arith) (omega arith) (omega arith) (omega arith) (omega arith) (omega arith)) i;
      sw = (ap (λ (q : Around). q.se) c.requires.around ∙ ap (λ (x : ℕ). P.nw x (suc a.y)) (sym (add-one a.x))) i;
      se = (c.label-se.ensures ∙ back (suc (a.x + 1)) (suc a.y) (a.x + 1) a.y (omega arith) (omega arith) (omega arith) (omega arith) (omega arith) (omega arith)) i;
    }
