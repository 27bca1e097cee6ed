-- `lattice::Around::node` meets its contract.
use Rattle.std.proofs.Common.{◌≡◌, ℕ, suc, ◌≤◌, true, get_or, sym, refl, ap, ◌∙◌, arith}
use Rattle.lattice.specs.declared.Around.{Around}
use Rattle.lattice.specs.Around.{mask_in, node_in, node_masks}
use Rattle.lattice.proofs.Ways.{node_mask, last_row}
use Rattle.lattice.proofs.Around.node.Goals as goal

-- what the table says of a mask is what the definition says of the corner
row : (a : Around) (mask m : ℕ) → mask ≡ mask_in a → mask ≡ m → get_or node_masks m true ≡ node_in a
row a mask m e k = ap (λ m. get_or node_masks m true) (sym k ∙ e) ∙ sym (node_mask a)

-- a mask that is not the next row's
past : (k : ℕ) {m : ℕ} → k ≤ m → (m ≡ k → ⊥) → suc k ≤ m
past k h n = omega arith

pub returns-in-0 : goal.returns-in-0
unfolding node_masks
returns-in-0 c = row c.args.self c.edge_mask-mask.result 0 c.edge_mask-mask.ensures (omega arith)

pub returns-in-1 : goal.returns-in-1
unfolding node_masks
returns-in-1 c = row c.args.self c.edge_mask-mask.result 1 c.edge_mask-mask.ensures (omega arith)

pub returns-in-2 : goal.returns-in-2
unfolding node_masks
returns-in-2 c = row c.args.self c.edge_mask-mask.result 2 c.edge_mask-mask.ensures (omega arith)

pub returns-in-3 : goal.returns-in-3
unfolding node_masks
returns-in-3 c = row c.args.self c.edge_mask-mask.result 3 c.edge_mask-mask.ensures (omega arith)

pub returns-in-4 : goal.returns-in-4
unfolding node_masks
returns-in-4 c = row c.args.self c.edge_mask-mask.result 4 c.edge_mask-mask.ensures (omega arith)

pub returns-in-5 : goal.returns-in-5
unfolding node_masks
returns-in-5 c = row c.args.self c.edge_mask-mask.result 5 c.edge_mask-mask.ensures (omega arith)

pub returns-in-6 : goal.returns-in-6
unfolding node_masks
returns-in-6 c = row c.args.self c.edge_mask-mask.result 6 c.edge_mask-mask.ensures (omega arith)

pub returns-in-7 : goal.returns-in-7
unfolding node_masks
returns-in-7 c = row c.args.self c.edge_mask-mask.result 7 c.edge_mask-mask.ensures (omega arith)

pub returns-in-8 : goal.returns-in-8
unfolding node_masks
returns-in-8 c = row c.args.self c.edge_mask-mask.result 8 c.edge_mask-mask.ensures (omega arith)

pub returns-in-9 : goal.returns-in-9
unfolding node_masks
returns-in-9 c = row c.args.self c.edge_mask-mask.result 9 c.edge_mask-mask.ensures (omega arith)

pub returns-in-10 : goal.returns-in-10
unfolding node_masks
returns-in-10 c = row c.args.self c.edge_mask-mask.result 10 c.edge_mask-mask.ensures (omega arith)

pub returns-in-11 : goal.returns-in-11
unfolding node_masks
returns-in-11 c = row c.args.self c.edge_mask-mask.result 11 c.edge_mask-mask.ensures (omega arith)

pub returns-in-12 : goal.returns-in-12
unfolding node_masks
returns-in-12 c = row c.args.self c.edge_mask-mask.result 12 c.edge_mask-mask.ensures (omega arith)

pub returns-in-13 : goal.returns-in-13
unfolding node_masks
returns-in-13 c = row c.args.self c.edge_mask-mask.result 13 c.edge_mask-mask.ensures (omega arith)

pub returns-in-14 : goal.returns-in-14
unfolding node_masks
returns-in-14 c = row c.args.self c.edge_mask-mask.result 14 c.edge_mask-mask.ensures (omega arith)

pub returns-in_default : goal.returns-in_default
returns-in_default c =
    let mask = c.edge_mask-mask.result in
    let r = c.in_default.in_default-own.rest in
    let three = past 2 (past 1 (past 0 (omega arith) r.0.0.0.0.0.0.0.0.0.0.0.0.0.0.1) r.0.0.0.0.0.0.0.0.0.0.0.0.0.1) r.0.0.0.0.0.0.0.0.0.0.0.0.1 in
    let six = past 5 (past 4 (past 3 three r.0.0.0.0.0.0.0.0.0.0.0.1) r.0.0.0.0.0.0.0.0.0.0.1) r.0.0.0.0.0.0.0.0.0.1 in
    let nine = past 8 (past 7 (past 6 six r.0.0.0.0.0.0.0.0.1) r.0.0.0.0.0.0.0.1) r.0.0.0.0.0.0.1 in
    let twelve = past 11 (past 10 (past 9 nine r.0.0.0.0.0.1) r.0.0.0.0.1) r.0.0.0.1 in
    let fifteen = past 14 (past 13 (past 12 twelve r.0.0.1) r.0.1) r.1 in
    sym (last_row mask fifteen) ∙ row c.args.self mask mask c.edge_mask-mask.ensures refl
