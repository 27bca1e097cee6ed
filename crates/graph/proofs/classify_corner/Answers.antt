-- `graph::classify_corner` meets its contract.
use mathlib.Core.Path.{sym, ap, ◌∙◌}
use native.Mathlib.Omega.{arith}
use Rattle.lattice.specs.Size.{pic}
use Rattle.lattice.specs.Around.{mask_in, node_in}
use Rattle.lattice.proofs.Ways.{node_in_lem}
use Rattle.graph.proofs.Listing.{is_bend, no_bend, plain_corner, one_bend, one_node}
use Rattle.graph.proofs.classify_corner.Goals as goal

pub returns-then-edge_mask-eq6 : goal.returns-then-edge_mask-eq6
returns-then-edge_mask-eq6 c =
    let a = c.args in
    λ ls work₀ rest e o.
    rw (c.put_corner.ensures, c.plane.ensures.0)
    (one_bend a.s ls work₀ rest a.work.now a.f a.x a.y o (is_bend (pic a.s ls) a.x a.y (ap mask_in (sym e) ∙ sym c.edge_mask.ensures ∙ c.if-edge_mask-eq6.true)) (omega arith))

pub returns-then-node : goal.returns-then-node
returns-then-node c =
    let a = c.args in
    λ ls work₀ rest e o.
    rw (c.put_corner-then-node.ensures, c.plane-p.ensures.0, c.corner_index.ensures.0)
    (one_node a.s ls work₀ rest a.work.now a.f a.x a.y o (sym (node_in_lem (pic a.s ls) a.x a.y) ∙ ap node_in (sym e) ∙ sym c.node.ensures ∙ c.if-node.true) (omega arith) c.requires.corner
    (no_bend (pic a.s ls) a.x a.y (λ m. c.if-edge_mask-eq6.false (c.edge_mask.ensures ∙ ap mask_in e ∙ m))))

pub returns : goal.returns
returns c =
    let a = c.args in
    λ ls work₀ rest e o.
    plain_corner a.s ls work₀ rest a.work.now a.f a.x a.y o (sym (node_in_lem (pic a.s ls) a.x a.y) ∙ ap node_in (sym e) ∙ sym c.node.ensures ∙ c.if-node.false)
    (no_bend (pic a.s ls) a.x a.y (λ m. c.if-edge_mask-eq6.false (c.edge_mask.ensures ∙ ap mask_in e ∙ m)))
