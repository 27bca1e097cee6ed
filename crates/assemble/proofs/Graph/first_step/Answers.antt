-- `assemble::Graph::first_step` meets its contract.
use Rattle.assemble.proofs.FirstSteps.{first_forward, first_back}
use mathlib.Core.Path.{◌∙◌}
use native.Mathlib.Omega.{arith}
use Rattle.assemble.proofs.Graph.first_step.Goals as goal

pub returns-then-is_reversed : goal.returns-then-is_reversed
returns-then-is_reversed c =
    let odd = c.is_reversed.ensures.0 c.if-is_reversed.true in
    c.step.ensures ∙ first_back _ _ _ _ _ c.word-first.ensures c.word.ensures (λ e. omega (arith, odd, e))

pub returns-else-is_reversed : goal.returns-else-is_reversed
returns-else-is_reversed c = c.step-else-is_reversed.ensures ∙ first_forward _ _ _ _ 0 c.word-first.ensures (c.is_reversed.ensures.1 c.if-is_reversed.false)
