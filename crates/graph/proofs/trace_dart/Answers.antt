-- `graph::trace_dart` meets its contract.
use mathlib.Core.Bool.{true, false}
use mathlib.Core.Path.{◌≡◌, sym, ◌∙◌}
use Rattle.rules.specs.Picture.{crack}
use Rattle.lattice.proofs.Frame.{crack_edge}
use Rattle.lattice.specs.Size.{pic}
use Rattle.lattice.specs.Walker.{dart_of}
use Rattle.graph.specs.Planes.{marked}
use Rattle.graph.proofs.Tracing.{around_crack, not_fresh}
use Rattle.graph.proofs.trace_dart.Goals as goal
use Rattle.graph.proofs.trace_dart.Goals.{else-crack-via-then-crack+else-not-is_visited, else-crack-via-else-crack}

pub is_visited-requires-clause-edge : goal.is_visited-requires-clause-edge
is_visited-requires-clause-edge c =
    let a = c.args in
    crack_edge a.s a.labels.now a.w (sym (around_crack (pic a.s a.labels.now) a.a a.w c.requires.around) ∙ sym c.crack.ensures ∙ c.if-crack.true)

pub trace_segment-requires-clause-starts : goal.trace_segment-requires-clause-starts
trace_segment-requires-clause-starts c =
    let a = c.args in
    record { map = c.requires.map; crack = sym (around_crack (pic a.s a.labels.now) a.a a.w c.requires.around) ∙ sym c.crack.ensures ∙ c.if-crack.true }

pub returns : goal.returns
returns c =
    let a = c.args in
    let k = around_crack (pic a.s a.labels.now) a.a a.w c.requires.around in
    λ o rest q. not_fresh _ _ o rest _ _ _ _ _ a.w q (elim c.else-crack.branch [
      | else-crack-via-then-crack+else-not-is_visited w ↦
          (let m : marked a.s.width a.s.height a.work.now (dart_of a.w) ≡ true = sym w.is_visited.ensures ∙ w.if-not-is_visited.false in
          let r : crack (pic a.s a.labels.now) (dart_of a.w) ≡ true = sym k ∙ sym c.crack.ensures ∙ w.if-crack.true in
          rw (r, m))
      | else-crack-via-else-crack w ↦
          (let r : crack (pic a.s a.labels.now) (dart_of a.w) ≡ false = sym k ∙ sym c.crack.ensures ∙ w.if-crack.false in rw r)
    ])
