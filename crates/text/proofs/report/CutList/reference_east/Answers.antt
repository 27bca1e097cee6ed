-- `report::CutList::reference_east` meets its contract.
use Rattle.std.proofs.Common.{ℕ, ◌+◌, ◌/◌, ◌%◌, ap, ◌∙◌}
use Rattle.text.specs.Mark.{way_of, segment_east, reference_east}
use Rattle.text.proofs.Marking.{way_back}
use Rattle.text.proofs.report.CutList.reference_east.Goals as goal

pub returns : goal.returns
unfolding reference_east
returns c =
    let list = c.args.self.now in
    let east : ℕ → ℕ → ℕ = segment_east list.segments.now list.points.now in
    c.segment_east.ensures ∙ (ap (λ (way : ℕ). east way (c.get-r.result / 2)) (way_back c.get-r.result c.args.turned)
    ∙ ap (λ (r : ℕ). east ((r + way_of c.args.turned) % 2) (r / 2)) c.get-r.ensures)
