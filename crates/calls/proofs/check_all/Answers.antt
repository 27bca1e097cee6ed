-- `calls::check_all` meets its contract.
use Rattle.std.proofs.lemmas.Result.{err_from_is_err_and}
use Rattle.rules.specs.Calls.{graph_checks, face_checks}
use Rattle.calls.proofs.Checks.{then_stop, then_on, graph_positive}
use Rattle.calls.proofs.check_all.Goals as goal

pub returns-in_err-check_graph : goal.returns-in_err-check_graph
returns-in_err-check_graph c = λ l ns ss ps rs cs fs k en es ep er ec ef.
    let p = err_from_is_err_and c.from_residual.result c.from_residual.ensures.1 in
    rw (p.1, p.2) (then_stop (graph_checks l ns ss ps) (face_checks l rs cs fs) (graph_positive l ns ss ps) _ (c.in_err-check_graph.ensures l ns ss ps k en es ep))

pub returns : goal.returns
returns c = λ l ns ss ps rs cs fs k en es ep er ec ef.
    then_on (graph_checks l ns ss ps) (face_checks l rs cs fs) (graph_positive l ns ss ps) (c.in_ok-check_graph.ensures l ns ss ps k en es ep) (c.check_faces.ensures l rs cs fs k er ec ef)
