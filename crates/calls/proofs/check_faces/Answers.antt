-- `calls::check_faces` meets its contract.
use native.Mathlib.Omega.{arith}
use Rattle.std.proofs.lemmas.Result.{err_from_is_err_and}
use Rattle.calls.proofs.Checks.{lone_number, first_stops, second_stops, third_decides, face_room}
use Rattle.calls.proofs.check_faces.Goals as goal

pub returns-in_err-short : goal.returns-in_err-short
returns-in_err-short c = λ l rs cs fs k er ec ef.
    let p = err_from_is_err_and c.from_residual.result c.from_residual.ensures.1 in
    rw (p.1, p.2) (first_stops (face_room c.args.c l rs cs fs k er ec ef) (omega arith) _ (lone_number _ _ _ c.in_err-short.ensures))

pub returns-in_err-short-2 : goal.returns-in_err-short-2
returns-in_err-short-2 c = λ l rs cs fs k er ec ef.
    let p = err_from_is_err_and c.from_residual-in_err-short-2.result c.from_residual-in_err-short-2.ensures.1 in
    rw (p.1, p.2) (second_stops (face_room c.args.c l rs cs fs k er ec ef) (omega arith) (omega arith) (lone_number _ _ _ c.in_ok-short.ensures) _ (lone_number _ _ _ c.in_err-short-2.ensures))

pub returns : goal.returns
returns c = λ l rs cs fs k er ec ef.
    third_decides (face_room c.args.c l rs cs fs k er ec ef) (omega arith) (omega arith) (lone_number _ _ _ c.in_ok-short.ensures) (lone_number _ _ _ c.in_ok-short-2.ensures) (lone_number _ _ _ c.short-3.ensures)
