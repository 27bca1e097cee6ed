-- `lines::newline_at` meets its contract.
use Rattle.std.proofs.Common.{List, ap, ◌∙◌, arith, drop_of_length-le}
use Rattle.text.specs.Grammar.{line, Rest}
use Rattle.text.proofs.Scanning.{byte_first}
use Rattle.text.proofs.Entries.{line_none_end, line_none_newline, line_none_other}
use Prim.Native.Nat.{ℕ}
use Rattle.text.proofs.lines.newline_at.Goals as goal

abbrev over : List ℕ → Rest
over s = (line 0 s).rest

pub returns-in_err-get : goal.returns-in_err-get
returns-in_err-get c = let h = c.in_err-get.ensures.lookup in rw c.from_residual.ensures (ap over (drop_of_length-le c.args.text.now h.3) ∙ line_none_end)

pub returns-then-branch-eq10 : goal.returns-then-branch-eq10
returns-then-branch-eq10 c =
    let h = c.in_ok-get.ensures.lookup.3 in
    (ap over (byte_first c.args.text.now c.args.at _ h.0 (h.1 0)) ∙ line_none_newline _ _ c.if-branch-eq10.true, omega (arith, h.0))

pub returns : goal.returns
returns c =
    let h = c.in_ok-get.ensures.lookup.3 in
    ap over (byte_first c.args.text.now c.args.at _ h.0 (h.1 0)) ∙ line_none_other _ _ c.if-branch-eq10.false
