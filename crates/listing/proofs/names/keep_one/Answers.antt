-- `names::keep_one` meets its contract.
use mathlib.Core.Path.{refl, sym, ◌∙◌}
use Rattle.listing.proofs.Keeping.{kept_put}
use Rattle.listing.proofs.names.keep_one.Goals as goal

pub returns-then-get-eq0 : goal.returns-then-get-eq0
returns-then-get-eq0 c = record { passed = λ z. (refl, refl); kept = λ n. absurd (n (sym c.get.ensures ∙ c.if-get-eq0.true)) }

pub returns : goal.returns
returns c =
    let a = c.args in
    record {
      passed = λ z. absurd (c.if-get-eq0.false (c.get.ensures ∙ z));
      kept = λ n. (refl, kept_put a.work.now _ _ _ _ a.heads a.list a.n c.get-p.ensures c.put.ensures c.put-2.ensures);
    }
