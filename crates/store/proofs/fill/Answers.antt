-- `store::fill` meets its contract.
use Rattle.std.proofs.Common.{◌≡◌, ◌+◌, ◌-◌, refl, sym, ap, ◌∙◌, take, drop, replicate, length, arith, ◌++◌, append_assoc}
use Rattle.std.proofs.lemmas.List.Edits.{sets-eq, paste_all}
use Rattle.std.proofs.lemmas.List.{length-take-le, length-drop}
use Rattle.std.proofs.lemmas.Slice.{put_mid-paste}
use Rattle.std.proofs.lemmas.Grind.{same_number_lists}
use lib.ListN.{length-replicate, get_or-replicate}
use Rattle.store.proofs.fill.Goals as goal

pub returns : goal.returns
returns c =
    let a = c.args in
    let e : a.from + a.n - a.from ≡ a.n = omega arith in
    let long : length c.fill.new.self ≡ length (replicate a.n a.v) = c.fill.ensures.len ∙ length-take-le (a.from + a.n - a.from) (drop a.from a.words.now) (omega (arith, length-drop a.from a.words.now)) ∙ e ∙ sym (length-replicate a.n a.v) in
    let new : c.fill.new.self ≡ replicate a.n a.v =
    same_number_lists c.fill.new.self (replicate a.n a.v) long
    (λ k h. c.fill.ensures.clones k 0 (omega (arith, c.fill.ensures.len)) refl ∙ sym (get_or-replicate a.n k a.v 0 (omega (arith, long, length-replicate a.n a.v)))) in
    put_mid-paste a.from (a.from + a.n - a.from) a.words.now c.fill.new.self (replicate a.n a.v) a.n new (sym e) (sym (length-replicate a.n a.v))
    ∙ paste_all a.words.now a.from (replicate a.n a.v) a.n (sym (length-replicate a.n a.v))
    ∙ sym (append_assoc (take a.from a.words.now) (replicate a.n a.v) (drop (a.from + a.n) a.words.now))
    ∙ sym (sets-eq (replicate a.n a.v) a.words.now a.from (omega (arith, length-replicate a.n a.v)) ∙ ap (λ m. take a.from a.words.now ++ replicate a.n a.v ++ drop (a.from + m) a.words.now) (length-replicate a.n a.v))
