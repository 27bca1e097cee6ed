-- `store::put_all` meets its contract.
use Rattle.std.proofs.Common.{◌≡◌, ◌+◌, ◌<◌, refl, sym, ap, ◌∙◌, take, get_or, set, length, arith}
use Rattle.std.proofs.lemmas.List.{take_more, take_all, length-take-le}
use lib.Seq.{set_out}
use Rattle.std.proofs.lemmas.List.Edits.{sets}
use Rattle.store.proofs.Writes.{put_more}
use Rattle.store.proofs.put_all.Goals.{then-k-room, else-k-room}
use Rattle.store.proofs.put_all.Goals as goal

pub loop-k-init : goal.loop-k-init
loop-k-init g c = refl

pub loop-k-preserved : goal.loop-k-preserved
loop-k-preserved g c =
    let a = c.args in
    let l = c.loop-k in
    let below : l.k < length a.values = omega (arith, c.well_formed) in
    let long : l.k ≡ length (take l.k a.values) = sym (length-take-le l.k a.values (omega arith)) in
    let put : c.if-k-room.words ≡ set l.words (a.i + l.k) (get_or a.values l.k 0) =
    elim c.if-k-room.branch [
      | then-k-room w ↦ w.words-is
      | else-k-room w ↦ w.words-is ∙ sym (set_out _ _ _ (omega (arith, w.if-k-room.false, l.auto.words, c.saturating_sub-room.ensures)))
    ] in
    put_more a.words.now l.words _ a.i l.k _ (take l.k a.values) long l.invariant put ∙ ap (sets a.words.now a.i) (sym (take_more a.values l.k 0 below))

pub returns : goal.returns
returns g c = c.loop-k.invariant ∙ ap (sets c.args.words.now c.args.i) (take_all c.loop-k.k c.args.values (omega (arith, c.well_formed, c.loop-k-test.false)))
