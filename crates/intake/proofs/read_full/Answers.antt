-- The bytes of a read stand behind those of the reads before it.
use Rattle.std.proofs.Common.{◌≡◌, ℕ, ◌+◌, ◌-◌, ◌≤◌, List, ◌++◌, rules, length, take, sym, ap, ◌∙◌, subst, length-take-le}
use Rattle.std.proofs.lemmas.List.{take-append-le}
use Rattle.std.proofs.Math.Seq.{take-append-add}
use Rattle.std.proofs.KnownBytes.{Consumes-trans}
use Rattle.std.specs.Io.KnownBytes.{Consumes}
use borrow.Rule.Slice.PartMut.{put_mid, post_of}
use Rattle.intake.proofs.read_full.Goals as goal

filled : (a k n : ℕ) (xs ys : List ℕ) → a ≤ length xs → n ≤ length ys → take a xs ++ take n ys ≡ take (a + n) (put_mid a k xs ys)
filled a k n xs ys within fits =
    let front : take (a + n) (put_mid a k xs ys) ≡ take a xs ++ take n (ys ++ post_of a k xs) =
    ap (λ m. take (m + n) (put_mid a k xs ys)) (sym (length-take-le a xs within)) ∙ take-append-add (take a xs) (ys ++ post_of a k xs) n in
    sym (front ∙ ap (λ l. take a xs ++ l) (take-append-le n ys (post_of a k xs) fits))

pub loop-preserved : goal.loop-preserved
loop-preserved g c =
    let all = filled c.loop.done (length c.loop.buf - c.loop.done) c.in_ok-got.got c.loop.buf c.read.new.buf c.loop.invariant.1 c.in_ok-got.ensures.bound.0 in
    (search rules, search rules, subst (Consumes _ _) all (Consumes-trans _ _ _ _ _ c.loop.invariant.2 c.in_ok-got.ensures.bytes.0))
