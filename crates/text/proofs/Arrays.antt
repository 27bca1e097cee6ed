-- The program's two arrays are large enough: one byte more than a text may have is all that need be read, and what is printed fits.
use Rattle.std.proofs.Common.{◌≡◌, ℕ, ◌≤◌, List, length, take, drop, sym, ap, ◌∙◌, arith, length-take-le, take_all, take_at}
use native.Mathlib.Decide.{dec_le}
use Rattle.store.proofs.Writes.{sets_front}
use Rattle.text.specs.Parse.{Outcome}
use Rattle.text.specs.Output.{Printed}
use Rattle.text.specs.Program.{answered, textmap}
use Rattle.text.proofs.Parsing.{long}
use Rattle.text.proofs.Room.{textmap_short}

pub read_enough : (text : List ℕ) → textmap (take 4097 text) ≡ textmap text
unfolding textmap
read_enough text =
    elim (dec_le (length text) 4096) [
      | yes h ↦ ap textmap (take_all 4097 text (omega arith))
      | no h ↦ let cut = length-take-le 4097 text (omega arith) in ap (λ (o : Outcome). answered o.answer o.labels) (long (take 4097 text) (omega arith) ∙ sym (long text (omega arith)))
    ]

pub all_printed : (text out out' : List ℕ) (n : ℕ) → 54696 ≤ length out → Printed out 0 (textmap text) out' n → (n ≡ length (textmap text)) × (take n out' ≡ textmap text)
all_printed text out out' n room p =
    let short = textmap_short text in
    let count : n ≡ length (textmap text) = p.place ∙ omega arith in
    (count, ap (take n) (p.held ∙ sets_front out (textmap text) (omega arith)) ∙ take_at (textmap text) (drop (length (textmap text)) out) n (sym count))
