-- What `textmap` prints: a map's cut list from the stores of the call, or a message, by what the text was parsed as.
use Rattle.std.proofs.Common.{◌≡◌, ℕ, ◌*◌, ◌≤◌, List, [], ◌∷◌, length, get_or, take, drop, replicate, true, refl, sym, ap, ◌∙◌, mul-le-mul, arith, take_at}
use lib.ListN.{length-replicate}
use lib.Seq.{length-sets}
use Rattle.rules.specs.Picture.{OUTSIDE}
use Rattle.store.proofs.Writes.{sets_front}
use Rattle.rules.specs.Calls.{Map as LabelledMap, cut_list, counted, Outcome, whole}
use Rattle.calls.specs.declared.Counts.{Counts}
use Rattle.calls.specs.declared.Refused.{Refused}
use Rattle.calls.specs.Outcome.{answer_with, answer_of, outcome}
use Rattle.calls.proofs.Refusals.{positive}
use Rattle.calls.proofs.Demands.Answered.{every_whole}
use Rattle.text.specs.Bytes.{bytes}
use Rattle.text.specs.Grammar.{read_header}
use Rattle.text.specs.Parse.{parsed}
use Rattle.text.specs.Places.{ParsedIs}
use Rattle.text.specs.Output.{report}
use Rattle.std.specs.Prelude.{Result, Ok, Err, is_ok}
use Rattle.std.proofs.Common.{◌++◌, subst}
use Rattle.lattice.specs.declared.Size.{Size}
use Rattle.calls.specs.Outcome.{map_of}
use Rattle.text.specs.Program.{message, printed, answered, textmap}
use Rattle.text.specs.declared.BadMap.{BadMap}
use Rattle.text.proofs.Parsing.{map_is}
use Rattle.text.proofs.Words.{PaintsMost, parsed_words}
use Rattle.text.proofs.MapFacts.{IsMap, parsed_map}
use Rattle.text.proofs.Room.{Small, Room, enough}
use Rattle.text.proofs.Padding.{zeros_behind, report_same}

-- FROM THE STORES that the program lends

abbrev zeros : ℕ → List ℕ
zeros n = replicate n 0

room : Room (zeros 2312) (zeros 1734) (zeros 4352) (zeros 2176) (zeros 1088) (zeros 578) (zeros 1280)
room = record { work = long 2312; nodes = long 1734; segments = long 4352; points = long 2176; references = long 1088; contours = long 578; faces = long 1280 }
  where
    long : (n : ℕ) → n ≤ length (zeros n)
    long n = omega (arith, length-replicate {A = ℕ} n 0)

module _ {m : LabelledMap} (s : Small m) (r : Result Counts Refused) {work ns ss ps rs cs fs : List ℕ}
    (promise : outcome r (work ∷ ns ∷ ss ∷ ps ∷ rs ∷ cs ∷ fs ∷ []) ≡ whole m (zeros 2312) (zeros 1734) (zeros 4352) (zeros 2176) (zeros 1088) (zeros 578) (zeros 1280)) where
  number : (whole m (zeros 2312) (zeros 1734) (zeros 4352) (zeros 2176) (zeros 1088) (zeros 578) (zeros 1280)).answer.number ≡ 0
  number = enough m (zeros 2312) (zeros 1734) (zeros 4352) (zeros 2176) (zeros 1088) (zeros 578) (zeros 1280) s room

  -- no store is short
  pub fits : is_ok r ≡ true
  fits = go r (ap (λ o. o.answer.number) promise ∙ number)
    where
      go : (r : Result Counts Refused) → (answer_of r).number ≡ 0 → is_ok r ≡ true
      go (Ok c) z = refl
      go (Err why) z = absurd (let known = positive why.why in omega (arith, known, z))

  pub map_printed : (c : Counts) → r ≡ Ok c → report m.width m.height m.paints (answer_with 0 c) ns ss ps rs cs fs ≡ printed m
  unfolding printed
  map_printed c e =
      let settled = (every_whole m (zeros 2312) (zeros 1734) (zeros 4352) (zeros 2176) (zeros 1088) (zeros 578) (zeros 1280)).settled in
      let done = promise ∙ settled.fine number in
      let counts : answer_with 0 c ≡ counted 0 (cut_list m) = ap answer_of (sym e) ∙ ap (λ o. o.answer) done in
      let l = cut_list m in
      let store : ℕ → Outcome → List ℕ = λ i o. get_or o.stores i [] in
      rw (counts, ap (store 1) done, ap (store 2) done, ap (store 3) done, ap (store 4) done, ap (store 5) done, ap (store 6) done)
      (report_same (zeros_behind l.nodes (length l.nodes) 1734) (zeros_behind l.segments (length l.segments) 4352) (zeros_behind l.points (length l.points) 2176)
      (zeros_behind l.references (length l.references) 1088) (zeros_behind l.contours (length l.contours) 578) (zeros_behind l.faces (length l.faces) 1280)
      m.width m.height m.paints (counted 0 l))

-- BY THE PARSE

module _ (text : List ℕ) {store store' : List ℕ} {r : Result Size BadMap} (k : ParsedIs (parsed text) store store' r) where
  pub message_lem : (b : BadMap) → r ≡ Err b → message b ++ bytes "\n" ≡ textmap text
  unfolding textmap answered
  message_lem b e = ap (λ (p : Result Size BadMap). answered p (parsed text).labels) (sym e ∙ k.answer)

  -- A MAP, its labels at the front of a store of 256 words
  module _ (m : Size) (long : length store ≡ 256) (e : r ≡ Ok m) where
    outside : m.bound ≡ OUTSIDE
    outside = (subst PaintsMost (sym k.answer ∙ e) (parsed_words text).paints).1

    pub small : IsMap m.width m.height m.paints (read_header text) (parsed text).labels
    small = parsed_map m.width m.height m.paints text (sym k.answer ∙ (e ∙ sym (map_is m outside)))

    area : m.width * m.height ≤ 256
    area = mul-le-mul small.narrow small.low

    pub labels_fit : m.width * m.height ≤ length store'
    labels_fit = omega (arith, area, long, ap length k.stored ∙ length-sets store 0 (parsed text).labels)

    pub labels_are : take (m.width * m.height) store' ≡ (parsed text).labels
    labels_are =
        let front = k.stored ∙ sets_front store (parsed text).labels (omega (arith, area, long, small.count)) in
        ap (take (m.width * m.height)) front ∙ take_at (parsed text).labels (drop (length (parsed text).labels) store) (m.width * m.height) small.count

    pub map_read : printed (map_of m (take (m.width * m.height) store')) ≡ textmap text
    unfolding textmap answered
    map_read = ap (λ (ls : List ℕ). printed (map_of m ls)) labels_are ∙ ap (λ (q : Result Size BadMap). answered q (parsed text).labels) (sym e ∙ k.answer)
