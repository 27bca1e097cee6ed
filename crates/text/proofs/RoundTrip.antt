-- The text of a map is read back as that map.
use Rattle.std.proofs.Common.{◌≡◌, ℕ, zero, suc, ◌+◌, ◌*◌, ◌<◌, ◌≤◌, List, [], ◌∷◌, ◌++◌, length, take, drop, sym, refl, ap, ◌∙◌, subst, append_assoc, append-nil, suc-mul, mul_comm, mul-le-mul, arith, length-append, length-drop, take-append-drop, length-take, eq-eqb, ne_eqb, le-leb}
use native.Mathlib.Decide.{ℕ_discrete}
use Rattle.rules.specs.Picture.{OUTSIDE}
use Rattle.rules.specs.Calls.{Map as LabelledMap}
use Rattle.rules.proofs.CutList.Values.{AtMost}
use Rattle.text.specs.Bytes.{bytes}
use Rattle.text.specs.Grammar.{SPACE, NEWLINE, Number, number, decimal, at_most, word, longer, up_to, got, before, reading, read_number, read_label, left, Lines, more, entries, line, after, lines, header, read_header}
use Rattle.text.specs.Parse.{whole, body, parsed}
use Rattle.text.specs.Output.{shown}
use Rattle.text.specs.Written.{entry_of, line_of, lines_of, text_of}
use Rattle.text.specs.Parse.{Map}
use Rattle.text.proofs.Scanning.{up_to_stop, up_to_other, label_dot_stop, label_number}
use Rattle.text.proofs.Entries.{header_good, entry_got, last_got, lines_more}
use Rattle.text.proofs.Parsing.{inner}
use Rattle.text.proofs.Decimals.{High, Form, form, reads_back}
use Rattle.text.proofs.Lengths.{shown_short}
use Rattle.text.proofs.Room.{Small}

-- A NUMBER

up_to_high : (stop : ℕ) (w t : List ℕ) → stop < 48 → High w → up_to stop (w ++ (stop ∷ t)) ≡ word w t
unfolding longer
up_to_high stop [] t s h = up_to_stop stop stop t refl
up_to_high stop (b ∷ w) t s h = let k = h.0 in up_to_other stop b (w ++ (stop ∷ t)) (λ e. omega arith) ∙ ap (longer b) (up_to_high stop w t s h.1)

number_back : (most stop n : ℕ) (t : List ℕ) → stop < 48 → n ≤ most → read_number most stop (shown n ++ (stop ∷ t)) ≡ got n t
unfolding read_number reading before at_most
number_back most stop n t s h =
    let small : at_most most (number n) ≡ number n = rw (le-leb n most h, at_most) in
    ap (reading (λ w. at_most most (decimal w))) (up_to_high stop (shown n) t s (form n).high)
    ∙ ap (λ (x : Number). before x t) (ap (at_most most) (reads_back n) ∙ small)

-- AN ENTRY

pub entry_outside : (l : ℕ) → l ≡ OUTSIDE → entry_of l ≡ bytes "."
unfolding entry_of
entry_outside l e = rw (eq-eqb l OUTSIDE e, entry_of)

pub entry_shown : (l : ℕ) → (l ≡ OUTSIDE → ⊥) → entry_of l ≡ shown l
unfolding entry_of
entry_shown l n = rw (ne_eqb l OUTSIDE n, entry_of)

entry_back : (stop l : ℕ) (t : List ℕ) → stop < 46 → l ≤ OUTSIDE → read_label stop (entry_of l ++ (stop ∷ t)) ≡ got l t
entry_back stop l t s h =
    elim (ℕ_discrete l OUTSIDE) [
      | yes e ↦ ap (λ (w : List ℕ). read_label stop (w ++ (stop ∷ t))) (entry_outside l e) ∙ label_dot_stop stop s stop t refl ∙ ap (λ (v : ℕ). got v t) (sym e)
      | no n ↦ ap (λ (w : List ℕ). read_label stop (w ++ (stop ∷ t))) (entry_shown l n) ∙ go n (form l)
    ]
  where
    go : (l ≡ OUTSIDE → ⊥) → Form l → read_label stop (shown l ++ (stop ∷ t)) ≡ got l t
    go n f =
        let k = (subst High f.is f.high).0 in
        ap (λ (w : List ℕ). read_label stop (w ++ (stop ∷ t))) f.is ∙ label_number stop s f.first (f.rest ++ (stop ∷ t)) (λ e. omega arith)
        ∙ ap (λ (w : List ℕ). read_number 4294967294 stop (w ++ (stop ∷ t))) (sym f.is) ∙ number_back 4294967294 stop l t (omega arith) (omega (arith, n))

-- LINES, whatever follows

abbrev Back : Lines → List ℕ → List ℕ → Type 0
Back x ls t = x ≡ record { labels = ls; rest = left t }

entries_back : (n : ℕ) (l : ℕ) (ls t : List ℕ) → length ls ≡ n → AtMost OUTSIDE (l ∷ ls) → Back (entries n (line_of (l ∷ ls) ++ t)) (l ∷ ls) t
unfolding line_of
entries_back zero l [] t e f =
    ap (entries 0) (append_assoc (entry_of l) (NEWLINE ∷ []) t) ∙ last_got (entry_of l ++ (NEWLINE ∷ t)) l t (entry_back NEWLINE l t (omega arith) f.0)
entries_back zero l (m ∷ ls) t e f = absurd (omega arith)
entries_back (suc n) l [] t e f = absurd (omega arith)
entries_back (suc n) l (m ∷ ls) t e f =
    ap (entries (suc n)) (append_assoc (entry_of l) (SPACE ∷ line_of (m ∷ ls)) t)
    ∙ entry_got n (entry_of l ++ (SPACE ∷ (line_of (m ∷ ls) ++ t))) l (line_of (m ∷ ls) ++ t) (entry_back SPACE l (line_of (m ∷ ls) ++ t) (omega arith) f.0)
    ∙ ap (more l) (entries_back n m ls t (omega arith) f.1)

line_back : (w : ℕ) (ls t : List ℕ) → length ls ≡ w → AtMost OUTSIDE ls → Back (line w (line_of ls ++ t)) ls t
unfolding line line_of
line_back zero [] t e f = refl
line_back zero (l ∷ ls) t e f = absurd (omega arith)
line_back (suc w) [] t e f = absurd (omega arith)
line_back (suc w) (l ∷ ls) t e f = entries_back w l ls t (omega arith) f

most_take : (n : ℕ) (l : List ℕ) → AtMost OUTSIDE l → AtMost OUTSIDE (take n l) × AtMost OUTSIDE (drop n l)
most_take zero l f = (tt, f)
most_take (suc n) [] f = (tt, tt)
most_take (suc n) (v ∷ l) f = let r = most_take n l f.1 in ((f.0, r.0), r.1)

lines_back : (w h : ℕ) (ls t : List ℕ) → length ls ≡ h * w → AtMost OUTSIDE ls → Back (lines w h (lines_of w h ls ++ t)) ls t
unfolding lines lines_of after
lines_back w zero [] t e f = refl
lines_back w zero (l ∷ ls) t e f = absurd (omega arith)
lines_back w (suc h) ls t e f =
    let parts = suc-mul h w in
    let halves = most_take w ls f in
    let front : length (take w ls) ≡ w = omega (arith, length-take w ls) in
    let rest = lines_of w h (drop w ls) ++ t in
    let one = line_back w (take w ls) rest front halves.0 in
    ap (lines w (suc h)) (append_assoc (line_of (take w ls)) (lines_of w h (drop w ls)) t)
    ∙ lines_more w h (line_of (take w ls) ++ rest) rest (ap (λ (x : Lines). x.rest) one)
    ∙ (λ i. after (one i).labels (lines_back w h (drop w ls) t (omega (arith, length-drop w ls)) halves.1 i))
    ∙ (λ i. record { labels = take-append-drop w ls i; rest = left t })

-- NO TEXT OF A MAP IS TOO LONG

word_short : (n : ℕ) → n ≤ OUTSIDE → length (shown n) ≤ 10
word_short n h = shown_short 9 n (omega arith)

entry_short : (l : ℕ) → l ≤ OUTSIDE → length (entry_of l) ≤ 10
entry_short l h =
    elim (ℕ_discrete l OUTSIDE) [
      | yes e ↦ omega (arith, ap length (entry_outside l e))
      | no n ↦ omega (arith, ap length (entry_shown l n), word_short l h)
    ]

line_short : (ls : List ℕ) → AtMost OUTSIDE ls → length (line_of ls) ≤ 11 * length ls + 1
unfolding line_of
line_short [] f = omega arith
line_short (l ∷ []) f = omega (arith, entry_short l f.0, length-append (entry_of l) (NEWLINE ∷ []))
line_short (l ∷ m ∷ ls) f = omega (arith, entry_short l f.0, line_short (m ∷ ls) f.1, length-append (entry_of l) (SPACE ∷ line_of (m ∷ ls)))

lines_short : (w h : ℕ) (ls : List ℕ) → AtMost OUTSIDE ls → length (lines_of w h ls) ≤ 11 * length ls + h
unfolding lines_of
lines_short w zero ls f = omega arith
lines_short w (suc h) ls f =
    let halves = most_take w ls f in
    let all = ap length (take-append-drop w ls) in
    omega (arith, all, length-append (take w ls) (drop w ls), length-append (line_of (take w ls)) (lines_of w h (drop w ls)), line_short (take w ls) halves.0, lines_short w h (drop w ls) halves.1)

-- THE MAP

module _ (m : LabelledMap) (s : Small m) (f : AtMost OUTSIDE m.labels) where
  abbrev w : ℕ
  w = m.width

  abbrev h : ℕ
  h = m.height

  abbrev p : ℕ
  p = m.paints

  abbrev ls : List ℕ
  ls = m.labels

  text_short : length (text_of m) ≤ 4096
  unfolding text_of
  text_short =
      let area = mul-le-mul s.narrow s.low in
      let body = lines_of w h ls in
      let four = length-append (shown p) (NEWLINE ∷ body) in
      let three = length-append (shown h) (SPACE ∷ (shown p ++ (NEWLINE ∷ body))) in
      let two = length-append (shown w) (SPACE ∷ (shown h ++ (SPACE ∷ (shown p ++ (NEWLINE ∷ body))))) in
      omega (arith, area, four, three, two, s.size, s.narrow, s.low, lines_short w h ls f, word_short w (omega (arith, s.narrow)), word_short h (omega (arith, s.low)), word_short p s.word)

  header_back : read_header (text_of m) ≡ header w h p (lines_of w h ls)
  unfolding text_of
  header_back =
      let body = lines_of w h ls in
      let after-h = shown p ++ (NEWLINE ∷ body) in
      let after-w = shown h ++ (SPACE ∷ after-h) in
      header_good (shown w ++ (SPACE ∷ after-w)) w after-w (number_back 4294967295 SPACE w after-w (omega arith) (omega (arith, s.narrow)))
      h after-h (number_back 4294967295 SPACE h after-h (omega arith) (omega (arith, s.low)))
      p body (number_back 4294967295 NEWLINE p body (omega arith) s.word)

  pub read_back : parsed (text_of m) ≡ record { answer = Map w h p; labels = ls }
  unfolding body whole
  read_back =
      let all : Back (lines w h (lines_of w h ls)) ls [] = ap (lines w h) (sym (append-nil (lines_of w h ls))) ∙ lines_back w h ls [] (s.size ∙ mul_comm w h) f in
      inner (text_of m) text_short w h p (lines_of w h ls) header_back s.narrow s.low
      ∙ (λ i. record { answer = whole (Map w h p) (all i).rest; labels = (all i).labels })
