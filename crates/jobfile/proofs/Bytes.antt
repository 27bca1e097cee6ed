-- Bytes and records: the records of a file are read back as they were written.
use Prim.Native.Nat.{ℕ, zero, suc, ◌+◌, ◌*◌, ◌/◌, ◌%◌, ◌<◌, ◌≤◌}
use mathlib.Core.Bool.{true, false}
use mathlib.Core.Path.{◌≡◌, refl, ap, ap₂, ◌∙◌}
use mathlib.Core.List.{List, [], ◌∷◌, ◌++◌}
use native.Mathlib.Omega.{arith}
use lib.Dec.{leb, ltb}
use lib.ListN.{length, take, drop, length-append}
use lib.Seq.{take-append_seam, drop-append_seam}
use borrow.Author.Tests.{le-leb, le-ltb}
use Rattle.rules.specs.Lists.{flat}
use Rattle.jobfile.specs.JobFile.{word, word_bytes, Entry, bytes_of, file_bytes}
use Rattle.jobfile.specs.Entries.{word_at, words_of, body_length, kind_of, entry_size, body, rest, entries}

-- WORDS

abbrev pub Words : List ℕ → Type 0
Words [] = Unit {0}
Words (n ∷ ws) = (n < 4294967296) × Words ws

low : (n : ℕ) → n % 256 + 256 * (n / 256) ≡ n
low n = omega arith

digits : (n a b c p q r : ℕ) → p + 256 * a ≡ n → q + 256 * b ≡ a → r + 256 * c ≡ b → p + 256 * q + 65536 * r + 16777216 * c ≡ n
digits n a b c p q r x y z = omega arith

top : (n : ℕ) → n < 4294967296 → n / 16777216 % 256 ≡ n / 256 / 256 / 256
top n h =
    let q : n / 16777216 ≡ n / 256 / 256 / 256 = omega arith in
    let k : n / 16777216 < 256 = omega arith in
    omega arith

second : (n : ℕ) → n / 65536 ≡ n / 256 / 256
second n = omega arith

pub word_value : (n : ℕ) → n < 4294967296 → n % 256 + 256 * (n / 256 % 256) + 65536 * (n / 65536 % 256) + 16777216 * (n / 16777216 % 256) ≡ n
word_value n h =
    rw (top n h, second n)
    (digits n (n / 256) (n / 256 / 256) (n / 256 / 256 / 256) (n % 256) (n / 256 % 256) (n / 256 / 256 % 256) (low n) (low (n / 256)) (low (n / 256 / 256)))

pub words_back : (ws : List ℕ) → Words ws → words_of (word_bytes ws) ≡ ws
unfolding words_of word_bytes word flat
words_back [] h = refl
words_back (n ∷ ws) h = ap₂ (λ a b. a ∷ b) (word_value n h.0) (words_back ws h.1)

pub words_length : (ws : List ℕ) → length (word_bytes ws) ≡ 4 * length ws
unfolding word_bytes word flat
words_length [] = refl
words_length (n ∷ ws) = omega (arith, words_length ws)

-- A RECORD in front of other bytes

-- a record that a file can hold
pub record Sound (e : Entry) : Type 0 where
  pub kind : e.0 < 65536
  pub short : 4 * length e.1 < 4294967296
  pub words : Words e.1

module _ (e : Entry) (more : List ℕ) (s : Sound e) where
  pub read_length : body_length (bytes_of e ++ more) ≡ 4 * length e.1
  unfolding body_length word_at bytes_of word
  read_length = word_value (4 * length e.1) s.short

  pub read_kind : kind_of (bytes_of e ++ more) ≡ e.0
  unfolding kind_of bytes_of word
  read_kind = let h = s.kind in omega arith

  pub read_size : entry_size (bytes_of e ++ more) ≡ 6 + length (word_bytes e.1)
  unfolding entry_size
  read_size = omega (arith, read_length, words_length e.1)

  pub read_body : body (bytes_of e ++ more) ≡ word_bytes e.1
  unfolding body bytes_of word
  read_body =
      let q : body_length (bytes_of e ++ more) ≡ length (word_bytes e.1) = omega (arith, read_length, words_length e.1) in
      ap (λ n. take n (word_bytes e.1 ++ more)) q ∙ take-append_seam (word_bytes e.1) more

  pub read_rest : rest (bytes_of e ++ more) ≡ more
  unfolding rest bytes_of word
  read_rest =
      let n = length (word_bytes e.1) in
      let six : 6 + n ≡ suc (suc (suc (suc (suc (suc n))))) = omega arith in
      ap (λ n. drop n (bytes_of e ++ more)) (read_size ∙ six) ∙ drop-append_seam (word_bytes e.1) more

  pub read_whole : length (bytes_of e ++ more) ≡ entry_size (bytes_of e ++ more) + length more
  unfolding bytes_of word
  read_whole = omega (arith, read_size, length-append (word_bytes e.1) more)

-- ALL RECORDS

abbrev pub AllSound : List Entry → Type 0
AllSound [] = Unit {0}
AllSound (e ∷ es) = Sound e × AllSound es

pub entries_back : (k : ℕ) (es : List Entry) → AllSound es → length es ≤ k → entries k (file_bytes es) ≡ es
unfolding entries file_bytes flat
entries_back zero [] s h = refl
entries_back (suc k) [] s h = refl
entries_back zero (e ∷ es) s h = absurd (omega arith)
entries_back (suc k) (e ∷ es) s h =
    let b = bytes_of e ++ file_bytes es in
    let w = read_whole e (file_bytes es) s.0 in
    let z = read_size e (file_bytes es) s.0 in
    let long : ltb (length b) 6 ≡ false = le-ltb (length b) 6 (omega arith) in
    let fit : leb (entry_size b) (length b) ≡ true = le-leb (entry_size b) (length b) (omega arith) in
    rw (long, fit, entries)
    (λ i. (read_kind e (file_bytes es) s.0 i, (ap words_of (read_body e (file_bytes es) s.0) ∙ words_back e.1 s.0.words) i)
    ∷ (ap (entries k) (read_rest e (file_bytes es) s.0) ∙ entries_back k es s.1 (omega arith)) i)

-- each record has six bytes or more
pub entries_few : (es : List Entry) → length es ≤ length (file_bytes es)
unfolding file_bytes flat bytes_of word
entries_few [] = omega arith
entries_few (e ∷ es) = omega (arith, length-append (word_bytes e.1) (file_bytes es), entries_few es)
