-- The grammar of a map's text (docs/RULES.md, "textmap"): a line `width height paints`, then height lines of
-- width entries; single spaces, decimals without leading zeros, `.` for OUTSIDE, every line ended by a newline.
use Rattle.std.specs.Prelude.{ℕ, zero, suc, ◌+◌, ◌-◌, ◌*◌, true, false, List, [], ◌∷◌, ◌++◌, ◌==◌, nat_le}
use Rattle.rules.specs.Picture.{OUTSIDE}

abbrev pub SPACE : ℕ
SPACE = 32

abbrev pub NEWLINE : ℕ
NEWLINE = 10

abbrev pub DOT : ℕ
DOT = 46

-- DECIMALS

pub data Number : Type 0 where
  number : ℕ → Number
  unreadable : Number

-- digits, after those that made `acc`
unfoldable pub digits : ℕ → List ℕ → Number
digits acc [] = number acc
digits acc (b ∷ w) = elim (nat_le 48 b) [ false ↦ unreadable | true ↦ elim (nat_le b 57) [ false ↦ unreadable | true ↦ digits (10 * acc + (b - 48)) w ] ]

-- one digit or more; the first of several is no 0
unfoldable pub decimal : List ℕ → Number
decimal [] = unreadable
decimal (b ∷ []) = digits 0 (b ∷ [])
decimal (b ∷ c ∷ w) = elim (b == 48) [ true ↦ unreadable | false ↦ digits 0 (b ∷ c ∷ w) ]

unfoldable pub at_most : ℕ → Number → Number
at_most most unreadable = unreadable
at_most most (number n) = elim (nat_le n most) [ true ↦ number n | false ↦ unreadable ]

-- an entry: `.` is OUTSIDE, and no decimal is
unfoldable pub label : List ℕ → Number
label [] = unreadable
label (b ∷ []) = elim (b == DOT) [ true ↦ number OUTSIDE | false ↦ at_most 4294967294 (decimal (b ∷ [])) ]
label (b ∷ c ∷ w) = at_most 4294967294 (decimal (b ∷ c ∷ w))

-- WORDS: the bytes before the first `stop`, and what follows it

pub data Word : Type 0 where
  word : List ℕ → List ℕ → Word
  endless : Word

unfoldable pub longer : ℕ → Word → Word
longer b (word w s) = word (b ∷ w) s
longer b endless = endless

unfoldable pub up_to : ℕ → List ℕ → Word
up_to stop [] = endless
up_to stop (b ∷ s) = elim (b == stop) [ true ↦ word [] s | false ↦ longer b (up_to stop s) ]

-- a word that is read as a number, and what follows it
pub data Read : Type 0 where
  got : ℕ → List ℕ → Read
  bad : Read

unfoldable pub before : Number → List ℕ → Read
before (number n) s = got n s
before unreadable s = bad

unfoldable pub reading : (List ℕ → Number) → Word → Read
reading f (word w s) = before (f w) s
reading f endless = bad

unfoldable pub read_number : ℕ → ℕ → List ℕ → Read
read_number most stop s = reading (λ w. at_most most (decimal w)) (up_to stop s)

-- a decimal whose first digits made `acc`
unfoldable pub more_digits : ℕ → ℕ → ℕ → List ℕ → Read
more_digits acc most stop s = reading (λ w. at_most most (digits acc w)) (up_to stop s)

unfoldable pub read_label : ℕ → List ℕ → Read
read_label stop s = reading label (up_to stop s)

-- a value that is ended by the next byte
unfoldable pub ended : ℕ → ℕ → List ℕ → Read
ended value stop [] = bad
ended value stop (b ∷ s) = elim (b == stop) [ true ↦ got value s | false ↦ bad ]

-- LINES: the labels that were read, in order, and what follows, where all were in form

pub data Rest : Type 0 where
  left : List ℕ → Rest
  broken : Rest

pub record Lines : Type 0 where
  pub labels : List ℕ
  pub rest : Rest

abbrev pub more : ℕ → Lines → Lines
more l ls = record { labels = l ∷ ls.labels; rest = ls.rest }

-- so many entries, each ended by a space, and one that is ended by a newline
unfoldable pub entries : ℕ → List ℕ → Lines
entries zero s = elim (read_label NEWLINE s) [ got l t ↦ record { labels = l ∷ []; rest = left t } | bad ↦ record { labels = []; rest = broken } ]
entries (suc n) s = elim (read_label SPACE s) [ got l t ↦ more l (entries n t) | bad ↦ record { labels = []; rest = broken } ]

-- a line of so many entries: with none the newline alone
unfoldable pub line : ℕ → List ℕ → Lines
line zero [] = record { labels = []; rest = broken }
line zero (b ∷ s) = elim (b == NEWLINE) [ true ↦ record { labels = []; rest = left s } | false ↦ record { labels = []; rest = broken } ]
line (suc n) s = entries n s

unfoldable pub after : List ℕ → Lines → Lines
after l ls = record { labels = l ++ ls.labels; rest = ls.rest }

unfoldable pub lines : ℕ → ℕ → List ℕ → Lines
lines w zero s = record { labels = []; rest = left s }
lines w (suc h) s = let l = line w s in elim l.rest [ left t ↦ after l.labels (lines w h t) | broken ↦ l ]

-- THE HEADER

pub data Header : Type 0 where
  header : ℕ → ℕ → ℕ → List ℕ → Header
  no_header : Header

unfoldable pub read_header : List ℕ → Header
read_header s =
    elim (read_number 4294967295 SPACE s) [
      | bad ↦ no_header
      | got w s₁ ↦ elim (read_number 4294967295 SPACE s₁) [
        | bad ↦ no_header
        | got h s₂ ↦ elim (read_number 4294967295 NEWLINE s₂) [
          | bad ↦ no_header
          | got p s₃ ↦ header w h p s₃
        ]
      ]
    ]
