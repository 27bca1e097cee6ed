-- What is read are words of 32 bits: the paint count, and every label.
use Rattle.std.proofs.Common.{◌≡◌, ℕ, zero, suc, ◌≤◌, Bool, true, false, eqb, ltb, leb, List, [], ◌∷◌, length, refl, arith, leb-true}
use Rattle.rules.specs.Picture.{OUTSIDE}
use Rattle.rules.proofs.CutList.Values.{AtMost, most_append}
use Rattle.text.specs.Grammar.{SPACE, NEWLINE, DOT, Number, number, unreadable, decimal, at_most, label, Word, word, endless, up_to, Read, got, bad, before, reading, read_number, read_label, Rest, left, broken, Lines, more, entries, line, after, lines, Header, header, no_header, read_header}
use Rattle.text.specs.Parse.{Map, Outcome, whole, body, small, parsed}
use Rattle.std.specs.Prelude.{Result, Ok, Err}
use Rattle.lattice.specs.declared.Size.{Size}
use Rattle.text.specs.declared.BadMap.{BadMap}
use Rattle.text.specs.declared.BadMap.TheVariants.{TooBig, BadText}

-- A NUMBER AT MOST b, if one is read

abbrev NumberMost : ℕ → Number → Type 0
NumberMost b (number n) = n ≤ b
NumberMost b unreadable = Unit {0}

abbrev ReadMost : ℕ → Read → Type 0
ReadMost b (got n s) = n ≤ b
ReadMost b bad = Unit {0}

tested : (b : ℕ) (x : Number) → NumberMost b (at_most b x)
unfolding at_most
tested b unreadable = tt
tested b (number n) = go (leb n b) refl
  where
    go : (t : Bool) → leb n b ≡ t → NumberMost b (elim t [ true ↦ number n | false ↦ unreadable ])
    go true e = leb-true n b e
    go false e = tt

looser : (x : Number) → NumberMost 4294967294 x → NumberMost OUTSIDE x
looser (number n) h = omega arith
looser unreadable h = tt

label_word : (w : List ℕ) → NumberMost OUTSIDE (label w)
unfolding label
label_word [] = tt
label_word (b ∷ []) = go (eqb b DOT)
  where
    go : (t : Bool) → NumberMost OUTSIDE (elim t [ true ↦ number OUTSIDE | false ↦ at_most 4294967294 (decimal (b ∷ [])) ])
    go true = omega arith
    go false = looser (at_most 4294967294 (decimal (b ∷ []))) (tested 4294967294 (decimal (b ∷ [])))
label_word (b ∷ c ∷ w) = looser (at_most 4294967294 (decimal (b ∷ c ∷ w))) (tested 4294967294 (decimal (b ∷ c ∷ w)))

module _ (b : ℕ) (f : List ℕ → Number) (h : (w : List ℕ) → NumberMost b (f w)) where
  read_most : (x : Word) → ReadMost b (reading f x)
  unfolding reading before
  read_most endless = tt
  read_most (word w s) = go (f w) (h w)
    where
      go : (x : Number) → NumberMost b x → ReadMost b (before x s)
      go (number n) p = p
      go unreadable p = tt

number_read : (b stop : ℕ) (s : List ℕ) → ReadMost b (read_number b stop s)
unfolding read_number
number_read b stop s = read_most b (λ w. at_most b (decimal w)) (λ w. tested b (decimal w)) (up_to stop s)

label_read : (stop : ℕ) (s : List ℕ) → ReadMost OUTSIDE (read_label stop s)
unfolding read_label
label_read stop s = read_most OUTSIDE label label_word (up_to stop s)

-- LABELS

entries_words : (n : ℕ) (s : List ℕ) → AtMost OUTSIDE (entries n s).labels
unfolding entries
entries_words zero s = go (read_label NEWLINE s) (label_read NEWLINE s)
  where
    go : (r : Read) → ReadMost OUTSIDE r → AtMost OUTSIDE (elim r as (λ _. Lines) [ got l t ↦ record { labels = l ∷ []; rest = left t } | bad ↦ record { labels = []; rest = broken } ]).labels
    go (got l t) h = (h, tt)
    go bad h = tt
entries_words (suc n) s = go (read_label SPACE s) (label_read SPACE s) (λ t. entries_words n t)
  where
    go : (r : Read) → ReadMost OUTSIDE r → ((t : List ℕ) → AtMost OUTSIDE (entries n t).labels)
        → AtMost OUTSIDE (elim r as (λ _. Lines) [ got l t ↦ more l (entries n t) | bad ↦ record { labels = []; rest = broken } ]).labels
    go (got l t) h f = (h, f t)
    go bad h f = tt

line_words : (n : ℕ) (s : List ℕ) → AtMost OUTSIDE (line n s).labels
unfolding line
line_words zero [] = tt
line_words zero (b ∷ s) = go (eqb b NEWLINE)
  where
    go : (t : Bool) → AtMost OUTSIDE (elim t as (λ _. Lines) [ true ↦ record { labels = []; rest = left s } | false ↦ record { labels = []; rest = broken } ]).labels
    go true = tt
    go false = tt
line_words (suc n) s = entries_words n s

lines_words : (w h : ℕ) (s : List ℕ) → AtMost OUTSIDE (lines w h s).labels
unfolding lines after
lines_words w zero s = tt
lines_words w (suc h) s = go (line w s).rest (λ t. lines_words w h t)
  where
    go : (r : Rest) → ((t : List ℕ) → AtMost OUTSIDE (lines w h t).labels)
        → AtMost OUTSIDE (elim r as (λ _. Lines) [ left t ↦ after (line w s).labels (lines w h t) | broken ↦ line w s ]).labels
    go (left t) f = most_append OUTSIDE (line w s).labels (lines w h t).labels (line_words w s) (f t)
    go broken f = line_words w s

-- THE PAINT COUNT

abbrev HeaderMost : Header → Type 0
HeaderMost (header w h p s) = p ≤ OUTSIDE
HeaderMost no_header = Unit {0}

header_words : (s : List ℕ) → HeaderMost (read_header s)
unfolding read_header
header_words s = go₁ (read_number 4294967295 SPACE s)
  where
    go₃ : (w h : ℕ) (r : Read) → ReadMost OUTSIDE r → HeaderMost (elim r [ bad ↦ no_header | got p s₃ ↦ header w h p s₃ ])
    go₃ w h (got p t) m = m
    go₃ w h bad m = tt

    go₂ : (w : ℕ) (r : Read) → HeaderMost (elim r [ bad ↦ no_header | got h s₂ ↦ elim (read_number 4294967295 NEWLINE s₂) [ bad ↦ no_header | got p s₃ ↦ header w h p s₃ ] ])
    go₂ w (got h t) = go₃ w h (read_number 4294967295 NEWLINE t) (number_read 4294967295 NEWLINE t)
    go₂ w bad = tt

    go₁ : (r : Read) → HeaderMost (elim r [ bad ↦ no_header | got w s₁ ↦ elim (read_number 4294967295 SPACE s₁) [ bad ↦ no_header | got h s₂ ↦ elim (read_number 4294967295 NEWLINE s₂) [ bad ↦ no_header | got p s₃ ↦ header w h p s₃ ] ] ])
    go₁ (got w t) = go₂ w (read_number 4294967295 SPACE t)
    go₁ bad = tt

-- ALL OF IT

abbrev pub PaintsMost : Result Size BadMap → Type 0
PaintsMost (Ok s) = (s.paints ≤ OUTSIDE) × (s.bound ≡ OUTSIDE)
PaintsMost (Err e) = Unit {0}

pub record ReadsWords (o : Outcome) : Type 0 where
  pub paints : PaintsMost o.answer
  pub labels : AtMost OUTSIDE o.labels

nothing : (r : Result Size BadMap) → PaintsMost r → ReadsWords (record { answer = r; labels = [] })
nothing r h = record { paints = h; labels = tt }

whole_words : (w h p : ℕ) (r : Rest) → p ≤ OUTSIDE → PaintsMost (whole (Map w h p) r)
unfolding whole
whole_words w h p (left []) m = (m, refl)
whole_words w h p (left (b ∷ s)) m = tt
whole_words w h p broken m = tt

small_words : (x : Header) → HeaderMost x → ReadsWords (small x)
unfolding small body
small_words no_header m = nothing (Err BadText) tt
small_words (header w h p s) m = go (ltb 16 w) (ltb 16 h)
  where
    go : (a b : Bool) → ReadsWords (elim a as (λ _. Outcome) [ true ↦ record { answer = Err TooBig; labels = [] } | false ↦ elim b as (λ _. Outcome) [ true ↦ record { answer = Err TooBig; labels = [] } | false ↦ body w h p s ] ])
    go true b = nothing (Err TooBig) tt
    go false true = nothing (Err TooBig) tt
    go false false = record { paints = whole_words w h p (lines w h s).rest m; labels = lines_words w h s }

pub parsed_words : (s : List ℕ) → ReadsWords (parsed s)
unfolding parsed
parsed_words s = go (ltb 4096 (length s))
  where
    go : (a : Bool) → ReadsWords (elim a as (λ _. Outcome) [ true ↦ record { answer = Err TooBig; labels = [] } | false ↦ small (read_header s) ])
    go true = nothing (Err TooBig) tt
    go false = small_words (read_header s) (header_words s)
