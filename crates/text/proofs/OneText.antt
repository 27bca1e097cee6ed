-- Nothing but the text of a map is read as that map.
use Rattle.std.proofs.Common.{◌≡◌, ℕ, zero, suc, ◌<◌, ◌≤◌, Bool, true, false, eqb, leb, List, [], ◌∷◌, ◌++◌, length, sym, refl, ap, ◌∙◌, ap₂, append_assoc, append-nil, arith, take_at, drop_at, eqb-true, leb-true}
use Rattle.rules.specs.Picture.{OUTSIDE}
use Rattle.text.specs.Grammar.{SPACE, NEWLINE, DOT, Number, number, unreadable, decimal, at_most, label, Word, word, endless, longer, up_to, Read, got, bad, before, reading, read_number, read_label, Rest, left, broken, Lines, more, entries, line, after, lines, Header, header, no_header, read_header}
use Rattle.text.specs.Parse.{parsed}
use Rattle.text.specs.Output.{shown}
use Rattle.text.specs.Written.{entry_of, line_of, lines_of, text_of}
use Rattle.text.specs.Parse.{Map}
use Rattle.text.proofs.Decimals.{only_shown}
use Rattle.text.proofs.Entries.{entries_length, line_length}
use Rattle.text.proofs.MapFacts.{parsed_map}
use Rattle.text.proofs.RoundTrip.{entry_outside, entry_shown}

-- WORDS

up_to_only : (stop : ℕ) (s w t : List ℕ) → up_to stop s ≡ word w t → s ≡ w ++ (stop ∷ t)
unfolding up_to longer
up_to_only stop [] w t e = let z : ◌≡◌ {A = ℕ} 0 1 = cc in absurd (omega arith)
up_to_only stop (b ∷ s) w t e = go (eqb b stop) refl (up_to stop s) (up_to_only stop s) e
  where
    go : (p : Bool) → eqb b stop ≡ p → (x : Word) → ((v u : List ℕ) → x ≡ word v u → s ≡ v ++ (stop ∷ u))
        → (elim p as (λ _. Word) [ true ↦ word [] s | false ↦ longer b x ]) ≡ word w t → b ∷ s ≡ w ++ (stop ∷ t)
    go true q x f e =
        let none : [] ≡ w = cc in
        let rest : s ≡ t = cc in
        ap₂ (λ (c : ℕ) (l : List ℕ). c ∷ l) (eqb-true b stop q) rest ∙ ap (λ (l : List ℕ). l ++ (stop ∷ t)) none
    go false q (word v u) f e =
        let more : b ∷ v ≡ w = cc in
        let rest : u ≡ t = cc in
        ap (λ (l : List ℕ). b ∷ l) (f v u refl) ∙ ap (λ (l : List ℕ). b ∷ (v ++ (stop ∷ l))) rest ∙ ap (λ (l : List ℕ). l ++ (stop ∷ t)) more
    go false q endless f e = let z : ◌≡◌ {A = ℕ} 0 1 = cc in absurd (omega arith)

-- what is read as n by f is g n, so the text starts with it
reading_only : (f : List ℕ → Number) (g : ℕ → List ℕ) → ((w : List ℕ) (n : ℕ) → f w ≡ number n → w ≡ g n) → (stop : ℕ) (s : List ℕ) (n : ℕ) (t : List ℕ)
    → reading f (up_to stop s) ≡ got n t → s ≡ g n ++ (stop ∷ t)
unfolding reading before
reading_only f g only stop s n t e = go (up_to stop s) refl e
  where
    one : (w u : List ℕ) (x : Number) → f w ≡ x → up_to stop s ≡ word w u → before x u ≡ got n t → s ≡ g n ++ (stop ∷ t)
    one w u (number k) p q e =
        let same : k ≡ n = cc in
        let rest : u ≡ t = cc in
        up_to_only stop s w u q ∙ ap₂ (λ (l m : List ℕ). l ++ (stop ∷ m)) (only w k p ∙ ap g same) rest
    one w u unreadable p q e = let z : ◌≡◌ {A = ℕ} 0 1 = cc in absurd (omega arith)

    go : (x : Word) → up_to stop s ≡ x → reading f x ≡ got n t → s ≡ g n ++ (stop ∷ t)
    go (word w u) q e = one w u (f w) refl q e
    go endless q e = let z : ◌≡◌ {A = ℕ} 0 1 = cc in absurd (omega arith)

-- a number below the limit is read as it was
most_only : (most : ℕ) (x : Number) (n : ℕ) → at_most most x ≡ number n → (x ≡ number n) × (n ≤ most)
unfolding at_most
most_only most unreadable n e = let z : ◌≡◌ {A = ℕ} 0 1 = cc in absurd (omega arith)
most_only most (number k) n e = go (leb k most) refl e
  where
    go : (p : Bool) → leb k most ≡ p → (elim p as (λ _. Number) [ true ↦ number k | false ↦ unreadable ]) ≡ number n → (number k ≡ number n) × (n ≤ most)
    go true q e = let same : k ≡ n = cc in let h = leb-true k most q in (e, omega arith)
    go false q e = let z : ◌≡◌ {A = ℕ} 0 1 = cc in absurd (omega arith)

number_only : (most stop : ℕ) (s : List ℕ) (n : ℕ) (t : List ℕ) → read_number most stop s ≡ got n t → s ≡ shown n ++ (stop ∷ t)
unfolding read_number
number_only most stop s n t e = reading_only (λ w. at_most most (decimal w)) shown (λ w k p. only_shown w k (most_only most (decimal w) k p).0) stop s n t e

-- ENTRIES

label_only : (w : List ℕ) (l : ℕ) → label w ≡ number l → w ≡ entry_of l
unfolding label
label_only [] l e = let z : ◌≡◌ {A = ℕ} 0 1 = cc in absurd (omega arith)
label_only (b ∷ []) l e = go (eqb b DOT) refl e
  where
    go : (p : Bool) → eqb b DOT ≡ p → (elim p as (λ _. Number) [ true ↦ number OUTSIDE | false ↦ at_most 4294967294 (decimal (b ∷ [])) ]) ≡ number l → b ∷ [] ≡ entry_of l
    go true q e = let same : OUTSIDE ≡ l = cc in ap (λ (c : ℕ). c ∷ []) (eqb-true b DOT q) ∙ sym (entry_outside l (sym same))
    go false q e =
        let r = most_only 4294967294 (decimal (b ∷ [])) l e in
        let h = r.1 in
        only_shown (b ∷ []) l r.0 ∙ sym (entry_shown l (λ z. omega arith))
label_only (b ∷ c ∷ w) l e =
    let r = most_only 4294967294 (decimal (b ∷ c ∷ w)) l e in
    let h = r.1 in
    only_shown (b ∷ c ∷ w) l r.0 ∙ sym (entry_shown l (λ z. omega arith))

entry_only : (stop : ℕ) (s : List ℕ) (l : ℕ) (t : List ℕ) → read_label stop s ≡ got l t → s ≡ entry_of l ++ (stop ∷ t)
unfolding read_label
entry_only stop s l t e = reading_only label entry_of label_only stop s l t e

-- LINES

abbrev Only : Lines → List ℕ → (List ℕ → List ℕ) → Type 0
Only x s g = (t : List ℕ) → x.rest ≡ left t → s ≡ g x.labels ++ t

entries_only : (n : ℕ) (s : List ℕ) → Only (entries n s) s line_of
unfolding entries line_of
entries_only zero s t e = go (read_label NEWLINE s) refl e
  where
    go : (r : Read) → read_label NEWLINE s ≡ r
        → (elim r as (λ _. Lines) [ got l u ↦ record { labels = l ∷ []; rest = left u } | bad ↦ record { labels = []; rest = broken } ]).rest ≡ left t
        → s ≡ line_of (elim r as (λ _. Lines) [ got l u ↦ record { labels = l ∷ []; rest = left u } | bad ↦ record { labels = []; rest = broken } ]).labels ++ t
    go (got l u) q e =
        let rest : u ≡ t = cc in
        entry_only NEWLINE s l u q ∙ ap (λ (v : List ℕ). entry_of l ++ (NEWLINE ∷ v)) rest ∙ sym (append_assoc (entry_of l) (NEWLINE ∷ []) t)
    go bad q e = let z : ◌≡◌ {A = ℕ} 0 1 = cc in absurd (omega arith)
entries_only (suc n) s t e = go (read_label SPACE s) refl (λ u. entries_only n u t) e
  where
    -- an entry before others
    longer_line : (l : ℕ) (ls u : List ℕ) → s ≡ entry_of l ++ (SPACE ∷ u) → u ≡ line_of ls ++ t → 0 < length ls → s ≡ line_of (l ∷ ls) ++ t
    longer_line l [] u q f h = absurd (omega arith)
    longer_line l (m ∷ ls) u q f h = q ∙ ap (λ (v : List ℕ). entry_of l ++ (SPACE ∷ v)) f ∙ sym (append_assoc (entry_of l) (SPACE ∷ line_of (m ∷ ls)) t)

    go : (r : Read) → read_label SPACE s ≡ r → ((u : List ℕ) → (entries n u).rest ≡ left t → u ≡ line_of (entries n u).labels ++ t)
        → (elim r as (λ _. Lines) [ got l u ↦ more l (entries n u) | bad ↦ record { labels = []; rest = broken } ]).rest ≡ left t
        → s ≡ line_of (elim r as (λ _. Lines) [ got l u ↦ more l (entries n u) | bad ↦ record { labels = []; rest = broken } ]).labels ++ t
    go (got l u) q ih e = longer_line l (entries n u).labels u (entry_only SPACE s l u q) (ih u e) (omega (arith, entries_length n u t e))
    go bad q ih e = let z : ◌≡◌ {A = ℕ} 0 1 = cc in absurd (omega arith)

line_only : (w : ℕ) (s : List ℕ) → Only (line w s) s line_of
unfolding line line_of
line_only zero [] t e = let z : ◌≡◌ {A = ℕ} 0 1 = cc in absurd (omega arith)
line_only zero (b ∷ s) t e = go (eqb b NEWLINE) refl e
  where
    go : (p : Bool) → eqb b NEWLINE ≡ p → (elim p as (λ _. Lines) [ true ↦ record { labels = []; rest = left s } | false ↦ record { labels = []; rest = broken } ]).rest ≡ left t
        → b ∷ s ≡ line_of (elim p as (λ _. Lines) [ true ↦ record { labels = []; rest = left s } | false ↦ record { labels = []; rest = broken } ]).labels ++ t
    go true q e = let rest : s ≡ t = cc in ap₂ (λ (c : ℕ) (l : List ℕ). c ∷ l) (eqb-true b NEWLINE q) rest
    go false q e = let z : ◌≡◌ {A = ℕ} 0 1 = cc in absurd (omega arith)
line_only (suc w) s t e = entries_only w s t e

lines_only : (w h : ℕ) (s : List ℕ) → Only (lines w h s) s (lines_of w h)
unfolding lines lines_of after
lines_only w zero s t e = cc
lines_only w (suc h) s t e = go (line w s).rest refl (λ u. lines_only w h u t) e
  where
    go : (r : Rest) → (line w s).rest ≡ r → ((u : List ℕ) → (lines w h u).rest ≡ left t → u ≡ lines_of w h (lines w h u).labels ++ t)
        → (elim r as (λ _. Lines) [ left u ↦ after (line w s).labels (lines w h u) | broken ↦ line w s ]).rest ≡ left t
        → s ≡ lines_of w (suc h) (elim r as (λ _. Lines) [ left u ↦ after (line w s).labels (lines w h u) | broken ↦ line w s ]).labels ++ t
    go (left u) q ih e =
        let first = (line w s).labels in
        let others = (lines w h u).labels in
        let long = line_length w s u q in
        let front = take_at first others w long in
        let back = drop_at first others w long in
        line_only w s u q ∙ ap (λ (v : List ℕ). line_of first ++ v) (ih u e) ∙ sym (append_assoc (line_of first) (lines_of w h others) t)
        ∙ sym (λ i. (line_of (front i) ++ lines_of w h (back i)) ++ t)
    go broken q ih e = let z : ◌≡◌ {A = ℕ} 0 1 = cc in absurd (omega arith)

-- THE MAP

header_only : (s : List ℕ) (w h p : ℕ) (t : List ℕ) → read_header s ≡ header w h p t
    → s ≡ shown w ++ (SPACE ∷ (shown h ++ (SPACE ∷ (shown p ++ (NEWLINE ∷ t)))))
unfolding read_header
header_only s w h p t e = one (read_number 4294967295 SPACE s) refl e
  where
    three : (a b : ℕ) (s₁ s₂ : List ℕ) → s ≡ shown a ++ (SPACE ∷ s₁) → s₁ ≡ shown b ++ (SPACE ∷ s₂) → (r : Read) → read_number 4294967295 NEWLINE s₂ ≡ r
        → (elim r as (λ _. Header) [ bad ↦ no_header | got c s₃ ↦ header a b c s₃ ]) ≡ header w h p t
        → s ≡ shown w ++ (SPACE ∷ (shown h ++ (SPACE ∷ (shown p ++ (NEWLINE ∷ t)))))
    three a b s₁ s₂ x y bad q e = let z : ◌≡◌ {A = ℕ} 0 1 = cc in absurd (omega arith)
    three a b s₁ s₂ x y (got c s₃) q e =
        let wide : a ≡ w = cc in
        let tall : b ≡ h = cc in
        let paints : c ≡ p = cc in
        let rest : s₃ ≡ t = cc in
        x ∙ ap (λ (l : List ℕ). shown a ++ (SPACE ∷ l)) (y ∙ ap (λ (l : List ℕ). shown b ++ (SPACE ∷ l)) (number_only 4294967295 NEWLINE s₂ c s₃ q))
        ∙ (λ i. shown (wide i) ++ (SPACE ∷ (shown (tall i) ++ (SPACE ∷ (shown (paints i) ++ (NEWLINE ∷ rest i))))))

    two : (a : ℕ) (s₁ : List ℕ) → s ≡ shown a ++ (SPACE ∷ s₁) → (r : Read) → read_number 4294967295 SPACE s₁ ≡ r
        → (elim r as (λ _. Header) [ bad ↦ no_header | got b s₂ ↦ elim (read_number 4294967295 NEWLINE s₂) as (λ _. Header) [ bad ↦ no_header | got c s₃ ↦ header a b c s₃ ] ]) ≡ header w h p t
        → s ≡ shown w ++ (SPACE ∷ (shown h ++ (SPACE ∷ (shown p ++ (NEWLINE ∷ t)))))
    two a s₁ x bad q e = let z : ◌≡◌ {A = ℕ} 0 1 = cc in absurd (omega arith)
    two a s₁ x (got b s₂) q e = three a b s₁ s₂ x (number_only 4294967295 SPACE s₁ b s₂ q) (read_number 4294967295 NEWLINE s₂) refl e

    one : (r : Read) → read_number 4294967295 SPACE s ≡ r
        → (elim r as (λ _. Header) [
          | bad ↦ no_header
          | got a s₁ ↦ elim (read_number 4294967295 SPACE s₁) as (λ _. Header) [
            | bad ↦ no_header
            | got b s₂ ↦ elim (read_number 4294967295 NEWLINE s₂) as (λ _. Header) [ bad ↦ no_header | got c s₃ ↦ header a b c s₃ ]
          ]
        ]) ≡ header w h p t
        → s ≡ shown w ++ (SPACE ∷ (shown h ++ (SPACE ∷ (shown p ++ (NEWLINE ∷ t)))))
    one bad q e = let z : ◌≡◌ {A = ℕ} 0 1 = cc in absurd (omega arith)
    one (got a s₁) q e = two a s₁ (number_only 4294967295 SPACE s a s₁ q) (read_number 4294967295 SPACE s₁) refl e

pub only_text : (s : List ℕ) (w h p : ℕ) → (parsed s).answer ≡ Map w h p → s ≡ text_of (record { width = w; height = h; paints = p; bound = OUTSIDE; labels = (parsed s).labels })
unfolding text_of
only_text s w h p e =
    let m = parsed_map w h p s e in
    let body = lines_only w h m.rest [] m.ended ∙ append-nil (lines_of w h (lines w h m.rest).labels) ∙ ap (lines_of w h) (sym m.read) in
    header_only s w h p m.rest m.headed ∙ ap (λ (l : List ℕ). shown w ++ (SPACE ∷ (shown h ++ (SPACE ∷ (shown p ++ (NEWLINE ∷ l)))))) body
