-- The lines of the text, entry by entry, and what the store holds after each.
use Rattle.std.proofs.Common.{◌≡◌, ℕ, zero, suc, ◌+◌, ◌-◌, ◌<◌, ◌≤◌, Bool, true, false, List, [], ◌∷◌, length, set, sym, refl, ap, ◌∙◌, add-zero, arith, length-set, eq-eqb, ne_eqb}
use lib.Seq.{sets, length-sets}
use Rattle.store.proofs.Writes.{sets_append}
use Rattle.text.specs.Grammar.{SPACE, NEWLINE, Read, got, bad, read_number, read_label, left, broken, Lines, more, entries, line, after, lines, header, no_header, read_header}
use Rattle.text.specs.Places.{PlaceIs, LinesRead}
use Rattle.std.specs.Prelude.{Option}

-- THE HEADER

module _ (s : List ℕ) where
  pub header_1 : read_number 4294967295 SPACE s ≡ bad → read_header s ≡ no_header
  unfolding read_header
  header_1 e = rw (e, read_header)

  module _ (w : ℕ) (s₁ : List ℕ) (e₁ : read_number 4294967295 SPACE s ≡ got w s₁) where
    pub header_2 : read_number 4294967295 SPACE s₁ ≡ bad → read_header s ≡ no_header
    unfolding read_header
    header_2 e = rw (e₁, read_header) (rw (e, read_header))

    module _ (h : ℕ) (s₂ : List ℕ) (e₂ : read_number 4294967295 SPACE s₁ ≡ got h s₂) where
      pub header_3 : read_number 4294967295 NEWLINE s₂ ≡ bad → read_header s ≡ no_header
      unfolding read_header
      header_3 e = rw (e₁, read_header) (rw (e₂, read_header) (rw (e, read_header)))

      pub header_good : (p : ℕ) (s₃ : List ℕ) → read_number 4294967295 NEWLINE s₂ ≡ got p s₃ → read_header s ≡ header w h p s₃
      unfolding read_header
      header_good p s₃ e = rw (e₁, read_header) (rw (e₂, read_header) (rw (e, read_header)))

-- A LINE WITH NO ENTRY

pub line_none_end : (line 0 []).rest ≡ broken
unfolding line
line_none_end = refl

pub line_none_newline : (b : ℕ) (s : List ℕ) → b ≡ 10 → (line 0 (b ∷ s)).rest ≡ left s
unfolding line
line_none_newline b s e = rw (eq-eqb b 10 e, line)

pub line_none_other : (b : ℕ) (s : List ℕ) → (b ≡ 10 → ⊥) → (line 0 (b ∷ s)).rest ≡ broken
unfolding line
line_none_other b s e = rw (ne_eqb b 10 e, line)

pub line_none_labels : (s : List ℕ) → (line 0 s).labels ≡ []
unfolding line
line_none_labels [] = refl
line_none_labels (b ∷ s) = go (lib.Dec.eqb b NEWLINE)
  where
    go : (t : Bool) → (elim t as (λ _. Lines) [ true ↦ record { labels = []; rest = left s } | false ↦ record { labels = []; rest = broken } ]).labels ≡ []
    go true = refl
    go false = refl

-- ENTRIES

abbrev nothing : Lines
nothing = record { labels = []; rest = broken }

module _ (n : ℕ) (s : List ℕ) where
  pub entry_bad : read_label SPACE s ≡ bad → entries (suc n) s ≡ nothing
  unfolding entries
  entry_bad e = rw (e, entries)

  pub entry_got : (l : ℕ) (t : List ℕ) → read_label SPACE s ≡ got l t → entries (suc n) s ≡ more l (entries n t)
  unfolding entries
  entry_got l t e = rw (e, entries)

module _ (s : List ℕ) where
  pub last_bad : read_label NEWLINE s ≡ bad → entries 0 s ≡ nothing
  unfolding entries
  last_bad e = rw (e, entries)

  pub last_got : (l : ℕ) (t : List ℕ) → read_label NEWLINE s ≡ got l t → entries 0 s ≡ record { labels = l ∷ []; rest = left t }
  unfolding entries
  last_got l t e = rw (e, entries)

pub line_some : (n : ℕ) (s : List ℕ) → 0 < n → line n s ≡ entries (n - 1) s
unfolding line
line_some n s h = let e : n ≡ suc (n - 1) = omega arith in ap (λ (k : ℕ). line k s) e

-- as many labels as the line is wide
pub entries_length : (n : ℕ) (s t : List ℕ) → (entries n s).rest ≡ left t → length (entries n s).labels ≡ suc n
unfolding entries
entries_length zero s t e = go (read_label NEWLINE s) e
  where
    go : (r : Read) → (elim r as (λ _. Lines) [ got l u ↦ record { labels = l ∷ []; rest = left u } | bad ↦ record { labels = []; rest = broken } ]).rest ≡ left t
        → length (elim r as (λ _. Lines) [ got l u ↦ record { labels = l ∷ []; rest = left u } | bad ↦ record { labels = []; rest = broken } ]).labels ≡ 1
    go (got l u) e = refl
    go bad e = let z : ◌≡◌ {A = ℕ} 0 1 = cc in omega arith
entries_length (suc n) s t e = go (read_label SPACE s) (λ u. entries_length n u t) e
  where
    go : (r : Read) → ((u : List ℕ) → (entries n u).rest ≡ left t → length (entries n u).labels ≡ suc n)
        → (elim r as (λ _. Lines) [ got l u ↦ more l (entries n u) | bad ↦ record { labels = []; rest = broken } ]).rest ≡ left t
        → length (elim r as (λ _. Lines) [ got l u ↦ more l (entries n u) | bad ↦ record { labels = []; rest = broken } ]).labels ≡ suc (suc n)
    go (got l u) ih e = ap suc (ih u e)
    go bad ih e = let z : ◌≡◌ {A = ℕ} 0 1 = cc in omega arith

pub line_length : (n : ℕ) (s t : List ℕ) → (line n s).rest ≡ left t → length (line n s).labels ≡ n
unfolding line
line_length zero s t e = ap length (line_none_labels s)
line_length (suc n) s t e = entries_length n s t e

-- THE TURNS OF A LINE: what is stored of the whole line is what is stored of the rest of it

-- `left` of a line to come: x entries are stored, and the rest of them are read from s
pub record Going (whole : Lines) (store₀ : List ℕ) (base : ℕ) (rest : Lines) (store : List ℕ) (place : ℕ) : Type 0 where
  pub long : length store ≡ length store₀
  pub stored : sets store₀ base whole.labels ≡ sets store place rest.labels
  pub same : whole.rest ≡ rest.rest

pub line_starts : (w : ℕ) (s store : List ℕ) (base : ℕ) → 0 < w → Going (line w s) store base (entries (w - 1 - 0) s) store (base + 0)
line_starts w s store base h =
    let e : w - 1 - 0 ≡ w - 1 = omega arith in
    rw (line_some w s h, e, add-zero) (record { long = refl; stored = refl; same = refl })

module _ (whole : Lines) (store₀ : List ℕ) (base : ℕ) (w : ℕ) (s store : List ℕ) (x : ℕ) (g : Going whole store₀ base (entries (w - 1 - x) s) store (base + x)) where
  module _ (h : x + 1 < w) where
    pub line_goes : (v : ℕ) (t : List ℕ) → read_label SPACE s ≡ got v t → Going whole store₀ base (entries (w - 1 - (x + 1)) t) (set store (base + x) v) (base + (x + 1))
    line_goes v t e =
        let k : w - 1 - x ≡ suc (w - 1 - (x + 1)) = omega arith in
        let j : base + (x + 1) ≡ suc (base + x) = omega arith in
        let f : entries (w - 1 - x) s ≡ more v (entries (w - 1 - (x + 1)) t) = ap (λ (n : ℕ). entries n s) k ∙ entry_got (w - 1 - (x + 1)) s v t e in
        rw j (record {
          long = length-set store (base + x) v ∙ g.long;
          stored = g.stored ∙ ap (λ (l : Lines). sets store (base + x) l.labels) f;
          same = g.same ∙ ap (λ (l : Lines). l.rest) f;
        })

    pub line_stops : read_label SPACE s ≡ bad → (whole.rest ≡ broken) × (store ≡ sets store₀ base whole.labels)
    line_stops e =
        let k : w - 1 - x ≡ suc (w - 1 - (x + 1)) = omega arith in
        let f : entries (w - 1 - x) s ≡ nothing = ap (λ (n : ℕ). entries n s) k ∙ entry_bad (w - 1 - (x + 1)) s e in
        (g.same ∙ ap (λ (l : Lines). l.rest) f, sym (g.stored ∙ ap (λ (l : Lines). sets store (base + x) l.labels) f))

  module _ (h : x < w) (k : w ≤ x + 1) where
    pub line_ends : (v : ℕ) (t : List ℕ) → read_label NEWLINE s ≡ got v t → (whole.rest ≡ left t) × (set store (base + x) v ≡ sets store₀ base whole.labels)
    line_ends v t e =
        let z : w - 1 - x ≡ 0 = omega arith in
        let f : entries (w - 1 - x) s ≡ record { labels = v ∷ []; rest = left t } = ap (λ (n : ℕ). entries n s) z ∙ last_got s v t e in
        (g.same ∙ ap (λ (l : Lines). l.rest) f, sym (g.stored ∙ ap (λ (l : Lines). sets store (base + x) l.labels) f))

    pub line_fails : read_label NEWLINE s ≡ bad → (whole.rest ≡ broken) × (store ≡ sets store₀ base whole.labels)
    line_fails e =
        let z : w - 1 - x ≡ 0 = omega arith in
        let f : entries (w - 1 - x) s ≡ nothing = ap (λ (n : ℕ). entries n s) z ∙ last_bad s e in
        (g.same ∙ ap (λ (l : Lines). l.rest) f, sym (g.stored ∙ ap (λ (l : Lines). sets store (base + x) l.labels) f))

pub newline_read : (text s store : List ℕ) (base w : ℕ) (r : Option ℕ) → w ≡ 0 → PlaceIs text (line 0 s).rest r → LinesRead text (line w s) store base store r
newline_read text s store base w r e h = rw e (record { place = h; stored = ap (sets store base) (sym (line_none_labels s)) })

-- THE LINES, one after the other

module _ (w n : ℕ) (s : List ℕ) where
  pub lines_more : (t : List ℕ) → (line w s).rest ≡ left t → lines w (suc n) s ≡ after (line w s).labels (lines w n t)
  unfolding lines
  lines_more t e = rw (e, lines)

  pub lines_broken : (line w s).rest ≡ broken → lines w (suc n) s ≡ line w s
  unfolding lines
  lines_broken e = rw (e, lines) (λ i. record { labels = (line w s).labels; rest = e i })

module _ (whole : Lines) (store₀ : List ℕ) (w h : ℕ) (s store : List ℕ) (k y : ℕ) (g : Going whole store₀ 0 (lines w (h - y) s) store k) where
  module _ (m : y < h) (store' : List ℕ) (q : store' ≡ sets store k (line w s).labels) where
    pub lines_long : length store' ≡ length store₀
    lines_long = ap length q ∙ (length-sets store k (line w s).labels ∙ g.long)

    pub lines_goes : (t : List ℕ) → (line w s).rest ≡ left t → Going whole store₀ 0 (lines w (h - (y + 1)) t) store' (k + w)
    unfolding after
    lines_goes t e =
        let i : h - y ≡ suc (h - (y + 1)) = omega arith in
        let f : lines w (h - y) s ≡ after (line w s).labels (lines w (h - (y + 1)) t) = ap (λ (n : ℕ). lines w n s) i ∙ lines_more w (h - (y + 1)) s t e in
        record {
          long = lines_long;
          stored =
              g.stored ∙ (ap (λ (l : Lines). sets store k l.labels) f ∙ (sets_append store k (line w s).labels (lines w (h - (y + 1)) t).labels
              ∙ (ap (λ (n : ℕ). sets (sets store k (line w s).labels) (k + n) (lines w (h - (y + 1)) t).labels) (line_length w s t e)
              ∙ ap (λ (l : List ℕ). sets l (k + w) (lines w (h - (y + 1)) t).labels) (sym q))));
          same = g.same ∙ ap (λ (l : Lines). l.rest) f;
        }

    pub lines_stops : (line w s).rest ≡ broken → (whole.rest ≡ broken) × (store' ≡ sets store₀ 0 whole.labels)
    lines_stops e =
        let i : h - y ≡ suc (h - (y + 1)) = omega arith in
        let f : lines w (h - y) s ≡ line w s = ap (λ (n : ℕ). lines w n s) i ∙ lines_broken w (h - (y + 1)) s e in
        (g.same ∙ (ap (λ (l : Lines). l.rest) f ∙ e), q ∙ sym (g.stored ∙ ap (λ (l : Lines). sets store k l.labels) f))

  pub lines_ends : h ≤ y → (whole.rest ≡ left s) × (store ≡ sets store₀ 0 whole.labels)
  unfolding lines
  lines_ends m =
      let z : h - y ≡ 0 = omega arith in
      let f : lines w (h - y) s ≡ lines w 0 s = ap (λ (n : ℕ). lines w n s) z in
      (g.same ∙ ap (λ (l : Lines). l.rest) f, sym (g.stored ∙ ap (λ (l : Lines). sets store k l.labels) f))
