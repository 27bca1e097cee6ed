-- What a text that is parsed as a map gives: sides of 16 at most, and as many labels as there are pixels.
use Rattle.std.proofs.Common.{◌≡◌, ℕ, zero, suc, ◌*◌, ◌≤◌, Bool, true, false, ltb, List, [], ◌∷◌, length, sym, refl, ap, ◌∙◌, suc-mul, mul_comm, zero-mul, arith, length-append, ltb-false}
use Rattle.text.specs.Grammar.{Header, header, no_header, read_header, Rest, left, broken, Lines, line, after, lines}
use Rattle.std.specs.Prelude.{Err}
use Rattle.rules.specs.Picture.{OUTSIDE}
use Rattle.lattice.specs.declared.Size.{Size}
use Rattle.text.specs.Parse.{Map, Outcome, whole, body, small, parsed}
use Rattle.text.specs.declared.BadMap.TheVariants.{TooBig}
use Rattle.text.proofs.Entries.{line_length}

pub lines_count : (w h : ℕ) (s t : List ℕ) → (lines w h s).rest ≡ left t → length (lines w h s).labels ≡ h * w
unfolding lines after
lines_count w zero s t e = sym (zero-mul w)
lines_count w (suc h) s t e = go (line w s).rest refl (λ u. lines_count w h u t) e
  where
    go : (r : Rest) → (line w s).rest ≡ r → ((u : List ℕ) → (lines w h u).rest ≡ left t → length (lines w h u).labels ≡ h * w)
        → (elim r as (λ _. Lines) [ left u ↦ after (line w s).labels (lines w h u) | broken ↦ line w s ]).rest ≡ left t
        → length (elim r as (λ _. Lines) [ left u ↦ after (line w s).labels (lines w h u) | broken ↦ line w s ]).labels ≡ suc h * w
    go (left u) q ih e =
        let l = length-append (line w s).labels (lines w h u).labels in
        let m = line_length w s u q in
        let n = ih u e in
        rw suc-mul (omega arith)
    go broken q ih e = let z : ◌≡◌ {A = ℕ} 0 1 = cc in absurd (omega arith)

pub record IsMap (w h p : ℕ) (x : Header) (labels : List ℕ) : Type 0 where
  pub narrow : w ≤ 16
  pub low : h ≤ 16
  pub rest : List ℕ
  pub headed : x ≡ header w h p rest
  pub ended : (lines w h rest).rest ≡ left []
  pub read : labels ≡ (lines w h rest).labels
  pub count : length labels ≡ w * h

module _ (w h p : ℕ) where
  whole_map : (v k o : ℕ) (r : Rest) → whole (Map v k o) r ≡ Map w h p → (r ≡ left []) × (v ≡ w) × (k ≡ h) × (o ≡ p)
  unfolding whole
  whole_map v k o (left []) e =
      let q : ◌≡◌ {A = Size} (record { width = v; height = k; paints = o; bound = OUTSIDE }) (record { width = w; height = h; paints = p; bound = OUTSIDE }) = cc in
      (refl, ap (λ (s : Size). s.width) q, ap (λ (s : Size). s.height) q, ap (λ (s : Size). s.paints) q)
  whole_map v k o (left (b ∷ s)) e = let z : ◌≡◌ {A = ℕ} 0 1 = cc in absurd (omega arith)
  whole_map v k o broken e = let z : ◌≡◌ {A = ℕ} 0 1 = cc in absurd (omega arith)

  small_map : (x : Header) → (small x).answer ≡ Map w h p → IsMap w h p x (small x).labels
  unfolding small body
  small_map no_header e = let z : ◌≡◌ {A = ℕ} 0 1 = cc in absurd (omega arith)
  small_map (header v k o s) e = go (ltb 16 v) refl (ltb 16 k) refl e
    where
      go : (a : Bool) → ltb 16 v ≡ a → (b : Bool) → ltb 16 k ≡ b
          → (elim a as (λ _. Outcome) [ true ↦ record { answer = Err TooBig; labels = [] } | false ↦ elim b as (λ _. Outcome) [ true ↦ record { answer = Err TooBig; labels = [] } | false ↦ body v k o s ] ]).answer ≡ Map w h p
          → IsMap w h p (header v k o s) (elim a as (λ _. Outcome) [ true ↦ record { answer = Err TooBig; labels = [] } | false ↦ elim b as (λ _. Outcome) [ true ↦ record { answer = Err TooBig; labels = [] } | false ↦ body v k o s ] ]).labels
      go true q b r e = let z : ◌≡◌ {A = ℕ} 0 1 = cc in absurd (omega arith)
      go false q true r e = let z : ◌≡◌ {A = ℕ} 0 1 = cc in absurd (omega arith)
      go false q false r e =
          let f = whole_map v k o (lines v k s).rest e in
          let m = ltb-false 16 v q in
          let n = ltb-false 16 k r in
          let same : lines v k s ≡ lines w h s = λ i. lines (f.1 i) (f.2 i) s in
          record {
            narrow = omega arith;
            low = omega arith;
            rest = s;
            headed = λ i. header (f.1 i) (f.2 i) (f.3 i) s;
            ended = ap (λ (x : Lines). x.rest) (sym same) ∙ f.0;
            read = ap (λ (x : Lines). x.labels) same;
            count = lines_count v k s [] f.0 ∙ mul_comm k v ∙ (λ i. f.1 i * f.2 i);
          }

  pub parsed_map : (s : List ℕ) → (parsed s).answer ≡ Map w h p → IsMap w h p (read_header s) (parsed s).labels
  unfolding parsed
  parsed_map s e = go (ltb 4096 (length s)) e
    where
      go : (a : Bool) → (elim a as (λ _. Outcome) [ true ↦ record { answer = Err TooBig; labels = [] } | false ↦ small (read_header s) ]).answer ≡ Map w h p
          → IsMap w h p (read_header s) (elim a as (λ _. Outcome) [ true ↦ record { answer = Err TooBig; labels = [] } | false ↦ small (read_header s) ]).labels
      go true e = let z : ◌≡◌ {A = ℕ} 0 1 = cc in absurd (omega arith)
      go false e = small_map (read_header s) e
