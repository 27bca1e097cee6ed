-- The salvage tool drops nothing of what it kept.
use Prim.Native.Nat.{ℕ, zero, suc, ◌+◌, ◌<◌, ◌≤◌}
use mathlib.Core.Bool.{Bool, true, false, not, true≢false}
use mathlib.Core.Path.{◌≡◌, refl, sym, ap, ap₂, ◌∙◌}
use mathlib.Core.List.{List, [], ◌∷◌, ◌++◌}
use native.Mathlib.Omega.{arith}
use lib.Dec.{leb, ltb, eqb}
use lib.ListN.{length, take, drop, length-drop}
use lib.Seq.{length-take-le, take-take, get_or-take, take-add, take_at, drop_at}
use borrow.Author.Tests.{leb-true, le-leb, ltb-true, ltb-false, le-ltb}
use Rattle.rules.proofs.Ground.Booleans.{both, and_left, and_right}
use Rattle.rules.specs.Calls.{first_hit, store_after}
use Rattle.jobfile.specs.Entries.{word_at, body_length, kind_of, entry_size, body, rest, headed}
use Rattle.jobfile.specs.Salvage.{Place, fits, after, Kept, scan, start, kept, Salvaged, salvage}

-- THE FRONT OF SOME BYTES has the same first record, if that lies in it

module _ (b : List ℕ) (n : ℕ) where
  word_front : (i : ℕ) → i + 3 < n → word_at (take n b) i ≡ word_at b i
  unfolding word_at
  word_front i h =
      rw (get_or-take n b i 0 (omega arith), get_or-take n b (i + 1) 0 (omega arith), get_or-take n b (i + 2) 0 (omega arith), get_or-take n b (i + 3) 0 (omega arith))

  length_front : 4 ≤ n → body_length (take n b) ≡ body_length b
  unfolding body_length
  length_front h = word_front 0 (omega arith)

  pub kind_front : 6 ≤ n → kind_of (take n b) ≡ kind_of b
  unfolding kind_of
  kind_front h = rw (get_or-take n b 4 0 (omega arith), get_or-take n b 5 0 (omega arith))

  pub size_front : 6 ≤ n → entry_size (take n b) ≡ entry_size b
  unfolding entry_size
  size_front h = ap (λ k. 6 + k) (length_front (omega arith))

-- the front of the end is the end of the front
drop_front : (b : List ℕ) (k m : ℕ) → k ≤ length b → drop k (take (k + m) b) ≡ take m (drop k b)
drop_front b k m h = ap (drop k) (take-add k m b) ∙ drop_at (take k b) (take m (drop k b)) k (length-take-le k b h)

module _ (b : List ℕ) (m : ℕ) (whole : entry_size b ≤ length b) where
  abbrev front : List ℕ
  front = take (entry_size b + m) b

  six : 6 ≤ entry_size b + m
  unfolding entry_size
  six = omega arith

  rest_front : rest front ≡ take m (rest b)
  unfolding rest
  rest_front = ap (λ k. drop k front) (size_front b (entry_size b + m) six) ∙ drop_front b (entry_size b) m whole

  body_front : body front ≡ body b
  unfolding body entry_size
  body_front =
      let n = body_length b in
      let e : 6 + n + m ≡ 6 + (n + m) = omega arith in
      let d : drop 6 front ≡ take (n + m) (drop 6 b) = ap (λ k. drop 6 (take k b)) e ∙ drop_front b 6 (n + m) (omega arith) in
      ap₂ take (length_front b (6 + n + m) (omega arith)) d ∙ take-take n (n + m) (drop 6 b) (omega arith)

  module _ (p : Place) (long : entry_size b + m ≤ length b) where
    fits_front : fits p b ≡ true → fits p front ≡ true
    unfolding fits
    fits_front f =
        let z = size_front b (entry_size b + m) six in
        let y = length-take-le (entry_size b + m) b long in
        both (leb (entry_size front) (length front)) _ (le-leb (entry_size front) (length front) (omega arith))
        (rw (length_front b (entry_size b + m) (omega (arith, six)), kind_front b (entry_size b + m) six, body_front) (and_right (leb (entry_size b) (length b)) _ f))

fits_whole : (p : Place) (b : List ℕ) → fits p b ≡ true → entry_size b ≤ length b
unfolding fits
fits_whole p b f = leb-true (entry_size b) (length b) (and_left (leb (entry_size b) (length b)) _ f)

-- A SCAN, by cases

abbrev pub nothing : ℕ → Kept
nothing kind = record { length = 0; kind = kind }

abbrev pub more : ℕ → Kept → Kept
more n s = record { length = n + s.length; kind = s.kind }

module _ (Q : Kept → Type 0) (k : ℕ) (p : Place) (b : List ℕ) where
  pub scan_elim : (length b < 6 → Q (nothing 0)) → (6 ≤ length b → fits p b ≡ false → Q (nothing (kind_of b)))
      → (6 ≤ length b → fits p b ≡ true → Q (more (entry_size b) (scan k (after p (kind_of b)) (rest b)))) → Q (scan (suc k) p b)
  unfolding scan
  scan_elim f g h = go (ltb (length b) 6) refl (fits p b) refl
    where
      go : (t : Bool) → ltb (length b) 6 ≡ t → (u : Bool) → fits p b ≡ u
          → Q (elim t [ true ↦ nothing 0 | false ↦ elim u [ true ↦ more (entry_size b) (scan k (after p (kind_of b)) (rest b)) | false ↦ nothing (kind_of b) ] ])
      go true s u e = f (ltb-true (length b) 6 s)
      go false s false e = g (ltb-false (length b) 6 s) e
      go false s true e = h (ltb-false (length b) 6 s) e

-- what is kept is there
more_length : (p : Place) (b : List ℕ) (n : ℕ) → fits p b ≡ true → n ≤ length (rest b) → entry_size b + n ≤ length b
unfolding rest
more_length p b n f q = omega (arith, length-drop (entry_size b) b, fits_whole p b f)

pub scan_length : (k : ℕ) (p : Place) (b : List ℕ) → (scan k p b).length ≤ length b
unfolding scan
scan_length zero p b = omega arith
scan_length (suc k) p b =
    scan_elim (λ s. s.length ≤ length b) k p b (λ h. omega arith) (λ h f. omega arith)
    (λ h f. more_length p b (scan k (after p (kind_of b)) (rest b)).length f (scan_length k (after p (kind_of b)) (rest b)))

-- no bytes, nothing kept and nothing dropped
scan_none : (k : ℕ) (p : Place) → scan k p [] ≡ nothing 0
unfolding scan
scan_none zero p = refl
scan_none (suc k) p = refl

pub scan_keeps : (k : ℕ) (p : Place) (b : List ℕ) → 6 ≤ length b → fits p b ≡ true → scan (suc k) p b ≡ more (entry_size b) (scan k (after p (kind_of b)) (rest b))
scan_keeps k p b h f =
    scan_elim (λ s. s ≡ more (entry_size b) (scan k (after p (kind_of b)) (rest b))) k p b (λ g. absurd (omega arith)) (λ g n. absurd (true≢false (sym f ∙ n))) (λ g t. refl)

-- A SECOND SCAN over what the first kept

abbrev pub all : ℕ → Kept
all n = record { length = n; kind = 0 }

module _ (k : ℕ) (p : Place) (b : List ℕ) (h : 6 ≤ length b) (f : fits p b ≡ true) where
  abbrev m : ℕ
  m = (scan k (after p (kind_of b)) (rest b)).length

  abbrev t : List ℕ
  t = take (entry_size b + m) b

  all_there : entry_size b + m ≤ length b
  all_there = more_length p b m f (scan_length k (after p (kind_of b)) (rest b))

  again_keeps : scan k (after p (kind_of b)) (take m (rest b)) ≡ all m → scan (suc k) p t ≡ all (entry_size b + m)
  again_keeps r =
      let w = fits_whole p b f in
      let n = entry_size b + m in
      let s = six b m w in
      let l = length-take-le n b all_there in
      scan_keeps k p t (omega arith) (fits_front b m w p all_there f)
      ∙ ap₂ more (size_front b n s)
      (ap₂ (scan k) (ap (after p) (kind_front b n s)) (rest_front b m w) ∙ r)

pub scan_again : (k : ℕ) (p : Place) (b : List ℕ) → scan k p (take (scan k p b).length b) ≡ all (scan k p b).length
unfolding scan
scan_again zero p b = refl
scan_again (suc k) p b =
    scan_elim (λ s. scan (suc k) p (take s.length b) ≡ all s.length) k p b (λ h. scan_none (suc k) p) (λ h f. scan_none (suc k) p)
    (λ h f. again_keeps k p b h f (scan_again k (after p (kind_of b)) (rest b)))

-- FUEL: as much as bytes, or more, is enough

shorter : (b : List ℕ) → 6 ≤ length b → length (rest b) < length b
unfolding rest entry_size
shorter b l = omega (arith, length-drop (entry_size b) b)

pub scan_enough : (k j : ℕ) (p : Place) (b : List ℕ) → length b ≤ k → length b ≤ j → scan k p b ≡ scan j p b
unfolding scan
scan_enough zero j p [] h i = scan_none zero p ∙ sym (scan_none j p)
scan_enough zero j p (a ∷ b) h i = absurd (omega arith)
scan_enough (suc k) zero p [] h i = scan_none (suc k) p ∙ sym (scan_none zero p)
scan_enough (suc k) zero p (a ∷ b) h i = absurd (omega arith)
scan_enough (suc k) (suc j) p b h i = go (ltb (length b) 6) refl (fits p b) (λ u v. scan_enough k j (after p (kind_of b)) (rest b) u v)
  where
    go : (t : Bool) → ltb (length b) 6 ≡ t → (u : Bool)
        → (length (rest b) ≤ k → length (rest b) ≤ j → scan k (after p (kind_of b)) (rest b) ≡ scan j (after p (kind_of b)) (rest b))
        → ◌≡◌ {A = Kept} (elim t [ true ↦ nothing 0 | false ↦ elim u [ true ↦ more (entry_size b) (scan k (after p (kind_of b)) (rest b)) | false ↦ nothing (kind_of b) ] ])
        (elim t [ true ↦ nothing 0 | false ↦ elim u [ true ↦ more (entry_size b) (scan j (after p (kind_of b)) (rest b)) | false ↦ nothing (kind_of b) ] ])
    go true s u r = refl
    go false s false r = refl
    go false s true r = let l = shorter b (ltb-false (length b) 6 s) in ap (more (entry_size b)) (r (omega arith) (omega arith))

-- THE TOOL

-- what is kept of a headed file is headed, and has the same header
module _ (b : List ℕ) (e : headed b ≡ true) where
  pub long : 18 ≤ length b
  unfolding headed
  long = leb-true 18 (length b) (and_left (leb 18 (length b)) _ e)

  pub kept_length : (18 ≤ (kept b).length) × ((kept b).length ≤ length b)
  unfolding kept
  kept_length = (omega arith, omega (arith, scan_length (length b) (start b) (drop 18 b), length-drop 18 b, long))

  headed_front : (n : ℕ) → 18 ≤ n → n ≤ length b → headed (take n b) ≡ true
  unfolding headed
  headed_front n h i =
      let l = length-take-le n b i in
      both (leb 18 (length (take n b))) _ (le-leb 18 (length (take n b)) (omega arith))
      (rw (length_front b n (omega arith), kind_front b n (omega arith), word_front b n 6 (omega arith), word_front b n 10 (omega arith), word_front b n 14 (omega arith))
      (and_right (leb 18 (length b)) _ e))

  start_front : (n : ℕ) → 18 ≤ n → start (take n b) ≡ start b
  unfolding start
  start_front n h = rw (word_front b n 6 (omega arith), word_front b n 10 (omega arith), word_front b n 14 (omega arith))

  -- A SECOND RUN keeps all and drops nothing
  pub kept_again : (headed (take (kept b).length b) ≡ true) × (kept (take (kept b).length b) ≡ all (kept b).length)
  unfolding kept
  kept_again =
      let m = (scan (length b) (start b) (drop 18 b)).length in
      let n = 18 + m in
      let i : n ≤ length b = kept_length.1 in
      let l = length-take-le n b i in
      let d : drop 18 (take n b) ≡ take m (drop 18 b) = drop_front b 18 m long in
      let c : length (take m (drop 18 b)) ≡ m = length-take-le m (drop 18 b) (omega (arith, length-drop 18 b)) in
      let s : scan (length (take n b)) (start (take n b)) (drop 18 (take n b)) ≡ all m =
      ap₂ (scan (length (take n b))) (start_front n (omega arith)) d
      ∙ scan_enough (length (take n b)) (length b) (start b) (take m (drop 18 b)) (omega arith) (omega arith)
      ∙ scan_again (length b) (start b) (drop 18 b) in
      (headed_front n (omega arith) i, ap (more 18) s)

-- the outcome where neither number is given
abbrev done : List ℕ → ℕ → ℕ → List ℕ → Salvaged
done b n kind store = record { number = 0; length = n; kind = kind; store = take n b ++ drop (length (take n b)) store }

pub salvage_done : (b store : List ℕ) → headed b ≡ true → (kept b).length ≤ length store → salvage b store ≡ done b (kept b).length (kept b).kind store
unfolding salvage first_hit store_after
salvage_done b store e h = go (headed b) e (ltb (length store) (kept b).length) (le-ltb (length store) (kept b).length h)
  where
    number : Bool → Bool → ℕ
    number t u = elim (not t) [ true ↦ 14 | false ↦ elim u [ true ↦ 13 | false ↦ 0 ] ]

    outcome : Bool → Bool → Salvaged
    outcome t u =
        record {
          number = number t u;
          length = elim (eqb (number t u) 0) [ true ↦ (kept b).length | false ↦ 0 ];
          kind = elim (eqb (number t u) 0) [ true ↦ (kept b).kind | false ↦ 0 ];
          store = elim (eqb (number t u) 0) [ true ↦ take (kept b).length b ++ drop (length (take (kept b).length b)) store | false ↦ store ];
        }

    go : (t : Bool) → t ≡ true → (u : Bool) → u ≡ false → outcome t u ≡ done b (kept b).length (kept b).kind store
    go true p false q = refl
    go true p true q = absurd (true≢false q)
    go false p u q = absurd (true≢false (sym p))

pub salvage_zero : (b store : List ℕ) → (salvage b store).number ≡ 0 → (headed b ≡ true) × ((kept b).length ≤ length store)
unfolding salvage first_hit
salvage_zero b store z = go (headed b) refl (ltb (length store) (kept b).length) refl z
  where
    go : (t : Bool) → headed b ≡ t → (u : Bool) → ltb (length store) (kept b).length ≡ u → ◌≡◌ {A = ℕ} (elim (not t) [ true ↦ 14 | false ↦ elim u [ true ↦ 13 | false ↦ 0 ] ]) 0
        → (headed b ≡ true) × ((kept b).length ≤ length store)
    go true p false q z = (p, ltb-false (length store) (kept b).length q)
    go true p true q z = absurd (omega arith)
    go false p u q z = absurd (omega arith)

-- A SECOND RUN over what the first left in its store: number 0, the same length, nothing dropped, the same bytes
pub salvage_again : (b store other : List ℕ) → (salvage b store).number ≡ 0 → (kept b).length ≤ length other
    → (take (kept b).length (salvage b store).store ≡ take (kept b).length b)
    × (salvage (take (kept b).length b) other ≡ done b (kept b).length 0 other)
salvage_again b store other z h =
    let q = salvage_zero b store z in
    let n = (kept b).length in
    let k = kept_again b q.0 in
    let l = length-take-le n b (kept_length b q.0).1 in
    let s : (salvage b store).store ≡ take n b ++ drop (length (take n b)) store = ap (λ s. s.store) (salvage_done b store q.0 q.1) in
    let e : (kept (take n b)).length ≡ n = ap (λ s. s.length) k.1 in (
      ap (take n) s ∙ take_at (take n b) (drop (length (take n b)) store) n l,
      salvage_done (take n b) other k.0 (omega arith)
          ∙ ap₂ (λ m c. done (take n b) m c other) e (ap (λ s. s.kind) k.1)
          ∙ ap (λ c. record { number = 0; length = n; kind = 0; store = c ++ drop (length c) other }) (take-take n n b (omega arith)),
    )
