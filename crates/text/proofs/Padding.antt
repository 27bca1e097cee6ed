-- Zeros behind the words of a store print nothing else: a word past the end is 0.
use Rattle.std.proofs.Common.{◌≡◌, ℕ, zero, suc, ◌+◌, ◌*◌, ◌/◌, ◌%◌, true, false, eqb, ltb, List, [], ◌∷◌, ◌++◌, get_or, drop, replicate, refl}
use Rattle.rules.specs.Calls.{Answer}
use Rattle.text.specs.Mark.{eastward, step_east, segment_east, reference_east, contour_east, outlined}
use Rattle.text.specs.Output.{field_at, optional_at, reference_at, point_at, node_line, seg_line, cont_line, face_lines, report}

-- the same word at every place
pub record Same (ws us : List ℕ) : Type 0 where
  pub word : (i : ℕ) → get_or ws i 0 ≡ get_or us i 0

zero_at : (k n i : ℕ) → ◌≡◌ {A = ℕ} (get_or (drop k (replicate n 0)) i 0) 0
zero_at zero zero i = refl
zero_at zero (suc n) zero = refl
zero_at zero (suc n) (suc i) = zero_at zero n i
zero_at (suc k) zero i = refl
zero_at (suc k) (suc n) i = zero_at k n i

behind : (words : List ℕ) (k n i : ℕ) → get_or (words ++ drop k (replicate n 0)) i 0 ≡ get_or words i 0
behind [] k n i = zero_at k n i
behind (w ∷ words) k n zero = refl
behind (w ∷ words) k n (suc i) = behind words k n i

pub zeros_behind : (words : List ℕ) (k n : ℕ) → Same (words ++ drop k (replicate n 0)) words
zeros_behind words k n = record { word = behind words k n }

-- LINE BY LINE

node_same : {ns ns' : List ℕ} → Same ns ns' → node_line ns ≡ node_line ns'
unfolding node_line field_at reference_at
node_same {ns} {ns'} e = λ j i. each i j
  where
    each : (i : ℕ) → node_line ns i ≡ node_line ns' i
    each i = rw (e.word (6 * i), e.word (6 * i + 1), e.word (6 * i + 2), e.word (6 * i + 3), e.word (6 * i + 4), e.word (6 * i + 5))

point_same : {ps ps' : List ℕ} → Same ps ps' → point_at ps ≡ point_at ps'
unfolding point_at
point_same {ps} {ps'} e = λ j i. each i j
  where
    each : (i : ℕ) → point_at ps i ≡ point_at ps' i
    each i = rw (e.word (2 * i), e.word (2 * i + 1))

seg_same : {ss ss' ps ps' : List ℕ} → Same ss ss' → Same ps ps' → seg_line ss ps ≡ seg_line ss' ps'
unfolding seg_line field_at optional_at
seg_same {ss} {ss'} {ps} {ps'} e p = λ j i. each i j
  where
    each : (i : ℕ) → seg_line ss ps i ≡ seg_line ss' ps' i
    each i =
        rw (e.word (8 * i), e.word (8 * i + 1), e.word (8 * i + 2), e.word (8 * i + 3), e.word (8 * i + 4), e.word (8 * i + 5), e.word (8 * i + 6), e.word (8 * i + 7))
        (rw (point_same p))

reference_same : {rs rs' : List ℕ} → Same rs rs' → reference_at rs ≡ reference_at rs'
unfolding reference_at
reference_same {rs} {rs'} e = λ j i. each i j
  where
    each : (i : ℕ) → reference_at rs i ≡ reference_at rs' i
    each i = rw (e.word i)

-- the mark of a contour
eastward_same : {ps ps' : List ℕ} → Same ps ps' → (i j : ℕ) → eastward ps i j ≡ eastward ps' i j
unfolding eastward
eastward_same p i j = λ t. elim (ltb (p.word (2 * i) t) (p.word (2 * j) t)) [ true ↦ p.word (2 * i + 1) t | false ↦ 0 ]

step_same : {ps ps' : List ℕ} → Same ps ps' → (way : ℕ) → step_east ps way ≡ step_east ps' way
unfolding step_east
step_same p way = λ t i. elim (eqb way 0) [ true ↦ eastward_same p i (i + 1) t | false ↦ eastward_same p (i + 1) i t ]

reference_east_same : {ss ss' ps ps' rs rs' : List ℕ} → Same ss ss' → Same ps ps' → Same rs rs' → (turn : ℕ) → reference_east ss ps rs turn ≡ reference_east ss' ps' rs' turn
unfolding reference_east segment_east
reference_east_same {ss} {ss'} {ps} {ps'} {rs} {rs'} s p r turn = λ j i. each i j
  where
    each : (i : ℕ) → reference_east ss ps rs turn i ≡ reference_east ss' ps' rs' turn i
    each i =
        let n = get_or rs' i 0 in
        rw (r.word i) (rw (s.word (8 * (n / 2)), s.word (8 * (n / 2) + 1), step_same p ((n + turn) % 2)))

mark_same : {ss ss' ps ps' rs rs' cs cs' : List ℕ} → Same ss ss' → Same ps ps' → Same rs rs' → Same cs cs' → outlined ss ps rs cs ≡ outlined ss' ps' rs' cs'
unfolding outlined contour_east
mark_same {ss} {ss'} {ps} {ps'} {rs} {rs'} {cs} {cs'} s p r c = λ j k. each k j
  where
    each : (k : ℕ) → outlined ss ps rs cs k ≡ outlined ss' ps' rs' cs' k
    each k = rw (c.word (2 * k), c.word (2 * k + 1), reference_east_same s p r 0, reference_east_same s p r 1)

cont_same : {ss ss' ps ps' rs rs' cs cs' : List ℕ} → Same ss ss' → Same ps ps' → Same rs rs' → Same cs cs' → cont_line ss ps rs cs ≡ cont_line ss' ps' rs' cs'
unfolding cont_line
cont_same {ss} {ss'} {ps} {ps'} {rs} {rs'} {cs} {cs'} s p r c = λ j k. each k j
  where
    each : (k : ℕ) → cont_line ss ps rs cs k ≡ cont_line ss' ps' rs' cs' k
    each k = rw (c.word (2 * k), c.word (2 * k + 1)) (rw (reference_same r, mark_same s p r c))

face_same : {ss ss' ps ps' rs rs' cs cs' fs fs' : List ℕ} → Same ss ss' → Same ps ps' → Same rs rs' → Same cs cs' → Same fs fs' → face_lines ss ps rs cs fs ≡ face_lines ss' ps' rs' cs' fs'
unfolding face_lines field_at
face_same {ss} {ss'} {ps} {ps'} {rs} {rs'} {cs} {cs'} {fs} {fs'} s p r c e = λ j i. each i j
  where
    each : (i : ℕ) → face_lines ss ps rs cs fs i ≡ face_lines ss' ps' rs' cs' fs' i
    each i = rw (e.word (5 * i), e.word (5 * i + 1), e.word (5 * i + 2), e.word (5 * i + 3), e.word (5 * i + 4)) (rw (cont_same s p r c))

-- THE REPORT
module _ {ns ns' ss ss' ps ps' rs rs' cs cs' fs fs' : List ℕ} (n : Same ns ns') (s : Same ss ss') (p : Same ps ps') (r : Same rs rs') (c : Same cs cs') (f : Same fs fs') where
  pub report_same : (w h paints : ℕ) (a : Answer) → report w h paints a ns ss ps rs cs fs ≡ report w h paints a ns' ss' ps' rs' cs' fs'
  unfolding report
  report_same w h paints a = rw (node_same n, seg_same s p, face_same s p r c f, report)
