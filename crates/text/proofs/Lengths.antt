-- How many bytes are printed: for a number by its digits, and for each line by how large the words are that it prints.
use Rattle.std.proofs.Common.{◌≡◌, ℕ, zero, suc, ◌+◌, ◌*◌, ◌/◌, ◌%◌, ◌^◌, ◌<◌, ◌≤◌, Bool, true, false, List, [], ◌∷◌, ◌++◌, map, length, get_or, ap, ◌∙◌, inl, inr, pow-suc, arith, length-append}
use mathlib.Core.List.{Memᴰ as In}
use native.Mathlib.Decide.{dec_le, ℕ_discrete}
use Rattle.rules.specs.Lists.{upto}
use Rattle.rules.specs.Picture.{Picture, Dart}
use Rattle.rules.specs.Graph.{nodes}
use Rattle.rules.specs.Records.{NONE}
use Rattle.rules.proofs.Ground.Lists.{length_upto}
use Rattle.rules.proofs.Ground.Sums.{sum, sum_map, flat_length, sum_most, sum_linear}
use Rattle.rules.proofs.CutList.Values.{Below, below_more, AtMost, most_at, NodeValues, SegmentValues}
use Rattle.text.specs.Bytes.{bytes}
use Rattle.text.specs.Mark.{outlined}
use Rattle.text.specs.Output.{shown, field, optional, reference, point, field_at, optional_at, reference_at, point_at, pieces, node_line, seg_line, letter, cont_line, face_lines}
use Rattle.text.proofs.Printing.{shown_small, shown_big, optional_none, optional_some, reference_none, reference_forward, reference_reversed}

-- NUMBERS of so many digits

pub shown_short : (k n : ℕ) → n < 10 ^ suc k → length (shown n) ≤ suc k
shown_short zero n h = omega (arith, ap length (shown_small n (omega arith)))
shown_short (suc k) n h = go (dec_le 10 n) (shown_short k (n / 10))
  where
    go : Dec (10 ≤ n) → (n / 10 < 10 ^ suc k → length (shown (n / 10)) ≤ suc k) → length (shown n) ≤ suc (suc k)
    go (yes d) ih =
        let p = pow-suc 10 (suc k) in
        omega (arith, ih (omega arith), ap length (shown_big n d) ∙ length-append (shown (n / 10)) ((48 + n % 10) ∷ []))
    go (no d) ih = omega (arith, ap length (shown_small n (omega arith)))

pub field_short : (k n : ℕ) → n < 10 ^ suc k → length (field n) ≤ k + 2
unfolding field
field_short k n h = omega (arith, shown_short k n h)

pub optional_short : (k none n : ℕ) → Below (10 ^ suc k) n → length (optional none n) ≤ k + 2
optional_short k none n h = go (ℕ_discrete n NONE) h
  where
    go : Dec (n ≡ NONE) → Below (10 ^ suc k) n → length (optional none n) ≤ k + 2
    go (yes e) h = omega (arith, ap length (optional_none none n e))
    go (no e) (inl i) = absurd (e i)
    go (no e) (inr i) = omega (arith, ap length (optional_some none n e), field_short k n i)

pub reference_short : (k r : ℕ) → Below (2 * 10 ^ suc k) r → length (reference r) ≤ k + 3
reference_short k r h = go (ℕ_discrete r NONE) (ℕ_discrete (r % 2) 0) h
  where
    go : Dec (r ≡ NONE) → Dec (r % 2 ≡ 0) → Below (2 * 10 ^ suc k) r → length (reference r) ≤ k + 3
    go (yes e) d h = omega (arith, ap length (reference_none r e))
    go (no e) d (inl i) = absurd (e i)
    go (no e) (yes d) (inr i) = omega (arith, ap length (reference_forward r e d), length-append (field (r / 2)) (bytes "f"), field_short k (r / 2) (omega arith))
    go (no e) (no d) (inr i) = omega (arith, ap length (reference_reversed r e d), length-append (field (r / 2)) (bytes "r"), field_short k (r / 2) (omega arith))

pub point_short : (k x y : ℕ) → x < 10 ^ suc k → y < 10 ^ suc k → length (point x y) ≤ 2 * k + 4
unfolding point
point_short k x y h g = omega (arith, length-append (field x) (bytes "," ++ shown y), field_short k x h, shown_short k y g)

-- PIECES

pub pieces_most : (g : ℕ → List ℕ) (most : ℕ → ℕ) (n f : ℕ) → ((i : ℕ) → In i (upto n f) → length (g i) ≤ most i) → length (pieces g n f) ≤ sum most (upto n f)
unfolding pieces
pieces_most g most n f h =
    omega (arith, flat_length (map g (upto n f)), sum_map length g (upto n f), sum_most (λ i. length (g i)) most (upto n f) h)

pub pieces_each : (g : ℕ → List ℕ) (c n f : ℕ) → ((i : ℕ) → In i (upto n f) → length (g i) ≤ c) → length (pieces g n f) ≤ c * n
pieces_each g c n f h =
    let most : ℕ → ℕ = λ i. c + 0 * i in
    omega (arith, pieces_most g most n f (λ i m. omega (arith, h i m)), sum_linear c 0 (λ i. i) (upto n f), ap (λ (m : ℕ). c * m) (length_upto n f))

-- LINES

-- words of so many digits
module _ (k : ℕ) (ws : List ℕ) (i : ℕ) where
  field_at_lem : get_or ws i 0 < 10 ^ suc k → length (field_at ws i) ≤ k + 2
  unfolding field_at
  field_at_lem h = field_short k (get_or ws i 0) h

  optional_at_lem : (none : ℕ) → Below (10 ^ suc k) (get_or ws i 0) → length (optional_at none ws i) ≤ k + 2
  unfolding optional_at
  optional_at_lem none h = optional_short k none (get_or ws i 0) h

  reference_at_lem : Below (2 * 10 ^ suc k) (get_or ws i 0) → length (reference_at ws i) ≤ k + 3
  unfolding reference_at
  reference_at_lem h = reference_short k (get_or ws i 0) h

-- at most a thousand nodes and segments, and sides of two digits
module _ {P : Picture} (w : P.w < 100) (h : P.h < 100) where
  pub node_short : (ss : List (List Dart)) (ns : List ℕ) (i : ℕ) → length ss ≤ 1000 → i < 1000 → NodeValues P ss ns i → length (node_line ns i) ≤ 35
  unfolding node_line
  node_short ss ns i s m v =
      let out : (r : ℕ) → Below (2 * length ss) r → Below (2 * 10 ^ 3) r = λ r b. below_more r (omega arith) b in
      simp length-append
      (omega (
        arith,
        field_short 2 i (omega arith),
        field_at_lem 1 ns (6 * i) (omega (arith, v.x)),
        field_at_lem 1 ns (6 * i + 1) (omega (arith, v.y)),
        reference_at_lem 2 ns (6 * i + 2) (out _ v.north),
        reference_at_lem 2 ns (6 * i + 3) (out _ v.east),
        reference_at_lem 2 ns (6 * i + 4) (out _ v.south),
        reference_at_lem 2 ns (6 * i + 5) (out _ v.west),
      ))

  pub seg_short : (ss ps : List ℕ) (i : ℕ) → length (nodes P) ≤ 1000 → i < 1000 → SegmentValues P NONE ss i → AtMost 99 ps
      → length (seg_line ss ps i) ≤ 42 + 6 * get_or ss (8 * i + 1) 0
  unfolding seg_line point_at
  seg_short ss ps i s m v p =
      let end : (r : ℕ) → Below (length (nodes P)) r → Below (10 ^ 3) r = λ r b. below_more r s b in
      simp length-append
      (omega (
        arith,
        field_short 2 i (omega arith),
        optional_at_lem 2 ss (8 * i + 2) 45 (end _ v.start),
        optional_at_lem 2 ss (8 * i + 3) 45 (end _ v.end),
        optional_at_lem 9 ss (8 * i + 4) 46 (inr (omega (arith, v.left))),
        optional_at_lem 9 ss (8 * i + 5) 46 (inr (omega (arith, v.right))),
        field_at_lem 0 ss (8 * i + 6) (omega (arith, v.first)),
        field_at_lem 0 ss (8 * i + 7) (omega (arith, v.last)),
        pieces_each (point_at ps) 6 (get_or ss (8 * i + 1) 0) (get_or ss (8 * i) 0)
            (λ j n. point_short 1 (get_or ps (2 * j) 0) (get_or ps (2 * j + 1) 0) (omega (arith, most_at 99 ps p (2 * j))) (omega (arith, most_at 99 ps p (2 * j + 1)))),
      ))

letter_short : (b : Bool) → length (letter b) ≤ 2
unfolding letter
letter_short true = omega arith
letter_short false = omega arith

-- of a contour
abbrev pub contour_most : List ℕ → ℕ → ℕ
contour_most cs k = 7 + 5 * get_or cs (2 * k + 1) 0

module _ (ss ps rs cs : List ℕ) (h : AtMost 1999 rs) where
  pub cont_short : (k : ℕ) → length (cont_line ss ps rs cs k) ≤ contour_most cs k
  unfolding cont_line
  cont_short k =
      simp length-append
      (omega (
        arith,
        letter_short (outlined ss ps rs cs k),
        pieces_each (reference_at rs) 5 (get_or cs (2 * k + 1) 0) (get_or cs (2 * k) 0) (λ j n. reference_at_lem 2 rs j (inr (omega (arith, most_at 1999 rs h j)))),
      ))

  pub face_short : (fs : List ℕ) (i : ℕ) → i < 1000 → get_or fs (5 * i) 0 ≤ NONE → get_or fs (5 * i + 2) 0 < 1000 → get_or fs (5 * i + 3) 0 < 100 → get_or fs (5 * i + 4) 0 < 100
      → length (face_lines ss ps rs cs fs i) ≤ 30 + sum (contour_most cs) (upto (get_or fs (5 * i + 2) 0) (get_or fs (5 * i + 1) 0))
  unfolding face_lines
  face_short fs i m r n x y =
      let first = get_or fs (5 * i + 1) 0 in
      simp length-append
      (omega (
        arith,
        field_short 2 i (omega arith),
        field_at_lem 9 fs (5 * i) (omega arith),
        field_at_lem 2 fs (5 * i + 2) (omega arith),
        field_at_lem 1 fs (5 * i + 3) (omega arith),
        field_at_lem 1 fs (5 * i + 4) (omega arith),
        pieces_most (cont_line ss ps rs cs) (contour_most cs) (get_or fs (5 * i + 2) 0) first (λ k j. cont_short k),
      ))
