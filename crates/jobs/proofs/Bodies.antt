-- The words of a body by their numbers, and the tests of a body taken one word or one point at a time.
use Prim.Native.Nat.{ℕ, zero, suc, ◌+◌, ◌-◌, ◌*◌, ◌/◌, ◌<◌, ◌≤◌}
use mathlib.Core.Bool.{Bool, true, false, ◌&&◌}
use mathlib.Core.Path.{◌≡◌, refl, sym, ap, ◌∙◌}
use mathlib.Core.List.{List, [], ◌∷◌, ◌++◌}
use native.Mathlib.Omega.{arith}
use native.Mathlib.Decide.{ℕ_discrete}
use lib.Dec.{leb, ltb, eqb}
use lib.ListN.{length, get_or, set, take, drop, length-drop, drop_of_length-le}
use lib.Seq.{paste-suc, drop-cons, drop-drop, drop-nil}
use borrow.Author.Tests.{eq-eqb, ne_eqb}
use Rattle.jobfile.specs.Entries.{word_at, words_of, pairs}
use Rattle.jobfile.specs.Salvage.{unit_apart, chained, on_map, points_fit, all_below, contours_fit}
use Rattle.jobfile.proofs.Places.{words_step}

-- A COPY, one byte further
pub copy_more : (d s : List ℕ) (j : ℕ) → j < length d → j < length s → set (take j s ++ drop j d) j (get_or s j 0) ≡ take (j + 1) s ++ drop (j + 1) d
copy_more d s j h k =
    let e : 0 + j ≡ j = omega arith in
    let f : 0 + suc j ≡ j + 1 = omega arith in
    let g : suc j ≡ j + 1 = omega arith in
    rw (e, f, g) at (paste-suc d 0 s j 0 (omega arith) k)

-- WORDS

pub words_many : (b : List ℕ) → (4 * length (words_of b) ≤ length b) × (length b < 4 * length (words_of b) + 4)
unfolding words_of
words_many [] = (omega arith, omega arith)
words_many (p ∷ []) = (omega arith, omega arith)
words_many (p ∷ q ∷ []) = (omega arith, omega arith)
words_many (p ∷ q ∷ r ∷ []) = (omega arith, omega arith)
words_many (p ∷ q ∷ r ∷ s ∷ more) = let h = words_many more in (omega arith, omega arith)

pub words_div : (b : List ℕ) → length b / 4 ≡ length (words_of b)
words_div b = let h = words_many b in omega arith

drop_words : (i : ℕ) (b : List ℕ) → drop i (words_of b) ≡ words_of (drop (4 * i) b)
unfolding words_of
drop_words zero b = refl
drop_words (suc i) [] = ap words_of (sym (drop-nil (4 * suc i)))
drop_words (suc i) (p ∷ []) = ap words_of (sym (drop_of_length-le (p ∷ []) {i = 4 * suc i} (omega arith)))
drop_words (suc i) (p ∷ q ∷ []) = ap words_of (sym (drop_of_length-le (p ∷ q ∷ []) {i = 4 * suc i} (omega arith)))
drop_words (suc i) (p ∷ q ∷ r ∷ []) = ap words_of (sym (drop_of_length-le (p ∷ q ∷ r ∷ []) {i = 4 * suc i} (omega arith)))
drop_words (suc i) (p ∷ q ∷ r ∷ s ∷ more) =
    let e : 4 * suc i ≡ suc (suc (suc (suc (4 * i)))) = omega arith in
    drop_words i more ∙ ap (λ n. words_of (drop n (p ∷ q ∷ r ∷ s ∷ more))) (sym e)

pub word_is : (b : List ℕ) (i : ℕ) → i < length (words_of b) → word_at b (4 * i) ≡ get_or (words_of b) i 0
word_is b i h =
    let n = words_many b in
    let e = sym (drop_words i b) ∙ drop-cons (words_of b) i 0 h in
    let f = words_step b (4 * i) (omega arith) in
    cc

-- POINTS

pub next_point : (ws : List ℕ) (i : ℕ) → 2 * i + 1 < length ws
    → pairs (drop (2 * i) ws) ≡ (get_or ws (2 * i) 0, get_or ws (2 * i + 1) 0) ∷ pairs (drop (2 * (i + 1)) ws)
unfolding pairs
next_point ws i h =
    let e : 2 * i + 1 ≡ suc (2 * i) = omega arith in
    let f : 2 * (i + 1) ≡ suc (suc (2 * i)) = omega arith in
    rw (e, f)
    (ap pairs (drop-cons ws (2 * i) 0 (omega arith) ∙ ap (λ l. get_or ws (2 * i) 0 ∷ l) (drop-cons ws (suc (2 * i)) 0 (omega arith))))

few : (w h : ℕ) (l : List ℕ) → length l < 4 → points_fit w h (pairs l) ≡ false
unfolding pairs points_fit
few w h [] m = refl
few w h (a ∷ []) m = refl
few w h (a ∷ b ∷ []) m = refl
few w h (a ∷ b ∷ c ∷ []) m = refl
few w h (a ∷ b ∷ c ∷ d ∷ l) m = absurd (omega arith)

module _ (w h : ℕ) where
  -- each is on the map and one unit from the one before
  unfoldable pub follows : ℕ × ℕ → List (ℕ × ℕ) → Bool
  follows p [] = true
  follows p (q ∷ ps) = leb q.0 w && (leb q.1 h && (unit_apart p q && follows q ps))

  shuffle : (a b u o c f : Bool) → o && c ≡ f → (a && (b && o)) && (u && c) ≡ a && (b && (u && f))
  shuffle false b u o c f e = refl
  shuffle true false u o c f e = refl
  shuffle true true true o c f e = e
  shuffle true true false true c f e = refl
  shuffle true true false false c f e = refl

  both_follow : (p : ℕ × ℕ) (ps : List (ℕ × ℕ)) → on_map w h ps && chained p ps ≡ follows p ps
  unfolding on_map chained follows
  both_follow p [] = refl
  both_follow p (q ∷ ps) = shuffle (leb q.0 w) (leb q.1 h) (unit_apart p q) (on_map w h ps) (chained q ps) (follows q ps) (both_follow q ps)

  regroup : (a b o c f : Bool) → o && c ≡ f → (a && (b && o)) && c ≡ a && (b && f)
  regroup false b o c f e = refl
  regroup true false o c f e = refl
  regroup true true o c f e = e

  points_follow : (p q : ℕ × ℕ) (ps : List (ℕ × ℕ)) → points_fit w h (p ∷ q ∷ ps) ≡ leb p.0 w && (leb p.1 h && follows p (q ∷ ps))
  unfolding points_fit on_map
  points_follow p q ps = regroup (leb p.0 w) (leb p.1 h) (on_map w h (q ∷ ps)) (chained p (q ∷ ps)) (follows p (q ∷ ps)) (both_follow p (q ∷ ps))

  module _ (ws : List ℕ) where
    pub first_point_lem : (x y : ℕ) → 3 < length ws → x ≡ get_or ws 0 0 → y ≡ get_or ws 1 0
        → points_fit w h (pairs ws) ≡ leb x w && (leb y h && follows (x, y) (pairs (drop (2 * 1) ws)))
    first_point_lem x y m e f =
        let g = next_point ws 0 (omega arith) in
        let k = next_point ws 1 (omega arith) in
        rw (e, f)
        (ap (points_fit w h) (g ∙ ap (λ l. (get_or ws 0 0, get_or ws 1 0) ∷ l) k)
        ∙ points_follow (get_or ws 0 0, get_or ws 1 0) (get_or ws 2 0, get_or ws 3 0) (pairs (drop 4 ws))
        ∙ ap (λ l. leb (get_or ws 0 0) w && (leb (get_or ws 1 0) h && follows (get_or ws 0 0, get_or ws 1 0) l)) (sym k))

    pub few_points : length ws < 4 → points_fit w h (pairs ws) ≡ false
    few_points m = few w h ws m

    pub follow_next : (p : ℕ × ℕ) (i u v : ℕ) → 2 * i + 1 < length ws → u ≡ get_or ws (2 * i) 0 → v ≡ get_or ws (2 * i + 1) 0
        → follows p (pairs (drop (2 * i) ws)) ≡ leb u w && (leb v h && (unit_apart p (u, v) && follows (u, v) (pairs (drop (2 * (i + 1)) ws))))
    unfolding follows
    follow_next p i u v m e f = rw (e, f) (ap (follows p) (next_point ws i m))

    pub follow_end : (p : ℕ × ℕ) (i : ℕ) → length ws ≤ 2 * i → follows p (pairs (drop (2 * i) ws)) ≡ true
    unfolding follows pairs
    follow_end p i m = ap (λ l. follows p (pairs l)) (drop_of_length-le ws m)

-- REFERENCES

module _ (n : ℕ) (ws : List ℕ) where
  pub reference_next : (from count i r : ℕ) → i < count → from + i < length ws → r ≡ get_or ws (from + i) 0
      → all_below n (take (count - i) (drop (from + i) ws)) ≡ ltb (r / 2) n && all_below n (take (count - (i + 1)) (drop (from + (i + 1)) ws))
  unfolding all_below
  reference_next from count i r h m e =
      let f : count - i ≡ suc (count - (i + 1)) = omega arith in
      let g : from + (i + 1) ≡ suc (from + i) = omega arith in
      rw (e, f, g) (ap (λ l. all_below n (take (suc (count - (i + 1))) l)) (drop-cons ws (from + i) 0 m))

  pub reference_start : (from count : ℕ) → all_below n (take count (drop from ws)) ≡ all_below n (take (count - 0) (drop (from + 0) ws))
  reference_start from count =
      let e : count - 0 ≡ count = omega arith in
      let f : from + 0 ≡ from = omega arith in
      rw (e, f)

  pub reference_end : (from count i : ℕ) → count ≤ i → all_below n (take (count - i) (drop (from + i) ws)) ≡ true
  unfolding all_below
  reference_end from count i h = let e : count - i ≡ 0 = omega arith in rw e

  -- CONTOURS

  module _ (end : ℕ) (all : end ≡ length ws) where
    pub contour_next : (left at k : ℕ) → 0 < left → at < end → k ≡ get_or ws at 0
        → contours_fit n left (drop at ws) ≡ leb k (end - at - 1) && (all_below n (take k (drop (at + 1) ws)) && contours_fit n (left - 1) (drop (at + 1 + k) ws))
    unfolding contours_fit
    contour_next left at k h m e =
        let f : left ≡ suc (left - 1) = omega arith in
        let g : at + 1 ≡ suc at = omega arith in
        let d : length (drop (suc at) ws) ≡ end - at - 1 = omega (arith, length-drop (suc at) ws) in
        ap (λ c. contours_fit n c (drop at ws)) f
        ∙ ap (contours_fit n (suc (left - 1))) (drop-cons ws at 0 (omega arith))
        ∙ rw (e, g, d, drop-drop (get_or ws at 0) (suc at) ws)

    pub contour_short : (left at : ℕ) → 0 < left → end ≤ at → contours_fit n left (drop at ws) ≡ false
    unfolding contours_fit
    contour_short left at h m = let f : left ≡ suc (left - 1) = omega arith in rw (f, drop_of_length-le ws {i = at} (omega arith))

    pub contours_end : (at : ℕ) → at ≤ end → contours_fit n 0 (drop at ws) ≡ eqb at end
    unfolding contours_fit
    contours_end at m = elim (ℕ_discrete at end) [
      | yes e ↦ rw (drop_of_length-le ws {i = at} (omega arith)) (sym (eq-eqb at end e))
      | no k ↦ rw (drop-cons ws at 0 (let z : (at ≡ end → ⊥) = k in omega arith)) (sym (ne_eqb at end k))
    ]
