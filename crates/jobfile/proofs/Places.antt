-- Reading a body by byte places: the words from a place on, one or two at a time.
use Prim.Native.Nat.{ℕ, suc, ◌+◌, ◌<◌, ◌≤◌}
use mathlib.Core.Path.{◌≡◌, ap, ◌∙◌}
use mathlib.Core.List.{List, [], ◌∷◌}
use native.Mathlib.Omega.{arith}
use lib.ListN.{length, get_or, drop, drop_of_length-le}
use lib.Seq.{drop-cons}
use Rattle.jobfile.specs.Entries.{word_at, words_of, pairs}

module _ (b : List ℕ) where
  four : (i : ℕ) → i + 3 < length b → drop i b ≡ get_or b i 0 ∷ get_or b (i + 1) 0 ∷ get_or b (i + 2) 0 ∷ get_or b (i + 3) 0 ∷ drop (i + 4) b
  four i h =
      let p : i + 1 ≡ suc i = omega arith in
      let q : i + 2 ≡ suc (suc i) = omega arith in
      let r : i + 3 ≡ suc (suc (suc i)) = omega arith in
      let s : i + 4 ≡ suc (suc (suc (suc i))) = omega arith in
      rw (p, q, r, s)
      (drop-cons b i 0 (omega arith)
      ∙ ap (λ l. get_or b i 0 ∷ l) (drop-cons b (suc i) 0 (omega arith)
      ∙ ap (λ l. get_or b (suc i) 0 ∷ l) (drop-cons b (suc (suc i)) 0 (omega arith)
      ∙ ap (λ l. get_or b (suc (suc i)) 0 ∷ l) (drop-cons b (suc (suc (suc i))) 0 (omega arith)))))

  -- a word
  pub words_step : (i : ℕ) → i + 3 < length b → words_of (drop i b) ≡ word_at b i ∷ words_of (drop (i + 4) b)
  unfolding words_of word_at
  words_step i h = ap words_of (four i h)

  -- a point
  pub pairs_step : (i : ℕ) → i + 7 < length b → pairs (words_of (drop i b)) ≡ (word_at b i, word_at b (i + 4)) ∷ pairs (words_of (drop (i + 8) b))
  unfolding pairs
  pairs_step i h =
      let z : i + 4 + 4 ≡ i + 8 = omega arith in
      ap pairs (words_step i (omega arith) ∙ ap (λ l. word_at b i ∷ l) (words_step (i + 4) (omega arith)))
      ∙ ap (λ n. (word_at b i, word_at b (i + 4)) ∷ pairs (words_of (drop n b))) z

  -- and the end
  pub words_end : (i : ℕ) → length b ≤ i → words_of (drop i b) ≡ []
  unfolding words_of
  words_end i h = ap words_of (drop_of_length-le b h)
