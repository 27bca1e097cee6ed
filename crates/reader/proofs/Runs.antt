-- What a run of the reader's calls says: the points of the part in order, or backwards, and then the end for ever; of a part that lies outside,
-- 10 at every call.
use Prim.Native.Nat.{ℕ, zero, suc, ◌+◌, ◌-◌, ◌/◌, ◌≤◌, ◌<◌}
use mathlib.Core.Bool.{Bool, true, false}
use mathlib.Core.Path.{◌≡◌, refl, ap, ◌∙◌}
use mathlib.Core.List.{List, [], ◌∷◌, ◌++◌, map, map-append, reverse, reverse-append}
use native.Mathlib.Nat.{zero-add, suc-add, add-zero}
use native.Mathlib.Omega.{arith}
use borrow.Author.Tests.{lt-ltb, le-ltb}
use lib.ListN.{length, replicate}
use Rattle.rules.specs.Lists.{upto}
use Rattle.rules.proofs.Ground.Lists.{upto_snoc}
use Rattle.reader.specs.Reading.{Said, at_end, outside_points, point_at, reads}
use Rattle.reader.proofs.Calls.{outside, ended, inside}

-- the points of a part, in order
abbrev pub part_of : List ℕ → ℕ → ℕ → List Said
part_of ws f n = map (point_at ws) (upto n f)

-- backwards, the last one comes first
backwards : (ws : List ℕ) (f n : ℕ) → reverse (part_of ws f (suc n)) ≡ point_at ws (f + n) ∷ reverse (part_of ws f n)
backwards ws f n =
    ap (λ (l : List ℕ). reverse (map (point_at ws) l)) (upto_snoc n f)
    ∙ ap (λ (l : List Said). reverse l) (map-append (point_at ws) (upto n f) ((f + n) ∷ []))
    ∙ reverse-append (part_of ws f n) (point_at ws (f + n) ∷ [])

module _ (ws : List ℕ) (f n : ℕ) where
  module _ (h : f + n ≤ length ws / 2) where
    -- past the last corner
    reads_end : (b : Bool) (m p : ℕ) → n ≤ p → reads ws f n b m p ≡ replicate m at_end
    unfolding reads
    reads_end b zero p k = refl
    reads_end b (suc m) p k = rw (ended ws f n b p h k, le-ltb p n k) (ap (λ (l : List Said). at_end ∷ l) (reads_end b m p k))

    -- with k corners left
    reads_forward : (k m p : ℕ) → p + k ≡ n → reads ws f n false (k + m) p ≡ part_of ws (f + p) k ++ replicate m at_end
    unfolding reads upto
    reads_forward zero m p e = rw zero-add (reads_end false m p (omega arith))
    reads_forward (suc k) m p e =
        let i : p < n = omega arith in
        let step : f + (p + 1) ≡ suc (f + p) = omega arith in
        rw (suc-add, inside ws f n false p h i, lt-ltb p n i, ← step) (ap (λ (l : List Said). point_at ws (f + p) ∷ l) (reads_forward k m (p + 1) (omega arith)))

    reads_reversed : (k m p : ℕ) → p + k ≡ n → reads ws f n true (k + m) p ≡ reverse (part_of ws f k) ++ replicate m at_end
    unfolding reads upto
    reads_reversed zero m p e = rw zero-add (reads_end true m p (omega arith))
    reads_reversed (suc k) m p e =
        let i : p < n = omega arith in
        let step : f + n - p - 1 ≡ f + k = omega arith in
        rw (suc-add, inside ws f n true p h i, lt-ltb p n i, step, backwards ws f k)
        (ap (λ (l : List Said). point_at ws (f + k) ∷ l) (reads_reversed k m (p + 1) (omega arith)))

    -- A PART THAT LIES INSIDE: its points, and then the end at every later call
    pub run_forward : (m : ℕ) → reads ws f n false (n + m) 0 ≡ part_of ws f n ++ replicate m at_end
    run_forward m = rw add-zero at (reads_forward n m 0 (zero-add n))

    pub run_reversed : (m : ℕ) → reads ws f n true (n + m) 0 ≡ reverse (part_of ws f n) ++ replicate m at_end
    run_reversed m = reads_reversed n m 0 (zero-add n)

  -- ONE THAT DOES NOT
  pub run_outside : length ws / 2 < f + n → (b : Bool) (m p : ℕ) → reads ws f n b m p ≡ replicate m outside_points
  unfolding reads
  run_outside h b zero p = refl
  run_outside h b (suc m) p = rw (outside ws f n b p h) (ap (λ (l : List Said). outside_points ∷ l) (run_outside h b m _))
