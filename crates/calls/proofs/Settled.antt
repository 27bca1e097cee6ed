-- What the number of a call says of its outcome.
use Prim.Native.Nat.{ℕ, ◌≤◌}
use mathlib.Core.Bool.{Bool, true, false}
use mathlib.Core.Path.{◌≡◌, refl, sym, ap, ◌∙◌}
use mathlib.Core.List.{List, [], ◌∷◌, ◌++◌, map}
use native.Mathlib.Omega.{arith}
use lib.ListN.{length, drop, replicate}
use borrow.Author.Tests.{le-leb, lt-leb}
use Rattle.rules.specs.Calls.{Map, CutList, counted, refused, Check, first_hit, work_words, map_checks, early, answer, work_after, store_after, Outcome, call}
use Rattle.calls.proofs.Outcomes.{store_kept}

-- the stores as they were lent, and with the words that belong into them at the front
abbrev pub lent : List (List ℕ × List ℕ) → List (List ℕ)
lent parts = map (λ p. p.1) parts

abbrev pub written : List (List ℕ × List ℕ) → List (List ℕ)
written parts = map (λ p. p.0 ++ drop (length p.0) p.1) parts

-- the work store with its first words 0
abbrev pub cleared : Map → List ℕ → List ℕ
cleared m work = replicate (work_words m) 0 ++ drop (work_words m) work

-- 1 to 3: no counts, and every store as it was. From 4 on: the counts, the work store cleared, the others as they were. 0: and the words written
pub record Settled (m : Map) (l : CutList) (work : List ℕ) (parts : List (List ℕ × List ℕ)) (o : Outcome) : Type 0 where
  pub early : 1 ≤ o.answer.number → o.answer.number ≤ 3 → o ≡ record { answer = refused o.answer.number; stores = work ∷ lent parts }
  pub late : 4 ≤ o.answer.number → o ≡ record { answer = counted o.answer.number l; stores = cleared m work ∷ lent parts }
  pub fine : o.answer.number ≡ 0 → o ≡ record { answer = counted 0 l; stores = cleared m work ∷ written parts }

-- each store where the number is 0, and where it is not
all_written : (parts : List (List ℕ × List ℕ)) → map (λ p. store_after 0 p.0 p.1) parts ≡ written parts
unfolding store_after
all_written parts = refl

all_kept : (n : ℕ) → (n ≡ 0 → ⊥) → (parts : List (List ℕ × List ℕ)) → map (λ p. store_after n p.0 p.1) parts ≡ lent parts
all_kept n h [] = refl
all_kept n h (p ∷ ps) = λ i. sym (store_kept n p.0 p.1 h) i ∷ all_kept n h ps i

is_early : (n : ℕ) → 1 ≤ n → n ≤ 3 → early n ≡ true
unfolding early
is_early n a b = rw (le-leb 1 n a, le-leb n 3 b)

is_late : (n : ℕ) → 4 ≤ n → early n ≡ false
unfolding early
is_late n a = rw (le-leb 1 n (omega arith), lt-leb n 3 (omega arith))

module _ (m : Map) (l : CutList) (work : List ℕ) (more : List Check) (parts : List (List ℕ × List ℕ)) where
  pub number_is : (call m l work more parts).answer.number ≡ first_hit (map_checks m work ++ more)
  unfolding call answer counted
  number_is = let n = first_hit (map_checks m work ++ more) in go n (early n) refl
    where
      go : (n : ℕ) (b : Bool) → early n ≡ b → (answer n l).number ≡ n
      go n true e = rw (e, answer)
      go n false e = rw (e, answer)

  abbrev after : ℕ → Outcome
  after n = record { answer = answer n l; stores = work_after m n work ∷ map (λ p. store_after n p.0 p.1) parts }

  early_after : (n : ℕ) → 1 ≤ n → n ≤ 3 → after n ≡ record { answer = refused n; stores = work ∷ lent parts }
  unfolding answer work_after
  early_after n a b =
      let is : early n ≡ true = is_early n a b in
      let answered : answer n l ≡ refused n = rw (is, answer) in
      let worked : work_after m n work ≡ work = rw (is, work_after) in
      λ i. record { answer = answered i; stores = worked i ∷ all_kept n (λ e. omega arith) parts i }

  late_after : (n : ℕ) → 4 ≤ n → after n ≡ record { answer = counted n l; stores = cleared m work ∷ lent parts }
  unfolding answer work_after
  late_after n a =
      let is : early n ≡ false = is_late n a in
      let answered : answer n l ≡ counted n l = rw (is, answer) in
      let worked : work_after m n work ≡ cleared m work = rw (is, work_after) in
      λ i. record { answer = answered i; stores = worked i ∷ all_kept n (λ e. omega arith) parts i }

  fine_after : after 0 ≡ record { answer = counted 0 l; stores = cleared m work ∷ written parts }
  unfolding answer work_after early store_after
  fine_after = refl

  pub settled : Settled m l work parts (call m l work more parts)
  unfolding call
  settled =
      let n = first_hit (map_checks m work ++ more) in
      record {
        early = λ a b. early_after n (rw number_is at a) (rw number_is at b) ∙ ap (λ (n : ℕ). record { answer = refused n; stores = work ∷ lent parts }) (sym number_is);
        late = λ a. late_after n (rw number_is at a) ∙ ap (λ (n : ℕ). record { answer = counted n l; stores = cleared m work ∷ lent parts }) (sym number_is);
        fine = λ z. let e : n ≡ 0 = sym number_is ∙ z in rw e fine_after;
      }
