-- What a call answers and leaves, by whether the map is looked at.
use Prim.Native.Nat.{ℕ, ◌+◌, ◌*◌, ◌<◌, ◌≤◌}
use mathlib.Core.Bool.{Bool, true, false, not, ◌||◌}
use mathlib.Core.Path.{◌≡◌, refl, sym, ap, ◌∙◌}
use mathlib.Core.Logic.{inr}
use mathlib.Core.List.{List, [], ◌∷◌, ◌++◌}
use native.Mathlib.Omega.{arith}
use native.Mathlib.Nat.{mul_assoc}
use lib.Dec.{ltb, eqb}
use lib.ListN.{length, drop, replicate, length-drop, length-replicate}
use lib.Seq.{sets, ext_get_or, get_or-drop}
use borrow.Author.Tests.{le-leb, lt-leb, ne_eqb, ltb-false, eqb-true}
use Rattle.rules.specs.Calls.{Map, CutList, counted, refused, Check, first_hit, work_words, map_checks, early, answer, work_after, store_after}
use Rattle.store.specs.Words.{Kept}
use Rattle.store.proofs.Writes.{sets_front}
use Rattle.lattice.specs.declared.Size.{Size}
use Rattle.lattice.specs.Planes.{plane}
use Rattle.calls.specs.Outcome.{map_of}
use Rattle.calls.proofs.Checks.{hit_early, hit_late, map_positive}

-- EARLY: 1, 2 or 3. LATE: above 3

abbrev pub Late : List Check → Type 0
Late [] = Unit {0}
Late (c ∷ cs) = (3 < c.number) × Late cs

-- a late number, or 0
pub late_number_lem : (cs : List Check) → Late cs → early (first_hit cs) ≡ false
unfolding first_hit early
late_number_lem [] p = refl
late_number_lem (c ∷ cs) p = go c.hits (late_number_lem cs p.1)
  where
    above : early c.number ≡ false
    above = rw (lt-leb c.number 3 p.0, le-leb 1 c.number (let h = p.0 in omega arith))

    go : (b : Bool) → early (first_hit cs) ≡ false → early (elim b [ true ↦ c.number | false ↦ first_hit cs ]) ≡ false
    go true e = above
    go false e = e

module _ (m : Map) (work : List ℕ) where
  abbrev pub first : ℕ
  first = first_hit (map_checks m work)

  -- what none of the early checks leaves
  pub record Passed : Type 0 where
    pub wide : m.width ≤ 16384
    pub high : m.height ≤ 16384
    pub labels : length m.labels ≡ m.width * m.height
    pub planes : work_words m ≤ length work

  -- the four ways through the early checks
  by_early : (Q : ℕ → Type 0) → Q 1 → Q 2 → Q 3 → (Passed → Q 0) → Q first
  unfolding first_hit map_checks
  by_early Q one two three none =
      go (ltb 16384 m.width) refl (ltb 16384 m.height) refl (eqb (length m.labels) (m.width * m.height)) refl (ltb (length work) (work_words m)) refl
    where
      go : (a : Bool) → ltb 16384 m.width ≡ a → (b : Bool) → ltb 16384 m.height ≡ b → (c : Bool) → eqb (length m.labels) (m.width * m.height) ≡ c
          → (d : Bool) → ltb (length work) (work_words m) ≡ d
          → Q (elim (a || b) [ true ↦ 1 | false ↦ elim (not c) [ true ↦ 2 | false ↦ elim d [ true ↦ 3 | false ↦ 0 ] ] ])
      go true ea b eb c ec d ed = one
      go false ea true eb c ec d ed = one
      go false ea false eb false ec d ed = two
      go false ea false eb true ec true ed = three
      go false ea false eb true ec false ed =
          none (record {
            wide = ltb-false 16384 m.width ea;
            high = ltb-false 16384 m.height eb;
            labels = eqb-true (length m.labels) (m.width * m.height) ec;
            planes = ltb-false (length work) (work_words m) ed;
          })

  pub early_number : (first ≡ 0 → ⊥) → early first ≡ true
  unfolding early
  early_number = by_early (λ n. (n ≡ 0 → ⊥) → early n ≡ true) (λ h. refl) (λ h. refl) (λ h. refl) (λ p h. absurd (h refl))

  pub passed : first ≡ 0 → Passed
  passed = by_early (λ n. n ≡ 0 → Passed) (λ e. absurd (omega arith)) (λ e. absurd (omega arith)) (λ e. absurd (omega arith)) (λ p e. p)

  -- THE CALL with the checks ds behind the early ones
  module _ (ds : List Check) where
    abbrev pub number : ℕ
    number = first_hit (map_checks m work ++ ds)

    module _ (n : first ≡ 0 → ⊥) where
      pub number_early : number ≡ first
      number_early = hit_early (map_checks m work) ds (map_positive m work) n

      pub refused_answer : (l : CutList) → answer number l ≡ refused first
      unfolding answer
      refused_answer l = rw number_early (rw (early_number n, answer))

      pub refused_work : work_after m number work ≡ work
      unfolding work_after
      refused_work = rw (number_early, early_number n, work_after)

      pub refused_store : (words store : List ℕ) → store_after number words store ≡ store
      unfolding store_after
      refused_store words store = rw (number_early, ne_eqb first 0 n, store_after)

    module _ (late : Late ds) (z : first ≡ 0) where
      pub number_late : number ≡ first_hit ds
      number_late = hit_late (map_checks m work) ds (map_positive m work) z

      pub accepted_answer : (l : CutList) → answer number l ≡ counted (first_hit ds) l
      unfolding answer
      accepted_answer l = rw number_late (rw (late_number_lem ds late, answer))

      pub accepted_work : work_after m number work ≡ replicate (work_words m) 0 ++ drop (work_words m) work
      unfolding work_after
      accepted_work = rw (number_late, late_number_lem ds late, work_after)

-- THE WORK STORE, cleared at the end

pub work_words_lem : (s : Size) (ls : List ℕ) → work_words (map_of s ls) ≡ 8 * plane s.width s.height
work_words_lem s ls = mul_assoc 8 (s.width + 1) (s.height + 1)

pub work_cleared : (n : ℕ) (work work₁ work₂ : List ℕ) → n ≤ length work → Kept 0 n work work₁ → work₂ ≡ sets work₁ 0 (replicate n 0) → work₂ ≡ replicate n 0 ++ drop n work
work_cleared n work work₁ work₂ h k e =
    let r = length-replicate {A = ℕ} n 0 in
    e ∙ sets_front work₁ (replicate n 0) (omega (arith, k.long))
    ∙ ap (λ (j : ℕ). replicate n 0 ++ drop j work₁) r
    ∙ ap (λ (l : List ℕ). replicate n 0 ++ l)
    (ext_get_or 0 (drop n work₁) (drop n work) (omega (arith, length-drop n work₁, length-drop n work, k.long))
    (λ i p. get_or-drop n work₁ i 0 ∙ k.others (n + i) (inr (omega arith)) ∙ sym (get_or-drop n work i 0)))

-- A STORE with room, written from its front
pub store_written : (words store store' : List ℕ) → length words ≤ length store → store' ≡ sets store 0 words → store' ≡ store_after 0 words store
unfolding store_after
store_written words store store' h e = e ∙ sets_front store words h

-- and one that is left alone
pub store_kept : (n : ℕ) (words store : List ℕ) → (n ≡ 0 → ⊥) → store ≡ store_after n words store
unfolding store_after
store_kept n words store h = rw (ne_eqb n 0 h, store_after)
