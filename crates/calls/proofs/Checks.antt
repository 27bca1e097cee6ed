-- The checks, one after the other: what each says when it hits, and what none of them leaves.
use Prim.Native.Nat.{ℕ, ◌+◌, ◌*◌, ◌/◌, ◌<◌, ◌≤◌}
use mathlib.Core.Bool.{Bool, true, false}
use mathlib.Core.Path.{◌≡◌, refl, sym, ap, ◌∙◌}
use mathlib.Core.List.{List, [], ◌∷◌, ◌++◌}
use native.Mathlib.Omega.{arith}
use native.Mathlib.Decide.{ℕ_discrete}
use lib.Dec.{ltb}
use lib.ListN.{length}
use borrow.Author.Tests.{lt-ltb, le-ltb, eq-eqb, ne_eqb, ltb-false}
use Rattle.calls.specs.declared.Counts.{Counts}
use Rattle.calls.specs.Outcome.{answer_with, refused_if}
use Rattle.std.specs.Prelude.{Result, Ok, Err}
use Rattle.std.specs.Result.{result_and}
use Rattle.rules.specs.declared.Refusal.{Refusal}
use Rattle.rules.specs.Refusals.{number_of, number_in}
use Rattle.rules.specs.Calls.{counted, Map, Check, first_hit, work_words, map_checks, CutList, short, graph_checks, face_checks}
use Rattle.calls.proofs.Refusals.{positive}

-- ANY CHECKS, each with a number above 0

abbrev pub Positive : List Check → Type 0
Positive [] = Unit {0}
Positive (c ∷ cs) = (0 < c.number) × Positive cs

-- a hit among the first settles it
pub hit_early : (cs ds : List Check) → Positive cs → (first_hit cs ≡ 0 → ⊥) → first_hit (cs ++ ds) ≡ first_hit cs
unfolding first_hit
hit_early [] ds p n = absurd (n refl)
hit_early (c ∷ cs) ds p n = go c.hits n (hit_early cs ds p.1)
  where
    go : (b : Bool) → (◌≡◌ {A = ℕ} (elim b [ true ↦ c.number | false ↦ first_hit cs ]) 0 → ⊥) → ((first_hit cs ≡ 0 → ⊥) → first_hit (cs ++ ds) ≡ first_hit cs)
        → ◌≡◌ {A = ℕ} (elim b [ true ↦ c.number | false ↦ first_hit (cs ++ ds) ]) (elim b [ true ↦ c.number | false ↦ first_hit cs ])
    go true n f = refl
    go false n f = f n

-- with none the others decide
pub hit_late : (cs ds : List Check) → Positive cs → first_hit cs ≡ 0 → first_hit (cs ++ ds) ≡ first_hit ds
unfolding first_hit
hit_late [] ds p e = refl
hit_late (c ∷ cs) ds p e = go c.hits e (hit_late cs ds p.1)
  where
    go : (b : Bool) → ◌≡◌ {A = ℕ} (elim b [ true ↦ c.number | false ↦ first_hit cs ]) 0 → (first_hit cs ≡ 0 → first_hit (cs ++ ds) ≡ first_hit ds)
        → ◌≡◌ {A = ℕ} (elim b [ true ↦ c.number | false ↦ first_hit (cs ++ ds) ]) (first_hit ds)
    go true e f = absurd (let h = p.0 in omega arith)
    go false e f = f e

-- a refusal by the first is one by all, and where they do not hit the others' result is that of all
pub then_stop : (cs ds : List Check) → Positive cs → (why : Refusal) → number_of why ≡ first_hit cs → number_of why ≡ first_hit (cs ++ ds)
then_stop cs ds p why e = e ∙ sym (hit_early cs ds p (λ z. let h = positive why in omega arith))

pub then_on : (cs ds : List Check) → Positive cs → {n : ℕ} → 0 ≡ first_hit cs → n ≡ first_hit ds → n ≡ first_hit (cs ++ ds)
then_on cs ds p z e = e ∙ sym (hit_late cs ds p (sym z))

-- and two results joined by `and` are one
pub hits_and : (cs ds : List Check) → Positive cs → (r q : Result (Unit {0}) Refusal) → number_in r ≡ first_hit cs → number_in q ≡ first_hit ds
    → number_in (result_and r q) ≡ first_hit (cs ++ ds)
hits_and cs ds p (Ok u) q e f = then_on cs ds p e f
hits_and cs ds p (Err why) q e f = then_stop cs ds p why e

-- the number is 0 only where neither those nor these hit
pub both_miss : (cs ds : List Check) → Positive cs → first_hit (cs ++ ds) ≡ 0 → (first_hit cs ≡ 0) × (first_hit ds ≡ 0)
both_miss cs ds p z =
    elim (ℕ_discrete (first_hit cs) 0) [
      | yes e ↦ (e, sym (hit_late cs ds p e) ∙ z)
      | no n ↦ absurd (n (sym (hit_early cs ds p n) ∙ z))
    ]

-- OF THE MAP AND THE WORK STORE

module _ (m : Map) (work : List ℕ) where
  pub map_positive : Positive (map_checks m work)
  unfolding map_checks
  map_positive = (omega arith, (omega arith, (omega arith, tt)))

  pub too_wide : 16384 < m.width → 1 ≡ first_hit (map_checks m work)
  unfolding first_hit map_checks
  too_wide p = rw (lt-ltb 16384 m.width p, first_hit)

  module _ (w : m.width ≤ 16384) where
    pub too_high : 16384 < m.height → 1 ≡ first_hit (map_checks m work)
    unfolding first_hit map_checks
    too_high p = rw (le-ltb 16384 m.width w, lt-ltb 16384 m.height p, first_hit)

    module _ (h : m.height ≤ 16384) where
      pub wrong_count : (length m.labels ≡ m.width * m.height → ⊥) → 2 ≡ first_hit (map_checks m work)
      unfolding first_hit map_checks
      wrong_count p = rw (le-ltb 16384 m.width w, le-ltb 16384 m.height h, ne_eqb (length m.labels) (m.width * m.height) p, first_hit)

      module _ (l : length m.labels ≡ m.width * m.height) where
        pub short_work : length work < work_words m → 3 ≡ first_hit (map_checks m work)
        unfolding first_hit map_checks
        short_work p =
            rw (le-ltb 16384 m.width w, le-ltb 16384 m.height h, eq-eqb (length m.labels) (m.width * m.height) l, lt-ltb (length work) (work_words m) p, first_hit)

        pub none_early : work_words m ≤ length work → 0 ≡ first_hit (map_checks m work)
        unfolding first_hit map_checks
        none_early p =
            rw (le-ltb 16384 m.width w, le-ltb 16384 m.height h, eq-eqb (length m.labels) (m.width * m.height) l, le-ltb (length work) (work_words m) p, first_hit)

-- OF THREE STORES, with the numbers from n on

abbrev pub three : ℕ → Bool → Bool → Bool → List Check
three n s t u = record { number = n; hits = s } ∷ record { number = n + 1; hits = t } ∷ record { number = n + 2; hits = u } ∷ []

-- if the number is 0, none is short
pub all_miss : (n : ℕ) (s t u : Bool) → 0 < n → first_hit (three n s t u) ≡ 0 → (s ≡ false) × (t ≡ false) × (u ≡ false)
unfolding first_hit
all_miss n true t u h e = absurd (omega arith)
all_miss n false true u h e = absurd (omega arith)
all_miss n false false true h e = absurd (omega arith)
all_miss n false false false h e = (refl, refl, refl)

pub room : (p : ℕ) (store words : List ℕ) → short p store words ≡ false → length words / p ≤ length store / p
unfolding short
room p store words e = ltb-false (length store / p) (length words / p) e

-- one check by itself, of a store that holds a records and must hold n
abbrev pub lone : ℕ → ℕ → ℕ → Check
lone number a n = record { number = number; hits = ltb a n }

-- the number of its result
pub lone_number : (why : Refusal) (a n : ℕ) {r : Result (Unit {0}) Refusal} → r ≡ refused_if (ltb a n) why → number_in r ≡ first_hit (lone (number_of why) a n ∷ [])
unfolding first_hit
lone_number why a n e = ap number_in e ∙ go (ltb a n)
  where
    go : (b : Bool) → number_in (refused_if b why) ≡ elim b [ true ↦ number_of why | false ↦ 0 ]
    go true = refl
    go false = refl

-- three such checks, one after the other
module _ {c d e : Check} {cs : List Check} (same : c ∷ d ∷ e ∷ [] ≡ cs) (hc : 0 < c.number) where
  pub first_stops : (why : Refusal) → number_of why ≡ first_hit (c ∷ []) → number_of why ≡ first_hit cs
  first_stops why s = then_stop (c ∷ []) (d ∷ e ∷ []) (hc, tt) why s ∙ ap first_hit same

  module _ (hd : 0 < d.number) (z : 0 ≡ first_hit (c ∷ [])) where
    pub second_stops : (why : Refusal) → number_of why ≡ first_hit (d ∷ []) → number_of why ≡ first_hit cs
    second_stops why s = then_on (c ∷ []) (d ∷ e ∷ []) (hc, tt) z (then_stop (d ∷ []) (e ∷ []) (hd, tt) why s) ∙ ap first_hit same

    pub third_decides : {n : ℕ} → 0 ≡ first_hit (d ∷ []) → n ≡ first_hit (e ∷ []) → n ≡ first_hit cs
    third_decides y s = then_on (c ∷ []) (d ∷ e ∷ []) (hc, tt) z (then_on (d ∷ []) (e ∷ []) (hd, tt) y s) ∙ ap first_hit same

-- the rules' checks are such
pub graph_room : (c : Counts) (l : CutList) (ns ss ps : List ℕ) → answer_with 0 c ≡ counted 0 l
    → {nodes segments points : ℕ} → length ns ≡ nodes → length ss ≡ segments → length ps ≡ points
    → lone 4 (nodes / 6) c.nodes ∷ lone 5 (segments / 8) c.segments ∷ lone 6 (points / 2) c.points ∷ [] ≡ graph_checks l ns ss ps
unfolding graph_checks short counted
graph_room c l ns ss ps k en es ep = rw (← en, ← es, ← ep, ap (λ b. b.nodes) k, ap (λ b. b.segments) k, ap (λ b. b.points) k)

pub face_room : (c : Counts) (l : CutList) (rs cs fs : List ℕ) → answer_with 0 c ≡ counted 0 l
    → {references contours faces : ℕ} → length rs ≡ references → length cs ≡ contours → length fs ≡ faces
    → lone 7 references c.references ∷ lone 8 (contours / 2) c.contours ∷ lone 9 (faces / 5) c.faces ∷ [] ≡ face_checks l rs cs fs
unfolding face_checks short counted
face_room c l rs cs fs k er ec ef =
    let single : (n : ℕ) → n / 1 ≡ n = λ n. omega arith in
    rw (← er, ← ec, ← ef, single (length rs), single (length l.references), ap (λ b. b.references) k, ap (λ b. b.contours) k, ap (λ b. b.faces) k)

pub graph_positive : (l : CutList) (ns ss ps : List ℕ) → Positive (graph_checks l ns ss ps)
unfolding graph_checks
graph_positive l ns ss ps = (omega arith, (omega arith, (omega arith, tt)))
