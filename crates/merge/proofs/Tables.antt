-- The rows of the call: each check beside what it says in plain words. Their numbers do not rise, but none comes twice.
use Prim.Native.Nat.{ℕ, ◌+◌, ◌*◌, ◌<◌, ◌≤◌}
use mathlib.Core.Bool.{Bool, true, false, not, ◌&&◌, ◌||◌, true≢false, false≢true}
use mathlib.Core.Path.{◌≡◌, refl, sym, ◌∙◌, subst}
use mathlib.Core.Logic.{◌⊎◌, inl, inr}
use mathlib.Core.List.Memᴰ.{head as here}
use mathlib.Core.List.Memᴰ.{not-nil}
use mathlib.Core.List.Memᴰ.{tail as there}
use mathlib.Core.List.{List, [], ◌∷◌, ◌++◌, Memᴰ as In}
use lib.IntN.{ℤ, pos, negsuc}
use lib.Dec.{leb, ltb, eqb}
use lib.ListN.{length}
use borrow.Author.Tests.{leb-true, le-leb}
use Rattle.rules.specs.Lists.{Distinct, among}
use Rattle.rules.specs.Picture.{OUTSIDE}
use Rattle.rules.specs.Calls.{Map, first_hit}
use Rattle.rules.proofs.Ground.Booleans.{both, and_left, and_right}
use Rattle.rules.proofs.Ground.Lists.{not_among}
use Rattle.calls.proofs.Rows.{◌⇔◌, Row, checks, numbers, None, some_number}
use Rattle.calls.proofs.Tables.{either_test, unequal_test, less_test}
use Rattle.merge.specs.Merge.{merges, stray, checks_when}
use Rattle.merge.specs.Merge.{checks as checks_of}

-- ANY ROWS, their numbers apart from each other and from 0

-- a row's number exactly when that row applies and none before it
pub apart_exactly : (before : List {1} Row) (r : Row) (after : List {1} Row) → Distinct (0 ∷ numbers (before ++ (r ∷ after)))
    → (first_hit (checks (before ++ (r ∷ after))) ≡ r.check.number) ⇔ (None before × r.says)
unfolding first_hit
apart_exactly [] r after d = go r.check.hits refl (some_number after)
  where
    other : (first_hit (checks after) ≡ 0) ⊎ In (first_hit (checks after)) (numbers after) → first_hit (checks after) ≡ r.check.number → ⊥
    other (inl z) e = d.0 (here (sym z ∙ e))
    other (inr i) e = d.1.0 (subst (λ n. In n (numbers after)) e i)

    go : (b : Bool) → r.check.hits ≡ b → (first_hit (checks after) ≡ 0) ⊎ In (first_hit (checks after)) (numbers after)
        → (◌≡◌ {A = ℕ} (elim b [ true ↦ r.check.number | false ↦ first_hit (checks after) ]) r.check.number) ⇔ (Unit {0} × r.says)
    go true h f = (λ e. (tt, r.exact.0 h), λ s. refl)
    go false h f = (λ e. absurd (other f e), λ s. absurd (true≢false (sym (r.exact.1 s.1) ∙ h)))
apart_exactly (b ∷ before) r after d = go b.check.hits refl (apart_exactly before r after (λ i. d.0 (there i), d.1.1))
  where
    middle : (rs : List {1} Row) → In r.check.number (numbers (rs ++ (r ∷ after)))
    middle [] = here refl
    middle (s ∷ rs) = there (middle rs)

    go : (c : Bool) → b.check.hits ≡ c
        → (first_hit (checks (before ++ (r ∷ after))) ≡ r.check.number) ⇔ (None before × r.says)
        → (◌≡◌ {A = ℕ} (elim c [ true ↦ b.check.number | false ↦ first_hit (checks (before ++ (r ∷ after))) ]) r.check.number) ⇔ (((b.says → ⊥) × None before) × r.says)
    go true h f = (λ e. absurd (d.1.0 (subst (λ n. In n (numbers (before ++ (r ∷ after)))) (sym e) (middle before))), λ s. absurd (s.0.0 (b.exact.0 h)))
    go false h f = (λ e. let q = f.0 e in ((λ s. true≢false (sym (b.exact.1 s) ∙ h), q.0), q.1), λ s. f.1 (s.0.1, s.1))

-- and 0 exactly when none does
pub apart_none : (rs : List {1} Row) → (In 0 (numbers rs) → ⊥) → (first_hit (checks rs) ≡ 0) ⇔ None rs
unfolding first_hit
apart_none [] z = (λ e. tt, λ n. refl)
apart_none (r ∷ rs) z = go r.check.hits refl (apart_none rs (λ i. z (there i)))
  where
    go : (b : Bool) → r.check.hits ≡ b → (first_hit (checks rs) ≡ 0) ⇔ None rs
        → (◌≡◌ {A = ℕ} (elim b [ true ↦ r.check.number | false ↦ first_hit (checks rs) ]) 0) ⇔ ((r.says → ⊥) × None rs)
    go true h f = (λ e. absurd (z (here (sym e))), λ n. absurd (n.0 (r.exact.0 h)))
    go false h f = (λ e. (λ s. true≢false (sym (r.exact.1 s) ∙ h), f.0 e), λ n. f.1 n.1)

-- WHAT THE TESTS SAY

pub both_test : {A B : Type 0} (a b : Bool) → (a ≡ true) ⇔ A → (b ≡ true) ⇔ B → (a && b ≡ true) ⇔ (A × B)
both_test a b f g = (λ e. (f.0 (and_left a b e), g.0 (and_right a b e)), λ p. both a b (f.1 p.0) (g.1 p.1))

pub or_test : {A B : Type 0} (a b : Bool) → (a ≡ true) ⇔ A → (b ≡ true) ⇔ B → (a || b ≡ true) ⇔ (A ⊎ B)
or_test {A} {B} true b f g = (λ e. inl (f.0 refl), λ s. refl)
or_test {A} {B} false b f g = (λ e. inr (g.0 e), from)
  where
    from : A ⊎ B → b ≡ true
    from (inl p) = absurd (false≢true (f.1 p))
    from (inr q) = g.1 q

-- a limit of 0 or more, and two or more paints
pub record Merging (limit : ℤ) (paints : ℕ) : Type 0 where
  pub most : ℕ
  pub limit_is : limit ≡ pos most
  pub some : 2 ≤ paints

pub merging_test : (limit : ℤ) (paints : ℕ) → (merges limit paints ≡ true) ⇔ Merging limit paints
unfolding merges
merging_test (pos k) paints = (λ e. record { most = k; limit_is = refl; some = leb-true 2 paints e }, λ a. le-leb 2 paints a.some)
merging_test (negsuc k) paints = (λ e. absurd (false≢true e), λ a. absurd (false≢true (subst (λ (z : ℤ). merges z paints ≡ true) (sym a.limit_is) (le-leb 2 paints a.some))))

-- a label that is neither OUTSIDE nor painted
pub record Stray (paints : ℕ) (ls : List ℕ) : Type 0 where
  pub label : ℕ
  pub stands : In label ls
  pub inside : label ≡ OUTSIDE → ⊥
  pub unpainted : paints ≤ label

pub stray_test : (paints : ℕ) (ls : List ℕ) → (stray paints ls ≡ true) ⇔ Stray paints ls
stray_test paints [] = (λ e. absurd (false≢true e), λ s. absurd (not-nil s.stands))
stray_test paints (l ∷ ls) =
    let first = both_test (not (eqb l OUTSIDE)) (leb paints l) (unequal_test l OUTSIDE) (leb-true paints l, le-leb paints l) in
    let either = or_test (not (eqb l OUTSIDE) && leb paints l) (stray paints ls) first (stray_test paints ls) in
    (λ e. to (either.0 e), λ s. either.1 (from s s.stands))
  where
    to : ((l ≡ OUTSIDE → ⊥) × (paints ≤ l)) ⊎ Stray paints ls → Stray paints (l ∷ ls)
    to (inl p) = record { label = l; stands = here refl; inside = p.0; unpainted = p.1 }
    to (inr s) = record { label = s.label; stands = there s.stands; inside = s.inside; unpainted = s.unpainted }

    from : (s : Stray paints (l ∷ ls)) → In s.label (l ∷ ls) → ((l ≡ OUTSIDE → ⊥) × (paints ≤ l)) ⊎ Stray paints ls
    from s (here e) = inl (λ z. s.inside (e ∙ z), subst (λ k. paints ≤ k) e s.unpainted)
    from s (there i) = inr (record { label = s.label; stands = i; inside = s.inside; unpainted = s.unpainted })

-- the colour store has another length than three bytes for each paint, or the region store is shorter than twelve words for each
abbrev pub Lacks : ℕ → ℕ → ℕ → Type 0
Lacks colours rooms paints = (colours ≡ 3 * paints → ⊥) ⊎ (rooms < 12 * paints)

-- THE ROWS

-- 1: width or height above 16,384. 2: label count is not width × height. 12: before a merge, a stray label. 3: work store shorter than
-- 8 × (width+1) × (height+1) words. 17: before a merge, colours of another length or too short a region store
abbrev pub rows : Map → ℤ → List ℕ → List ℕ → List ℕ → List {1} Row
rows m limit colours work store =
    let merging = merges limit m.paints in
    let asked = merging_test limit m.paints in
    record { check = record { number = 1; hits = ltb 16384 m.width || ltb 16384 m.height }; says = (16384 < m.width) ⊎ (16384 < m.height); exact = either_test 16384 m.width m.height } ∷
    record { check = record { number = 2; hits = not (eqb (length m.labels) (m.width * m.height)) }; says = length m.labels ≡ m.width * m.height → ⊥; exact = unequal_test (length m.labels) (m.width * m.height) } ∷
    record { check = record { number = 12; hits = merging && stray m.paints m.labels }; says = Merging limit m.paints × Stray m.paints m.labels; exact = both_test merging (stray m.paints m.labels) asked (stray_test m.paints m.labels) } ∷
    record { check = record { number = 3; hits = ltb (length work) (8 * (m.width + 1) * (m.height + 1)) }; says = length work < 8 * (m.width + 1) * (m.height + 1); exact = less_test (length work) (8 * (m.width + 1) * (m.height + 1)) } ∷
    record {
      check = record { number = 17; hits = merging && (not (eqb (length colours) (3 * m.paints)) || ltb (length store) (12 * m.paints)) };
      says = Merging limit m.paints × Lacks (length colours) (length store) m.paints;
      exact =
          both_test merging (not (eqb (length colours) (3 * m.paints)) || ltb (length store) (12 * m.paints)) asked
          (or_test (not (eqb (length colours) (3 * m.paints))) (ltb (length store) (12 * m.paints)) (unequal_test (length colours) (3 * m.paints)) (less_test (length store) (12 * m.paints)));
    } ∷ []

-- they are the definitions' checks
pub rows_checks : (m : Map) (limit : ℤ) (colours work store : List ℕ) → checks (rows m limit colours work store) ≡ checks_of m limit colours work store
unfolding checks_of checks_when
rows_checks m limit colours work store = refl

-- and no number comes twice, nor is one 0
pub rows_apart : (m : Map) (limit : ℤ) (colours work store : List ℕ) → Distinct (0 ∷ numbers (rows m limit colours work store))
unfolding among
rows_apart m limit colours work store = (
  not_among 0 (1 ∷ 2 ∷ 12 ∷ 3 ∷ 17 ∷ []) refl,
  (not_among 1 (2 ∷ 12 ∷ 3 ∷ 17 ∷ []) refl, (not_among 2 (12 ∷ 3 ∷ 17 ∷ []) refl, (not_among 12 (3 ∷ 17 ∷ []) refl, (not_among 3 (17 ∷ []) refl, (not_among 17 [] refl, tt))))),
)
