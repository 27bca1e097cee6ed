-- A table of numbered rows: the number given is that of the first row that applies, both ways.
use Prim.Native.Nat.{ℕ, ◌<◌}
use mathlib.Core.Bool.{Bool, true, false, true≢false}
use mathlib.Core.Path.{◌≡◌, refl, sym, ◌∙◌}
use mathlib.Core.Logic.{◌⊎◌, inl, inr}
use mathlib.Core.List.Memᴰ.{head as here}
use mathlib.Core.List.Memᴰ.{tail as there}
use mathlib.Core.List.{List, [], ◌∷◌, ◌++◌, Memᴰ as In}
use native.Mathlib.Omega.{arith}
use Rattle.rules.specs.Calls.{Check, first_hit}

infix 4 ◌⇔◌
-- one way and the other
abbrev pub ◌⇔◌ : Type 0 → Type 0 → Type 0
A ⇔ B = (A → B) × (B → A)

-- a row: its check, and what it says
pub record Row : Type 1 where
  pub check : Check
  pub says : Type 0
  pub exact : (check.hits ≡ true) ⇔ says

abbrev pub checks : List {1} Row → List Check
checks [] = []
checks (r ∷ rs) = r.check ∷ checks rs

abbrev pub numbers : List {1} Row → List ℕ
numbers [] = []
numbers (r ∷ rs) = r.check.number ∷ numbers rs

-- none of the rows applies
abbrev pub None : List {1} Row → Type 0
None [] = Unit {0}
None (r ∷ rs) = (r.says → ⊥) × None rs

-- the numbers rise, from above k
abbrev pub Rising : ℕ → List {1} Row → Type 0
Rising k [] = Unit {0}
Rising k (r ∷ rs) = (k < r.check.number) × Rising r.check.number rs

-- the number is 0 or above k
abbrev Above : ℕ → ℕ → Type 0
Above k n = (n ≡ 0 → ⊥) → k < n

number_above : (k : ℕ) (rs : List {1} Row) → Rising k rs → Above k (first_hit (checks rs))
unfolding first_hit
number_above k [] p = λ n. absurd (n refl)
number_above k (r ∷ rs) p = go r.check.hits (number_above r.check.number rs p.1)
  where
    go : (b : Bool) → Above r.check.number (first_hit (checks rs)) → Above k (elim b [ true ↦ r.check.number | false ↦ first_hit (checks rs) ])
    go true f n = p.0
    go false f n = let h = p.0 in let g = f n in omega arith

-- ROW BY ROW: the number is a row's exactly when that row applies and none before it
pub exactly : (k : ℕ) (before : List {1} Row) (r : Row) (after : List {1} Row) → Rising k (before ++ (r ∷ after))
    → (first_hit (checks (before ++ (r ∷ after))) ≡ r.check.number) ⇔ (None before × r.says)
unfolding first_hit
exactly k [] r after p = go r.check.hits refl (number_above r.check.number after p.1)
  where
    go : (b : Bool) → r.check.hits ≡ b → Above r.check.number (first_hit (checks after))
        → (◌≡◌ {A = ℕ} (elim b [ true ↦ r.check.number | false ↦ first_hit (checks after) ]) r.check.number) ⇔ (Unit {0} × r.says)
    go true h f = (λ e. (tt, r.exact.0 h), λ s. refl)
    go false h f = (λ e. absurd (let c = p.0 in let g = f (λ z. omega arith) in omega arith), λ s. absurd (true≢false (sym (r.exact.1 s.1) ∙ h)))
exactly k (b ∷ before) r after p = go b.check.hits refl (exactly b.check.number before r after p.1) (above before p.1)
  where
    -- later rows have larger numbers
    above : {j : ℕ} (rs : List {1} Row) → Rising j (rs ++ (r ∷ after)) → j < r.check.number
    above [] q = q.0
    above (s ∷ rs) q = let i = above rs q.1 in let h = q.0 in omega arith

    go : (c : Bool) → b.check.hits ≡ c
        → (first_hit (checks (before ++ (r ∷ after))) ≡ r.check.number) ⇔ (None before × r.says)
        → b.check.number < r.check.number
        → (◌≡◌ {A = ℕ} (elim c [ true ↦ b.check.number | false ↦ first_hit (checks (before ++ (r ∷ after))) ]) r.check.number) ⇔ (((b.says → ⊥) × None before) × r.says)
    go true h f l = (λ e. absurd (omega arith), λ s. absurd (s.0.0 (b.exact.0 h)))
    go false h f l = (λ e. let q = f.0 e in ((λ s. true≢false (sym (b.exact.1 s) ∙ h), q.0), q.1), λ s. f.1 (s.0.1, s.1))

-- and 0 exactly when none does
pub none_applies : (k : ℕ) (rs : List {1} Row) → Rising k rs → (first_hit (checks rs) ≡ 0) ⇔ None rs
unfolding first_hit
none_applies k [] p = (λ e. tt, λ n. refl)
none_applies k (r ∷ rs) p = go r.check.hits refl (none_applies r.check.number rs p.1)
  where
    go : (b : Bool) → r.check.hits ≡ b → (first_hit (checks rs) ≡ 0) ⇔ None rs
        → (◌≡◌ {A = ℕ} (elim b [ true ↦ r.check.number | false ↦ first_hit (checks rs) ]) 0) ⇔ ((r.says → ⊥) × None rs)
    go true h f = (λ e. absurd (let c = p.0 in omega arith), λ n. absurd (n.0 (r.exact.0 h)))
    go false h f = (λ e. (λ s. true≢false (sym (r.exact.1 s) ∙ h), f.0 e), λ n. f.1 n.1)

-- no other number is given
pub some_number : (rs : List {1} Row) → (first_hit (checks rs) ≡ 0) ⊎ In (first_hit (checks rs)) (numbers rs)
unfolding first_hit
some_number [] = inl refl
some_number (r ∷ rs) = go r.check.hits (some_number rs)
  where
    go : (b : Bool) → (first_hit (checks rs) ≡ 0) ⊎ In (first_hit (checks rs)) (numbers rs)
        → let n : ℕ = elim b [ true ↦ r.check.number | false ↦ first_hit (checks rs) ] in (n ≡ 0) ⊎ In n (numbers (r ∷ rs))
    go true f = inr (here refl)
    go false (inl e) = inl e
    go false (inr i) = inr (there i)
