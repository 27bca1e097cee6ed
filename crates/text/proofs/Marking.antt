-- The tests of the mark of a contour, and its sums one number after the other.
use Rattle.std.proofs.Common.{◌≡◌, ℕ, ◌+◌, ◌*◌, ◌%◌, ◌^◌, ◌<◌, ◌≤◌, List, get_or, refl, ◌∙◌, ap₂, add-one, arith, le-ltb, lt-ltb, eq-eqb, ne_eqb}
use mathlib.Core.Bool.{Bool, true, false, not, beq}
use native.Mathlib.Decide.{ℕ_discrete}
use lib.Dec.{eqb}
use Rattle.text.specs.Mark.{way_of, summed, eastward, step_east}

pub eastward_yes : (ps : List ℕ) (i j : ℕ) → get_or ps (2 * i) 0 < get_or ps (2 * j) 0 → eastward ps i j ≡ get_or ps (2 * i + 1) 0
unfolding eastward
eastward_yes ps i j h = rw (lt-ltb (get_or ps (2 * i) 0) (get_or ps (2 * j) 0) h, eastward)

pub eastward_no : (ps : List ℕ) (i j : ℕ) → get_or ps (2 * j) 0 ≤ get_or ps (2 * i) 0 → eastward ps i j ≡ 0
unfolding eastward
eastward_no ps i j h = rw (le-ltb (get_or ps (2 * i) 0) (get_or ps (2 * j) 0) h, eastward)

pub step_forward : (ps : List ℕ) (way i : ℕ) → way ≡ 0 → step_east ps way i ≡ eastward ps i (i + 1)
unfolding step_east
step_forward ps way i e = rw (eq-eqb way 0 e, step_east)

pub step_back : (ps : List ℕ) (way i : ℕ) → (way ≡ 0 → ⊥) → step_east ps way i ≡ eastward ps (i + 1) i
unfolding step_east
step_back ps way i e = rw (ne_eqb way 0 e, step_east)

-- the way of a reference, turned round or not
pub way_back : (r : ℕ) (t : Bool) → way_of (not (beq (eqb (r % 2) 1) t)) ≡ (r + way_of t) % 2
way_back r true = elim (ℕ_discrete (r % 2) 1) [ yes e ↦ rw (eq-eqb (r % 2) 1 e) (omega arith) | no n ↦ rw (ne_eqb (r % 2) 1 n) (omega arith) ]
way_back r false = elim (ℕ_discrete (r % 2) 1) [ yes e ↦ rw (eq-eqb (r % 2) 1 e) (omega arith) | no n ↦ rw (ne_eqb (r % 2) 1 n) (omega arith) ]

-- ONE NUMBER MORE
pub summed_none : (g : ℕ → ℕ) (f : ℕ) → 0 ≡ summed g 0 f
unfolding summed
summed_none g f = refl

pub summed_more : (g : ℕ → ℕ) (f n t v t' : ℕ) → t ≡ summed g n f → v ≡ g (f + n) → t' ≡ (t + v) % 2 ^ 64 → t' ≡ summed g (n + 1) f
unfolding summed
summed_more g f n t v t' e p q = q ∙ ap₂ (λ (a b : ℕ). (a + b) % 2 ^ 64) e p ∙ rw add-one refl
