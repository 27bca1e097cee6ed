-- What one call of the mover says in each case, and that its answer leaves no choice.
use Prim.Native.Nat.{ℕ, zero, suc, ◌+◌, ◌*◌, ◌-◌, ◌/◌, ◌≤◌, ◌<◌}
use mathlib.Core.Bool.{Bool, true, false}
use mathlib.Core.Path.{◌≡◌, refl, sym, ap, ◌∙◌}
use mathlib.Core.List.{List, [], ◌∷◌}
use native.Mathlib.Omega.{arith}
use borrow.Author.Tests.{lt-ltb, le-ltb, le-leb, lt-leb}
use lib.Dec.{leb}
use lib.ListN.{length}
use lib.Ieee.{Float, lt}
use Rattle.std.specs.Prelude.{Option, None, Some, Result, Ok, Err}
use Rattle.rules.specs.declared.Refusal.{Refusal}
use Rattle.reader.proofs.Numbers.{some_number, one_number}
use Rattle.sheet.specs.Sheet.{float, unfit, unfit_sheet, travel, cut, end}
use Rattle.sheet.specs.Moving.{Said, did_move, said, at_end, outside_points, say_at, first_of, count_of, is_over, onward_from, moved_to, tell_there}
use Rattle.sheet.specs.declared.Sheet.{Sheet}
use Rattle.sheet.specs.declared.Move.{Move}
use Rattle.sheet.specs.declared.Move.TheVariants.{Travel, Cut}
use Rattle.sheet.specs.declared.Mover.{Mover}

-- REFUSAL 16

pub side_above : (a : Float) → lt (float 0) a ≡ true → lt (float 3000) a ≡ unfit a
unfolding unfit
side_above a e = rw e

pub side_not_above : (a : Float) → lt (float 0) a ≡ false → true ≡ unfit a
unfolding unfit
side_not_above a e = rw e

pub wide_refused : (t : Sheet) (b : Bool) → b ≡ unfit t.width → b ≡ true → true ≡ unfit_sheet t
unfolding unfit_sheet
wide_refused t b e k = rw (sym e ∙ k)

pub wide_passed : (t : Sheet) (b c : Bool) → b ≡ unfit t.width → b ≡ false → c ≡ unfit t.height → c ≡ unfit_sheet t
unfolding unfit_sheet
wide_passed t b c e k f = rw (sym e ∙ k) f

-- A SEGMENT THAT IS OVER
module _ (segs points : List ℕ) (i p : ℕ) where
  pub no_record : length segs < 8 * i + 8 → is_over segs points i p ≡ false
  no_record h = simp (lt-ltb _ _ h)

  pub no_part : 8 * i + 8 ≤ length segs → length points / 2 < first_of segs i + count_of segs i → is_over segs points i p ≡ false
  no_part h k = simp (le-ltb _ _ h, lt-ltb _ _ k)

  pub by_place : 8 * i + 8 ≤ length segs → first_of segs i + count_of segs i ≤ length points / 2 → is_over segs points i p ≡ leb (count_of segs i) p
  by_place h k = simp (le-ltb _ _ h, le-ltb _ _ k)

-- PAST THE SEGMENTS that are over
module _ (segs points : List ℕ) where
  pub stays : (k i p : ℕ) → is_over segs points i p ≡ false → onward_from segs points k i p ≡ (i, p)
  unfolding onward_from
  stays zero i p e = refl
  stays (suc k) i p e = rw (e, onward_from)

  pub none_left : (n i p : ℕ) → n ≤ i → onward_from segs points (n - i) i p ≡ (i, p)
  unfolding onward_from
  none_left n i p h = let e : n - i ≡ 0 = omega arith in rw e

  pub passes : (n i p : ℕ) → i < n → is_over segs points i p ≡ true → onward_from segs points (n - i) i p ≡ onward_from segs points (n - (i + 1)) (i + 1) 0
  unfolding onward_from
  passes n i p h e = let s : n - i ≡ suc (n - (i + 1)) = omega arith in rw s (rw (e, onward_from))

-- WHERE THE MOVER STANDS
module _ (segs points : List ℕ) (m : Mover) where
  abbrev i : ℕ
  i = m.at.segment

  abbrev p : ℕ
  p = m.at.place

  abbrev what : Said
  what = say_at m.sheet m.width m.height points (first_of segs i) (count_of segs i) m.reversed p

  pub all_done : m.count ≤ i → tell_there segs points m ≡ (at_end, m)
  all_done h = simp (le-leb _ _ h)

  pub record_outside : i < m.count → length segs < 8 * i + 8 → tell_there segs points m ≡ (outside_points, m)
  record_outside h k = simp (lt-leb _ _ h, lt-ltb _ _ k)

  pub moves_on : i < m.count → 8 * i + 8 ≤ length segs → p < count_of segs i → tell_there segs points m ≡ (what, moved_to m (i, p + 1))
  moves_on h k l = simp (lt-leb _ _ h, le-ltb _ _ k, lt-ltb _ _ l)

  pub stays_there : i < m.count → 8 * i + 8 ≤ length segs → count_of segs i ≤ p → tell_there segs points m ≡ (what, moved_to m (i, p))
  stays_there h k l = simp (lt-leb _ _ h, le-ltb _ _ k, le-ltb _ _ l)

pub same_told : {a b : Said} {m n : Mover} → a ≡ b → m ≡ n → ◌≡◌ {A = Said × Mover} (a, m) (b, n)
same_told e f = λ i. (e i, f i)

-- ONE ANSWER: what is said tells the case and its values

pub one_move : (c d : Move) → did_move c ≡ did_move d → c ≡ d
one_move (Travel x y) (Travel u v) e = let z : travel x y ∷ [] ≡ travel u v ∷ [] = ap (λ s. s.move) e in let p : x ≡ u = cc in let q : y ≡ v = cc in λ i. Travel (p i) (q i)
one_move (Cut x y) (Cut u v) e = let z : cut x y ∷ [] ≡ cut u v ∷ [] = ap (λ s. s.move) e in let p : x ≡ u = cc in let q : y ≡ v = cc in λ i. Cut (p i) (q i)
one_move (Travel x y) (Cut u v) e = absurd (let z : travel x y ∷ [] ≡ cut u v ∷ [] = ap (λ s. s.move) e in cc)
one_move (Cut x y) (Travel u v) e = absurd (let z : cut x y ∷ [] ≡ travel u v ∷ [] = ap (λ s. s.move) e in cc)

moves_on_or_ends : (m : Move) → did_move m ≡ at_end → ⊥
moves_on_or_ends (Travel x y) e = let z : travel x y ∷ [] ≡ end ∷ [] = ap (λ s. s.move) e in cc
moves_on_or_ends (Cut x y) e = let z : cut x y ∷ [] ≡ end ∷ [] = ap (λ s. s.move) e in cc

no_number : (m : Move) → (did_move m).number ≡ 0
no_number (Travel x y) = refl
no_number (Cut x y) = refl

pub one_answer : (c d : Result (Option Move) Refusal) → said c ≡ said d → c ≡ d
one_answer (Ok (Some c)) (Ok (Some d)) e = ap (λ m. Ok (Some m)) (one_move c d e)
one_answer (Ok (Some c)) (Ok None) e = absurd (moves_on_or_ends c e)
one_answer (Ok None) (Ok (Some d)) e = absurd (moves_on_or_ends d (sym e))
one_answer (Ok None) (Ok None) e = refl
one_answer (Err r) (Err s) e = ap (λ t. Err t) (one_number r s (ap (λ t. t.number) e))
one_answer (Ok (Some c)) (Err s) e = absurd (let z = ap (λ t. t.number) e in let k = some_number s in let n = no_number c in omega arith)
one_answer (Err r) (Ok (Some d)) e = absurd (let z = ap (λ t. t.number) e in let k = some_number r in let n = no_number d in omega arith)
one_answer (Ok None) (Err s) e = absurd (let z = ap (λ t. t.number) e in let k = some_number s in omega arith)
one_answer (Err r) (Ok None) e = absurd (let z = ap (λ t. t.number) e in let k = some_number r in omega arith)
