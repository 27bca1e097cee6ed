-- What one call of the reader says in each of the three cases, and that its answer leaves no choice.
use Prim.Native.Nat.{ℕ, ◌+◌, ◌-◌, ◌*◌, ◌/◌, ◌≤◌, ◌<◌}
use mathlib.Core.Bool.{Bool, true, false}
use mathlib.Core.Path.{◌≡◌, refl, sym, ap}
use mathlib.Core.List.{List, [], ◌∷◌}
use native.Mathlib.Omega.{arith}
use borrow.Author.Tests.{lt-ltb, le-ltb, le-leb, lt-leb}
use lib.ListN.{length, get_or}
use Rattle.std.specs.Prelude.{Option, None, Some, Result, Ok, Err}
use Rattle.rules.specs.declared.Refusal.{Refusal}
use Rattle.reader.specs.Reading.{said, say_at, point_at, number_at, at_end, outside_points}
use Rattle.reader.specs.declared.Corner.{Corner}
use Rattle.reader.proofs.Numbers.{some_number, one_number}

module _ (ws : List ℕ) (f n : ℕ) (b : Bool) (p : ℕ) where
  pub outside : length ws / 2 < f + n → say_at ws f n b p ≡ outside_points
  outside h = simp (lt-ltb _ _ h)

  pub ended : f + n ≤ length ws / 2 → n ≤ p → say_at ws f n b p ≡ at_end
  ended h k = simp (le-ltb _ _ h, le-leb _ _ k)

  pub inside : f + n ≤ length ws / 2 → p < n → say_at ws f n b p ≡ point_at ws (number_at b f n p)
  inside h k = simp (le-ltb _ _ h, lt-leb _ _ k)

-- a corner that was read forward, and one that was read backward
module _ (ws : List ℕ) (f n p : ℕ) (h : f + n ≤ length ws / 2) (k : p < n) (x y : ℕ) where
  pub forward : (b : Bool) → b ≡ false → x ≡ get_or ws (2 * (f + p)) 0 → y ≡ get_or ws (2 * (f + p) + 1) 0 → said (Ok (Some (record { x = x; y = y }))) ≡ say_at ws f n b p
  forward b e ex ey = rw (ex, ey, e) (sym (inside ws f n false p h k))

  pub backward : (b : Bool) → b ≡ true → x ≡ get_or ws (2 * (f + n - p - 1)) 0 → y ≡ get_or ws (2 * (f + n - p - 1) + 1) 0 → said (Ok (Some (record { x = x; y = y }))) ≡ say_at ws f n b p
  backward b e ex ey = rw (ex, ey, e) (sym (inside ws f n true p h k))

-- ONE ANSWER: what is said tells the case and its values
pub one_answer : (c d : Result (Option Corner) Refusal) → said c ≡ said d → c ≡ d
one_answer (Ok (Some a)) (Ok (Some b)) e = let z : a.x ∷ a.y ∷ [] ≡ b.x ∷ b.y ∷ [] = ap (λ s. s.corner) e in let p : a.x ≡ b.x = cc in let q : a.y ≡ b.y = cc in λ i. Ok (Some (record { x = p i; y = q i }))
one_answer (Ok (Some a)) (Ok None) e = absurd (let z = ap (λ s. length s.corner) e in omega arith)
one_answer (Ok (Some a)) (Err r) e = absurd (let z = ap (λ s. length s.corner) e in omega arith)
one_answer (Ok None) (Ok (Some b)) e = absurd (let z = ap (λ s. length s.corner) e in omega arith)
one_answer (Ok None) (Ok None) e = refl
one_answer (Ok None) (Err r) e = absurd (let z = ap (λ s. s.number) e in let k = some_number r in omega arith)
one_answer (Err r) (Ok (Some b)) e = absurd (let z = ap (λ s. length s.corner) e in omega arith)
one_answer (Err r) (Ok None) e = absurd (let z = ap (λ s. s.number) e in let k = some_number r in omega arith)
one_answer (Err r) (Err s) e = ap (λ t. Err t) (one_number r s (ap (λ t. t.number) e))
