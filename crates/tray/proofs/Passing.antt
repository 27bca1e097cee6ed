-- The number of a map whose labels run past the store, and the places behind a map.
use Prim.Native.Nat.{ℕ, ◌+◌, ◌-◌, ◌*◌, ◌<◌, ◌≤◌}
use mathlib.Core.Path.{◌≡◌, sym, ap, ◌∙◌}
use native.Mathlib.Omega.{arith}
use native.Mathlib.Nat.{mul-le-mul, add-zero}
use native.Mathlib.Decide.{dec_lt}
use borrow.Author.Tests.{lt-ltb, le-ltb, ne_eqb}
use Rattle.std.specs.Prelude.{Some, None, Result, Ok, Err}
use Rattle.rules.specs.Calls.{Answer}
use Rattle.lattice.specs.declared.Size.{Size}
use Rattle.calls.specs.declared.Counts.{Counts}
use Rattle.calls.specs.declared.Refused.{Refused}
use Rattle.calls.specs.Outcome.{answer_of}
use Rattle.calls.proofs.Refusals.{positive}
use Rattle.tray.specs.declared.Places.{Places}
use Rattle.tray.specs.Tray.{past_number, Six, same, both, wrote}
use Rattle.tray.specs.Steps.{Starts}

-- 1 OR 2

pub past_wide : (t : Size) → 16384 < t.width → past_number t ≡ 1
unfolding past_number
past_wide t h = rw (lt-ltb 16384 t.width h, past_number)

pub past_high : (t : Size) → t.width ≤ 16384 → 16384 < t.height → past_number t ≡ 1
unfolding past_number
past_high t k h = rw (le-ltb 16384 t.width k, lt-ltb 16384 t.height h, past_number)

pub past_small : (t : Size) → t.width ≤ 16384 → t.height ≤ 16384 → past_number t ≡ 2
unfolding past_number
past_small t k h = rw (le-ltb 16384 t.width k, le-ltb 16384 t.height h, past_number)

-- LABELS

module _ (held size : ℕ) (p : Places) where
  -- past them all
  behind : p.labels ≡ None → (start : ℕ) → Starts held p start → held < start
  behind e start s = elim (dec_lt held start) [
    | yes b ↦ b
    | no b ↦ (let h = s.here (omega arith) in absurd (let z : None ≡ Some start = sym e ∙ h in cc))
  ]

  -- and not
  there : (k : ℕ) → p.labels ≡ Some k → (start : ℕ) → Starts held p start → k ≡ start
  there k e start s = elim (dec_lt held start) [
    | yes b ↦ (let h = s.past b in absurd (let z : None ≡ Some k = sym h ∙ e in cc))
    | no b ↦ (let h = s.here (omega arith) in let z : Some k ≡ Some start = sym e ∙ h in cc)
  ]

  -- that a part runs past the labels, or does not
  pub over_already : p.labels ≡ None → (start : ℕ) → Starts held p start → held < start + size
  over_already e start s = omega (arith, behind e start s)

  module _ (k : ℕ) (w : k ≤ held) (e : p.labels ≡ Some k) (start : ℕ) (s : Starts held p start) where
    pub starts_at : k ≡ start
    starts_at = there k e start s

    pub over_now : held - k < size → held < start + size
    over_now h = omega (arith, there k e start s)

    pub not_over : size ≤ held - k → start + size ≤ held
    not_over h = omega (arith, there k e start s)

-- RECORDS

pub wrote_none : (a : Answer) → (a.number ≡ 0 → ⊥) → wrote a ≡ same 0
unfolding wrote
wrote_none a h = rw (ne_eqb a.number 0 h, wrote)

pub wrote_refused : {r : Result Counts Refused} {refused : Refused} → r ≡ Err refused → wrote (answer_of r) ≡ same 0
wrote_refused {r} {refused} e =
    let known = positive refused.why in
    ap (λ (q : Result Counts Refused). wrote (answer_of q)) e ∙ wrote_none (answer_of (Err refused)) (λ z. omega (arith, z, known))

pub wrote_counted : {r : Result Counts Refused} {c : Counts} → r ≡ Ok c
    → wrote (answer_of r) ≡ record { nodes = 6 * c.nodes; segments = 8 * c.segments; points = 2 * c.points; references = c.references; contours = 2 * c.contours; faces = 5 * c.faces }
unfolding wrote
wrote_counted e = ap (λ (q : Result Counts Refused). wrote (answer_of q)) e

-- no records more
pub none_more : (n : Six ℕ) → both ◌+◌ n (same 0) ≡ n
none_more n = λ i. record {
  nodes = add-zero n.nodes i;
  segments = add-zero n.segments i;
  points = add-zero n.points i;
  references = add-zero n.references i;
  contours = add-zero n.contours i;
  faces = add-zero n.faces i;
}

-- two 32-bit words have a 64-bit product
pub product_fits : (a b : ℕ) → a ≤ 4294967295 → b ≤ 4294967295 → a * b ≤ 18446744065119617025
product_fits a b p q = mul-le-mul p q
