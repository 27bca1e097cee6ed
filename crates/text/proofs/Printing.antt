-- Bytes put into a buffer one piece after the other, and the decimals.
use Rattle.std.proofs.Common.{◌≡◌, ℕ, zero, suc, ◌+◌, ◌-◌, ◌/◌, ◌%◌, ◌<◌, ◌≤◌, List, [], ◌∷◌, ◌++◌, map, length, get_or, take, sym, refl, ap, ◌∙◌, add-one, arith, length-append, take-suc, le-ltb, lt-ltb, eq-eqb, ne_eqb}
use native.Mathlib.Decide.{dec_le}
use mathlib.Core.List.{map-append}
use lib.Seq.{sets, length-sets}
use Rattle.rules.specs.Lists.{flat, upto}
use Rattle.rules.specs.Records.{NONE}
use Rattle.store.proofs.Writes.{sets_append, sets_out}
use Rattle.rules.proofs.Ground.Lists.{upto_snoc, flat_snoc}
use Rattle.text.specs.Bytes.{bytes}
use Rattle.text.specs.declared.printer.Printer.{Printer}
use Rattle.text.specs.Prints.{Prints}
use Rattle.text.specs.Output.{Printed, shown_in, shown, field, optional, way, reference, pieces}

pub printed_none : (out : List ℕ) (at : ℕ) → at ≤ length out → Printed out at [] out at
printed_none out at h = record { held = refl; place = omega arith; within = h }

pub printed_long : {out bytes out' : List ℕ} {at next : ℕ} → Printed out at bytes out' next → length out' ≡ length out
printed_long {out} {bytes} {out'} {at} p = ap length p.held ∙ length-sets out at bytes

pub printed_as : {out bytes bytes' out' : List ℕ} {at next : ℕ} → bytes ≡ bytes' → Printed out at bytes out' next → Printed out at bytes' out' next
printed_as e p = rw e at p

-- one piece, and another after it
pub printed_then : {out a out₁ b out₂ : List ℕ} {at p next : ℕ} → Printed out at a out₁ p → Printed out₁ p b out₂ next → Printed out at (a ++ b) out₂ next
printed_then {out} {a} {out₁} {b} {out₂} {at} {p} {next} x y =
    let l = printed_long x in
    let n = length-append a b in
    record {
      held = y.held ∙ (ap (λ (o : List ℕ). sets o p b) x.held ∙ (go (dec_le (at + length a) (length out)) ∙ sym (sets_append out at a b)));
      place = y.place ∙ (let xp = x.place in omega arith);
      within = y.within;
    }
  where
    go : Dec (at + length a ≤ length out) → sets (sets out at a) p b ≡ sets (sets out at a) (at + length a) b
    go (yes h) = ap (λ (i : ℕ). sets (sets out at a) i b) (x.place ∙ omega arith)
    go (no h) =
        let m = length-sets out at a in
        let q = x.place in
        sets_out (sets out at a) p b (omega arith) ∙ sym (sets_out (sets out at a) (at + length a) b (omega arith))

-- DECIMALS

in_small : (f n : ℕ) → n < 10 → shown_in f n ≡ (48 + n) ∷ []
unfolding shown_in
in_small zero n h = refl
in_small (suc f) n h = rw (lt-ltb n 10 h, shown_in)

in_big : (f n : ℕ) → 10 ≤ n → shown_in (suc f) n ≡ shown_in f (n / 10) ++ ((48 + n % 10) ∷ [])
unfolding shown_in
in_big f n h = rw (le-ltb n 10 h, shown_in)

-- the fuel does not matter, if there is enough
in_same : (f g n : ℕ) → n ≤ f → n ≤ g → shown_in f n ≡ shown_in g n
in_same zero g n h k = in_small zero n (omega arith) ∙ sym (in_small g n (omega arith))
in_same (suc f) zero n h k = in_small (suc f) n (omega arith) ∙ sym (in_small zero n (omega arith))
in_same (suc f) (suc g) n h k = go (dec_le 10 n) (in_same f g (n / 10))
  where
    go : Dec (10 ≤ n) → (n / 10 ≤ f → n / 10 ≤ g → shown_in f (n / 10) ≡ shown_in g (n / 10)) → shown_in (suc f) n ≡ shown_in (suc g) n
    go (yes d) ih = in_big f n d ∙ (ap (λ (l : List ℕ). l ++ ((48 + n % 10) ∷ [])) (ih (omega arith) (omega arith)) ∙ sym (in_big g n d))
    go (no d) ih = in_small (suc f) n (omega arith) ∙ sym (in_small (suc g) n (omega arith))

pub shown_small : (n : ℕ) → n < 10 → shown n ≡ (48 + n) ∷ []
unfolding shown
shown_small n h = in_small n n h

pub shown_big : (n : ℕ) → 10 ≤ n → shown n ≡ shown (n / 10) ++ ((48 + n % 10) ∷ [])
unfolding shown
shown_big n h =
    let e : n ≡ suc (n - 1) = omega arith in
    ap (λ (f : ℕ). shown_in f n) e ∙ (in_big (n - 1) n h ∙ ap (λ (l : List ℕ). l ++ ((48 + n % 10) ∷ [])) (in_same (n - 1) (n / 10) (n / 10) (omega arith) (omega arith)))

-- FIELDS

pub optional_none : (b n : ℕ) → n ≡ NONE → optional b n ≡ 32 ∷ b ∷ []
unfolding optional
optional_none b n e = rw (eq-eqb n NONE e, optional)

pub optional_some : (b n : ℕ) → (n ≡ NONE → ⊥) → optional b n ≡ field n
unfolding optional
optional_some b n e = rw (ne_eqb n NONE e, optional)

pub reference_none : (r : ℕ) → r ≡ NONE → reference r ≡ bytes " -"
unfolding reference
reference_none r e = rw (eq-eqb r NONE e, reference)

pub reference_forward : (r : ℕ) → (r ≡ NONE → ⊥) → r % 2 ≡ 0 → reference r ≡ field (r / 2) ++ bytes "f"
unfolding reference way
reference_forward r e f = rw (ne_eqb r NONE e, reference) (rw (eq-eqb (r % 2) 0 f, way))

pub reference_reversed : (r : ℕ) → (r ≡ NONE → ⊥) → (r % 2 ≡ 0 → ⊥) → reference r ≡ field (r / 2) ++ bytes "r"
unfolding reference way
reference_reversed r e f = rw (ne_eqb r NONE e, reference) (rw (ne_eqb (r % 2) 0 f, way))

-- PIECES, one after the other

pub pieces_snoc : (g : ℕ → List ℕ) (n f k : ℕ) → f + n ≡ k → pieces g (n + 1) f ≡ pieces g n f ++ g k
unfolding pieces
pieces_snoc g n f k e = rw (add-one, upto_snoc n f, e) (rw (map-append g (upto n f) (k ∷ []), flat_snoc (map g (upto n f)) (g k)))

-- BY A PRINTER

pub prints_none : (p : Printer) → Prints p [] p
prints_none p = record { same_buffer = refl; printed = printed_none p.out.now p.at p.within }

pub prints_as : {p q : Printer} {a b : List ℕ} → a ≡ b → Prints p a q → Prints p b q
prints_as e x = rw e at x

infixr 50 ◌then◌
-- one piece, and another after it
pub ◌then◌ : {p q r : Printer} {a b : List ℕ} → Prints p a q → Prints q b r → Prints p (a ++ b) r
x then y = record { same_buffer = y.same_buffer ∙ x.same_buffer; printed = printed_then x.printed y.printed }

pub byte_more : {p q r : Printer} (w : List ℕ) (i : ℕ) → i < length w → Prints p (take i w) q → Prints q (get_or w i 0 ∷ []) r → Prints p (take (i + 1) w) r
byte_more w i h x y = rw (add-one, take-suc w i 0 h) (x then y)

pub no_piece : (g : ℕ → List ℕ) (f : ℕ) (p : Printer) → Prints p (pieces g 0 f) p
unfolding pieces flat upto
no_piece g f p = prints_none p

pub piece_more : (g : ℕ → List ℕ) (f n : ℕ) {p q r : Printer} → Prints p (pieces g n f) q → Prints q (g (f + n)) r → Prints p (pieces g (n + 1) f) r
piece_more g f n x y = prints_as (sym (pieces_snoc g n f (f + n) refl)) (x then y)

-- a number: the digits before the last one, if there are some, and the last one
pub number_long : {p q r : Printer} (n : ℕ) → 10 ≤ n → Prints p (shown (n / 10)) q → Prints q ((48 + n % 10) ∷ []) r → Prints p (shown n) r
number_long n h x y = prints_as (sym (shown_big n h)) (x then y)

pub number_short : {p r : Printer} (n : ℕ) → n < 10 → Prints p ((48 + n % 10) ∷ []) r → Prints p (shown n) r
number_short n h x = let e : n % 10 ≡ n = omega arith in prints_as (ap (λ (d : ℕ). (48 + d) ∷ []) e ∙ sym (shown_small n h)) x

-- all of a text, from a buffer's first byte on
pub finished : {p q : Printer} {out text out' : List ℕ} → p.out.now ≡ out → p.at ≡ 0 → out' ≡ q.out.now → Prints p text q → Printed out 0 text out' q.at
finished {text = text} {out' = out'} e f g x = rw (e, f, ← g) at x.printed
