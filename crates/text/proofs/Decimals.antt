-- What is printed of a number is read back as that number, and nothing else is read as it.
use Rattle.std.proofs.Common.{◌≡◌, ℕ, zero, suc, ◌+◌, ◌-◌, ◌*◌, ◌/◌, ◌%◌, ◌<◌, ◌≤◌, Bool, true, false, leb, List, [], ◌∷◌, ◌++◌, sym, refl, ap, ◌∙◌, append_assoc, append-nil, arith, ne_eqb, leb-true}
use native.Mathlib.Decide.{dec_le, ℕ_discrete}
use Rattle.text.specs.Grammar.{Number, number, unreadable, digits, decimal}
use Rattle.text.specs.Output.{shown_in, shown}
use Rattle.text.proofs.Printing.{shown_small, shown_big}
use Rattle.text.proofs.Scanning.{digits_one, decimal_low, decimal_high, decimal_one}

-- a number that is shown with more digits before what is read
digits_shown : (acc : ℕ) (w : List ℕ) (n : ℕ) → 0 < acc → digits acc w ≡ number n → shown n ≡ shown acc ++ w
unfolding digits
digits_shown acc [] n h e = let k : n ≡ acc = cc in rw k (sym (append-nil (shown acc)))
digits_shown acc (b ∷ w) n h e = go (leb 48 b) refl (leb b 57) refl (λ k. digits_shown (10 * acc + (b - 48)) w n k) e
  where
    step : 48 ≤ b → b ≤ 57 → shown (10 * acc + (b - 48)) ≡ shown acc ++ (b ∷ [])
    step l u =
        let q : (10 * acc + (b - 48)) / 10 ≡ acc = omega arith in
        let r : 48 + (10 * acc + (b - 48)) % 10 ≡ b = omega arith in
        shown_big (10 * acc + (b - 48)) (omega arith) ∙ (λ i. shown (q i) ++ (r i ∷ []))

    go : (p : Bool) → leb 48 b ≡ p → (q : Bool) → leb b 57 ≡ q → (0 < 10 * acc + (b - 48) → digits (10 * acc + (b - 48)) w ≡ number n → shown n ≡ shown (10 * acc + (b - 48)) ++ w)
        → (elim p as (λ _. Number) [ false ↦ unreadable | true ↦ elim q as (λ _. Number) [ false ↦ unreadable | true ↦ digits (10 * acc + (b - 48)) w ] ]) ≡ number n → shown n ≡ shown acc ++ (b ∷ w)
    go false ep q eq ih e = let z : ◌≡◌ {A = ℕ} 0 1 = cc in absurd (omega arith)
    go true ep false eq ih e = let z : ◌≡◌ {A = ℕ} 0 1 = cc in absurd (omega arith)
    go true ep true eq ih e = ih (omega arith) e ∙ (ap (λ (l : List ℕ). l ++ w) (step (leb-true 48 b ep) (leb-true b 57 eq)) ∙ append_assoc (shown acc) (b ∷ []) w)

zero_only : (w : List ℕ) (n : ℕ) → decimal (48 ∷ w) ≡ number n → 48 ∷ w ≡ shown n
unfolding decimal digits shown shown_in
zero_only [] n e = let z : n ≡ 0 = cc in rw z refl
zero_only (c ∷ w) n e = let z : ◌≡◌ {A = ℕ} 0 1 = cc in absurd (omega arith)

-- nothing else is read as n
pub only_shown : (w : List ℕ) (n : ℕ) → decimal w ≡ number n → w ≡ shown n
unfolding decimal
only_shown [] n e = let z : ◌≡◌ {A = ℕ} 0 1 = cc in absurd (omega arith)
only_shown (b ∷ w) n e = low (dec_le 48 b)
  where
    high : 48 < b → Dec (b ≤ 57) → b ∷ w ≡ shown n
    high h (yes k) =
        let c : 48 + (b - 48) ≡ b = omega arith in
        sym (digits_shown (b - 48) w n (omega arith) (sym (decimal_one b w h k) ∙ e) ∙ (ap (λ (l : List ℕ). l ++ w) (shown_small (b - 48) (omega arith)) ∙ ap (λ (x : ℕ). x ∷ w) c))
    high h (no k) = let f = decimal_high b w (omega arith) in let z : ◌≡◌ {A = ℕ} 0 1 = cc in absurd (omega arith)

    first : 48 ≤ b → Dec (b ≡ 48) → b ∷ w ≡ shown n
    first h (yes z) = ap (λ (x : ℕ). x ∷ w) z ∙ zero_only w n (ap (λ (x : ℕ). decimal (x ∷ w)) (sym z) ∙ e)
    first h (no z) = high (omega arith) (dec_le b 57)

    low : Dec (48 ≤ b) → b ∷ w ≡ shown n
    low (yes h) = first h (ℕ_discrete b 48)
    low (no h) = let f = decimal_low b w (omega arith) in let z : ◌≡◌ {A = ℕ} 0 1 = cc in absurd (omega arith)

-- digits that are read, and one more
digits_then : (acc b : ℕ) (w : List ℕ) (n : ℕ) → 48 ≤ b → b ≤ 57 → digits acc w ≡ number n → digits acc (w ++ (b ∷ [])) ≡ number (10 * n + (b - 48))
unfolding digits
digits_then acc b [] n h k e = let m : acc ≡ n = cc in rw (← m) (digits_one acc b [] h k)
digits_then acc b (x ∷ w) n h k e = go (leb 48 x) (leb x 57) (digits_then (10 * acc + (x - 48)) b w n h k) e
  where
    go : (p q : Bool) → (digits (10 * acc + (x - 48)) w ≡ number n → digits (10 * acc + (x - 48)) (w ++ (b ∷ [])) ≡ number (10 * n + (b - 48)))
        → (elim p as (λ _. Number) [ false ↦ unreadable | true ↦ elim q as (λ _. Number) [ false ↦ unreadable | true ↦ digits (10 * acc + (x - 48)) w ] ]) ≡ number n
        → (elim p as (λ _. Number) [ false ↦ unreadable | true ↦ elim q as (λ _. Number) [ false ↦ unreadable | true ↦ digits (10 * acc + (x - 48)) (w ++ (b ∷ [])) ] ]) ≡ number (10 * n + (b - 48))
    go false q ih e = let z : ◌≡◌ {A = ℕ} 0 1 = cc in absurd (omega arith)
    go true false ih e = let z : ◌≡◌ {A = ℕ} 0 1 = cc in absurd (omega arith)
    go true true ih e = ih e

-- no byte before `0`
abbrev pub High : List ℕ → Type 0
High [] = Unit {0}
High (b ∷ w) = (48 ≤ b) × High w

high_append : (v w : List ℕ) → High v → High w → High (v ++ w)
high_append [] w h k = k
high_append (b ∷ v) w h k = (h.0, high_append v w h.1 k)

-- what is shown is all digits, and starts with no 0 unless it is 0
pub record Form (n : ℕ) : Type 0 where
  pub first : ℕ
  pub rest : List ℕ
  pub is : shown n ≡ first ∷ rest
  pub nonzero : 0 < n → 48 < first
  pub high : High (shown n)
  pub read : digits 0 (shown n) ≡ number n

form_small : (n : ℕ) → n < 10 → Form n
unfolding digits
form_small n h =
    record {
      first = 48 + n;
      rest = [];
      is = shown_small n h;
      nonzero = λ k. omega arith;
      high = rw (shown_small n h) (omega arith, tt);
      read = rw (shown_small n h) (digits_one 0 (48 + n) [] (omega arith) (omega arith) ∙ ap number (omega arith));
    }

form_big : (n : ℕ) → 10 ≤ n → Form (n / 10) → Form n
form_big n h p =
    record {
      first = p.first;
      rest = p.rest ++ ((48 + n % 10) ∷ []);
      is = shown_big n h ∙ ap (λ (l : List ℕ). l ++ ((48 + n % 10) ∷ [])) p.is;
      nonzero = λ k. p.nonzero (omega arith);
      high = rw (shown_big n h) (high_append (shown (n / 10)) ((48 + n % 10) ∷ []) p.high (omega arith, tt));
      read = rw (shown_big n h) (digits_then 0 (48 + n % 10) (shown (n / 10)) (n / 10) (omega arith) (omega arith) p.read ∙ ap number (omega arith));
    }

form_in : (f n : ℕ) → n ≤ f → Form n
form_in zero n h = form_small n (omega arith)
form_in (suc f) n h = go (dec_le 10 n) (form_in f (n / 10))
  where
    go : Dec (10 ≤ n) → (n / 10 ≤ f → Form (n / 10)) → Form n
    go (yes k) ih = form_big n k (ih (omega arith))
    go (no k) ih = form_small n (omega arith)

pub form : (n : ℕ) → Form n
form n = form_in n n (omega arith)

decimal_first : (b : ℕ) (w : List ℕ) → 48 < b → decimal (b ∷ w) ≡ digits 0 (b ∷ w)
unfolding decimal
decimal_first b [] h = refl
decimal_first b (c ∷ w) h = rw (ne_eqb b 48 (λ e. omega arith), decimal)

-- what is printed is read back
pub reads_back : (n : ℕ) → decimal (shown n) ≡ number n
unfolding decimal digits shown shown_in
reads_back n = go (dec_le 1 n) (form n)
  where
    go : Dec (1 ≤ n) → Form n → decimal (shown n) ≡ number n
    go (yes h) p = ap decimal p.is ∙ (decimal_first p.first p.rest (p.nonzero h) ∙ (ap (digits 0) (sym p.is) ∙ p.read))
    go (no h) p = let z : n ≡ 0 = omega arith in rw z refl
