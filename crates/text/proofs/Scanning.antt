-- What the words of the text read as, byte by byte: the steps of the scanner.
use Rattle.std.proofs.Common.{◌≡◌, ℕ, ◌+◌, ◌-◌, ◌*◌, ◌<◌, ◌≤◌, Bool, true, false, leb, List, [], ◌∷◌, length, get_or, drop, sym, refl, ap, ◌∙◌, zero-add, add-one, arith, drop-cons, eq-eqb, ne_eqb, le-leb}
use native.Mathlib.Decide.{ℕ_discrete}
use borrow.Author.Tests.{lt-leb}
use Rattle.std.proofs.Common.{inl, inr}
use Rattle.std.specs.Char.{IsNotAsciiDigit}
use Rattle.rules.specs.Picture.{OUTSIDE}
use Rattle.text.specs.Grammar.{Number, unreadable, digits, decimal, at_most, label, Word, word, endless, longer, up_to, got, bad, before, reading, ended, read_number, more_digits, read_label}

-- the text from a place on, byte first
pub byte_first : (text : List ℕ) (i b : ℕ) → i < length text → b ≡ get_or text i 0 → drop i text ≡ b ∷ drop (i + 1) text
byte_first text i b h e = rw (e, add-one) (drop-cons text i 0 h)

-- a byte that is no digit spoils what follows
pub digits_low : (acc b : ℕ) (w : List ℕ) → b < 48 → digits acc (b ∷ w) ≡ unreadable
unfolding digits
digits_low acc b w h = rw (lt-leb 48 b h, digits)

pub digits_high : (acc b : ℕ) (w : List ℕ) → 57 < b → digits acc (b ∷ w) ≡ unreadable
unfolding digits
digits_high acc b w h = rw (le-leb 48 b (omega arith), digits) (rw (lt-leb b 57 h, digits))

pub digits_one : (acc b : ℕ) (w : List ℕ) → 48 ≤ b → b ≤ 57 → digits acc (b ∷ w) ≡ digits (10 * acc + (b - 48)) w
unfolding digits
digits_one acc b w h k = rw (le-leb 48 b h, digits) (rw (le-leb b 57 k, digits))

-- a number that is above the limit stays so
digits_big : (most acc : ℕ) (w : List ℕ) → most < acc → at_most most (digits acc w) ≡ unreadable
unfolding digits at_most
digits_big most acc [] h = rw (lt-leb acc most h, at_most)
digits_big most acc (b ∷ w) h = go (leb 48 b) (leb b 57) (digits_big most (10 * acc + (b - 48)) w (omega arith))
  where
    go : (p q : Bool) → at_most most (digits (10 * acc + (b - 48)) w) ≡ unreadable
        → at_most most (elim p [ false ↦ unreadable | true ↦ elim q [ false ↦ unreadable | true ↦ digits (10 * acc + (b - 48)) w ] ]) ≡ unreadable
    go false q e = refl
    go true false e = refl
    go true true e = e

module _ (stop : ℕ) where
  pub up_to_stop : (b : ℕ) (s : List ℕ) → b ≡ stop → up_to stop (b ∷ s) ≡ word [] s
  unfolding up_to
  up_to_stop b s e = rw (eq-eqb b stop e, up_to)

  pub up_to_other : (b : ℕ) (s : List ℕ) → (b ≡ stop → ⊥) → up_to stop (b ∷ s) ≡ longer b (up_to stop s)
  unfolding up_to
  up_to_other b s e = rw (ne_eqb b stop e, up_to)

-- two ways to read a word that agree at every word, the next byte put in front
reading_longer : (f g : List ℕ → Number) (b : ℕ) (x : Word) → ((w : List ℕ) → f (b ∷ w) ≡ g w) → reading f (longer b x) ≡ reading g x
unfolding reading longer
reading_longer f g b (word w t) h = ap (λ (n : Number). before n t) (h w)
reading_longer f g b endless h = refl

reading_none : (f : List ℕ → Number) (x : Word) → ((w : List ℕ) → f w ≡ unreadable) → reading f x ≡ bad
unfolding reading before
reading_none f (word w t) h = ap (λ (n : Number). before n t) (h w)
reading_none f endless h = refl

reading_longer_none : (f : List ℕ → Number) (b : ℕ) (x : Word) → ((w : List ℕ) → f (b ∷ w) ≡ unreadable) → reading f (longer b x) ≡ bad
reading_longer_none f b x h = reading_longer f (λ _. unreadable) b x h ∙ reading_none (λ _. unreadable) x (λ w. refl)

module _ (most stop : ℕ) where
  pub more_nil : (a : ℕ) → more_digits a most stop [] ≡ bad
  unfolding more_digits reading up_to
  more_nil a = refl

  pub more_stop : (a b : ℕ) (s : List ℕ) → b ≡ stop → a ≤ most → more_digits a most stop (b ∷ s) ≡ got a s
  unfolding more_digits reading digits at_most before
  more_stop a b s e h = rw (up_to_stop stop b s e) (rw (le-leb a most h, at_most))

  pub more_over : (a : ℕ) (s : List ℕ) → most < a → more_digits a most stop s ≡ bad
  unfolding more_digits
  more_over a s h = reading_none (λ w. at_most most (digits a w)) (up_to stop s) (λ w. digits_big most a w h)

  pub more_one : (a b : ℕ) (s : List ℕ) → (b ≡ stop → ⊥) → 48 ≤ b → b ≤ 57 → more_digits a most stop (b ∷ s) ≡ more_digits (10 * a + (b - 48)) most stop s
  unfolding more_digits
  more_one a b s e h k =
      rw (up_to_other stop b s e)
      (reading_longer (λ w. at_most most (digits a w)) (λ w. at_most most (digits (10 * a + (b - 48)) w)) b (up_to stop s) (λ w. ap (at_most most) (digits_one a b w h k)))

  pub more_low : (a b : ℕ) (s : List ℕ) → (b ≡ stop → ⊥) → b < 48 → more_digits a most stop (b ∷ s) ≡ bad
  unfolding more_digits at_most
  more_low a b s e h = rw (up_to_other stop b s e) (reading_longer_none (λ w. at_most most (digits a w)) b (up_to stop s) (λ w. ap (at_most most) (digits_low a b w h)))

  pub more_high : (a b : ℕ) (s : List ℕ) → (b ≡ stop → ⊥) → 57 < b → more_digits a most stop (b ∷ s) ≡ bad
  unfolding more_digits at_most
  more_high a b s e h = rw (up_to_other stop b s e) (reading_longer_none (λ w. at_most most (digits a w)) b (up_to stop s) (λ w. ap (at_most most) (digits_high a b w h)))

  pub more_other : (a b : ℕ) (s : List ℕ) → (b ≡ stop → ⊥) → IsNotAsciiDigit b → more_digits a most stop (b ∷ s) ≡ bad
  more_other a b s e (inl h) = more_low a b s e h
  more_other a b s e (inr h) = more_high a b s e h

-- a value that the next byte ends, or does not
pub ended_nil : (v stop : ℕ) → ended v stop [] ≡ bad
unfolding ended
ended_nil v stop = refl

pub ended_stop : (v stop b : ℕ) (s : List ℕ) → b ≡ stop → ended v stop (b ∷ s) ≡ got v s
unfolding ended
ended_stop v stop b s e = rw (eq-eqb b stop e, ended)

pub ended_other : (v stop b : ℕ) (s : List ℕ) → (b ≡ stop → ⊥) → ended v stop (b ∷ s) ≡ bad
unfolding ended
ended_other v stop b s e = rw (ne_eqb b stop e, ended)

-- the first byte of a decimal
pub decimal_low : (b : ℕ) (w : List ℕ) → b < 48 → decimal (b ∷ w) ≡ unreadable
unfolding decimal
decimal_low b [] h = digits_low 0 b [] h
decimal_low b (c ∷ w) h = rw (ne_eqb b 48 (λ e. omega arith), decimal) (digits_low 0 b (c ∷ w) h)

pub decimal_high : (b : ℕ) (w : List ℕ) → 57 < b → decimal (b ∷ w) ≡ unreadable
unfolding decimal
decimal_high b [] h = digits_high 0 b [] h
decimal_high b (c ∷ w) h = rw (ne_eqb b 48 (λ e. omega arith), decimal) (digits_high 0 b (c ∷ w) h)

pub decimal_one : (b : ℕ) (w : List ℕ) → 48 < b → b ≤ 57 → decimal (b ∷ w) ≡ digits (b - 48) w
unfolding decimal
decimal_one b [] h k = digits_one 0 b [] (omega arith) k ∙ ap (λ (n : ℕ). digits n []) (zero-add (b - 48))
decimal_one b (c ∷ w) h k = rw (ne_eqb b 48 (λ e. omega arith), decimal) (digits_one 0 b (c ∷ w) (omega arith) k ∙ ap (λ (n : ℕ). digits n (c ∷ w)) (zero-add (b - 48)))

module _ (most stop : ℕ) (small : stop < 46) where
  pub number_nil : read_number most stop [] ≡ bad
  unfolding read_number reading up_to
  number_nil = refl

  pub number_low : (b : ℕ) (s : List ℕ) → b < 48 → read_number most stop (b ∷ s) ≡ bad
  unfolding read_number reading before at_most decimal
  number_low b s h = go (ℕ_discrete b stop)
    where
      go : Dec (b ≡ stop) → reading (λ w. at_most most (decimal w)) (up_to stop (b ∷ s)) ≡ bad
      go (yes e) = rw (up_to_stop stop b s e)
      go (no e) = rw (up_to_other stop b s e) (reading_longer_none (λ w. at_most most (decimal w)) b (up_to stop s) (λ w. ap (at_most most) (decimal_low b w h)))

  pub number_high : (b : ℕ) (s : List ℕ) → 57 < b → read_number most stop (b ∷ s) ≡ bad
  unfolding read_number at_most
  number_high b s h = rw (up_to_other stop b s (λ e. omega arith)) (reading_longer_none (λ w. at_most most (decimal w)) b (up_to stop s) (λ w. ap (at_most most) (decimal_high b w h)))

  pub number_other : (b : ℕ) (s : List ℕ) → IsNotAsciiDigit b → read_number most stop (b ∷ s) ≡ bad
  number_other b s (inl h) = number_low b s h
  number_other b s (inr h) = number_high b s h

  pub number_one : (b : ℕ) (s : List ℕ) → 48 < b → b ≤ 57 → read_number most stop (b ∷ s) ≡ more_digits (b - 48) most stop s
  unfolding read_number more_digits
  number_one b s h k =
      rw (up_to_other stop b s (λ e. omega arith))
      (reading_longer (λ w. at_most most (decimal w)) (λ w. at_most most (digits (b - 48) w)) b (up_to stop s) (λ w. ap (at_most most) (decimal_one b w h k)))

  -- a 0 stands alone
  number_zero_end : read_number most stop (48 ∷ []) ≡ bad
  unfolding read_number reading up_to longer
  number_zero_end = rw (up_to_other stop 48 [] (λ e. omega arith))

  number_zero_stop : (b : ℕ) (s : List ℕ) → b ≡ stop → read_number most stop (48 ∷ b ∷ s) ≡ got 0 s
  unfolding read_number reading longer before decimal digits at_most
  number_zero_stop b s e = rw (up_to_other stop 48 (b ∷ s) (λ k. omega arith)) (rw (up_to_stop stop b s e) (rw (le-leb 0 most (omega arith), at_most)))

  number_zero_more : (b : ℕ) (s : List ℕ) → (b ≡ stop → ⊥) → read_number most stop (48 ∷ b ∷ s) ≡ bad
  unfolding read_number reading longer before decimal at_most
  number_zero_more b s e = rw (up_to_other stop 48 (b ∷ s) (λ k. omega arith)) (rw (up_to_other stop b s e) (two (up_to stop s)))
    where
      two : (x : Word) → reading (λ w. at_most most (decimal w)) (longer 48 (longer b x)) ≡ bad
      two (word w t) = refl
      two endless = refl

  pub number_zero : (s : List ℕ) → read_number most stop (48 ∷ s) ≡ ended 0 stop s
  unfolding ended
  number_zero [] = number_zero_end
  number_zero (b ∷ s) = elim (ℕ_discrete b stop) [
    | yes e ↦ number_zero_stop b s e ∙ sym (ended_stop 0 stop b s e)
    | no e ↦ number_zero_more b s e ∙ sym (ended_other 0 stop b s e)
  ]

module _ (stop : ℕ) (small : stop < 46) where
  pub label_nil : read_label stop [] ≡ bad
  unfolding read_label reading up_to
  label_nil = refl

  label_dot_end : read_label stop (46 ∷ []) ≡ bad
  unfolding read_label reading up_to longer
  label_dot_end = rw (up_to_other stop 46 [] (λ e. omega arith))

  pub label_dot_stop : (b : ℕ) (s : List ℕ) → b ≡ stop → read_label stop (46 ∷ b ∷ s) ≡ got OUTSIDE s
  unfolding read_label reading longer before label
  label_dot_stop b s e = rw (up_to_other stop 46 (b ∷ s) (λ k. omega arith)) (rw (up_to_stop stop b s e))

  label_dot_more : (b : ℕ) (s : List ℕ) → (b ≡ stop → ⊥) → read_label stop (46 ∷ b ∷ s) ≡ bad
  unfolding read_label reading longer before label decimal digits at_most
  label_dot_more b s e = rw (up_to_other stop 46 (b ∷ s) (λ k. omega arith)) (rw (up_to_other stop b s e) (two (up_to stop s)))
    where
      two : (x : Word) → reading label (longer 46 (longer b x)) ≡ bad
      two (word w t) = refl
      two endless = refl

  pub label_dot : (s : List ℕ) → read_label stop (46 ∷ s) ≡ ended OUTSIDE stop s
  unfolding ended
  label_dot [] = label_dot_end
  label_dot (b ∷ s) = elim (ℕ_discrete b stop) [
    | yes e ↦ label_dot_stop b s e ∙ sym (ended_stop OUTSIDE stop b s e)
    | no e ↦ label_dot_more b s e ∙ sym (ended_other OUTSIDE stop b s e)
  ]

  pub label_number : (b : ℕ) (s : List ℕ) → (b ≡ 46 → ⊥) → read_label stop (b ∷ s) ≡ read_number 4294967294 stop (b ∷ s)
  unfolding read_label read_number reading before label decimal at_most
  label_number b s d = go (ℕ_discrete b stop)
    where
      each : (w : List ℕ) → label (b ∷ w) ≡ at_most 4294967294 (decimal (b ∷ w))
      each [] = rw (ne_eqb b 46 d, label)
      each (c ∷ w) = refl

      go : Dec (b ≡ stop) → reading label (up_to stop (b ∷ s)) ≡ reading (λ w. at_most 4294967294 (decimal w)) (up_to stop (b ∷ s))
      go (yes e) = rw (up_to_stop stop b s e)
      go (no e) =
          rw (up_to_other stop b s e)
          (reading_longer label (λ w. at_most 4294967294 (decimal (b ∷ w))) b (up_to stop s) each
          ∙ sym (reading_longer (λ w. at_most 4294967294 (decimal w)) (λ w. at_most 4294967294 (decimal (b ∷ w))) b (up_to stop s) (λ w. refl)))
