-- The checks of the masks.
use Prim.Native.Nat.{ℕ, zero, suc, ◌+◌, ◌*◌, ◌-◌, ◌<◌, ◌≤◌, max}
use mathlib.Core.Bool.{Bool, true, false, ◌||◌, or-true, or-false}
use mathlib.Core.Path.{◌≡◌, refl, sym, ◌∙◌}
use mathlib.Core.List.{List, [], ◌∷◌}
use native.Mathlib.Omega.{arith}
use native.Mathlib.Decide.{ℕ_discrete, dec_lt}
use borrow.Author.Tests.{lt-ltb, le-ltb, eq-eqb, ne_eqb}
use lib.Dec.{eqb, ltb}
use Rattle.std.specs.List.{fold}
use Rattle.layers.specs.Layers.{wide, high, mask_at, above_one}

-- BYTES

above_max : (a b : ℕ) → ltb 1 (max a b) ≡ (ltb 1 a || ltb 1 b)
above_max a b =
    elim (dec_lt a b) [
      | yes h ↦ (let m : max a b ≡ b = omega arith in rw m (other_higher h))
      | no h ↦ (let m : max a b ≡ a = omega arith in rw m (one_higher (omega arith)))
    ]
  where
    one_higher : b ≤ a → ltb 1 a ≡ (ltb 1 a || ltb 1 b)
    one_higher h =
        elim (dec_lt 1 a) [
          | yes k ↦ rw (lt-ltb 1 a k)
          | no k ↦ rw (le-ltb 1 a (omega arith), le-ltb 1 b (omega arith))
        ]

    other_higher : a < b → ltb 1 b ≡ (ltb 1 a || ltb 1 b)
    other_higher h =
        elim (dec_lt 1 b) [
          | yes k ↦ rw (lt-ltb 1 b k, or-true)
          | no k ↦ rw (le-ltb 1 a (omega arith), le-ltb 1 b (omega arith))
        ]

pub above_fold : (highest : ℕ) (l : List ℕ) → ltb 1 (fold max highest l) ≡ (ltb 1 highest || above_one l)
unfolding above_one
above_fold highest [] = sym (or-false (ltb 1 highest))
above_fold highest (b ∷ l) = above_fold (max highest b) l ∙ rw (above_max highest b) (go (ltb 1 highest) (ltb 1 b))
  where
    go : (p q : Bool) → ((p || q) || above_one l) ≡ (p || elim q [ true ↦ true | false ↦ above_one l ])
    go true q = refl
    go false true = refl
    go false false = refl

-- MASKS

mask_more : (ws : List ℕ) (d i : ℕ) → mask_at ws i ≤ mask_at ws (d + i)
unfolding mask_at
mask_more ws zero i = let e : 0 + i ≡ i = omega arith in rw e (omega arith)
mask_more ws (suc d) i = let e : suc d + i ≡ suc (d + i) = omega arith in rw e (let r = mask_more ws d i in omega arith)

pub mask_rises : (ws : List ℕ) (i n : ℕ) → i ≤ n → mask_at ws i ≤ mask_at ws n
mask_rises ws i n h = let e : (n - i) + i ≡ n = omega arith in rw e at (mask_more ws (n - i) i)

module _ (ws : List ℕ) (i left bytes a : ℕ) (e : left + mask_at ws i ≡ bytes) (k : a ≡ wide ws i * high ws i) where
  pub masks_long : (n : ℕ) → i < n → left < a → eqb (mask_at ws n) bytes ≡ false
  unfolding mask_at
  masks_long n h l = ne_eqb (mask_at ws n) bytes (λ q. let r = mask_rises ws (suc i) n h in omega arith)

  pub masks_next : a ≤ left → (left - a) + mask_at ws (i + 1) ≡ bytes
  unfolding mask_at
  masks_next l = let s : i + 1 ≡ suc i = omega arith in rw s (omega arith)

pub masks_all : (ws : List ℕ) (n i left bytes : ℕ) → i ≡ n → left + mask_at ws i ≡ bytes → eqb left 0 ≡ eqb (mask_at ws n) bytes
masks_all ws n i left bytes q e =
    let e' : left + mask_at ws n ≡ bytes = rw q at e in
    elim (ℕ_discrete left 0) [
      | yes z ↦ eq-eqb left 0 z ∙ sym (eq-eqb (mask_at ws n) bytes (omega arith))
      | no z ↦ ne_eqb left 0 z ∙ sym (ne_eqb (mask_at ws n) bytes (λ y. z (omega arith)))
    ]
