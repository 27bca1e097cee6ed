-- Sums over lists: two lists without repetition that hold the same members have the same sum.
use Prim.Native.Nat.{ℕ, zero, suc, ◌+◌, ◌*◌, ◌≤◌}
use mathlib.Core.Bool.{Bool, true, false, not}
use mathlib.Core.Path.{◌≡◌, refl, sym, ap, ap₂, ◌∙◌}
use mathlib.Core.List.Memᴰ.{cast as in-cast}
use mathlib.Core.List.Memᴰ.{head as here}
use mathlib.Core.List.Memᴰ.{tail as there}
use mathlib.Core.List.{List, [], ◌∷◌, ◌++◌, map, Memᴰ as In}
use native.Mathlib.Nat.{mul-suc, mul-add}
use native.Mathlib.Omega.{arith}
use lib.ListN.{length, length-append}
use Rattle.rules.specs.Lists.{keep, flat, Distinct, upto}
use Rattle.rules.proofs.Ground.Pigeonhole.{without, in_without, Rearranged}

module _ {A : Type 0} where
  abbrev pub sum : (A → ℕ) → List A → ℕ
  sum f [] = 0
  sum f (a ∷ l) = f a + sum f l

module _ {A : Type 0} where
  module _ (f : A → ℕ) where
    pub sum_append : (l m : List A) → sum f (l ++ m) ≡ sum f l + sum f m
    sum_append [] m = omega arith
    sum_append (a ∷ l) m = omega (arith, sum_append l m)

    pub sum_flat : (ls : List (List A)) → sum f (flat ls) ≡ sum (sum f) ls
    unfolding flat
    sum_flat [] = refl
    sum_flat (l ∷ ls) = omega (arith, sum_append l (flat ls), sum_flat ls)

    pub sum_even : (g : A → ℕ) (l : List A) → ((a : A) → In a l → f a ≡ g a) → sum f l ≡ sum g l
    sum_even g [] h = refl
    sum_even g (a ∷ l) h = ap₂ (λ m n. m + n) (h a (here refl)) (sum_even g l (λ b i. h b (there i)))

    pub sum_suc : (l : List A) → sum (λ a. suc (f a)) l ≡ sum f l + length l
    sum_suc [] = refl
    sum_suc (a ∷ l) = omega (arith, sum_suc l)

    -- those that pass a test, and those that fail
    pub sum_split : (t : A → Bool) (l : List A) → sum f l ≡ sum f (keep t l) + sum f (keep (λ a. not (t a)) l)
    unfolding keep
    sum_split t [] = refl
    sum_split t (a ∷ l) = go (t a) (sum_split t l)
      where
        go : (b : Bool) → sum f l ≡ sum f (keep t l) + sum f (keep (λ a. not (t a)) l)
            → f a + sum f l ≡ sum f (elim b [ true ↦ a ∷ keep t l | false ↦ keep t l ]) + sum f (elim (not b) [ true ↦ a ∷ keep (λ a. not (t a)) l | false ↦ keep (λ a. not (t a)) l ])
        go true e = omega arith
        go false e = omega arith

    -- those that fail count for nothing
    pub sum_keep : (t : A → Bool) (l : List A) → ((a : A) → In a l → t a ≡ false → f a ≡ 0) → sum f l ≡ sum f (keep t l)
    unfolding keep
    sum_keep t [] h = refl
    sum_keep t (a ∷ l) h = go (t a) refl (sum_keep t l (λ b i. h b (there i)))
      where
        go : (b : Bool) → t a ≡ b → sum f l ≡ sum f (keep t l) → f a + sum f l ≡ sum f (elim b [ true ↦ a ∷ keep t l | false ↦ keep t l ])
        go true p e = omega arith
        go false p e = omega (arith, h a (here refl) p)

    pub sum_without : {a : A} {l : List A} (m : In a l) → sum f l ≡ f a + sum f (without m)
    unfolding without
    sum_without (here {xs = l} e) = ap (λ b. f b + sum f l) (sym e)
    sum_without (there {x = x} m) = omega (arith, sum_without m)

    pub sum_le : (l m : List A) → Distinct l → ((a : A) → In a l → In a m) → sum f l ≤ sum f m
    sum_le [] m d h = omega arith
    sum_le (a ∷ l) m d h =
        let p : In a m = h a (here refl) in
        let q : sum f l ≤ sum f (without p) = sum_le l (without p) d.1 (λ b k. in_without p (h b (there k)) (λ e. d.0 (in-cast (sym e) k))) in
        omega (arith, sum_without p)

    pub sum_same : {l m : List A} → Rearranged l m → sum f l ≡ sum f m
    sum_same {l} {m} r =
        let p = sum_le l m r.first r.into in
        let q = sum_le m l r.second r.onto in
        omega arith

pub sum_map : {A B : Type 0} (f : B → ℕ) (g : A → B) (l : List A) → sum f (map g l) ≡ sum (λ a. f (g a)) l
sum_map f g [] = refl
sum_map f g (a ∷ l) = ap (λ n. f (g a) + n) (sum_map f g l)

-- lists of lists with the same members are as long in all
pub flat_length : {A : Type 0} (ls : List (List A)) → length (flat ls) ≡ sum length ls
unfolding flat
flat_length [] = refl
flat_length (l ∷ ls) = omega (arith, length-append l (flat ls), flat_length ls)

pub rearranged_flat : {A : Type 0} {ls ms : List (List A)} → Rearranged ls ms → length (flat ls) ≡ length (flat ms)
rearranged_flat {ls} {ms} r = flat_length ls ∙ sum_same length r ∙ sym (flat_length ms)

-- EACH BY A BOUND

module _ {A : Type 0} where
  pub sum_most : (f g : A → ℕ) (l : List A) → ((a : A) → In a l → f a ≤ g a) → sum f l ≤ sum g l
  sum_most f g [] h = omega arith
  sum_most f g (a ∷ l) h = omega (arith, h a (here refl), sum_most f g l (λ b i. h b (there i)))

  -- c for each, and d for each of what f counts
  pub sum_linear : (c d : ℕ) (f : A → ℕ) (l : List A) → sum (λ a. c + d * f a) l ≡ c * length l + d * sum f l
  sum_linear c d f [] = omega arith
  sum_linear c d f (a ∷ l) = omega (arith, sum_linear c d f l, mul-suc c (length l), mul-add d (f a) (sum f l))

-- over numbers that are one larger
pub sum_next : (f : ℕ → ℕ) (n a : ℕ) → sum f (upto n (suc a)) ≡ sum (λ i. f (suc i)) (upto n a)
unfolding upto
sum_next f zero a = refl
sum_next f (suc n) a = omega (arith, sum_next f n (suc a))
