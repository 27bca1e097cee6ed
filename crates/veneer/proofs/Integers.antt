-- Sums of signed numbers over lists.
use Prim.Native.Nat.{ℕ, ◌+◌}
use mathlib.Core.Path.{◌≡◌, refl, sym, ap, ap₂, ◌∙◌}
use mathlib.Core.List.Memᴰ.{head as here}
use mathlib.Core.List.Memᴰ.{tail as there}
use mathlib.Core.List.{List, [], ◌∷◌, ◌++◌, map, Memᴰ as In}
use lib.IntN.{ℤ, pos, ◌+ℤ◌, ◌-ℤ◌, +ℤ_assoc, +ℤ_comm, +ℤ_idl, +ℤ-neg_ℤ_cancel, pos-+ℤ-pos}
use Rattle.rules.specs.Lists.{flat}
use Rattle.veneer.specs.Sums.{total}
use Rattle.rules.proofs.Ground.Sums.{sum}

module _ {A : Type 0} (f : A → ℤ) where
  pub total_append : (l m : List A) → total f (l ++ m) ≡ total f l +ℤ total f m
  total_append [] m = sym (+ℤ_idl (total f m))
  total_append (a ∷ l) m = ap (λ n. f a +ℤ n) (total_append l m) ∙ sym (+ℤ_assoc (f a) (total f l) (total f m))

  pub total_flat : (ls : List (List A)) → total f (flat ls) ≡ total (total f) ls
  unfolding flat
  total_flat [] = refl
  total_flat (l ∷ ls) = total_append l (flat ls) ∙ ap (λ n. total f l +ℤ n) (total_flat ls)

  pub total_map : {B : Type 0} (g : B → A) (l : List B) → total f (map g l) ≡ total (λ b. f (g b)) l
  total_map g [] = refl
  total_map g (b ∷ l) = ap (λ n. f (g b) +ℤ n) (total_map g l)

  -- of numbers that are not below zero
  pub total_pos : (g : A → ℕ) (l : List A) → ((a : A) → In a l → f a ≡ pos (g a)) → total f l ≡ pos (sum g l)
  total_pos g [] h = refl
  total_pos g (a ∷ l) h = ap₂ (λ m n. m +ℤ n) (h a (here refl)) (total_pos g l (λ b i. h b (there i))) ∙ pos-+ℤ-pos (g a) (sum g l)

shuffle : (a b c d : ℤ) → (a +ℤ b) +ℤ (c +ℤ d) ≡ (a +ℤ c) +ℤ (b +ℤ d)
shuffle a b c d =
    +ℤ_assoc a b (c +ℤ d)
    ∙ ap (λ n. a +ℤ n) (sym (+ℤ_assoc b c d) ∙ ap (λ n. n +ℤ d) (+ℤ_comm b c) ∙ +ℤ_assoc c b d)
    ∙ sym (+ℤ_assoc a c (b +ℤ d))

-- what a list adds and what it takes away
pub total_difference : {A : Type 0} (f : A → ℤ) (g h : A → ℕ) → ((a : A) → f a +ℤ pos (h a) ≡ pos (g a)) → (l : List A) → total f l +ℤ pos (sum h l) ≡ pos (sum g l)
total_difference f g h k [] = refl
total_difference f g h k (a ∷ l) =
    ap (λ n. (f a +ℤ total f l) +ℤ n) (sym (pos-+ℤ-pos (h a) (sum h l)))
    ∙ shuffle (f a) (total f l) (pos (h a)) (pos (sum h l))
    ∙ ap₂ (λ m n. m +ℤ n) (k a) (total_difference f g h k l)
    ∙ pos-+ℤ-pos (g a) (sum g l)

pub difference : (t : ℤ) (m n : ℕ) → t +ℤ pos m ≡ pos (n + m) → t ≡ pos n
difference t m n e = sym (+ℤ-neg_ℤ_cancel t (pos m)) ∙ ap (λ k. k -ℤ pos m) (e ∙ sym (pos-+ℤ-pos n m)) ∙ +ℤ-neg_ℤ_cancel (pos n) (pos m)
