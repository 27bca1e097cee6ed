-- Members kept by their numbers, and lengths of lists of lists.
use Prim.Native.Nat.{ℕ, zero, suc, ◌≤◌}
use mathlib.Core.Path.{◌≡◌, refl, sym, ap, ◌∙◌}
use mathlib.Core.Bool.{Bool, true, false}
use mathlib.Core.List.Memᴰ.{head as here}
use mathlib.Core.List.Memᴰ.{not-nil}
use mathlib.Core.List.Memᴰ.{tail as there}
use mathlib.Core.List.{List, [], ◌∷◌, map, Memᴰ as In}
use native.Mathlib.Omega.{arith}
use lib.ListN.{length, get_or, length-append}
use Rattle.rules.specs.Lists.{keep, flat, upto}
use Rattle.rules.proofs.Ground.Pigeonhole.{Rearranged}
use Rattle.rules.proofs.Ground.Sums.{sum, sum_same}

-- the members that pass a test, by their numbers
module _ {A : Type 0} (t : A → Bool) (d : A) where
  from_next : (a : A) (l : List A) (n i : ℕ) → map (λ k. get_or (a ∷ l) k d) (keep (λ k. t (get_or (a ∷ l) k d)) (upto n (suc i))) ≡ map (λ k. get_or l k d) (keep (λ k. t (get_or l k d)) (upto n i))
  unfolding keep upto
  from_next a l zero i = refl
  from_next a l (suc n) i = go (t (get_or l i d)) (from_next a l n (suc i))
    where
      go : (b : Bool) → map (λ k. get_or (a ∷ l) k d) (keep (λ k. t (get_or (a ∷ l) k d)) (upto n (suc (suc i)))) ≡ map (λ k. get_or l k d) (keep (λ k. t (get_or l k d)) (upto n (suc i)))
          → map (λ k. get_or (a ∷ l) k d) (elim b [ true ↦ suc i ∷ keep (λ k. t (get_or (a ∷ l) k d)) (upto n (suc (suc i))) | false ↦ keep (λ k. t (get_or (a ∷ l) k d)) (upto n (suc (suc i))) ])
          ≡ map (λ k. get_or l k d) (elim b [ true ↦ i ∷ keep (λ k. t (get_or l k d)) (upto n (suc i)) | false ↦ keep (λ k. t (get_or l k d)) (upto n (suc i)) ])
      go true r = ap (λ (m : List A). get_or l i d ∷ m) r
      go false r = r

  pub keep_numbers : (l : List A) → keep t l ≡ map (λ k. get_or l k d) (keep (λ k. t (get_or l k d)) (upto (length l) 0))
  unfolding keep upto
  keep_numbers [] = refl
  keep_numbers (a ∷ l) = go (t a) (keep_numbers l ∙ sym (from_next a l (length l) 0))
    where
      go : (b : Bool) → keep t l ≡ map (λ k. get_or (a ∷ l) k d) (keep (λ k. t (get_or (a ∷ l) k d)) (upto (length l) 1))
          → ◌≡◌ {A = List A} (elim b [ true ↦ a ∷ keep t l | false ↦ keep t l ])
          (map (λ k. get_or (a ∷ l) k d) (elim b [ true ↦ 0 ∷ keep (λ k. t (get_or (a ∷ l) k d)) (upto (length l) 1) | false ↦ keep (λ k. t (get_or (a ∷ l) k d)) (upto (length l) 1) ]))
      go true r = ap (λ (m : List A). a ∷ m) r
      go false r = r

-- LENGTHS

module _ {A : Type 0} where
  length_flat : (ls : List (List A)) → length (flat ls) ≡ sum length ls
  unfolding flat
  length_flat [] = refl
  length_flat (l ∷ ls) = omega (arith, length-append l (flat ls), length_flat ls)

  -- the same lists in another order
  pub length_rearranged : (ls ms : List (List A)) → Rearranged ls ms → length (flat ls) ≡ length (flat ms)
  length_rearranged ls ms r = length_flat ls ∙ sum_same length r ∙ sym (length_flat ms)

  pub flat_long : (ls : List (List A)) (l : List A) → In l ls → length l ≤ length (flat ls)
  unfolding flat
  flat_long [] l i = absurd (not-nil i)
  flat_long (m ∷ ls) l (here e) = omega (arith, ap length e, length-append m (flat ls))
  flat_long (m ∷ ls) l (there i) = omega (arith, flat_long ls l i, length-append m (flat ls))
