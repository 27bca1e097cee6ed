-- The pigeonhole: a list without repetition is no longer than one that holds all its members.
use Prim.Native.Nat.{suc, ◌≤◌, zero-le}
use mathlib.Core.Path.{◌≡◌, refl, sym, ap, ◌∙◌}
use mathlib.Core.List.Memᴰ.{cast as in-cast}
use mathlib.Core.List.Memᴰ.{head as here}
use mathlib.Core.List.Memᴰ.{tail as there}
use mathlib.Core.List.{List, [], ◌∷◌, Memᴰ as In}
use native.Mathlib.Omega.{arith}
use lib.ListN.{length}
use Rattle.rules.specs.Lists.{Distinct}

module _ {A : Type 0} where
  -- a list without one of its members
  unfoldable pub without : {a : A} {l : List A} → In a l → List A
  without (here {xs = l} e) = l
  without (there {x = x} m) = x ∷ without m

  length_without : {a : A} {l : List A} (m : In a l) → length l ≡ suc (length (without m))
  unfolding without
  length_without (here e) = refl
  length_without (there m) = ap suc (length_without m)

  pub in_without : {a b : A} {l : List A} (m : In a l) → In b l → (b ≡ a → ⊥) → In b (without m)
  unfolding without
  in_without (here e) (here f) n = absurd (n (f ∙ sym e))
  in_without (here e) (there k) n = k
  in_without (there m) (here f) n = here f
  in_without (there m) (there k) n = there (in_without m k n)

  pub pigeonhole : (l m : List A) → Distinct l → ((a : A) → In a l → In a m) → length l ≤ length m
  pigeonhole [] m d f = zero-le
  pigeonhole (a ∷ l) m d f =
      let p : In a m = f a (here refl) in
      let q : length l ≤ length (without p) = pigeonhole l (without p) d.1 (λ b k. in_without p (f b (there k)) (λ e. d.0 (in-cast (sym e) k))) in
      omega (arith, length_without p)

-- two lists that hold the same members, each once
pub record Rearranged {A : Type 0} (l m : List A) : Type 0 where
  pub first : Distinct l
  pub second : Distinct m
  pub into : (a : A) → In a l → In a m
  pub onto : (a : A) → In a m → In a l

pub rearranged_length : {A : Type 0} {l m : List A} → Rearranged l m → length l ≡ length m
rearranged_length {l = l} {m = m} r =
    let p = pigeonhole l m r.first r.into in
    let q = pigeonhole m l r.second r.onto in
    omega arith
