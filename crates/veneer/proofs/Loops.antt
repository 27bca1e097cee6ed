-- The sum of a face, by loops of painted sides in any order: what a walk from each east step adds to the face of its island.
use Prim.Native.Nat.{ℕ, ◌+◌, ◌≤◌, ◌<◌}
use mathlib.Core.Bool.{Bool, true, false}
use mathlib.Core.Path.{◌≡◌, refl, sym, ap, ap₂, ◌∙◌, subst}
use mathlib.Core.List.Memᴰ.{cast as in-cast}
use mathlib.Core.List.Memᴰ.{head as here}
use mathlib.Core.List.Memᴰ.{tail as there}
use mathlib.Core.List.{List, [], ◌∷◌, Memᴰ as In}
use native.Mathlib.Omega.{arith}
use lib.Dec.{eqb}
use lib.IntN.{ℤ, pos, ◌+ℤ◌}
use lib.ListN.{length}
use borrow.Author.Tests.{eqb-true, eq-eqb}
use Rattle.rules.specs.Lists.{keep, flat}
use Rattle.rules.specs.Picture.{Picture, OUTSIDE, Dart, dart, left, crack}
use Rattle.rules.specs.declared.Dir.TheVariants.{E}
use Rattle.rules.specs.Face.{label_of, island, turn}
use Rattle.veneer.specs.Sums.{total, signed}
use Rattle.veneer.specs.Steps.{share}
use Rattle.rules.proofs.Ground.Lists.{keep_in, in_keep, keep_distinct, keep_append, in_flat, flat_in}
use Rattle.rules.proofs.Ground.Cycles.{cycle_all, same_cycle}
use Rattle.rules.proofs.Ground.Sums.{sum}
use Rattle.veneer.proofs.Integers.{total_append, total_difference, difference}
use Rattle.rules.proofs.Lattice.Frame.{Framed}
use Rattle.rules.proofs.Islands.Beside.{turn_island}
use Rattle.rules.proofs.Islands.Bounds.{island_label}
use Rattle.rules.proofs.Contours.Turns.{turn_crack, turn_left}
use Rattle.rules.proofs.Contours.Loops.{loop_of, loop_in_lem, loop_cycle, loop_cracks, loop_left, IsPainted, Loops}
use Rattle.rules.proofs.Contours.Easts.{loop_east}
use Rattle.rules.proofs.Faces.FirstPixels.{First}
use Rattle.rules.proofs.Islands.Members.{pixels_of, IsSide}
use Rattle.veneer.proofs.Area.{east, west, area}
use Rattle.veneer.proofs.Pieces.{signed_of_lem}

-- those of a list whose test is the same throughout: all or none
module _ {A : Type 0} (t : A → Bool) where
  keep_all : (b : Bool) (l : List A) → ((a : A) → In a l → t a ≡ b) → keep t l ≡ elim b [ true ↦ l | false ↦ [] ]
  unfolding keep
  keep_all true [] h = refl
  keep_all false [] h = refl
  keep_all true (a ∷ l) h = rw (h a (here refl), keep) (ap (λ (m : List A). a ∷ m) (keep_all true l (λ b i. h b (there i))))
  keep_all false (a ∷ l) h = rw (h a (here refl), keep) (keep_all false l (λ b i. h b (there i)))

total_even : {A : Type 0} (f g : A → ℤ) (l : List A) → ((a : A) → In a l → f a ≡ g a) → total f l ≡ total g l
total_even f g [] h = refl
total_even f g (a ∷ l) h = ap₂ (λ m n. m +ℤ n) (h a (here refl)) (total_even f g l (λ b i. h b (there i)))

total_parts : {A : Type 0} (f : A → ℤ) (t : A → Bool) (ls : List (List A)) → total (λ l. total f (keep t l)) ls ≡ total f (keep t (flat ls))
unfolding flat keep
total_parts f t [] = refl
total_parts f t (l ∷ ls) =
    ap (λ n. total f (keep t l) +ℤ n) (total_parts f t ls)
    ∙ sym (ap (total f) (keep_append t l (flat ls)) ∙ total_append f (keep t l) (keep t (flat ls)))

module _ {P : Picture} (F : Framed P) {paints : ℕ} (b : paints ≤ OUTSIDE) (cs : List (List Dart)) (g : Loops P paints cs)
    (easts : (i j : ℕ) → IsPainted P paints (dart i j E) → In (dart i j E) (flat cs)) (p : ℕ) (f : First P paints p) where
  abbrev own : Dart → Bool
  own a = eqb (island P a) p

  -- one island on the left all around
  around : (c : List Dart) → In c cs → (a z : Dart) → In a c → In z c → island P z ≡ island P a
  around c i a z j k =
      (cycle_all (turn P) c (g.cycles c i) (λ z. (crack P z ≡ true) × (left P z < paints) × (island P z ≡ island P a))
      (λ z q.
      let e = turn_left F z q.0 in
      let l = q.1 in
      (turn_crack F z q.0, omega arith, sym (turn_island F z (λ o. omega arith) q.0) ∙ q.2))
      a j (let m = g.painted a (in_flat cs c a i j) in (m.cracked, m.painted, refl)) z k).2

  share_is : (c : List Dart) → In c cs → share P p c ≡ total signed (keep own c)
  share_is [] i = absurd (g.cycles [] i)
  share_is (a ∷ l) i = go (own a) refl
    where
      same : (z : Dart) → In z (a ∷ l) → own z ≡ own a
      same z k = ap (λ q. eqb q p) (around (a ∷ l) i a z (here refl) k)

      go : (t : Bool) → own a ≡ t → elim t [ true ↦ total signed (a ∷ l) | false ↦ pos 0 ] ≡ total signed (keep own (a ∷ l))
      go true e = ap (total signed) (sym (keep_all own true (a ∷ l) (λ z k. same z k ∙ e)))
      go false e = ap (total signed) (sym (keep_all own false (a ∷ l) (λ z k. same z k ∙ e)))

  -- each painted side is in a loop, since one of its loop's sides goes east
  covered : (a : Dart) → IsPainted P paints a → In a (flat cs)
  covered a m =
      let k = m.cracked in
      let e = loop_east F (loop_of P a) (loop_cycle F a k) (loop_cracks F a k) a (loop_in_lem F a k) in
      let d = e.0 in
      let q : d ≡ dart d.x d.y E = λ i. record { x = d.x; y = d.y; d = e.2 i } in
      let h = m.painted in
      let n : IsPainted P paints d = record { cracked = loop_cracks F a k d e.1; painted = omega (arith, loop_left F a k d e.1) } in
      let r = flat_in cs d (in-cast q (easts d.x d.y (subst (IsPainted P paints) q n))) in
      in_flat cs r.0 a r.1 (same_cycle (turn P) (loop_of P a) r.0 (loop_cycle F a k) (g.cycles r.0 r.1) d e.1 r.2 a (loop_in_lem F a k))

  into : (a : Dart) → In a (keep own (flat cs)) → IsSide P p a
  into a i =
      let k = keep_in own (flat cs) a i in
      let m = g.painted a k.0 in
      let l = m.painted in
      record { cracked = m.cracked; inside = λ e. omega arith; isle = eqb-true (island P a) p k.1 }

  onto : (a : Dart) → IsSide P p a → In a (keep own (flat cs))
  onto a s =
      let e : left P a ≡ label_of P p = sym (island_label F a s.inside) ∙ ap (label_of P) s.isle in
      let l = f.painted in
      in_keep own (flat cs) a (eq-eqb (island P a) p s.isle) (covered a (record { cracked = s.cracked; painted = omega arith }))

  -- all loops together add the island's pixel count
  pub shares_pixels : total (share P p) cs ≡ pos (length (pixels_of P p))
  shares_pixels =
      let l = keep own (flat cs) in
      let n = length (pixels_of P p) in
      let h = f.painted in
      let r = area F p (λ z. omega arith) l (keep_distinct own (flat cs) g.once) into onto in
      let e : sum east l ≡ n + sum west l = omega arith in
      total_even (share P p) (λ c. total signed (keep own c)) cs share_is ∙ total_parts signed own cs
      ∙ difference (total signed l) (sum west l) n (total_difference signed east west (λ a. signed_of_lem a.d a.y) l ∙ ap pos e)
