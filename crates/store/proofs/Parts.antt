-- Parts of a store as lists.
use Prim.Native.Nat.{ℕ, zero, suc, ◌+◌, ◌-◌, ◌<◌, ◌≤◌}
use mathlib.Core.Path.{◌≡◌, refl, ap, ap₂, ◌∙◌}
use mathlib.Core.List.Memᴰ.{head as here}
use mathlib.Core.List.Memᴰ.{not-nil}
use mathlib.Core.List.Memᴰ.{tail as there}
use mathlib.Core.List.{List, [], ◌∷◌, ◌++◌, Memᴰ as In}
use native.Mathlib.Omega.{arith}
use lib.ListN.{length, get_or, set, length-set}
use lib.Seq.{sets, get_or-set_same}
use Rattle.store.specs.Words.{part}
use Rattle.store.proofs.Writes.{sets_before}

pub length_part : (ws : List ℕ) (b n : ℕ) → length (part ws b n) ≡ n
length_part ws b zero = refl
length_part ws b (suc n) = ap suc (length_part ws (suc b) n)

pub part_at : (ws : List ℕ) (b n i : ℕ) → i < n → get_or (part ws b n) i 0 ≡ get_or ws (b + i) 0
part_at ws b zero i h = absurd (omega arith)
part_at ws b (suc n) zero h = let e : b + 0 ≡ b = omega arith in rw e
part_at ws b (suc n) (suc i) h = let e : b + suc i ≡ suc b + i = omega arith in rw e (part_at ws (suc b) n i (omega arith))

-- parts of equal words
pub part_same : (ws us : List ℕ) (a b n : ℕ) → ((i : ℕ) → i < n → get_or ws (a + i) 0 ≡ get_or us (b + i) 0) → part ws a n ≡ part us b n
part_same ws us a b zero f = refl
part_same ws us a b (suc n) f =
    let e : a + 0 ≡ a = omega arith in
    let g : b + 0 ≡ b = omega arith in
    ap₂ (λ (v : ℕ) (l : List ℕ). v ∷ l) (rw (e, g) at (f 0 (omega arith)))
    (part_same ws us (suc a) (suc b) n
    (λ i h. let p : a + suc i ≡ suc a + i = omega arith in let q : b + suc i ≡ suc b + i = omega arith in rw (p, q) at (f (suc i) (omega arith))))

-- the first of what is left of a part
pub part_next : (ws : List ℕ) (a i h : ℕ) → i < h → part ws (a + i) (h - i) ≡ get_or ws (a + i) 0 ∷ part ws (a + (i + 1)) (h - (i + 1))
part_next ws a i h k =
    let e : h - i ≡ suc (h - (i + 1)) = omega arith in
    let f : a + (i + 1) ≡ suc (a + i) = omega arith in
    rw (e, f)

pub part_in : (ws : List ℕ) (a n i : ℕ) → i < n → In (get_or ws (a + i) 0) (part ws a n)
part_in ws a zero i h = absurd (omega arith)
part_in ws a (suc n) zero h = let e : a + 0 ≡ a = omega arith in rw e (here refl)
part_in ws a (suc n) (suc i) h = let e : a + suc i ≡ suc a + i = omega arith in rw e (there (part_in ws (suc a) n i (omega arith)))

-- a member of a part, by its number
pub in_part : (ws : List ℕ) (a n : ℕ) (v : ℕ) → In v (part ws a n) → (i : ℕ) × (i < n) × (v ≡ get_or ws (a + i) 0)
in_part ws a zero v m = absurd (not-nil m)
in_part ws a (suc n) v (here e) = let z : a + 0 ≡ a = omega arith in (0, omega arith, rw z e)
in_part ws a (suc n) v (there m) =
    let r = in_part ws (suc a) n v m in
    let k = r.1 in
    let z : a + suc r.0 ≡ suc a + r.0 = omega arith in
    (suc r.0, omega arith, rw z r.2)

pub part_append : (ws : List ℕ) (a m n : ℕ) → part ws a (m + n) ≡ part ws a m ++ part ws (a + m) n
part_append ws a zero n = let e : a + 0 ≡ a = omega arith in let z : 0 + n ≡ n = omega arith in rw (e, z)
part_append ws a (suc m) n =
    let e : a + suc m ≡ suc a + m = omega arith in
    let z : suc m + n ≡ suc (m + n) = omega arith in
    rw (e, z) (ap (λ (l : List ℕ). get_or ws a 0 ∷ l) (part_append ws (suc a) m n))

pub part_halves : (ws : List ℕ) (a h n : ℕ) → h ≤ n → part ws a n ≡ part ws a h ++ part ws (a + h) (n - h)
part_halves ws a h n l = let e : n ≡ h + (n - h) = omega arith in ap (part ws a) e ∙ part_append ws a h (n - h)

-- a part that was written
pub part_sets : (l : List ℕ) (i : ℕ) (vs : List ℕ) → i + length vs ≤ length l → part (sets l i vs) i (length vs) ≡ vs
part_sets l i [] h = refl
part_sets l i (v ∷ vs) h =
    ap₂ (λ (x : ℕ) (m : List ℕ). x ∷ m) (sets_before (set l i v) (suc i) vs i (omega arith) ∙ get_or-set_same l i v 0 (omega arith))
    (part_sets (set l i v) (suc i) vs (omega (arith, length-set l i v)))
