-- The marks of all steps of a contour: each step east or south has its word, and no other word changes.
use Prim.Native.Nat.{ℕ, ◌+◌, ◌*◌, ◌<◌}
use mathlib.Core.Path.{◌≡◌, refl, sym, ap, ◌∙◌, subst}
use mathlib.Core.Logic.{inl, inr}
use mathlib.Core.List.Memᴰ.{head as here}
use mathlib.Core.List.Memᴰ.{not-nil}
use mathlib.Core.List.Memᴰ.{tail as there}
use mathlib.Core.List.{List, [], ◌∷◌, Memᴰ as In}
use native.Mathlib.Omega.{arith}
use native.Mathlib.Decide.{ℕ_discrete}
use lib.ListN.{length, get_or, set}
use lib.Seq.{get_or-set_same, get_or-set_other}
use Rattle.rules.specs.Picture.{Dart}
use Rattle.rules.specs.declared.Dir.{Dir}
use Rattle.rules.specs.declared.Dir.TheVariants.{N, E, S, W}
use Rattle.rules.proofs.Lattice.Darts.{dart_path}
use Rattle.benches.proofs.Scan.{EastSouth}
use Rattle.lattice.specs.declared.Size.{Size}
use Rattle.lattice.specs.Size.{Corner}
use Rattle.lattice.specs.Planes.{plane, place}
use Rattle.lattice.proofs.Planes.{place_low, place_one}
use Rattle.listing.specs.Marks.{mark_of, mark_in, marked_at, marked, marked_all}
use Rattle.listing.proofs.Marking.{length_marks}

module _ (s : Size) where
  abbrev C : ℕ
  C = plane s.width s.height

  -- WORDS of steps

  east_is : (a : Dart) → a.d ≡ E → mark_in s a ≡ place s.width a.x a.y
  east_is a e = ap (mark_of s a.x a.y) e ∙ omega arith

  south_is : (a : Dart) → a.d ≡ S → mark_in s a ≡ C + place s.width a.x a.y
  south_is a e = ap (mark_of s a.x a.y) e

  pub mark_low : (a : Dart) → Corner s a.x a.y → EastSouth a.d → mark_in s a < 2 * C
  mark_low a c (inl e) = omega (arith, east_is a e, place_low s.width s.height a.x a.y c.across c.down)
  mark_low a c (inr e) = omega (arith, south_is a e, place_low s.width s.height a.x a.y c.across c.down)

  -- a word is that of one step
  pub mark_one : (a b : Dart) → Corner s a.x a.y → Corner s b.x b.y → EastSouth a.d → EastSouth b.d → mark_in s a ≡ mark_in s b → a ≡ b
  mark_one a b c k (inl p) (inl q) e =
      let r = place_one s.width a.x a.y b.x b.y c.across k.across (sym (east_is a p) ∙ e ∙ east_is b q) in
      dart_path a b r.0 r.1 (p ∙ sym q)
  mark_one a b c k (inr p) (inr q) e =
      let z : C + place s.width a.x a.y ≡ C + place s.width b.x b.y = sym (south_is a p) ∙ e ∙ south_is b q in
      let r = place_one s.width a.x a.y b.x b.y c.across k.across (omega (arith, z)) in
      dart_path a b r.0 r.1 (p ∙ sym q)
  mark_one a b c k (inl p) (inr q) e =
      absurd (omega (arith, e, east_is a p, south_is b q, place_low s.width s.height a.x a.y c.across c.down))
  mark_one a b c k (inr p) (inl q) e =
      absurd (omega (arith, e, south_is a p, east_is b q, place_low s.width s.height b.x b.y k.across k.down))

  -- ONE STEP

  marked_is : (ws : List ℕ) (a : Dart) → EastSouth a.d → marked s ws a ≡ set ws (mark_in s a) 1
  marked_is ws a (inl e) = subst (λ d. marked_at s ws a.x a.y d ≡ set ws (mark_of s a.x a.y d) 1) (sym e) refl
  marked_is ws a (inr e) = subst (λ d. marked_at s ws a.x a.y d ≡ set ws (mark_of s a.x a.y d) 1) (sym e) refl

  marked_elim : (Q : List ℕ → Type 0) (ws : List ℕ) (x y : ℕ) (d : Dir) → (EastSouth d → Q (set ws (mark_of s x y d) 1)) → Q ws → Q (marked_at s ws x y d)
  marked_elim Q ws x y N f g = g
  marked_elim Q ws x y E f g = f (inl refl)
  marked_elim Q ws x y S f g = f (inr refl)
  marked_elim Q ws x y W f g = g

  stays : (ws : List ℕ) (a : Dart) (k : ℕ) → k < length ws → get_or ws k 0 ≡ 1 → get_or (marked s ws a) k 0 ≡ 1
  stays ws a k h e = marked_elim (λ vs. get_or vs k 0 ≡ 1) ws a.x a.y a.d (λ _. go (ℕ_discrete k (mark_in s a))) e
    where
      go : Dec (k ≡ mark_in s a) → get_or (set ws (mark_in s a) 1) k 0 ≡ 1
      go (yes q) = rw (← q) (get_or-set_same ws k 1 0 h)
      go (no n) = get_or-set_other ws (mark_in s a) k 1 0 n ∙ e

  -- ALL STEPS

  pub stays_all : (l : List Dart) (ws : List ℕ) (k : ℕ) → k < length ws → get_or ws k 0 ≡ 1 → get_or (marked_all s ws l) k 0 ≡ 1
  stays_all [] ws k h e = e
  stays_all (a ∷ l) ws k h e = stays_all l (marked s ws a) k (omega (arith, length_marks s (a ∷ []) ws)) (stays ws a k h e)

  pub marks_in : (l : List Dart) (ws : List ℕ) (a : Dart) → EastSouth a.d → In a l → mark_in s a < length ws → get_or (marked_all s ws l) (mark_in s a) 0 ≡ 1
  marks_in [] ws a d i h = absurd (not-nil i)
  marks_in (b ∷ l) ws a d (here e) h =
      let z : marked s ws b ≡ set ws (mark_in s a) 1 = ap (marked s ws) (sym e) ∙ marked_is ws a d in
      stays_all l (marked s ws b) (mark_in s a) (omega (arith, length_marks s (b ∷ []) ws)) (ap (λ vs. get_or vs (mark_in s a) 0) z ∙ get_or-set_same ws (mark_in s a) 1 0 h)
  marks_in (b ∷ l) ws a d (there i) h = marks_in l (marked s ws b) a d i (omega (arith, length_marks s (b ∷ []) ws))

  pub keeps_off : (l : List Dart) (ws : List ℕ) (k : ℕ) → ((a : Dart) → EastSouth a.d → In a l → mark_in s a ≡ k → ⊥) → get_or (marked_all s ws l) k 0 ≡ get_or ws k 0
  keeps_off [] ws k n = refl
  keeps_off (a ∷ l) ws k n =
      keeps_off l (marked s ws a) k (λ b d i. n b d (there i))
      ∙ marked_elim (λ vs. get_or vs k 0 ≡ get_or ws k 0) ws a.x a.y a.d (λ d. get_or-set_other ws (mark_in s a) k 1 0 (λ q. n a d (here refl) (sym q))) refl
