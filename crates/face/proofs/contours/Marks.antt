-- The marks of a plane: a step east has the word of its corner, and no other word changes.
use Prim.Native.Nat.{ℕ, ◌+◌, ◌<◌}
use mathlib.Core.Path.{◌≡◌, refl, sym, ap, ◌∙◌}
use mathlib.Core.Bool.{cond}
use mathlib.Core.List.Memᴰ.{head as here}
use mathlib.Core.List.Memᴰ.{not-nil}
use mathlib.Core.List.Memᴰ.{tail as there}
use mathlib.Core.List.{List, [], ◌∷◌, ◌++◌, Memᴰ as In}
use native.Mathlib.Omega.{arith}
use native.Mathlib.Decide.{ℕ_discrete}
use lib.Dec.{eqb}
use lib.ListN.{length, get_or, set, length-set}
use lib.Seq.{get_or-set_same, get_or-set_other}
use Rattle.rules.specs.Picture.{code, Dart, dart}
use Rattle.rules.specs.declared.Dir.{Dir}
use Rattle.rules.specs.declared.Dir.TheVariants.{N, E, S, W}
use Rattle.lattice.specs.Planes.{place}
use Rattle.face.specs.Contours.{east_marked, easts_marked}

module _ (at w : ℕ) where
  -- ONE STEP

  pub east_marked_east : (ws : List ℕ) (a : Dart) → a.d ≡ E → east_marked at w ws a ≡ set ws (at + place w a.x a.y) 1
  unfolding east_marked
  east_marked_east ws a e = rw e

  east_marked_elim : (Q : List ℕ → Type 0) (ws : List ℕ) (a : Dart) → (a.d ≡ E → Q (set ws (at + place w a.x a.y) 1)) → Q ws → Q (east_marked at w ws a)
  unfolding east_marked
  east_marked_elim Q ws a f g = go a.d refl
    where
      go : (d : Dir) → a.d ≡ d → Q (cond (eqb (code d) (code E)) (set ws (at + place w a.x a.y) 1) ws)
      go N e = g
      go E e = f e
      go S e = g
      go W e = g

  pub east_marked_not : (ws : List ℕ) (a : Dart) → (a.d ≡ E → ⊥) → ws ≡ east_marked at w ws a
  east_marked_not ws a n = east_marked_elim (λ vs. ws ≡ vs) ws a (λ e. absurd (n e)) refl

  length_east_marked : (ws : List ℕ) (a : Dart) → length (east_marked at w ws a) ≡ length ws
  length_east_marked ws a = east_marked_elim (λ vs. length vs ≡ length ws) ws a (λ e. length-set ws (at + place w a.x a.y) 1) refl

  -- a mark stays
  stays : (ws : List ℕ) (a : Dart) (k : ℕ) → k < length ws → get_or ws k 0 ≡ 1 → get_or (east_marked at w ws a) k 0 ≡ 1
  stays ws a k h e = east_marked_elim (λ vs. get_or vs k 0 ≡ 1) ws a (λ _. go (ℕ_discrete k (at + place w a.x a.y))) e
    where
      go : Dec (k ≡ at + place w a.x a.y) → get_or (set ws (at + place w a.x a.y) 1) k 0 ≡ 1
      go (yes q) = rw (← q) (get_or-set_same ws k 1 0 h)
      go (no n) = get_or-set_other ws (at + place w a.x a.y) k 1 0 n ∙ e

  -- ALL STEPS

  pub east_marked_more : (ws : List ℕ) (l : List Dart) (a : Dart) → easts_marked at w ws (l ++ (a ∷ [])) ≡ east_marked at w (easts_marked at w ws l) a
  east_marked_more ws [] a = refl
  east_marked_more ws (b ∷ l) a = east_marked_more (east_marked at w ws b) l a

  pub length_east_marked_all : (ws : List ℕ) (l : List Dart) → length (easts_marked at w ws l) ≡ length ws
  length_east_marked_all ws [] = refl
  length_east_marked_all ws (a ∷ l) = length_east_marked_all (east_marked at w ws a) l ∙ length_east_marked ws a

  pub stays_all : (l : List Dart) (ws : List ℕ) (k : ℕ) → k < length ws → get_or ws k 0 ≡ 1 → get_or (easts_marked at w ws l) k 0 ≡ 1
  stays_all [] ws k h e = e
  stays_all (a ∷ l) ws k h e = stays_all l (east_marked at w ws a) k (omega (arith, length_east_marked ws a)) (stays ws a k h e)

  pub marks_in : (l : List Dart) (ws : List ℕ) (x y : ℕ) → In (dart x y E) l → at + place w x y < length ws → get_or (easts_marked at w ws l) (at + place w x y) 0 ≡ 1
  marks_in [] ws x y i h = absurd (not-nil i)
  marks_in (a ∷ l) ws x y (here e) h =
      let k = at + place w x y in
      let s : east_marked at w ws a ≡ set ws k 1 = ap (east_marked at w ws) (sym e) ∙ east_marked_east ws (dart x y E) refl in
      stays_all l (east_marked at w ws a) k (omega (arith, length_east_marked ws a)) (ap (λ vs. get_or vs k 0) s ∙ get_or-set_same ws k 1 0 h)
  marks_in (a ∷ l) ws x y (there i) h = marks_in l (east_marked at w ws a) x y i (omega (arith, length_east_marked ws a))

  -- and no other word changes
  pub keeps_off : (l : List Dart) (ws : List ℕ) (k : ℕ) → ((x y : ℕ) → In (dart x y E) l → at + place w x y ≡ k → ⊥) → get_or (easts_marked at w ws l) k 0 ≡ get_or ws k 0
  keeps_off [] ws k n = refl
  keeps_off (a ∷ l) ws k n =
      keeps_off l (east_marked at w ws a) k (λ x y i. n x y (there i))
      ∙ east_marked_elim (λ vs. get_or vs k 0 ≡ get_or ws k 0) ws a
      (λ e. get_or-set_other ws (at + place w a.x a.y) k 1 0 (λ q. n a.x a.y (here (λ i. record { x = a.x; y = a.y; d = sym e i })) (sym q))) refl
