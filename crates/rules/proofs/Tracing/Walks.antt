-- Walks: each ends within its fuel, keeps its labels, and has no edge twice.
use Prim.Native.Nat.{ℕ, zero, suc}
use mathlib.Core.Bool.{true, false, ◌&&◌, true≢false}
use mathlib.Core.Path.{◌≡◌, refl, sym, ap, ◌∙◌}
use mathlib.Core.Logic.{⊎_elim}
use mathlib.Core.List.Memᴰ.{eq_of_singleton}
use mathlib.Core.List.Memᴰ.{head as here}
use mathlib.Core.List.Memᴰ.{not-nil}
use mathlib.Core.List.Memᴰ.{tail as there}
use mathlib.Core.List.{List, [], ◌∷◌, Memᴰ as In}
use native.Mathlib.Omega.{arith}
use lib.Dec.{eqb}
use borrow.Author.Tests.{eqb-true, eq-eqb}
use Rattle.rules.specs.Picture.{Picture, Dart, turned, crack, ahead_y, ahead_x}
use Rattle.rules.specs.Graph.{following, meets, ending, walk, fuel, out, corners}
use Rattle.rules.proofs.Lattice.Frame.{Framed}
use Rattle.rules.proofs.Ground.Booleans.{both, and_left, and_right, or_no, or_left_false, or_right_false}
use Rattle.rules.proofs.Lattice.Darts.{turned_turned}
use Rattle.rules.proofs.Lattice.WayOn.{following_crack, following_only, following_not_back, following_back, following_injective}
use Rattle.rules.proofs.Ground.Orbits.{until, Walk, Trail, Orbit, trail_ok, trail_all, walk_all, walk_fresh, stops}
use Rattle.rules.proofs.Lattice.Edges.{not_turned}
use Rattle.rules.proofs.Lattice.Grid.{crack_out, length_darts}
use Rattle.rules.specs.Describes.{Once}

-- THE TEST AT EACH STEP

module _ (P : Picture) (x₀ y₀ : ℕ) where
  pub going_meets : (a : Dart) → ending P x₀ y₀ a ≡ false → meets P a ≡ false
  unfolding ending
  going_meets a k = or_left_false (meets P a) (eqb (ahead_x a) x₀ && eqb (ahead_y a) y₀) k

  going_away : (a : Dart) → ending P x₀ y₀ a ≡ false → ahead_x a ≡ x₀ → ahead_y a ≡ y₀ → ⊥
  unfolding ending
  going_away a k ex ey =
      true≢false (sym (both (eqb (ahead_x a) x₀) (eqb (ahead_y a) y₀) (eq-eqb (ahead_x a) x₀ ex) (eq-eqb (ahead_y a) y₀ ey))
      ∙ or_right_false (meets P a) (eqb (ahead_x a) x₀ && eqb (ahead_y a) y₀) k)

  -- a walk that ends at no node is back at its first corner
  pub back_at : (a : Dart) → ending P x₀ y₀ a ≡ true → meets P a ≡ false → (ahead_x a ≡ x₀) × (ahead_y a ≡ y₀)
  unfolding ending
  back_at a e k =
      let h = or_no (meets P a) (eqb (ahead_x a) x₀ && eqb (ahead_y a) y₀) e k in (
        eqb-true (ahead_x a) x₀ (and_left (eqb (ahead_x a) x₀) (eqb (ahead_y a) y₀) h),
        eqb-true (ahead_y a) y₀ (and_right (eqb (ahead_x a) x₀) (eqb (ahead_y a) y₀) h),
      )

  abbrev pub Steps : Dart → List Dart → Type 0
  Steps = Walk (following P) (ending P x₀ y₀)

  abbrev Starts : Dart → Type 0
  Starts a = (crack P a ≡ true) × (a.x ≡ x₀) × (a.y ≡ y₀)

  abbrev Before : Dart → List Dart → Type 0
  Before = Trail (following P) (ending P x₀ y₀) Starts

  walk_until : (k : ℕ) (a : Dart) → walk P k x₀ y₀ a ≡ until (following P) (ending P x₀ y₀) k a
  unfolding walk until
  walk_until zero a = refl
  walk_until (suc k) a = ap (λ l. a ∷ elim (ending P x₀ y₀ a) [ true ↦ [] | false ↦ l ]) (walk_until k (following P a))

-- NO STEP TWICE

module _ {P : Picture} (F : Framed P) (x₀ y₀ : ℕ) where
  crack_orbit : Orbit (following P) (ending P x₀ y₀) (Starts P x₀ y₀) (λ a. crack P a ≡ true)
  unfolding following
  crack_orbit = record {
    first = λ a s. s.0;
    stays = λ a c k. following_crack F a c (going_meets P x₀ y₀ a k);
    away = λ a k s. going_away P x₀ y₀ a k s.1 s.2;
    injective = λ a b c d k j e. following_injective F a b c (going_meets P x₀ y₀ a k) d (going_meets P x₀ y₀ b j) e;
  }

  pub walk_crack : (a : Dart) (l : List Dart) → crack P a ≡ true → Steps P x₀ y₀ a l → (c : Dart) → In c (a ∷ l) → crack P c ≡ true
  walk_crack = walk_all crack_orbit

  before_crack : (b : Dart) (h : List Dart) → Before P x₀ y₀ b h → crack P b ≡ true
  before_crack = trail_ok crack_orbit

  before_cracks : (b : Dart) (h : List Dart) → Before P x₀ y₀ b h → (c : Dart) → In c (b ∷ h) → crack P c ≡ true
  before_cracks = trail_all crack_orbit

  fresh : (a : Dart) (l h : List Dart) → Before P x₀ y₀ a h → Steps P x₀ y₀ a l → (c : Dart) → In c (a ∷ l) → In c h → ⊥
  fresh = walk_fresh crack_orbit

  -- NOR A STEP AND ITS TURNED ONE

  -- the step after an earlier one
  follows : (b : Dart) (h : List Dart) → Before P x₀ y₀ b h → (c : Dart) → In c h → In (following P c) (b ∷ h)
  follows b [] t c m = absurd (not-nil m)
  follows b (a ∷ h) t c (here e) = here (ap (following P) e ∙ sym t.0)
  follows b (a ∷ h) t c (there m) = there (follows a h t.2 c m)

  before_apart : (b : Dart) (h : List Dart) → Before P x₀ y₀ b h → (c : Dart) → In c (b ∷ h) → b ≡ turned c → ⊥
  before_apart b [] t c m q = not_turned b c (sym (eq_of_singleton m)) q
  before_apart b (a ∷ h) t c m q = go (λ c m q. before_apart a h t.2 c m q) m
    where
      ca : crack P a ≡ true
      ca = before_crack a h t.2

      ka : meets P a ≡ false
      ka = going_meets P x₀ y₀ a t.1

      go : ((c : Dart) → In c (a ∷ h) → a ≡ turned c → ⊥) → In c (b ∷ a ∷ h) → ⊥
      go below (here e) = not_turned b c (sym e) q
      go below (there (here e)) = following_not_back F a ca ka (sym t.0 ∙ q ∙ ap turned e)
      go below (there (there m)) =
          below (following P c) (follows a h t.2 c m)
          (sym (turned_turned F a ca)
          ∙ ap turned (sym (following_back F a ca ka) ∙ ap (λ d. following P (turned d)) (sym t.0 ∙ q) ∙ ap (following P) (turned_turned F c (before_cracks a h t.2 c (there m)))))

  walk_apart_at : (c a : Dart) (l h : List Dart) → Before P x₀ y₀ a h → Steps P x₀ y₀ a l → (d : Dart) → In c (a ∷ l) → In d (a ∷ h) → c ≡ turned d → ⊥
  walk_apart_at c a l h t w d (here e) n q = before_apart a h t d n (sym e ∙ q)
  walk_apart_at c a [] h t w d (there m) n q = not-nil m
  walk_apart_at c a (b ∷ l) h t w d (there m) n q = walk_apart_at c b l (a ∷ h) (w.1, w.0, t) w.2 d m (there n) q

  pub walk_apart : (a : Dart) (l h : List Dart) → Before P x₀ y₀ a h → Steps P x₀ y₀ a l → (c d : Dart) → In c (a ∷ l) → In d (a ∷ h) → c ≡ turned d → ⊥
  walk_apart a l h t w c d i n q = walk_apart_at c a l h t w d i n q

  pub walk_once : (a : Dart) (l h : List Dart) → Before P x₀ y₀ a h → Steps P x₀ y₀ a l → Once (a ∷ l)
  walk_once a [] h t w = (λ o. ⊎_elim not-nil not-nil o, tt)
  walk_once a (b ∷ l) h t w = (
    λ o. ⊎_elim
        (λ (m : In a (b ∷ l)). fresh b l (a ∷ h) (w.1, w.0, t) w.2 a m (here refl))
        (λ (m : In (turned a) (b ∷ l)). walk_apart b l (a ∷ h) (w.1, w.0, t) w.2 (turned a) a m (there (here refl)) refl)
        o,
    walk_once b l (a ∷ h) (w.1, w.0, t) w.2,
  )

-- THE WALK FROM A CRACK

module _ {P : Picture} (F : Framed P) (a : Dart) (c : crack P a ≡ true) where
  pub the_walk : (l : List Dart) × (walk P (fuel P) a.x a.y a ≡ a ∷ l) × Steps P a.x a.y a l
  the_walk =
      let r = stops (crack_orbit F a.x a.y) (out (corners P)) (crack_out F) (fuel P) a (c, refl, refl) (omega (arith, length_darts P)) in
      (r.0, walk_until P a.x a.y (fuel P) a ∙ r.1, r.2)

  -- one that comes back to its first corner, which is no node, goes on with its first step
  pub walk_ring : (l : List Dart) → Steps P a.x a.y a l → (z : Dart) → In z (a ∷ l) → ending P a.x a.y z ≡ true → meets P z ≡ false → a ≡ following P z
  walk_ring l w z m e k =
      let h = back_at P a.x a.y z e k in
      let cz = walk_crack F a.x a.y a l c w z m in
      following_only F z cz k a c (sym h.0) (sym h.1)
      (λ q. walk_apart F a.x a.y a l [] (c, refl, refl) w z a m (here refl) (sym (ap turned q ∙ turned_turned F z cz)))
