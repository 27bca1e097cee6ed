-- Each loop has a step east: without one none could go west, and all would go north, or all south.
use Prim.Native.Nat.{ℕ, pred, suc, ◌≤◌, ◌<◌}
use mathlib.Core.Path.{◌≡◌, refl, sym, ap, ◌∙◌, subst}
use mathlib.Core.Bool.{true}
use mathlib.Core.Logic.{◌⊎◌, inl, inr}
use mathlib.Core.List.Memᴰ.{head as here}
use mathlib.Core.List.Memᴰ.{not-nil}
use mathlib.Core.List.Memᴰ.{tail as there}
use mathlib.Core.List.{List, [], ◌∷◌, Memᴰ as In}
use native.Mathlib.Omega.{arith}
use native.Mathlib.Decide.{ℕ_discrete}
use Rattle.rules.specs.Picture.{Picture, code, Dart, dart, back_of, to_x, to_y, turned, crack}
use Rattle.rules.specs.declared.Dir.{Dir}
use Rattle.rules.specs.declared.Dir.TheVariants.{N, E, S, W}
use Rattle.rules.specs.Face.{turn}
use Rattle.rules.proofs.Ground.Orbits.{Cycle}
use Rattle.rules.proofs.Ground.Cycles.{cycle_all, cycle_next}
use Rattle.rules.proofs.Lattice.Frame.{Framed}
use Rattle.rules.proofs.Lattice.Darts.{dart_path, no_north, no_west}
use Rattle.rules.proofs.Contours.Turns.{turn_not_back}

-- a dart of the list that goes east
abbrev pub East : List Dart → Type 0
East c = (b : Dart) × In b c × (b.d ≡ E)

-- or none does
abbrev NoEast : List Dart → Type 0
NoEast c = (b : Dart) → In b c → b.d ≡ E → ⊥

east_or : (c : List Dart) → East c ⊎ NoEast c
east_or [] = inr (λ b i e. not-nil i)
east_or (a ∷ l) = elim (ℕ_discrete (code a.d) 1) [ yes e ↦ inl (a, here refl, is_east a.d e) | no n ↦ later n (east_or l) ]
  where
    is_east : (d : Dir) → code d ≡ 1 → d ≡ E
    is_east N e = absurd (omega arith)
    is_east E e = refl
    is_east S e = absurd (omega arith)
    is_east W e = absurd (omega arith)

    later : (code a.d ≡ 1 → ⊥) → East l ⊎ NoEast l → East (a ∷ l) ⊎ NoEast (a ∷ l)
    later n (inl r) = inl (r.0, there r.1, r.2)
    later n (inr r) = inr none
      where
        none : NoEast (a ∷ l)
        none b (here q) e = n (ap (λ (c : Dart). code c.d) (sym q) ∙ ap code e)
        none b (there i) e = r b i e

-- north after north, and south after south, where nothing else is left
onwards : (d e : Dir) → (d ≡ E → ⊥) → (d ≡ W → ⊥) → (e ≡ E → ⊥) → (e ≡ W → ⊥) → (e ≡ back_of d → ⊥) → e ≡ d
onwards N N p q r s n = refl
onwards S S p q r s n = refl
onwards N S p q r s n = absurd (n refl)
onwards S N p q r s n = absurd (n refl)
onwards N E p q r s n = absurd (r refl)
onwards S E p q r s n = absurd (r refl)
onwards N W p q r s n = absurd (s refl)
onwards S W p q r s n = absurd (s refl)
onwards E e p q r s n = absurd (p refl)
onwards W e p q r s n = absurd (q refl)

module _ {P : Picture} (F : Framed P) (c : List Dart) (k : Cycle (turn P) c) (cracks : (b : Dart) → In b c → crack P b ≡ true) where
  next : (b : Dart) → In b c → In (turn P b) c
  next b i = cycle_next (turn P) c k b i

  -- what each step of the loop keeps, all have
  around : (Q : Dart → Type 0) → ((b : Dart) → In b c → Q b → Q (turn P b)) → (b : Dart) → In b c → Q b → (d : Dart) → In d c → Q d
  around Q g b i q d j = (cycle_all (turn P) c k (λ b. In b c × Q b) (λ b p. (next b p.0, g b p.0 p.1)) b i (i, q) d j).1

  -- what no step makes more, none makes less, and the other way round
  no_fall : (m : Dart → ℕ) → ((b : Dart) → In b c → m (turn P b) ≤ m b) → (b : Dart) → In b c → m (turn P b) < m b → ⊥
  no_fall m g b i l = let h = around (λ d. m d ≤ m (turn P b)) (λ d j h. let z = g d j in omega arith) (turn P b) (next b i) (omega arith) b i in omega arith

  no_rise : (m : Dart → ℕ) → ((b : Dart) → In b c → m b ≤ m (turn P b)) → (b : Dart) → In b c → m b < m (turn P b) → ⊥
  no_rise m g b i l = let h = around (λ d. m (turn P b) ≤ m d) (λ d j h. let z = g d j in omega arith) (turn P b) (next b i) (omega arith) b i in omega arith

  crack_of : (b : Dart) → In b c → (x y : ℕ) (d : Dir) → b.x ≡ x → b.y ≡ y → b.d ≡ d → crack P (dart x y d) ≡ true
  crack_of b i x y d p q e = subst (λ a. crack P a ≡ true) (dart_path b (dart x y d) p q e) (cracks b i)

  module _ (none : NoEast c) where
    shrinks : (b : Dart) → In b c → (turn P b).x ≤ b.x
    unfolding turn to_x
    shrinks b i = go b.d refl
      where
        go : (d : Dir) → b.d ≡ d → to_x b.x d ≤ b.x
        go N e = omega arith
        go E e = absurd (none b i e)
        go S e = omega arith
        go W e = let z : pred b.x ≤ b.x = omega arith in z

    never_west : (b : Dart) → In b c → b.d ≡ W → ⊥
    unfolding turn to_x
    never_west b i e =
        let z : (turn P b).x ≡ pred b.x = ap (to_x b.x) e in
        elim (ℕ_discrete b.x 0) [ yes o ↦ no_west F b.y (crack_of b i 0 b.y W o refl e) | no n ↦ no_fall (λ d. d.x) shrinks b i (omega arith) ]

    same_way : (b : Dart) → In b c → (turn P b).d ≡ b.d
    unfolding turn turned
    same_way b i =
        onwards b.d (turn P b).d (none b i) (never_west b i) (none (turn P b) (next b i)) (never_west (turn P b) (next b i))
        (λ g. turn_not_back F b (cracks b i) (dart_path (turn P b) (turned b) refl refl g))

    all_go : (b d : Dart) → In b c → In d c → d.d ≡ b.d
    all_go b d i j = around (λ d. d.d ≡ b.d) (λ d j e. same_way d j ∙ e) b i refl d j

    never_north : (b : Dart) → In b c → b.d ≡ N → ⊥
    unfolding turn to_y
    never_north b i e =
        let z : (d : Dart) → In d c → (turn P d).y ≡ pred d.y = λ d j. ap (to_y d.y) (all_go b d i j ∙ e) in
        let y = z b i in
        elim (ℕ_discrete b.y 0) [
          | yes o ↦ no_north F b.x (crack_of b i b.x 0 N refl o e)
          | no n ↦ no_fall (λ d. d.y) (λ d j. let v = z d j in omega arith) b i (omega arith)
        ]

    never_south : (b : Dart) → In b c → b.d ≡ S → ⊥
    unfolding turn to_y
    never_south b i e =
        let z : (d : Dart) → In d c → (turn P d).y ≡ suc d.y = λ d j. ap (to_y d.y) (all_go b d i j ∙ e) in
        let y = z b i in
        no_rise (λ d. d.y) (λ d j. let v = z d j in omega arith) b i (omega arith)

    never : (b : Dart) → In b c → ⊥
    never b i = go b.d refl
      where
        go : (d : Dir) → b.d ≡ d → ⊥
        go N e = never_north b i e
        go E e = none b i e
        go S e = never_south b i e
        go W e = never_west b i e

  pub loop_east : (a : Dart) → In a c → East c
  loop_east a i = go (east_or c)
    where
      go : East c ⊎ NoEast c → East c
      go (inl r) = r
      go (inr n) = absurd (never n a i)
