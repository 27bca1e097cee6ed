-- No cut has length zero, on a sheet that a shop can own: a step leads to a neighbouring corner, and different corners have different places.
use Prim.Native.Nat.{ℕ, zero, suc, ◌≤◌, ◌<◌}
use mathlib.Core.Bool.{Bool, true, false, ◌||◌}
use mathlib.Core.Path.{◌≡◌, refl, sym, ap, subst}
use mathlib.Core.List.Memᴰ.{head as here}
use mathlib.Core.List.Memᴰ.{of_map}
use mathlib.Core.List.Memᴰ.{tail as there}
use mathlib.Core.List.{List, [], ◌∷◌, ◌++◌, map, Memᴰ as In}
use native.Mathlib.Omega.{arith}
use lib.Dec.{T}
use lib.Ieee.{Float, binary64, lt, le, fits}
use lib.Ieee.Fits.{and_i, and_l, and_r}
use Rattle.rules.specs.Lists.{flat}
use Rattle.rules.specs.Picture.{Picture, picture, Dart, dart, to_x, to_y, ahead_x, ahead_y, crack}
use Rattle.rules.specs.declared.Dir.{Dir}
use Rattle.rules.specs.declared.Dir.TheVariants.{N, E, S, W}
use Rattle.rules.specs.Graph.{segments}
use Rattle.rules.specs.Describes.{Through, Segment}
use Rattle.rules.specs.Calls.{Map, picture_of}
use Rattle.rules.proofs.Ground.Booleans.{or_true_left}
use Rattle.rules.proofs.Ground.Lists.{in_flat}
use Rattle.rules.proofs.Lattice.Frame.{Framed, picture_framed}
use Rattle.rules.proofs.Lattice.Darts.{no_north, no_west, crack_x, crack_y, crack_to_x, crack_to_y}
use Rattle.rules.proofs.References.Backwards.{reversed}
use Rattle.rules.proofs.Tracing.Partition.{describes}
use Rattle.sheet.specs.Sheet.{float, unfit_sheet, across_of, down_of, Action, corners_of, cut_to, through, moves}
use Rattle.sheet.specs.Within.{doubles, owned, apart, cuts_move}
use Rattle.sheet.specs.declared.Sheet.{Sheet}
use Rattle.sheet.proofs.Moves.{way, way_cracked}
use Rattle.sheet.proofs.Stays.{fit_wide, fit_high}
use Rattle.sheet.proofs.Strict.{along_strict}

-- a segment, read either way: its first step and those after it
abbrev Goes : Picture → List Dart → Type 0
Goes P s = (a : Dart) × (l : List Dart) × (s ≡ a ∷ l) × Through P a l

goes : {P : Picture} (F : Framed P) (b : Bool) (s : List Dart) → Segment P s → ((a : Dart) → In a s → crack P a ≡ true) → Goes P (way b s)
goes F b [] g k = absurd g
goes F false (a ∷ l) g k = (a, l, refl, g.0)
goes F true (a ∷ l) g k = let r = reversed F a l k g.0 in (_, r.0, r.1, r.2)

module _ (t : Sheet) (d : T (doubles t)) (e : unfit_sheet t ≡ false) (o : T (owned t)) {P : Picture} (F : Framed P) (wide : P.w ≤ 16384) (high : P.h ≤ 16384) where
  abbrev X : ℕ → Float
  X x = across_of t P.w x

  abbrev Y : ℕ → Float
  Y y = down_of t P.h y

  further : (x x' : ℕ) → x < x' → x' ≤ P.w → lt (X x) (X x') ≡ true
  further = along_strict t.width (and_l (fits binary64 t.width) (fits binary64 t.height) d) (fit_wide t e) (and_l (le (float 1) t.width) (le (float 1) t.height) o) P.w wide

  lower : (y y' : ℕ) → y < y' → y' ≤ P.h → lt (Y y) (Y y') ≡ true
  lower = along_strict t.height (and_r (fits binary64 t.width) (fits binary64 t.height) d) (fit_high t e) (and_r (le (float 1) t.width) (le (float 1) t.height) o) P.h high

  -- a step leads away
  step_away : (x y : ℕ) (d : Dir) → crack P (dart x y d) ≡ true → apart (X x) (Y y) (X (to_x x d)) (Y (to_y y d)) ≡ true
  unfolding to_x to_y apart
  step_away x zero N c = absurd (no_north F x c)
  step_away x (suc y) N c =
      or_true_left (lt (X x) (X x) || lt (X x) (X x)) (lt (Y (suc y)) (Y y) || lt (Y y) (Y (suc y)))
      (or_true_left (lt (Y (suc y)) (Y y)) (lt (Y y) (Y (suc y))) (lower y (suc y) (omega arith) (crack_y F (dart x (suc y) N) c)))
  step_away x y E c = rw (further x (suc x) (omega arith) (crack_to_x F (dart x y E) c))
  step_away x y S c =
      or_true_left (lt (X x) (X x) || lt (X x) (X x)) (lt (Y y) (Y (suc y)) || lt (Y (suc y)) (Y y)) (rw (lower y (suc y) (omega arith) (crack_to_y F (dart x y S) c)))
  step_away zero y W c = absurd (no_west F y c)
  step_away (suc x) y W c =
      ap (λ (b : Bool). b || (lt (Y y) (Y y) || lt (Y y) (Y y)))
      (or_true_left (lt (X (suc x)) (X x)) (lt (X x) (X (suc x))) (further x (suc x) (omega arith) (crack_x F (dart (suc x) y W) c)))

  away : (a : Dart) → crack P a ≡ true → T (apart (X a.x) (Y a.y) (X (ahead_x a)) (Y (ahead_y a)))
  away a c = subst T (sym (step_away a.x a.y a.d c)) tt

  abbrev Moved : Dart → List Dart → List Action → Type 0
  Moved a l rest = T (cuts_move (X a.x) (Y a.y) (map (cut_to t P.w P.h) (map (λ b. (ahead_x b, ahead_y b)) (a ∷ l)) ++ rest))

  -- along the steps of a segment, and on through whatever moves follow it
  along_steps : (a : Dart) (l : List Dart) → Through P a l → ((c : Dart) → In c (a ∷ l) → crack P c ≡ true)
      → (rest : List Action) → ((x y : Float) → T (cuts_move x y rest)) → Moved a l rest
  along_steps a [] g k rest r = and_i (apart (X a.x) (Y a.y) (X (ahead_x a)) (Y (ahead_y a))) (cuts_move (X (ahead_x a)) (Y (ahead_y a)) rest) (away a (k a (here refl))) (r _ _)
  along_steps a (b ∷ l) g k rest r =
      let more : List Action = map (cut_to t P.w P.h) (map (λ c. (ahead_x c, ahead_y c)) (b ∷ l)) ++ rest in
      and_i (apart (X a.x) (Y a.y) (X (ahead_x a)) (Y (ahead_y a))) (cuts_move (X (ahead_x a)) (Y (ahead_y a)) more) (away a (k a (here refl)))
      (subst (λ (x : ℕ). T (cuts_move (X x) (Y (ahead_y a)) more)) g.1
      (subst (λ (y : ℕ). T (cuts_move (X b.x) (Y y) more)) g.2 (along_steps b l g.3 (λ c i. k c (there i)) rest r)))

  -- over the moves of any segments
  all_move : (ss : List (List Dart)) → ((s : List Dart) → In s ss → Goes P s × ((c : Dart) → In c s → crack P c ≡ true)) → (x y : Float) → T (cuts_move x y (moves t P.w P.h ss))
  unfolding moves flat through corners_of
  all_move [] k x y = tt
  all_move (s ∷ ss) k x y =
      let g = k s (here refl) in
      one g.0.0 g.0.1 g.0.2 g.0.3 g.1 (moves t P.w P.h ss) (all_move ss (λ s i. k s (there i)))
    where
      one : (a : Dart) (l : List Dart) → s ≡ a ∷ l → Through P a l → ((c : Dart) → In c s → crack P c ≡ true) → (rest : List Action) → ((x y : Float) → T (cuts_move x y rest))
          → T (cuts_move x y (through t P.w P.h (corners_of s) ++ rest))
      one a l z g c rest r =
          subst (λ (s : List Dart). T (cuts_move x y (through t P.w P.h (corners_of s) ++ rest))) (sym z)
          (along_steps a l g (subst (λ (s : List Dart). (c : Dart) → In c s → crack P c ≡ true) z c) rest r)

-- THE THEOREM: every cut of a cut list, its segments read forward or backwards, leads away from where the machine stands
pub no_cut_of_length_zero : (t : Sheet) → T (doubles t) → unfit_sheet t ≡ false → T (owned t) → (m : Map) → m.width ≤ 16384 → m.height ≤ 16384
    → (b : Bool) (x y : Float) → T (cuts_move x y (moves t m.width m.height (map (way b) (segments (picture_of m)))))
unfolding picture
no_cut_of_length_zero t d e o m wide high b =
    all_move t d e o framed wide high (map (way b) drawn)
    (λ s i.
    let r = of_map (way b) drawn i in
    let cracked : (a : Dart) → In a r.0 → crack (picture_of m) a ≡ true = λ a j. (describes framed).cracked a (in_flat drawn r.0 a r.1 j) in
    subst (λ (s : List Dart). Goes (picture_of m) s × ((c : Dart) → In c s → crack (picture_of m) c ≡ true)) r.2
    (goes framed b r.0 ((describes framed).segment r.0 r.1) cracked, way_cracked framed b r.0 cracked))
  where
    drawn : List (List Dart)
    drawn = segments (picture_of m)

    framed : Framed (picture_of m)
    framed = picture_framed m.width m.height m.bound m.labels
