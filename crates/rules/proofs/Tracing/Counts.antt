-- Counts: the steps are as many as the cracks, the segments no more, and the cracks at most 2 × width × height + width + height.
use Prim.Native.Nat.{ℕ, suc, ◌+◌, ◌*◌, ◌<◌, ◌≤◌}
use mathlib.Core.Bool.{true, true≢false}
use mathlib.Core.Path.{◌≡◌, refl, sym, ap, ◌∙◌}
use mathlib.Core.Logic.{◌⊎◌, inl, inr, ⊎_elim, ⊎_map}
use mathlib.Core.List.Memᴰ.{append_left as in_left}
use mathlib.Core.List.Memᴰ.{append_right as in_right}
use mathlib.Core.List.Memᴰ.{cast as in-cast}
use mathlib.Core.List.Memᴰ.{head as here}
use mathlib.Core.List.Memᴰ.{map as in_map}
use mathlib.Core.List.Memᴰ.{not-nil}
use mathlib.Core.List.Memᴰ.{of_map}
use mathlib.Core.List.Memᴰ.{tail as there}
use mathlib.Core.List.{List, [], ◌∷◌, ◌++◌, map, Memᴰ as In}
use native.Mathlib.Omega.{arith}
use native.Mathlib.Nat.{mul_comm}
use lib.ListN.{length, length-append, length-map}
use Rattle.rules.specs.Lists.{flat, Distinct}
use Rattle.rules.specs.Picture.{Picture, same_dir, Dart, dart, to_x, to_y, turned, crack}
use Rattle.rules.specs.declared.Dir.{Dir}
use Rattle.rules.specs.declared.Dir.TheVariants.{N, E, S, W}
use Rattle.rules.specs.Graph.{rows, corners, east_south, cracks}
use Rattle.rules.proofs.Lattice.Frame.{Framed}
use Rattle.rules.proofs.Lattice.Darts.{turned_turned, turned_crack, crack_x, crack_y, crack_to_x, crack_to_y}
use Rattle.rules.proofs.Ground.Lists.{keep_in, in_keep, keep_distinct, flat_many}
use Rattle.rules.proofs.Ground.Pigeonhole.{pigeonhole}
use Rattle.rules.proofs.Lattice.Grid.{in_rows, length_rows, corners_distinct, crack_corner}
use Rattle.rules.specs.Describes.{On, Once, Segment, Describes}

-- THE CRACKS: those that head E or S, each once

-- the dart heads E or S
abbrev Fore : Dart → Type 0
Fore a = (a.d ≡ E) ⊎ (a.d ≡ S)

east_south_in : (cs : List (ℕ × ℕ)) (a : Dart) → In a (east_south cs) → In {A = ℕ × ℕ} (a.x, a.y) cs × Fore a
unfolding east_south
east_south_in [] a i = absurd (not-nil i)
east_south_in (c ∷ cs) a (here e) = (here (ap (λ b. (b.x, b.y)) e), inl (ap (λ b. b.d) e))
east_south_in (c ∷ cs) a (there (here e)) = (here (ap (λ b. (b.x, b.y)) e), inr (ap (λ b. b.d) e))
east_south_in (c ∷ cs) a (there (there i)) = let r = east_south_in cs a i in (there r.0, r.1)

in_east_south : (cs : List (ℕ × ℕ)) (a : Dart) → In {A = ℕ × ℕ} (a.x, a.y) cs → Fore a → In a (east_south cs)
unfolding east_south
in_east_south [] a i f = absurd (not-nil i)
in_east_south (c ∷ cs) a (here e) (inl h) = here (λ i. record { x = (e i).0; y = (e i).1; d = h i })
in_east_south (c ∷ cs) a (here e) (inr h) = there (here (λ i. record { x = (e i).0; y = (e i).1; d = h i }))
in_east_south (c ∷ cs) a (there i) f = there (there (in_east_south cs a i f))

east_south_distinct : (cs : List (ℕ × ℕ)) → Distinct cs → Distinct (east_south cs)
unfolding east_south
east_south_distinct [] d = tt
east_south_distinct (c ∷ cs) d = (first, (λ i. d.0 (east_south_in cs (dart c.0 c.1 S) i).0, east_south_distinct cs d.1))
  where
    first : In (dart c.0 c.1 E) (dart c.0 c.1 S ∷ east_south cs) → ⊥
    first (here e) = true≢false (ap (λ a. same_dir a.d E) e)
    first (there i) = d.0 (east_south_in cs (dart c.0 c.1 E) i).0

pub cracks_distinct : (P : Picture) → Distinct (cracks P)
unfolding cracks
cracks_distinct P = keep_distinct (crack P) (east_south (corners P)) (east_south_distinct (corners P) (corners_distinct P))

pub in_cracks : {P : Picture} → Framed P → (a : Dart) → Fore a → crack P a ≡ true → In a (cracks P)
unfolding cracks
in_cracks {P} F a f c = in_keep (crack P) (east_south (corners P)) a c (in_east_south (corners P) a (crack_corner F a c) f)

pub cracks_in : (P : Picture) (a : Dart) → In a (cracks P) → Fore a × (crack P a ≡ true)
unfolding cracks
cracks_in P a i = let r = keep_in (crack P) (east_south (corners P)) a i in ((east_south_in (corners P) a r.0).1, r.1)

-- EACH EDGE THE WAY E OR S

unfoldable forward_at : ℕ → ℕ → Dir → Dart
forward_at x y N = turned (dart x y N)
forward_at x y E = dart x y E
forward_at x y S = dart x y S
forward_at x y W = turned (dart x y W)

abbrev forward : Dart → Dart
forward a = forward_at a.x a.y a.d

forward_cases' : (x y : ℕ) (d : Dir) → (forward_at x y d ≡ dart x y d) ⊎ (forward_at x y d ≡ turned (dart x y d))
unfolding forward_at
forward_cases' x y N = inr refl
forward_cases' x y E = inl refl
forward_cases' x y S = inl refl
forward_cases' x y W = inr refl

forward_cases : (a : Dart) → (forward a ≡ a) ⊎ (forward a ≡ turned a)
forward_cases a = forward_cases' a.x a.y a.d

forward_fore : (x y : ℕ) (d : Dir) → Fore (forward_at x y d)
unfolding forward_at turned
forward_fore x y N = inr refl
forward_fore x y E = inl refl
forward_fore x y S = inr refl
forward_fore x y W = inl refl

forward_of_fore : (x y : ℕ) (d : Dir) → (d ≡ E) ⊎ (d ≡ S) → (forward_at x y d ≡ dart x y d) × (forward (turned (dart x y d)) ≡ turned (turned (dart x y d)))
unfolding forward_at turned
forward_of_fore x y d (inl e) = (rw e, rw e)
forward_of_fore x y d (inr e) = (rw e, rw e)

module _ {P : Picture} (F : Framed P) where
  forward_crack : (a : Dart) → crack P a ≡ true → crack P (forward a) ≡ true
  forward_crack a c = ⊎_elim (λ e. ap (crack P) e ∙ c) (λ e. ap (crack P) e ∙ turned_crack F a c) (forward_cases a)

  forward_same : (a b : Dart) → crack P a ≡ true → crack P b ≡ true → forward a ≡ forward b → (a ≡ b) ⊎ (turned a ≡ b)
  forward_same a b ca cb e = go (forward_cases a) (forward_cases b)
    where
      go : (forward a ≡ a) ⊎ (forward a ≡ turned a) → (forward b ≡ b) ⊎ (forward b ≡ turned b) → (a ≡ b) ⊎ (turned a ≡ b)
      go (inl p) (inl q) = inl (sym p ∙ e ∙ q)
      go (inl p) (inr q) = inr (ap turned (sym p ∙ e ∙ q) ∙ turned_turned F b cb)
      go (inr p) (inl q) = inr (sym p ∙ e ∙ q)
      go (inr p) (inr q) = inl (sym (turned_turned F a ca) ∙ ap turned (sym p ∙ e ∙ q) ∙ turned_turned F b cb)

  forward_distinct : (l : List Dart) → Once l → ((c : Dart) → In c l → crack P c ≡ true) → Distinct (map forward l)
  forward_distinct [] o f = tt
  forward_distinct (a ∷ l) o f = (λ i. o.0 (found (of_map forward l i)), forward_distinct l o.1 (λ c i. f c (there i)))
    where
      found : (b : Dart) × In b l × (forward b ≡ forward a) → On a l
      found r = ⊎_map (λ e. in-cast e r.1) (λ e. in-cast e r.1) (forward_same a r.0 (f a (here refl)) (f r.0 (there r.1)) (sym r.2))

-- THE STEPS ARE AS MANY AS THE CRACKS

module _ {P : Picture} (F : Framed P) {ss : List (List Dart)} (D : Describes P ss) where
  steps_low : (a : Dart) → In a (map forward (flat ss)) → In a (cracks P)
  steps_low a i =
      let r = of_map forward (flat ss) i in
      let b = r.0 in
      in-cast (sym r.2) (in_cracks F (forward b) (forward_fore b.x b.y b.d) (forward_crack F b (D.cracked b r.1)))

  steps_high : (a : Dart) → In a (cracks P) → In a (map forward (flat ss))
  steps_high a i =
      let c = cracks_in P a i in
      let f = forward_of_fore a.x a.y a.d c.0 in
      ⊎_elim
      (λ (j : In a (flat ss)). in-cast (sym f.0) (in_map forward j))
      (λ (j : In (turned a) (flat ss)). in-cast (sym (f.1 ∙ turned_turned F a c.1)) (in_map forward j))
      (D.whole a c.1)

  pub step_count_lem : length (flat ss) ≡ length (cracks P)
  step_count_lem =
      let p = pigeonhole (map forward (flat ss)) (cracks P) (forward_distinct F (flat ss) D.once D.cracked) steps_low in
      let q = pigeonhole (cracks P) (map forward (flat ss)) (cracks_distinct P) steps_high in
      omega (arith, p, q, length-map (flat ss) forward)

  pub has_step : (s : List Dart) → In s ss → 0 < length s
  has_step s i = go s (D.segment s i)
    where
      go : (s : List Dart) → Segment P s → 0 < length s
      go [] k = absurd k
      go (a ∷ l) k = omega arith

  pub segment_count_lem : length ss ≤ length (cracks P)
  segment_count_lem = omega (arith, flat_many ss has_step, step_count_lem)

-- THE CRACKS ARE AT MOST SO MANY: w in each of h + 1 rows, and w + 1 between two of them

module _ {P : Picture} (F : Framed P) where
  abbrev eastern : List Dart
  eastern = map (λ c. dart c.0 c.1 E) (rows P.w (suc P.h) 0)

  abbrev southern : List Dart
  southern = map (λ c. dart c.0 c.1 S) (rows (suc P.w) P.h 0)

  in_grid : (x y : ℕ) (d : Dir) → (d ≡ E) ⊎ (d ≡ S) → crack P (dart x y d) ≡ true → In (dart x y d) (eastern ++ southern)
  unfolding to_x to_y
  in_grid x y d (inl e) c =
      let k : crack P (dart x y E) ≡ true = rw e at c in
      rw e (in_left southern (in_map (λ c. dart c.0 c.1 E) (in_rows P.w (suc P.h) 0 x y (crack_to_x F (dart x y E) k) (omega arith) (omega (arith, crack_y F (dart x y E) k)))))
  in_grid x y d (inr e) c =
      let k : crack P (dart x y S) ≡ true = rw e at c in
      rw e (in_right eastern (in_map (λ c. dart c.0 c.1 S) (in_rows (suc P.w) P.h 0 x y (omega (arith, crack_x F (dart x y S) k)) (omega arith) (omega (arith, crack_to_y F (dart x y S) k)))))

  pub crack_count : length (cracks P) ≤ 2 * P.w * P.h + P.w + P.h
  crack_count =
      let p = pigeonhole (cracks P) (eastern ++ southern) (cracks_distinct P) (λ a i. let r = cracks_in P a i in in_grid a.x a.y a.d r.0 r.1) in
      let q : length eastern ≡ suc P.h * P.w = length-map (rows P.w (suc P.h) 0) (λ c. dart c.0 c.1 E) ∙ length_rows P.w (suc P.h) 0 in
      let r : length southern ≡ P.h * suc P.w = length-map (rows (suc P.w) P.h 0) (λ c. dart c.0 c.1 S) ∙ length_rows (suc P.w) P.h 0 in
      omega (arith, length-append eastern southern, mul_comm P.w P.h)
