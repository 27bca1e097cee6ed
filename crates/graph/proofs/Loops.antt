-- Loops that go through things to do, item by item.
use Prim.Native.Nat.{ℕ, zero, suc, ◌+◌, ◌≤◌, ◌<◌}
use mathlib.Core.Path.{◌≡◌, refl, sym, ap, subst, ◌∙◌}
use mathlib.Core.List.{List, [], ◌∷◌, ◌++◌, map, append_assoc}
use native.Mathlib.Omega.{arith}
use native.Mathlib.Numerals.{add-one}
use lib.ListN.{length, get_or, drop, drop_of_length-le}
use lib.Seq.{drop-cons}
use Rattle.rules.specs.Lists.{flat, upto}
use Rattle.rules.specs.Picture.{Picture, Dart, dart}
use Rattle.rules.specs.declared.Dir.{Dir}
use Rattle.rules.specs.declared.Dir.TheVariants.{N, E, S, W}
use Rattle.rules.proofs.Tracing.Bends.{easts}
use Rattle.graph.specs.Nodes.{bends}
use Rattle.rules.specs.Graph.{row, rows, corners, out}
use Rattle.rules.proofs.Ground.Lists.{flat_singles, length_upto, at_upto}
use Rattle.lattice.specs.declared.Size.{Size}
use Rattle.graph.specs.Stage.{starts}
use Rattle.graph.specs.Todo.{Due, Does}

-- all that there is to do, by what there is to do at each item
pub record Course (C X : Type 0) : Type 0 where
  pub items : List C
  pub each : C → List X
  pub whole : List X
  pub is : whole ≡ flat (map each items)

module _ {C X O T : Type 0} (L : Course C X) (At : O → List X → T → Type 0) where
  -- what the items from i on ask for
  abbrev from : ℕ → List X
  from i = flat (map L.each (drop i L.items))

  -- i items are done
  abbrev pub Through : T → T → ℕ → Type 0
  Through t₀ t i = (o : O) (rest : List X) → At o (L.whole ++ rest) t₀ → At o (from i ++ rest) t

  pub begin : (t : T) → Through t t 0
  begin t o rest q = subst (λ (l : List X). At o (l ++ rest) t) L.is q

  module _ (z c : C) (i : ℕ) (p : i < length L.items) (e : get_or L.items i z ≡ c) where
    next : (rest : List X) → from i ++ rest ≡ L.each c ++ (from (i + 1) ++ rest)
    unfolding flat
    next rest =
        ap (λ (l : List C). flat (map L.each l) ++ rest) (drop-cons L.items i z p)
        ∙ rw (e, add-one) (append_assoc (L.each c) (flat (map L.each (drop (suc i) L.items))) rest)

    pub due : (t₀ t : T) → Through t₀ t i → Due At L.whole t₀ → Due At (L.each c) t
    due t₀ t r d = record { o = d.o; rest = from (i + 1) ++ d.rest; now = subst (λ (l : List X). At d.o l t) (next d.rest) (r d.o d.rest d.now) }

    pub goes : (t₀ t t' : T) → Through t₀ t i → Does At (L.each c) t t' → Through t₀ t' (i + 1)
    goes t₀ t t' r f o rest q = f o (from (i + 1) ++ rest) (subst (λ (l : List X). At o l t) (next rest) (r o rest q))

  pub done : (t₀ t : T) (i : ℕ) → length L.items ≤ i → Through t₀ t i → Does At L.whole t₀ t
  unfolding flat
  done t₀ t i p r o rest q = subst (λ (l : List C). At o (flat (map L.each l) ++ rest) t) (drop_of_length-le L.items p) (r o rest q)

-- ROWS AND CORNERS by number

pub length_row : (n x y : ℕ) → length (row n x y) ≡ n
unfolding row
length_row zero x y = refl
length_row (suc n) x y = ap suc (length_row n (suc x) y)

row_from : (n x y i : ℕ) → i < n → get_or (row n x y) i (0, 0) ≡ (x + i, y)
unfolding row
row_from zero x y i h = absurd (omega arith)
row_from (suc n) x y zero h = let e : x + 0 ≡ x = omega arith in rw e
row_from (suc n) x y (suc i) h = let e : x + suc i ≡ suc x + i = omega arith in rw e (row_from n (suc x) y i (omega arith))

pub row_at : (n x y : ℕ) → x < n → get_or (row n 0 y) x (0, 0) ≡ (x, y)
row_at n x y h = let e : 0 + x ≡ x = omega arith in rw e at (row_from n 0 y x h)

pub number_at : (n i : ℕ) → i < n → get_or (upto n 0) i 0 ≡ i
number_at n i h = at_upto n 0 i 0 h ∙ omega arith

pub rows_flat : (m n y : ℕ) → rows m n y ≡ flat (map (row m 0) (upto n y))
unfolding rows upto flat
rows_flat m zero y = refl
rows_flat m (suc n) y = ap (λ (l : List (ℕ × ℕ)). row m 0 y ++ l) (rows_flat m n (suc y))

-- THE COURSES of classify and trace

-- each member by itself
abbrev singly : {A : Type 0} → List A → Course A A
singly l = record { items = l; each = λ a. a ∷ []; whole = l; is = sym (flat_singles l) }

module _ (s : Size) where
  abbrev pub corners_of_row : ℕ → Course (ℕ × ℕ) (ℕ × ℕ)
  corners_of_row y = singly (row (suc s.width) 0 y)

  abbrev pub rows_of_corners : Course ℕ (ℕ × ℕ)
  rows_of_corners = record {
    items = upto (suc s.height) 0;
    each = row (suc s.width) 0;
    whole = rows (suc s.width) (suc s.height) 0;
    is = rows_flat (suc s.width) (suc s.height) 0;
  }

-- the ways out of a corner, and those out of each of some corners
pub ways_are : (c : ℕ × ℕ) (ways : List Dir) → map (dart c.0 c.1) ways ≡ flat (map (λ d. dart c.0 c.1 d ∷ []) ways)
unfolding flat
ways_are c [] = refl
ways_are c (d ∷ ways) = ap (λ (l : List Dart). dart c.0 c.1 d ∷ l) (ways_are c ways)

abbrev pub ways_of : ℕ → ℕ → List Dir → Course Dir Dart
ways_of x y ways = record { items = ways; each = λ d. dart x y d ∷ []; whole = map (dart x y) ways; is = ways_are (x, y) ways }

abbrev pub starts_of : List (ℕ × ℕ) → List Dir → Course (ℕ × ℕ) Dart
starts_of cs ways = record { items = cs; each = λ c. map (dart c.0 c.1) ways; whole = starts cs ways; is = refl }

-- all of them, and the way E of each
pub starts_all : (cs : List (ℕ × ℕ)) → starts cs (N ∷ E ∷ S ∷ W ∷ []) ≡ out cs
unfolding out flat
starts_all [] = refl
starts_all (c ∷ cs) = ap (λ (l : List Dart). map (dart c.0 c.1) (N ∷ E ∷ S ∷ W ∷ []) ++ l) (starts_all cs)

pub starts_east : (P : Picture) → starts (bends P) (E ∷ []) ≡ easts P (corners P)
unfolding easts flat
starts_east P = go (bends P)
  where
    go : (cs : List (ℕ × ℕ)) → starts cs (E ∷ []) ≡ map (λ c. dart c.0 c.1 E) cs
    go [] = refl
    go (c ∷ cs) = ap (λ (l : List Dart). dart c.0 c.1 E ∷ l) (go cs)

-- where a row ends, and where the rows end
pub row_over : (w x y : ℕ) → w + 1 ≤ x → length (row (suc w) 0 y) ≤ x
row_over w x y h = omega (arith, length_row (suc w) 0 y)

pub rows_over : (h y : ℕ) → h + 1 ≤ y → length (upto (suc h) 0) ≤ y
rows_over h y k = omega (arith, length_upto (suc h) 0)

pub row_under : (w x y : ℕ) → x < w + 1 → x < length (row (suc w) 0 y)
row_under w x y h = omega (arith, length_row (suc w) 0 y)

pub rows_under : (h y : ℕ) → y < h + 1 → y < length (upto (suc h) 0)
rows_under h y k = omega (arith, length_upto (suc h) 0)
