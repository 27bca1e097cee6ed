-- The lists of corners and darts of a frame: what they hold, how long they are, and that no corner comes twice.
use Prim.Native.Nat.{ℕ, zero, suc, ◌+◌, ◌*◌, ◌<◌, ◌≤◌}
use mathlib.Core.Bool.{true}
use mathlib.Core.Path.{◌≡◌, refl, ap}
use mathlib.Core.Logic.{⊎_elim}
use mathlib.Core.List.Memᴰ.{append_cases as in-cases}
use mathlib.Core.List.Memᴰ.{append_left as in_left}
use mathlib.Core.List.Memᴰ.{append_right as in_right}
use mathlib.Core.List.Memᴰ.{head as here}
use mathlib.Core.List.Memᴰ.{not-nil}
use mathlib.Core.List.Memᴰ.{tail as there}
use mathlib.Core.List.{List, [], ◌∷◌, ◌++◌, Memᴰ as In}
use native.Mathlib.Omega.{arith}
use native.Mathlib.Decide.{ℕ_discrete}
use lib.ListN.{length, length-append}
use Rattle.rules.specs.Picture.{Picture, Dart, dart, crack, node}
use Rattle.rules.specs.declared.Dir.{Dir}
use Rattle.rules.specs.declared.Dir.TheVariants.{N, E, S, W}
use Rattle.rules.specs.Graph.{row, rows, out, corners, nodes, fuel}
use Rattle.rules.proofs.Lattice.Frame.{Framed}
use Rattle.rules.proofs.Lattice.Darts.{crack_x, crack_y}
use Rattle.rules.proofs.Ground.Lists.{distinct_append, keep_in, in_keep}
use Rattle.rules.specs.Lists.{Distinct}

-- a corner is in its row, and in the rows
in_row : (n x y i : ℕ) → x ≤ i → i < x + n → In (i, y) (row n x y)
unfolding row
in_row zero x y i l k = absurd (omega arith)
in_row (suc n) x y i l k = go (ℕ_discrete i x) (λ l. in_row n (suc x) y i l (omega arith))
  where
    go : Dec (i ≡ x) → (suc x ≤ i → In (i, y) (row n (suc x) y)) → In {A = ℕ × ℕ} (i, y) ((x, y) ∷ row n (suc x) y)
    go (yes q) f = here (ap (λ i. (i, y)) q)
    go (no n) f = there (f (omega arith))

pub in_rows : (m n y i j : ℕ) → i < m → y ≤ j → j < y + n → In (i, j) (rows m n y)
unfolding rows
in_rows m zero y i j q l k = absurd (omega arith)
in_rows m (suc n) y i j q l k = go (ℕ_discrete j y) (λ l. in_rows m n (suc y) i j q l (omega arith))
  where
    go : Dec (j ≡ y) → (suc y ≤ j → In (i, j) (rows m n (suc y))) → In (i, j) (row m 0 y ++ rows m n (suc y))
    go (yes e) f = rw e (in_left (rows m n (suc y)) (in_row m 0 y i (omega arith) (omega arith)))
    go (no n) f = in_right (row m 0 y) (f (omega arith))

pub row_in : (n x y : ℕ) (c : ℕ × ℕ) → In c (row n x y) → (x ≤ c.0) × (c.0 < x + n) × (c.1 ≡ y)
unfolding row
row_in zero x y c i = absurd (not-nil i)
row_in (suc n) x y c (here e) = let p = ap (λ c. c.0) e in (omega arith, omega arith, ap (λ c. c.1) e)
row_in (suc n) x y c (there i) = let r = row_in n (suc x) y c i in (omega arith, omega arith, r.2)

pub rows_in : (m n y : ℕ) (c : ℕ × ℕ) → In c (rows m n y) → (c.0 < m) × (y ≤ c.1) × (c.1 < y + n)
unfolding rows
rows_in m zero y c i = absurd (not-nil i)
rows_in m (suc n) y c i =
    ⊎_elim
    (λ (i : In c (row m 0 y)). let r = row_in m 0 y c i in (omega arith, omega arith, omega arith))
    (λ (i : In c (rows m n (suc y))). let r = rows_in m n (suc y) c i in (omega arith, omega arith, omega arith))
    (in-cases (row m 0 y) i)

pub corners_in : (P : Picture) (c : ℕ × ℕ) → In c (corners P) → (c.0 ≤ P.w) × (c.1 ≤ P.h)
unfolding corners
corners_in P c i = let r = rows_in (suc P.w) (suc P.h) 0 c i in (omega arith, omega arith)

-- no corner twice
row_distinct : (n x y : ℕ) → Distinct (row n x y)
unfolding row
row_distinct zero x y = tt
row_distinct (suc n) x y = (λ i. let r = row_in n (suc x) y (x, y) i in omega arith, row_distinct n (suc x) y)

rows_distinct : (m n y : ℕ) → Distinct (rows m n y)
unfolding rows
rows_distinct m zero y = tt
rows_distinct m (suc n) y =
    distinct_append (row m 0 y) (rows m n (suc y)) (row_distinct m 0 y) (rows_distinct m n (suc y))
    (λ c i j. let r = row_in m 0 y c i in let s = rows_in m n (suc y) c j in omega arith)

pub corners_distinct : (P : Picture) → Distinct (corners P)
unfolding corners
corners_distinct P = rows_distinct (suc P.w) (suc P.h) 0

-- the four darts of a corner go out, and no others
in_out : (cs : List (ℕ × ℕ)) (x y : ℕ) (d : Dir) → In (x, y) cs → In (dart x y d) (out cs)
unfolding out
in_out [] x y d m = absurd (not-nil m)
in_out (c ∷ cs) x y N (here e) = here (ap (λ c. dart c.0 c.1 N) e)
in_out (c ∷ cs) x y E (here e) = there (here (ap (λ c. dart c.0 c.1 E) e))
in_out (c ∷ cs) x y S (here e) = there (there (here (ap (λ c. dart c.0 c.1 S) e)))
in_out (c ∷ cs) x y W (here e) = there (there (there (here (ap (λ c. dart c.0 c.1 W) e))))
in_out (c ∷ cs) x y d (there m) = there (there (there (there (in_out cs x y d m))))

out_in : (cs : List (ℕ × ℕ)) (a : Dart) → In a (out cs) → In {A = ℕ × ℕ} (a.x, a.y) cs
unfolding out
out_in [] a i = absurd (not-nil i)
out_in (c ∷ cs) a (here e) = here (ap (λ b. (b.x, b.y)) e)
out_in (c ∷ cs) a (there (here e)) = here (ap (λ b. (b.x, b.y)) e)
out_in (c ∷ cs) a (there (there (here e))) = here (ap (λ b. (b.x, b.y)) e)
out_in (c ∷ cs) a (there (there (there (here e)))) = here (ap (λ b. (b.x, b.y)) e)
out_in (c ∷ cs) a (there (there (there (there i)))) = there (out_in cs a i)

pub out_node : (P : Picture) (a : Dart) → In a (out (nodes P)) → node P a.x a.y ≡ true
unfolding nodes
out_node P a i = (keep_in (λ c. node P c.0 c.1) (corners P) (a.x, a.y) (out_in (nodes P) a i)).1

-- each crack goes out of a corner of the frame
module _ {P : Picture} (F : Framed P) (a : Dart) (c : crack P a ≡ true) where
  pub crack_corner : In (a.x, a.y) (corners P)
  unfolding corners
  crack_corner = in_rows (suc P.w) (suc P.h) 0 a.x a.y (omega (arith, crack_x F a c)) (omega arith) (omega (arith, crack_y F a c))

  pub crack_out : In a (out (corners P))
  crack_out = in_out (corners P) a.x a.y a.d crack_corner

  pub crack_out_node : node P a.x a.y ≡ true → In a (out (nodes P))
  unfolding nodes
  crack_out_node p = in_out (nodes P) a.x a.y a.d (in_keep (λ c. node P c.0 c.1) (corners P) (a.x, a.y) p crack_corner)

-- and the frame has as many darts as there is fuel
length_row : (n x y : ℕ) → length (row n x y) ≡ n
unfolding row
length_row zero x y = refl
length_row (suc n) x y = ap suc (length_row n (suc x) y)

pub length_rows : (m n y : ℕ) → length (rows m n y) ≡ n * m
unfolding rows
length_rows m zero y = omega arith
length_rows m (suc n) y = rw (length-append, length_row, length_rows m n (suc y)) (omega arith)

length_out : (cs : List (ℕ × ℕ)) → length (out cs) ≡ 4 * length cs
unfolding out
length_out [] = refl
length_out (c ∷ cs) = omega (arith, length_out cs)

pub length_darts : (P : Picture) → length (out (corners P)) ≡ fuel P
unfolding corners fuel
length_darts P = rw (length_out, length_rows) (omega arith)
