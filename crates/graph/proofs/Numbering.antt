-- The nodes and their numbers, by the rules.
use Prim.Native.Nat.{ℕ, suc, ◌+◌, ◌≤◌}
use mathlib.Core.Path.{◌≡◌, refl, sym, ◌∙◌}
use mathlib.Core.Bool.{Bool, true, false, ◌&&◌}
use mathlib.Core.List.Memᴰ.{head as here}
use mathlib.Core.List.Memᴰ.{tail as there}
use mathlib.Core.List.{List, [], ◌∷◌, ◌++◌, Memᴰ as In}
use native.Mathlib.Omega.{arith}
use lib.Dec.{eqb}
use lib.ListN.{length}
use borrow.Author.Tests.{eqb-true, eq-eqb}
use Rattle.rules.specs.Lists.{Distinct}
use Rattle.rules.specs.Picture.{Picture, picture, node}
use Rattle.rules.specs.Graph.{corners, nodes}
use Rattle.rules.specs.Records.{node_at}
use Rattle.rules.proofs.Ground.Lists.{keep_in, in_keep, keep_distinct}
use Rattle.rules.proofs.Lattice.Grid.{corners_distinct, corners_in, in_rows}
use Rattle.rules.proofs.CutList.Counts.{node_count_lem}
use Rattle.lattice.specs.declared.Size.{Size}
use Rattle.lattice.specs.Size.{pic}
use Rattle.lattice.specs.Planes.{plane}

-- THE NUMBER OF A NODE: how many come before it

pub at_here : (l r : List (ℕ × ℕ)) (i x y : ℕ) → (In {A = ℕ × ℕ} (x, y) l → ⊥) → node_at (l ++ ((x, y) ∷ r)) i x y ≡ i + length l
unfolding node_at
at_here [] r i x y f = rw (eq-eqb x x refl, eq-eqb y y refl, node_at) (omega arith)
at_here (c ∷ l) r i x y f = go (eqb c.0 x) refl (eqb c.1 y) refl (at_here l r (suc i) x y (λ m. f (there m)))
  where
    go : (p : Bool) → eqb c.0 x ≡ p → (q : Bool) → eqb c.1 y ≡ q → node_at (l ++ ((x, y) ∷ r)) (suc i) x y ≡ suc i + length l
        → elim (p && q) [ true ↦ i | false ↦ node_at (l ++ ((x, y) ∷ r)) (suc i) x y ] ≡ i + suc (length l)
    go true p true q e = absurd (f (here (λ k. (sym (eqb-true c.0 x p) k, sym (eqb-true c.1 y q) k))))
    go true p false q e = e ∙ omega arith
    go false p q r e = e ∙ omega arith

pub nodes_distinct : (P : Picture) → Distinct (nodes P)
unfolding nodes
nodes_distinct P = keep_distinct (λ c. node P c.0 c.1) (corners P) (corners_distinct P)

pub nodes_node : (P : Picture) (x y : ℕ) → In (x, y) (nodes P) → node P x y ≡ true
unfolding nodes
nodes_node P x y i = (keep_in (λ c. node P c.0 c.1) (corners P) (x, y) i).1

pub nodes_in_lem : (P : Picture) (c : ℕ × ℕ) → In c (nodes P) → (c.0 ≤ P.w) × (c.1 ≤ P.h)
unfolding nodes
nodes_in_lem P c i = corners_in P c (keep_in (λ c. node P c.0 c.1) (corners P) c i).0

pub node_nodes : (P : Picture) (x y : ℕ) → x ≤ P.w → y ≤ P.h → node P x y ≡ true → In (x, y) (nodes P)
unfolding nodes corners
node_nodes P x y p q e = in_keep (λ c. node P c.0 c.1) (corners P) (x, y) e (in_rows (suc P.w) (suc P.h) 0 x y (omega arith) (omega arith) (omega arith))

-- there are no more nodes than corners
pub nodes_few : (s : Size) (ls : List ℕ) → length (nodes (pic s ls)) ≤ plane s.width s.height
unfolding picture
nodes_few s ls = omega (arith, node_count_lem (pic s ls))
