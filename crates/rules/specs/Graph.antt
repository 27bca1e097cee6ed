-- Nodes, segments and rings of a picture (docs/RULES.md, "The lattice"). A segment is the list of its steps.
use Rattle.std.specs.Prelude.{ℕ, zero, suc, ◌+◌, ◌*◌, Bool, true, false, cond, not, ◌&&◌, ◌||◌, List, [], ◌∷◌, ◌++◌, eqb}
use Rattle.rules.specs.Lists.{keep, flat}
use Rattle.rules.specs.Picture.{Picture, back_of, same_dir, Dart, dart, same_dart, ahead_x, ahead_y, turned, crack, node}
use Rattle.rules.specs.declared.Dir.{Dir}
use Rattle.rules.specs.declared.Dir.TheVariants.{N, E, S, W}

-- THE WALK

module _ (P : Picture) where
  -- a way on at a two-crack corner, for a walk that arrives with the heading d: present, and not the way back
  unfoldable pub way_on : ℕ → ℕ → Dir → Dir → Bool
  way_on x y d e = crack P (dart x y e) && not (same_dir e (back_of d))

  -- the first of them, N to W
  unfoldable pub onward : ℕ → ℕ → Dir → Dir
  onward x y d = cond (way_on x y d N) N (cond (way_on x y d E) E (cond (way_on x y d S) S W))

  -- the step after a step that leads to no node
  unfoldable pub following : Dart → Dart
  following a = dart (ahead_x a) (ahead_y a) (onward (ahead_x a) (ahead_y a) a.d)

  -- a step leads to a node
  unfoldable pub meets : Dart → Bool
  meets a = node P (ahead_x a) (ahead_y a)

  -- a step is the last of a walk from the corner (x₀, y₀): it leads to a node, or back to that corner
  unfoldable pub ending : ℕ → ℕ → Dart → Bool
  ending x₀ y₀ a = meets a || (eqb (ahead_x a) x₀ && eqb (ahead_y a) y₀)

  -- the steps from a dart on, at most as many as the fuel
  unfoldable pub walk : ℕ → ℕ → ℕ → Dart → List Dart
  walk zero x₀ y₀ a = []
  walk (suc k) x₀ y₀ a = a ∷ elim (ending x₀ y₀ a) [ true ↦ [] | false ↦ walk k x₀ y₀ (following a) ]

  -- more steps than any walk has
  unfoldable pub fuel : ℕ
  fuel = 4 * (P.w + 1) * (P.h + 1)

-- TRACING

-- the dart's edge is among the steps, either way
unfoldable pub on : Dart → List Dart → Bool
on a [] = false
on a (b ∷ l) = elim (same_dart a b || same_dart (turned a) b) [ true ↦ true | false ↦ on a l ]

module _ (P : Picture) where
  -- an unwalked crack starts a segment
  unfoldable pub visit : List (List Dart) → Dart → List (List Dart)
  visit ss a = elim (crack P a && not (on a (flat ss))) [ true ↦ ss ++ (walk P (fuel P) a.x a.y a ∷ []) | false ↦ ss ]

  unfoldable pub trace : List (List Dart) → List Dart → List (List Dart)
  trace ss [] = ss
  trace ss (a ∷ more) = trace (visit ss a) more

-- n corners of a row from x on; rows of m corners, n of them from y on
unfoldable pub row : ℕ → ℕ → ℕ → List (ℕ × ℕ)
row zero x y = []
row (suc n) x y = (x, y) ∷ row n (suc x) y

unfoldable pub rows : ℕ → ℕ → ℕ → List (ℕ × ℕ)
rows m zero y = []
rows m (suc n) y = row m 0 y ++ rows m n (suc y)

-- the darts out of each corner, N to W
unfoldable pub out : List (ℕ × ℕ) → List Dart
out [] = []
out (c ∷ cs) = dart c.0 c.1 N ∷ dart c.0 c.1 E ∷ dart c.0 c.1 S ∷ dart c.0 c.1 W ∷ out cs

module _ (P : Picture) where
  -- all corners, row by row
  unfoldable pub corners : List (ℕ × ℕ)
  corners = rows (suc P.w) (suc P.h) 0

  unfoldable pub nodes : List (ℕ × ℕ)
  nodes = keep (λ c. node P c.0 c.1) corners

  -- from each node first, then the rings
  unfoldable pub segments : List (List Dart)
  segments = trace P (trace P [] (out nodes)) (out corners)

-- CRACKS: each unit edge once, as the E or S dart of a corner

unfoldable pub east_south : List (ℕ × ℕ) → List Dart
east_south [] = []
east_south (c ∷ cs) = dart c.0 c.1 E ∷ dart c.0 c.1 S ∷ east_south cs

unfoldable pub cracks : Picture → List Dart
cracks P = keep (crack P) (east_south (corners P))
