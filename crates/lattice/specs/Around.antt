-- The four labels around a corner, and the definitions of the lattice said of them alone.
use Rattle.std.specs.Prelude.{ℕ, suc, ◌+◌, ◌*◌, Bool, true, false, cond, not, ◌&&◌, List, [], ◌∷◌, ◌==◌, nat_le}
use Rattle.rules.specs.Picture.{Picture, right_of, back_of, same_dir, one}
use Rattle.rules.specs.declared.Dir.{Dir}
use Rattle.rules.specs.declared.Dir.TheVariants.{N, E, S, W}
use Rattle.lattice.specs.declared.Around.{Around}

abbrev pub around_of : Picture → ℕ → ℕ → Around
around_of P x y = record { nw = P.nw x y; ne = P.nw (suc x) y; sw = P.nw x (suc y); se = P.nw (suc x) (suc y) }

abbrev pub left_in : Around → Dir → ℕ
left_in a N = a.nw
left_in a E = a.ne
left_in a S = a.se
left_in a W = a.sw

abbrev pub crack_in : Around → Dir → Bool
crack_in a d = not (left_in a d == left_in a (right_of d))

-- a bit for each crack
abbrev pub mask_in : Around → ℕ
mask_in a = one (crack_in a N) + 2 * one (crack_in a E) + 4 * one (crack_in a S) + 8 * one (crack_in a W)

abbrev pub degree_in : Around → ℕ
degree_in a = one (crack_in a N) + one (crack_in a E) + one (crack_in a S) + one (crack_in a W)

abbrev pub node_in : Around → Bool
node_in a = nat_le 3 (degree_in a)

-- the same by mask, row by row, to be read beside the definition (docs/RULES.md, #105); `no_mask_of_one` shows the four that no corner has
unfoldable pub node_masks : List Bool
node_masks =
    false ∷  -- 0: no cut
    false ∷  -- 1: N alone: at no corner
    false ∷  -- 2: E alone: at no corner
    false ∷  -- 3: N and E
    false ∷  -- 4: S alone: at no corner
    false ∷  -- 5: N and S
    false ∷  -- 6: E and S
    true ∷  -- 7: N, E and S
    false ∷  -- 8: W alone: at no corner
    false ∷  -- 9: N and W
    false ∷  -- 10: E and W
    true ∷  -- 11: N, E and W
    false ∷  -- 12: S and W
    true ∷  -- 13: N, S and W
    true ∷  -- 14: E, S and W
    true ∷  -- 15: all four
    []

-- a way on, and the first of them, for a walk that arrives with the heading d
abbrev pub way_in : Around → Dir → Dir → Bool
way_in a d e = crack_in a e && not (same_dir e (back_of d))

unfoldable pub onward_in : Around → Dir → Dir
onward_in a d = cond (way_in a d N) N (cond (way_in a d E) E (cond (way_in a d S) S W))
