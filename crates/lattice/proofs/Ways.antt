-- The four labels around a corner say what the definitions say.
use Rattle.std.proofs.Common.{◌≡◌, ℕ, zero, suc, pred, ◌+◌, ◌*◌, ◌%◌, ◌<◌, ◌≤◌, Bool, true, false, not, ◌&&◌, ◌||◌, eqb, leb, get_or, sym, refl, ap, ◌∙◌, arith, lit<, eq-eqb, ne_eqb, eqb-true}
use native.Mathlib.Decide.{ℕ_discrete}
use lib.ListN.{get_or-eq_default}
use Rattle.rules.specs.Picture.{Picture, to_x, to_y, code, right_of, back_of, same_dir, dart, left_at, left, right, crack, one, degree, node, ahead_x, ahead_y}
use Rattle.rules.specs.declared.Dir.{Dir}
use Rattle.rules.specs.declared.Dir.TheVariants.{N, E, S, W}
use Rattle.rules.proofs.Ground.Booleans.{implies, implied, of_every4}
use Rattle.rules.proofs.Lattice.Corners.{no_single}
use Rattle.rules.specs.Graph.{way_on, onward, following}
use Rattle.lattice.specs.declared.Around.{Around}
use Rattle.lattice.specs.Around.{around_of, left_in, crack_in, mask_in, degree_in, node_in, node_masks, way_in, onward_in}
use Rattle.lattice.specs.Dirs.{dir}
use Rattle.lattice.specs.declared.Size.{Size}
use Rattle.lattice.specs.declared.Walker.{Walker}
use Rattle.lattice.specs.Size.{Corner}
use Rattle.lattice.specs.Walker.{dart_of, Edge, moved_of, step_in}

module _ (P : Picture) (x y : ℕ) where
  pub left_in_lem : (d : Dir) → left_in (around_of P x y) d ≡ left P (dart x y d)
  unfolding left left_at
  left_in_lem N = refl
  left_in_lem E = refl
  left_in_lem S = refl
  left_in_lem W = refl

  pub right_in : (d : Dir) → left_in (around_of P x y) (right_of d) ≡ right P (dart x y d)
  unfolding right left_at
  right_in N = refl
  right_in E = refl
  right_in S = refl
  right_in W = refl

  pub crack_in_lem : (d : Dir) → crack_in (around_of P x y) d ≡ crack P (dart x y d)
  unfolding crack left right left_at
  crack_in_lem N = refl
  crack_in_lem E = refl
  crack_in_lem S = refl
  crack_in_lem W = refl

  pub degree_in_lem : degree_in (around_of P x y) ≡ degree P x y
  unfolding degree crack left right left_at
  degree_in_lem = refl

  pub node_in_lem : node_in (around_of P x y) ≡ node P x y
  unfolding node
  node_in_lem = ap (leb 3) degree_in_lem

  pub onward_in_lem : (d : Dir) → onward_in (around_of P x y) d ≡ onward P x y d
  unfolding onward_in onward way_on crack left right left_at
  onward_in_lem d = refl

-- the sixteen masks
mask_rows : (n e s w : Bool) → leb 3 (one n + one e + one s + one w) ≡ get_or node_masks (one n + 2 * one e + 4 * one s + 8 * one w) true
unfolding node_masks
mask_rows false false false false = refl
mask_rows true false false false = refl
mask_rows false true false false = refl
mask_rows true true false false = refl
mask_rows false false true false = refl
mask_rows true false true false = refl
mask_rows false true true false = refl
mask_rows true true true false = refl
mask_rows false false false true = refl
mask_rows true false false true = refl
mask_rows false true false true = refl
mask_rows true true false true = refl
mask_rows false false true true = refl
mask_rows true false true true = refl
mask_rows false true true true = refl
mask_rows true true true true = refl

pub node_mask : (a : Around) → node_in a ≡ get_or node_masks (mask_in a) true
node_mask a = mask_rows (crack_in a N) (crack_in a E) (crack_in a S) (crack_in a W)

-- the last row, and all beyond it
pub last_row : (m : ℕ) → 15 ≤ m → get_or node_masks m true ≡ true
unfolding node_masks
last_row m h =
    elim (ℕ_discrete m 15) [
      | yes e ↦ ap (λ m. get_or node_masks m true) e
      | no k ↦ get_or-eq_default node_masks true {n = m} (omega arith)
    ]

-- one cut alone: a mask that no corner has
abbrev pub single : ℕ → Bool
single m = eqb m 1 || eqb m 2 || eqb m 4 || eqb m 8

single_one : (n e s w : Bool) → single (one n + 2 * one e + 4 * one s + 8 * one w) ≡ true → one n + one e + one s + one w ≡ 1
single_one n e s w k =
    eqb-true (one n + one e + one s + one w) 1
    (implied (single (one n + 2 * one e + 4 * one s + 8 * one w)) (eqb (one n + one e + one s + one w) 1)
    (of_every4 (λ n e s w. implies (single (one n + 2 * one e + 4 * one s + 8 * one w)) (eqb (one n + one e + one s + one w) 1)) refl n e s w)
    k)

pub no_mask_of_one : (P : Picture) (x y : ℕ) → single (mask_in (around_of P x y)) ≡ true → ⊥
no_mask_of_one P x y k =
    let a = around_of P x y in
    no_single P x y (sym (degree_in_lem P x y) ∙ single_one (crack_in a N) (crack_in a E) (crack_in a S) (crack_in a W) k)

-- a fact of each of the four directions
pub by_four : (Q : ℕ → Type 0) → Q 0 → Q 1 → Q 2 → Q 3 → (d : ℕ) → d < 4 → Q d
by_four Q a b c e zero p = a
by_four Q a b c e (suc zero) p = b
by_four Q a b c e (suc (suc zero)) p = c
by_four Q a b c e (suc (suc (suc zero))) p = e
by_four Q a b c e (suc (suc (suc (suc d)))) p = absurd (omega arith)

pub code_dir : (d : ℕ) → d < 4 → code (dir d) ≡ d
code_dir = by_four (λ d. code (dir d) ≡ d) refl refl refl refl

pub dir_code : (d : Dir) → dir (code d) ≡ d
dir_code N = refl
dir_code E = refl
dir_code S = refl
dir_code W = refl

pub code_small : (d : Dir) → code d < 4
code_small N = lit< tt
code_small E = lit< tt
code_small S = lit< tt
code_small W = lit< tt

-- a fact of each direction
pub by_dir : (Q : Dir → Type 0) → Q N → Q E → Q S → Q W → (d : Dir) → Q d
by_dir Q a b c e N = a
by_dir Q a b c e E = b
by_dir Q a b c e S = c
by_dir Q a b c e W = e

-- the way back, by number
pub back_number : (d : Dir) → code (back_of d) ≡ (code d + 2) % 4
back_number = by_dir (λ d. code (back_of d) ≡ (code d + 2) % 4) refl refl refl refl

-- the corner ahead
pub edge_corner : (s : Size) (w : Walker) → Edge s w → Corner s (ahead_x (dart_of w)) (ahead_y (dart_of w))
unfolding to_x to_y
edge_corner s w h = by_dir (λ d. (d ≡ N → 0 < w.y) → (d ≡ E → w.x < s.width) → (d ≡ S → w.y < s.height) → Corner s (to_x w.x d) (to_y w.y d))
    (λ n e t. let q : pred w.y ≤ s.height = omega arith in record { across = h.across; down = q })
    (λ n e t. let n : w.x < s.width = e refl in omega arith)
    (λ n e t. let n : w.y < s.height = t refl in omega arith)
    (λ n e t. let q : pred w.x ≤ s.width = omega arith in record { across = q; down = h.down })
    w.d h.north h.east h.south

-- what a step hands back
pub step_made : (self m : Walker) (a : Around) (d : Dir) → m ≡ moved_of self → d ≡ onward_in a m.d → ◌≡◌ {A = Walker} (record { x = m.x; y = m.y; d = d }) (step_in a self)
step_made self m a d e g = rw (g, e)

-- and that is the step that follows
pub step_follows : (P : Picture) (c : Walker) (a : Around) → a ≡ around_of P (ahead_x (dart_of c)) (ahead_y (dart_of c)) → dart_of (step_in a c) ≡ following P (dart_of c)
unfolding following
step_follows P c a e = rw (e, onward_in_lem P (ahead_x (dart_of c)) (ahead_y (dart_of c)))
