-- The rows of the table in docs/RULES.md, over the definitions' checks.
use Prim.Native.Nat.{ℕ, ◌+◌, ◌*◌, ◌/◌, ◌<◌}
use mathlib.Core.Bool.{Bool, true, false, not, ◌||◌, true≢false}
use mathlib.Core.Path.{◌≡◌, refl, sym, ap, ◌∙◌}
use mathlib.Core.Logic.{◌⊎◌, inl, inr}
use mathlib.Core.List.{List, [], ◌∷◌, ◌++◌}
use native.Mathlib.Omega.{arith}
use lib.Dec.{ltb, eqb}
use lib.ListN.{length}
use borrow.Author.Tests.{ltb-true, lt-ltb, eq-eqb, ne_eqb}
use Rattle.rules.specs.Calls.{Map, CutList, map_checks, short, graph_checks, face_checks}
use Rattle.rules.proofs.Ground.Booleans.{or_true_left}
use Rattle.calls.proofs.Rows.{◌⇔◌, Row, checks, Rising}

-- what the tests say

pub either_test : (a b c : ℕ) → (ltb a b || ltb a c ≡ true) ⇔ ((a < b) ⊎ (a < c))
either_test a b c = (λ e. to (ltb a b) refl e, from)
  where
    to : (t : Bool) → ltb a b ≡ t → t || ltb a c ≡ true → (a < b) ⊎ (a < c)
    to true h e = inl (ltb-true a b h)
    to false h e = inr (ltb-true a c e)

    from : (a < b) ⊎ (a < c) → ltb a b || ltb a c ≡ true
    from (inl p) = rw (lt-ltb a b p)
    from (inr p) = or_true_left (ltb a b) (ltb a c) (lt-ltb a c p)

pub unequal_test : (a b : ℕ) → (not (eqb a b) ≡ true) ⇔ (a ≡ b → ⊥)
unequal_test a b = (λ e p. true≢false (sym e ∙ ap not (eq-eqb a b p)), λ n. ap not (ne_eqb a b n))

pub less_test : (a b : ℕ) → (ltb a b ≡ true) ⇔ (a < b)
less_test a b = (ltb-true a b, lt-ltb a b)

-- THE ROWS

-- 1: width or height above 16,384. 2: label count is not width × height. 3: work store shorter than 8 × (width+1) × (height+1) words
abbrev pub map_rows : Map → List ℕ → List {1} Row
map_rows m work =
    record { check = record { number = 1; hits = ltb 16384 m.width || ltb 16384 m.height }; says = (16384 < m.width) ⊎ (16384 < m.height); exact = either_test 16384 m.width m.height } ∷
    record { check = record { number = 2; hits = not (eqb (length m.labels) (m.width * m.height)) }; says = length m.labels ≡ m.width * m.height → ⊥; exact = unequal_test (length m.labels) (m.width * m.height) } ∷
    record { check = record { number = 3; hits = ltb (length work) (8 * (m.width + 1) * (m.height + 1)) }; says = length work < 8 * (m.width + 1) * (m.height + 1); exact = less_test (length work) (8 * (m.width + 1) * (m.height + 1)) } ∷ []

-- a store holds fewer records than the map needs
pub short_test : (size : ℕ) (store words : List ℕ) → (short size store words ≡ true) ⇔ (length store / size < length words / size)
unfolding short
short_test size store words = less_test (length store / size) (length words / size)

abbrev pub store_row : ℕ → ℕ → List ℕ → List ℕ → Row
store_row n size store words = record { check = record { number = n; hits = short size store words }; says = length store / size < length words / size; exact = short_test size store words }

-- 4, 5, 6: node, segment, point store
abbrev pub graph_rows : CutList → List ℕ → List ℕ → List ℕ → List {1} Row
graph_rows l ns ss ps = store_row 4 6 ns l.nodes ∷ store_row 5 8 ss l.segments ∷ store_row 6 2 ps l.points ∷ []

-- 7, 8, 9: reference, contour, face store
abbrev pub face_rows : CutList → List ℕ → List ℕ → List ℕ → List {1} Row
face_rows l rs cs fs = store_row 7 1 rs l.references ∷ store_row 8 2 cs l.contours ∷ store_row 9 5 fs l.faces ∷ []

-- they are the definitions' checks
pub size_checks : (m : Map) (work : List ℕ) → checks (map_rows m work) ≡ map_checks m work ++ []
unfolding map_checks
size_checks m work = refl

pub graph_checks_lem : (m : Map) (work : List ℕ) (l : CutList) (ns ss ps : List ℕ) → checks (map_rows m work ++ graph_rows l ns ss ps) ≡ map_checks m work ++ graph_checks l ns ss ps
unfolding map_checks graph_checks
graph_checks_lem m work l ns ss ps = refl

pub whole_checks : (m : Map) (work : List ℕ) (l : CutList) (ns ss ps rs cs fs : List ℕ)
    → checks (map_rows m work ++ (graph_rows l ns ss ps ++ face_rows l rs cs fs)) ≡ map_checks m work ++ (graph_checks l ns ss ps ++ face_checks l rs cs fs)
unfolding map_checks graph_checks face_checks
whole_checks m work l ns ss ps rs cs fs = refl

-- and their numbers rise
pub size_rising : (m : Map) (work : List ℕ) → Rising 0 (map_rows m work)
size_rising m work = (omega arith, (omega arith, (omega arith, tt)))

pub graph_rising : (m : Map) (work : List ℕ) (l : CutList) (ns ss ps : List ℕ) → Rising 0 (map_rows m work ++ graph_rows l ns ss ps)
graph_rising m work l ns ss ps = (omega arith, (omega arith, (omega arith, (omega arith, (omega arith, (omega arith, tt))))))

pub whole_rising : (m : Map) (work : List ℕ) (l : CutList) (ns ss ps rs cs fs : List ℕ) → Rising 0 (map_rows m work ++ (graph_rows l ns ss ps ++ face_rows l rs cs fs))
whole_rising m work l ns ss ps rs cs fs =
    (omega arith, (omega arith, (omega arith, (omega arith, (omega arith, (omega arith, (omega arith, (omega arith, (omega arith, tt)))))))))
