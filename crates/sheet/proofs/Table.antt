-- DEMAND 1 for the call for a sheet: behind the rows 1 to 9 comes 16, and the first row that applies answers, both ways.
use Prim.Native.Nat.{ℕ}
use mathlib.Core.Bool.{Bool, true, false, not, ◌||◌, true≢false}
use mathlib.Core.Path.{◌≡◌, refl, sym, ◌∙◌}
use mathlib.Core.Logic.{◌⊎◌, inl, inr}
use mathlib.Core.List.{List, [], ◌∷◌, ◌++◌}
use native.Mathlib.Omega.{arith}
use lib.Ieee.{Float, lt}
use Rattle.rules.specs.Calls.{Map, CutList, cut_list, map_checks, graph_checks, face_checks}
use Rattle.rules.proofs.Ground.Booleans.{or_true_left}
use Rattle.calls.proofs.Rows.{◌⇔◌, Row, checks, Rising}
use Rattle.calls.proofs.Tables.{map_rows, graph_rows, face_rows}
use Rattle.calls.proofs.Demands.Answered.{Answered, answered}
use Rattle.sheet.specs.Sheet.{float, unfit, unfit_sheet}
use Rattle.sheet.specs.Call.{sheet_checks, whole_on_sheet}
use Rattle.sheet.specs.declared.Sheet.{Sheet}

-- a side is not above 0, or is above 3000
abbrev pub Unfit : Float → Type 0
Unfit side = (lt (float 0) side ≡ true → ⊥) ⊎ (lt (float 3000) side ≡ true)

unfit_test : (side : Float) → (unfit side ≡ true) ⇔ Unfit side
unfolding unfit
unfit_test side = (λ e. to (lt (float 0) side) refl e, from)
  where
    to : (b : Bool) → lt (float 0) side ≡ b → not b || lt (float 3000) side ≡ true → Unfit side
    to true h e = inr e
    to false h e = inl (λ k. true≢false (sym k ∙ h))

    not_true : (b : Bool) → (b ≡ true → ⊥) → not b ≡ true
    not_true true k = absurd (k refl)
    not_true false k = refl

    from : Unfit side → not (lt (float 0) side) || lt (float 3000) side ≡ true
    from (inl k) = rw (not_true (lt (float 0) side) k)
    from (inr k) = or_true_left (not (lt (float 0) side)) (lt (float 3000) side) k

pub sheet_test : (t : Sheet) → (unfit_sheet t ≡ true) ⇔ (Unfit t.width ⊎ Unfit t.height)
unfolding unfit_sheet
sheet_test t = (λ e. to (unfit t.width) refl e, from)
  where
    to : (b : Bool) → unfit t.width ≡ b → b || unfit t.height ≡ true → Unfit t.width ⊎ Unfit t.height
    to true h e = inl ((unfit_test t.width).0 h)
    to false h e = inr ((unfit_test t.height).0 e)

    from : Unfit t.width ⊎ Unfit t.height → unfit t.width || unfit t.height ≡ true
    from (inl k) = rw ((unfit_test t.width).1 k)
    from (inr k) = or_true_left (unfit t.width) (unfit t.height) ((unfit_test t.height).1 k)

-- 16: a sheet side is not above 0 or is above 3000
abbrev pub sheet_row : Sheet → Row
sheet_row t = record { check = record { number = 16; hits = unfit_sheet t }; says = Unfit t.width ⊎ Unfit t.height; exact = sheet_test t }

abbrev pub sheet_rows : Sheet → Map → CutList → List ℕ → List ℕ → List ℕ → List ℕ → List ℕ → List ℕ → List ℕ → List {1} Row
sheet_rows t m l work ns ss ps rs cs fs = map_rows m work ++ ((graph_rows l ns ss ps ++ face_rows l rs cs fs) ++ (sheet_row t ∷ []))

sheet_checks_lem : (t : Sheet) (m : Map) (l : CutList) (work ns ss ps rs cs fs : List ℕ)
    → checks (sheet_rows t m l work ns ss ps rs cs fs) ≡ map_checks m work ++ ((graph_checks l ns ss ps ++ face_checks l rs cs fs) ++ sheet_checks t)
unfolding map_checks graph_checks face_checks sheet_checks
sheet_checks_lem t m l work ns ss ps rs cs fs = refl

sheet_rising : (t : Sheet) (m : Map) (l : CutList) (work ns ss ps rs cs fs : List ℕ) → Rising 0 (sheet_rows t m l work ns ss ps rs cs fs)
sheet_rising t m l work ns ss ps rs cs fs =
    (omega arith, (omega arith, (omega arith, (omega arith, (omega arith, (omega arith, (omega arith, (omega arith, (omega arith, (omega arith, tt))))))))))

-- THE DEMAND: whatever the sheet, the map and the stores
pub every_sheet : (t : Sheet) (m : Map) (work ns ss ps rs cs fs : List ℕ)
    → let l = cut_list m in
    Answered (sheet_rows t m l work ns ss ps rs cs fs) m l work
    ((l.nodes, ns) ∷ (l.segments, ss) ∷ (l.points, ps) ∷ (l.references, rs) ∷ (l.contours, cs) ∷ (l.faces, fs) ∷ [])
    (whole_on_sheet t m work ns ss ps rs cs fs)
unfolding whole_on_sheet
every_sheet t m work ns ss ps rs cs fs =
    let l = cut_list m in
    answered (sheet_rows t m l work ns ss ps rs cs fs) m l work ((graph_checks l ns ss ps ++ face_checks l rs cs fs) ++ sheet_checks t) _
    (sheet_rising t m l work ns ss ps rs cs fs) (sheet_checks_lem t m l work ns ss ps rs cs fs)
