-- DEMAND 1. Every map and every lent store is answered: a bad size, a wrong label count or a short store gets its own number; outputs then hold what
-- they held, and the work store what the rules say.
use Prim.Native.Nat.{ℕ}
use mathlib.Core.Path.{◌≡◌, sym, ap, subst, ◌∙◌}
use mathlib.Core.Logic.{◌⊎◌}
use native.Mathlib.Omega.{arith}
use mathlib.Core.List.{List, [], ◌∷◌, ◌++◌, Memᴰ as In}
use Rattle.std.specs.Prelude.{Result, Ok, Err}
use Rattle.rules.specs.Calls.{Map, CutList, cut_list, graph_list, Check, first_hit, map_checks, graph_checks, face_checks, Outcome, call, size, graph, whole}
use Rattle.calls.specs.declared.Counts.{Counts}
use Rattle.calls.specs.declared.Refused.{Refused}
use Rattle.calls.specs.Outcome.{answer_with, answer_of, outcome}
use Rattle.calls.proofs.Refusals.{positive, same_number}
use Rattle.calls.proofs.Rows.{◌⇔◌, Row, checks, numbers, None, Rising, exactly, none_applies, some_number}
use Rattle.calls.proofs.Tables.{map_rows, graph_rows, face_rows, size_checks, graph_checks_lem, whole_checks, size_rising, graph_rising, whole_rising}
use Rattle.calls.proofs.Settled.{Settled, number_is, settled}

-- a call's outcome, by its rows of the table in docs/RULES.md and the words that belong into each of its stores
pub record Answered (rows : List {1} Row) (m : Map) (l : CutList) (work : List ℕ) (parts : List (List ℕ × List ℕ)) (o : Outcome) : Type 1 where
  -- the number is 0 or a row's
  pub listed : (o.answer.number ≡ 0) ⊎ In o.answer.number (numbers rows)
  -- a row's exactly when that row applies and none before it
  pub row : (before : List {1} Row) (r : Row) (after : List {1} Row) → rows ≡ before ++ (r ∷ after) → (o.answer.number ≡ r.check.number) ⇔ (None before × r.says)
  -- and 0 exactly when none does
  pub none : (o.answer.number ≡ 0) ⇔ None rows
  -- it settles every count and every store
  pub settled : Settled m l work parts o

pub answered : (rows : List {1} Row) (m : Map) (l : CutList) (work : List ℕ) (more : List Check) (parts : List (List ℕ × List ℕ)) → Rising 0 rows → checks rows ≡ map_checks m work ++ more
    → Answered rows m l work parts (call m l work more parts)
answered rows m l work more parts rising e =
    let n : (call m l work more parts).answer.number ≡ first_hit (checks rows) = number_is m l work more parts ∙ ap first_hit (sym e) in
    record {
      listed = rw n (some_number rows);
      row = λ before r after s. subst (λ (k : ℕ). (k ≡ r.check.number) ⇔ (None before × r.says)) (sym n)
          (subst (λ (l : List {1} Row). (first_hit (checks l) ≡ r.check.number) ⇔ (None before × r.says)) (sym s)
          (exactly 0 before r after (subst (Rising 0) s rising)));
      none = subst (λ (k : ℕ). (k ≡ 0) ⇔ None rows) (sym n) (none_applies 0 rows rising);
      settled = settled m l work more parts;
    }

-- THE DEMAND, for each call: whatever the map and the stores

pub every_size : (m : Map) (work : List ℕ) → Answered (map_rows m work) m (cut_list m) work [] (size m work)
unfolding size
every_size m work = answered (map_rows m work) m (cut_list m) work [] [] (size_rising m work) (size_checks m work)

pub every_graph : (m : Map) (work ns ss ps : List ℕ)
    → let l = graph_list m in Answered (map_rows m work ++ graph_rows l ns ss ps) m l work ((l.nodes, ns) ∷ (l.segments, ss) ∷ (l.points, ps) ∷ []) (graph m work ns ss ps)
unfolding graph
every_graph m work ns ss ps =
    let l = graph_list m in
    answered (map_rows m work ++ graph_rows l ns ss ps) m l work (graph_checks l ns ss ps) _ (graph_rising m work l ns ss ps) (graph_checks_lem m work l ns ss ps)

pub every_whole : (m : Map) (work ns ss ps rs cs fs : List ℕ)
    → let l = cut_list m in
    Answered (map_rows m work ++ (graph_rows l ns ss ps ++ face_rows l rs cs fs)) m l work
    ((l.nodes, ns) ∷ (l.segments, ss) ∷ (l.points, ps) ∷ (l.references, rs) ∷ (l.contours, cs) ∷ (l.faces, fs) ∷ [])
    (whole m work ns ss ps rs cs fs)
unfolding whole
every_whole m work ns ss ps rs cs fs =
    let l = cut_list m in
    answered (map_rows m work ++ (graph_rows l ns ss ps ++ face_rows l rs cs fs)) m l work (graph_checks l ns ss ps ++ face_checks l rs cs fs) _
    (whole_rising m work l ns ss ps rs cs fs) (whole_checks m work l ns ss ps rs cs fs)

-- the result of a call, from its answer
same_counts : {n k : ℕ} {c d : Counts} → answer_with n c ≡ answer_with k d → c ≡ d
same_counts e = λ i. record {
  nodes = (e i).nodes;
  segments = (e i).segments;
  points = (e i).points;
  references = (e i).references;
  contours = (e i).contours;
  faces = (e i).faces;
  steps = (e i).steps;
}

one_result : (a b : Result Counts Refused) → answer_of a ≡ answer_of b → a ≡ b
one_result (Ok c) (Ok d) e = ap Ok (same_counts e)
one_result (Ok c) (Err r) e = absurd (let h = positive r.why in omega (arith, ap (λ a. a.number) e))
one_result (Err r) (Ok d) e = absurd (let h = positive r.why in omega (arith, ap (λ a. a.number) e))
one_result (Err r) (Err q) e = λ i. Err (record { why = same_number r.why q.why (ap (λ a. a.number) e) i; counts = same_counts e i })

-- ONE OUTCOME: two results that meet a call's promise on the same input are equal, answer and all stores
pub one_outcome : (o : Outcome) (a b : Result Counts Refused) (ss ts : List (List ℕ)) → outcome a ss ≡ o → outcome b ts ≡ o → (a ≡ b) × (ss ≡ ts)
one_outcome o a b ss ts p q = let e = p ∙ sym q in (one_result a b (ap (λ o. o.answer) e), ap (λ o. o.stores) e)
