-- One map of a tray: which call it is, and that the records it counts lie in the stores that it leaves.
use Prim.Native.Nat.{ℕ, ◌+◌, ◌-◌, ◌*◌, ◌/◌, ◌<◌, ◌≤◌, zero-le}
use mathlib.Core.Bool.{Bool, true, false, ◌||◌}
use mathlib.Core.Path.{◌≡◌, sym, ap, subst⁻¹, ◌∙◌}
use mathlib.Core.List.{List, [], ◌∷◌, ◌++◌, append-nil}
use native.Mathlib.Omega.{arith}
use native.Mathlib.Decide.{dec_lt, ℕ_discrete}
use lib.Dec.{ltb}
use lib.ListN.{length, take, drop, length-append, length-drop, drop_of_length-le}
use lib.Seq.{take_all}
use borrow.Author.Tests.{le-leb, lt-leb}
use Rattle.std.specs.Prelude.{Result}
use Rattle.rules.specs.Calls.{Map, cut_list, counted, refused, Outcome, Check, first_hit, map_checks, graph_checks, face_checks, whole}
use Rattle.calls.specs.declared.Counts.{Counts}
use Rattle.calls.specs.declared.Refused.{Refused}
use Rattle.calls.specs.Outcome.{map_of, answer_of, outcome}
use Rattle.calls.proofs.Settled.{cleared, written, Settled, settled, number_is}
use Rattle.lattice.specs.declared.Size.{Size}
use Rattle.tray.specs.Tray.{pixels, past_number, past, Six, Stores, same, both, work_of, stores_of, call, single, wrote}
use Rattle.tray.specs.declared.Places.{Places}
use Rattle.tray.specs.Steps.{used, Tiled}
use Rattle.tray.proofs.Passing.{wrote_none}
use Rattle.tray.proofs.Runs.{both_split}

-- WHICH CALL

module _ (t : Size) (start : ℕ) (labels work : List ℕ) (s : Stores) where
  pub single_past : length labels < start + pixels t → single t start labels work s ≡ past t work s
  unfolding single
  single_past h = rw (lt-leb (start + pixels t) (length labels) h, single)

  pub single_call : start + pixels t ≤ length labels → single t start labels work s ≡ call (map_of t (take (pixels t) (drop start labels))) work s
  unfolding single
  single_call h = rw (le-leb (start + pixels t) (length labels) h, single)

-- what its number says of the call
abbrev pub parts : Map → Stores → List (List ℕ × List ℕ)
parts m s =
    let l = cut_list m in
    (l.nodes, s.nodes) ∷ (l.segments, s.segments) ∷ (l.points, s.points) ∷ (l.references, s.references) ∷ (l.contours, s.contours) ∷ (l.faces, s.faces) ∷ []

-- the checks behind those of the map and the work store
abbrev pub store_checks : Map → Stores → List Check
store_checks m s = let l = cut_list m in graph_checks l s.nodes s.segments s.points ++ face_checks l s.references s.contours s.faces

pub call_settled : (m : Map) (work : List ℕ) (s : Stores) → Settled m (cut_list m) work (parts m s) (call m work s)
unfolding call whole
call_settled m work s = settled m (cut_list m) work (store_checks m s) (parts m s)

pub call_number : (m : Map) (work : List ℕ) (s : Stores) → (call m work s).answer.number ≡ first_hit (map_checks m work ++ store_checks m s)
unfolding call whole
call_number m work s = number_is m (cut_list m) work (store_checks m s) (parts m s)

pub past_refused : (t : Size) (work : List ℕ) (s : Stores) → (past t work s).answer.number ≡ 0 → ⊥
unfolding past past_number
past_refused t work s = go (ltb 16384 t.width || ltb 16384 t.height)
  where
    go : (b : Bool) → ◌≡◌ {A = ℕ} (elim b [ true ↦ 1 | false ↦ 2 ]) 0 → ⊥
    go true e = omega arith
    go false e = omega arith

-- ITS RECORDS

pub record Within (n : Six ℕ) (s : Stores) : Type 0 where
  pub nodes : n.nodes ≤ length s.nodes
  pub segments : n.segments ≤ length s.segments
  pub points : n.points ≤ length s.points
  pub references : n.references ≤ length s.references
  pub contours : n.contours ≤ length s.contours
  pub faces : n.faces ≤ length s.faces

pub none_within : (s : Stores) → Within (same 0) s
none_within s = record { nodes = zero-le; segments = zero-le; points = zero-le; references = zero-le; contours = zero-le; faces = zero-le }

-- the words that a count of records takes, at the front of a store
front : (k : ℕ) (words store : List ℕ) → k ≤ length words → k ≤ length (words ++ store)
front k words store h = omega (arith, length-append words store)

written_within : (m : Map) (work : List ℕ) (s : Stores) → Within (wrote (counted 0 (cut_list m))) (stores_of (record { answer = counted 0 (cut_list m); stores = cleared m work ∷ written (parts m s) }))
unfolding wrote counted
written_within m work s =
    let l = cut_list m in
    record {
      nodes = front (6 * (length l.nodes / 6)) l.nodes (drop (length l.nodes) s.nodes) (omega arith);
      segments = front (8 * (length l.segments / 8)) l.segments (drop (length l.segments) s.segments) (omega arith);
      points = front (2 * (length l.points / 2)) l.points (drop (length l.points) s.points) (omega arith);
      references = front (length l.references) l.references (drop (length l.references) s.references) (omega arith);
      contours = front (2 * (length l.contours / 2)) l.contours (drop (length l.contours) s.contours) (omega arith);
      faces = front (5 * (length l.faces / 5)) l.faces (drop (length l.faces) s.faces) (omega arith);
    }

pub call_within : (m : Map) (work : List ℕ) (s : Stores) → Within (wrote (call m work s).answer) (stores_of (call m work s))
call_within m work s =
    let o = call m work s in
    elim (ℕ_discrete o.answer.number 0) [
      | yes e ↦ subst⁻¹ (λ (r : Outcome). Within (wrote r.answer) (stores_of r)) ((call_settled m work s).fine e) (written_within m work s)
      | no k ↦ subst⁻¹ (λ (n : Six ℕ). Within n (stores_of o)) (wrote_none o.answer k) (none_within (stores_of o))
    ]

pub past_within : (t : Size) (work : List ℕ) (s : Stores) → Within (wrote (past t work s).answer) (stores_of (past t work s))
past_within t work s =
    let o = past t work s in
    subst⁻¹ (λ (n : Six ℕ). Within n (stores_of o)) (wrote_none o.answer (past_refused t work s)) (none_within (stores_of o))

pub single_within : (t : Size) (start : ℕ) (labels work : List ℕ) (s : Stores) → Within (wrote (single t start labels work s).answer) (stores_of (single t start labels work s))
single_within t start labels work s =
    elim (dec_lt (length labels) (start + pixels t)) [
      | yes h ↦ subst⁻¹ (λ (r : Outcome). Within (wrote r.answer) (stores_of r)) (single_past t start labels work s h) (past_within t work s)
      | no k ↦ subst⁻¹ (λ (r : Outcome). Within (wrote r.answer) (stores_of r)) (single_call t start labels work s (omega (arith, k))) (call_within (map_of t (take (pixels t) (drop start labels))) work s)
    ]

-- WHERE IT STANDS: a store from a place on, as the language lends it and takes it back

abbrev rest : ℕ → List ℕ → List ℕ
rest a xs = take (length xs - a) (drop a xs)

rest_is : (a : ℕ) (xs : List ℕ) → rest a xs ≡ drop a xs
rest_is a xs = take_all (length xs - a) (drop a xs) (omega (arith, length-drop a xs))

abbrev back : ℕ → List ℕ → List ℕ → List ℕ
back a xs ys = take a xs ++ (ys ++ drop (length xs - a) (drop a xs))

back_is : (a : ℕ) (xs ys : List ℕ) → back a xs ys ≡ take a xs ++ ys
back_is a xs ys =
    ap (λ (l : List ℕ). take a xs ++ (ys ++ l)) (drop_of_length-le (drop a xs) {i = length xs - a} (omega (arith, length-drop a xs)))
    ∙ ap (λ (l : List ℕ). take a xs ++ l) (append-nil ys)

module _ (t : Size) (labels work : List ℕ) (s : Stores) (p : Places) where
  -- a map whose labels run past the store
  pub tiled_past : (start : ℕ) → length labels < start + pixels t → (a : Result Counts Refused) → answer_of a ≡ refused (past_number t)
      → Tiled (single t start labels work (both drop (used p) s)) (both take (used p) s) work s a
  unfolding past
  tiled_past start h a e =
      let o = single_past t start labels work (both drop (used p) s) h in
      record {
        answer = e ∙ sym (ap (λ (r : Outcome). r.answer) o);
        work = sym (ap work_of o);
        stores = sym (both_split (used p) s) ∙ sym (ap (λ (r : Outcome). both ◌++◌ (both take (used p) s) (stores_of r)) o);
      }

  -- and one that the single call was made for
  pub tiled_call : (start k : ℕ) → k ≡ start → (size : ℕ) → size ≡ pixels t → start + size ≤ length labels
      → (work' : List ℕ) (ys : Stores) (a : Result Counts Refused)
      → outcome a (work' ∷ ys.nodes ∷ ys.segments ∷ ys.points ∷ ys.references ∷ ys.contours ∷ ys.faces ∷ [])
      ≡ whole (map_of t (take ((k + size) - k) (drop k labels))) work
      (rest p.nodes s.nodes) (rest p.segments s.segments) (rest p.points s.points) (rest p.references s.references) (rest p.contours s.contours) (rest p.faces s.faces)
      → Tiled (single t start labels work (both drop (used p) s)) (both take (used p) s) work'
      (record {
        nodes = back p.nodes s.nodes ys.nodes;
        segments = back p.segments s.segments ys.segments;
        points = back p.points s.points ys.points;
        references = back p.references s.references ys.references;
        contours = back p.contours s.contours ys.contours;
        faces = back p.faces s.faces ys.faces;
      }) a
  unfolding call
  tiled_call start k at size many fits work' ys a e =
      let count : (k + size) - k ≡ pixels t = omega (arith, many) in
      let lent : outcome a (work' ∷ ys.nodes ∷ ys.segments ∷ ys.points ∷ ys.references ∷ ys.contours ∷ ys.faces ∷ []) ≡ single t start labels work (both drop (used p) s) =
      e ∙ (λ i. whole (map_of t (take (count i) (drop (at i) labels))) work
      (rest_is p.nodes s.nodes i) (rest_is p.segments s.segments i) (rest_is p.points s.points i) (rest_is p.references s.references i) (rest_is p.contours s.contours i) (rest_is p.faces s.faces i))
      ∙ sym (single_call t start labels work (both drop (used p) s) (omega (arith, fits, many))) in
      record {
        answer = ap (λ (r : Outcome). r.answer) lent;
        work = ap work_of lent;
        stores = (λ i. record {
          nodes = back_is p.nodes s.nodes ys.nodes i;
          segments = back_is p.segments s.segments ys.segments i;
          points = back_is p.points s.points ys.points i;
          references = back_is p.references s.references ys.references i;
          contours = back_is p.contours s.contours ys.contours i;
          faces = back_is p.faces s.faces ys.faces i;
        }) ∙ ap (λ (r : Outcome). both ◌++◌ (both take (used p) s) (stores_of r)) lent;
      }
