-- A call of `whole` that answered 0, and the cut list that it left in the lent stores.
use Prim.Native.Nat.{ℕ, ◌*◌, ◌≤◌}
use mathlib.Core.Path.{◌≡◌, sym, ap, ◌∙◌}
use mathlib.Core.List.{List, [], ◌∷◌, ◌++◌}
use native.Mathlib.Omega.{arith}
use lib.ListN.{length, get_or, take, drop}
use lib.Seq.{take_at}
use Rattle.rules.specs.Graph.{nodes, segments}
use Rattle.rules.specs.Face.{faces}
use Rattle.rules.specs.Records.{contours_of}
use Rattle.rules.specs.Calls.{Map, picture_of, Accepted, CutList, cuts, cut_list, Answer, counted, Check, map_checks, graph_checks, face_checks, Outcome, call, whole}
use Rattle.rules.proofs.Lattice.Frame.{picture_framed}
use Rattle.rules.proofs.Tracing.Partition.{describes}
use Rattle.rules.proofs.Tracing.Counts.{has_step}
use Rattle.rules.proofs.CutList.Lengths.{length_nodes, length_segments, length_points, length_contours, length_faces}
use Rattle.calls.proofs.Checks.{both_miss, map_positive}
use Rattle.calls.proofs.Outcomes.{passed}
use Rattle.calls.proofs.Settled.{written, cleared, number_is, settled}

-- the seven stores of the call
pub record Stores : Type 0 where
  pub work : List ℕ
  pub nodes : List ℕ
  pub segments : List ℕ
  pub points : List ℕ
  pub references : List ℕ
  pub contours : List ℕ
  pub faces : List ℕ

-- what was lent, what was answered and what was left, as the promise of `whole` has it
pub record Called (m : Map) : Type 0 where
  pub before : Stores
  pub answer : Answer
  pub after : Stores
  pub promise :
      record {
        answer = answer;
        stores = after.work ∷ after.nodes ∷ after.segments ∷ after.points ∷ after.references ∷ after.contours ∷ after.faces ∷ [];
      }
      ≡ whole m before.work before.nodes before.segments before.points before.references before.contours before.faces
  pub zero : answer.number ≡ 0
  -- the paint count is a word
  pub word : m.paints ≤ 4294967295

-- the words of each store, up to its count
abbrev pub left : {m : Map} → Called m → CutList
left k =
    record {
      nodes = take (6 * k.answer.nodes) k.after.nodes;
      segments = take (8 * k.answer.segments) k.after.segments;
      points = take (2 * k.answer.points) k.after.points;
      references = take k.answer.references k.after.references;
      contours = take (2 * k.answer.contours) k.after.contours;
      faces = take (5 * k.answer.faces) k.after.faces;
      steps = k.answer.steps;
    }

-- the words at the front of a store
front : (n : ℕ) (words store : List ℕ) {store' : List ℕ} → store' ≡ words ++ drop (length words) store → n ≡ length words → take n store' ≡ words
front n words store e q = rw e (take_at words (drop (length words) store) n (sym q))

module _ {m : Map} (k : Called m) where
  abbrev l : CutList
  l = cut_list m

  abbrev b : Stores
  b = k.before

  abbrev parts : List (List ℕ × List ℕ)
  parts = (l.nodes, b.nodes) ∷ (l.segments, b.segments) ∷ (l.points, b.points) ∷ (l.references, b.references) ∷ (l.contours, b.contours) ∷ (l.faces, b.faces) ∷ []

  abbrev more : List Check
  more = graph_checks l b.nodes b.segments b.points ++ face_checks l b.references b.contours b.faces

  abbrev called : Outcome
  called = call m l b.work more parts

  abbrev result : Outcome
  result = record { answer = k.answer; stores = k.after.work ∷ k.after.nodes ∷ k.after.segments ∷ k.after.points ∷ k.after.references ∷ k.after.contours ∷ k.after.faces ∷ [] }

  kept_promise : result ≡ called
  unfolding whole
  kept_promise = k.promise

  number : called.answer.number ≡ 0
  number = ap (λ o. o.answer.number) (sym kept_promise) ∙ k.zero

  -- THE MAP passed all checks
  pub accepted : Accepted m
  accepted =
      let p = passed m b.work (both_miss (map_checks m b.work) more (map_positive m b.work) (sym (number_is m l b.work more parts) ∙ number)).0 in
      record { wide = p.wide; tall = p.high; size = p.labels; word = k.word }

  -- THE STORES hold the rules' words
  finished : result ≡ record { answer = counted 0 l; stores = cleared m b.work ∷ written parts }
  finished = kept_promise ∙ (settled m l b.work more parts).fine number

  pub counts_are : k.answer ≡ counted 0 l
  counts_are = ap (λ o. o.answer) finished

  pub left_is : left k ≡ cut_list m
  unfolding cut_list cuts counted
  left_is =
      let P = picture_of m in
      let F = picture_framed m.width m.height m.bound m.labels in
      let ss = segments P in
      let fs = faces P ss m.paints in
      let store : ℕ → Outcome → List ℕ = λ i o. get_or o.stores i [] in
      λ i. record {
        nodes = front (6 * k.answer.nodes) l.nodes b.nodes (ap (store 1) finished) (omega (arith, ap (λ a. a.nodes) counts_are, length_nodes ss (nodes P))) i;
        segments = front (8 * k.answer.segments) l.segments b.segments (ap (store 2) finished) (omega (arith, ap (λ a. a.segments) counts_are, length_segments P 0 ss)) i;
        points = front (2 * k.answer.points) l.points b.points (ap (store 3) finished) (omega (arith, ap (λ a. a.points) counts_are, length_points ss (has_step F (describes F)))) i;
        references = front k.answer.references l.references b.references (ap (store 4) finished) (ap (λ a. a.references) counts_are) i;
        contours = front (2 * k.answer.contours) l.contours b.contours (ap (store 5) finished) (omega (arith, ap (λ a. a.contours) counts_are, length_contours 0 (contours_of fs))) i;
        faces = front (5 * k.answer.faces) l.faces b.faces (ap (store 6) finished) (omega (arith, ap (λ a. a.faces) counts_are, length_faces P.w 0 fs)) i;
        steps = (counts_are i).steps;
      }
