-- The call's outcome, put together from its steps.
use Prim.Native.Nat.{ℕ, ◌+◌, ◌*◌, ◌<◌, ◌≤◌}
use mathlib.Core.Bool.{Bool, true, false}
use mathlib.Core.Path.{◌≡◌, refl, sym, ap, ◌∙◌}
use mathlib.Core.Logic.{inr, ⊎_elim}
use mathlib.Core.List.{List, [], ◌∷◌, map}
use native.Mathlib.Omega.{arith}
use lib.ListN.{length, replicate}
use lib.Seq.{sets}
use Rattle.rules.specs.Picture.{Picture, Dart, OUTSIDE, picture}
use Rattle.rules.specs.Graph.{nodes, cracks}
use Rattle.std.specs.Prelude.{Result, Err}
use Rattle.std.specs.Result.{result_and}
use Rattle.rules.specs.declared.Refusal.{Refusal}
use Rattle.rules.specs.Refusals.{number_of, number_in}
use Rattle.rules.specs.Calls.{Map, CutList, cuts, cut_list, graph_list, counted, Check, first_hit, face_checks, store_after}
use Rattle.rules.proofs.Tracing.Partition.{describes}
use Rattle.rules.proofs.CutList.Counts.{counts}
use Rattle.store.specs.Words.{Kept}
use Rattle.store.proofs.Writes.{kept_none, kept_then}
use Rattle.lattice.specs.declared.Size.{Size}
use Rattle.lattice.specs.Size.{Map as Sized, pic}
use Rattle.lattice.specs.Planes.{plane}
use Rattle.lattice.proofs.Frame.{framed}
use Rattle.graph.specs.declared.Counts.{Counts as GraphCounts}
use Rattle.assemble.specs.declared.Done.{Done}
use Rattle.assemble.specs.Assembly.{Standing, Assembled}
use Rattle.accept.specs.Given.{Given, segments_in}
use Rattle.accept.specs.Test.{accepts}
use Rattle.accept.proofs.Exact.{accepts_true}
use Rattle.calls.specs.declared.Counts.{Counts}
use Rattle.calls.specs.Outcome.{map_of, unlooked, answer_with, answered_by, outcome}
use Rattle.calls.specs.Steps.{GraphCounted, IslandsNumbered}
use Rattle.calls.proofs.Checks.{hits_and, both_miss}
use Rattle.calls.proofs.Outcomes.{Late, first, store_written, store_kept}
use Rattle.calls.proofs.Calls.{faces_roomy, call_refused, call_answered}
use Rattle.workbench.specs.Bench.{given_list, strange, assemble}
use Rattle.workbench.proofs.Assembled.{stands, given_room}

-- THE COUNTS that the test asks for
module _ {s : Size} {ls work : List ℕ} {c : GraphCounts} (k : GraphCounted s ls work c) where
  pub counted_nodes : c.nodes ≡ length (nodes (pic s ls))
  counted_nodes = k.tallied.nodes

  pub counted_cracks : c.steps ≡ length (cracks (pic s ls))
  unfolding graph_list
  counted_cracks = let F = framed s ls in ap (λ a. a.steps) k.counts ∙ (counts F (describes F) [] 0).steps

-- the assembly keeps what lies behind the planes
pub worked : {s : Size} {ls : List ℕ} {ss : List (List Dart)} {work rs cs fs work' rs' cs' fs' : List ℕ} {d : Done} → Assembled s ls ss work rs cs fs d work' rs' cs' fs'
    → Kept 0 (8 * plane s.width s.height) work work'
worked {s} e = record {
  long = e.changed.long;
  others = λ i o. ⊎_elim (λ (h : i < 0). absurd (omega arith)) (λ (h : 8 * plane s.width s.height ≤ i). e.changed.others i (inr (omega arith)) (inr (omega arith))) o;
}

module _ (s : Size) (ls : List ℕ) (g : Given) where
  abbrev P : Picture
  P = pic s ls

  abbrev m : Map
  m = map_of s ls

  -- AN ACCEPTED GRAPH stands, also after the test has used its two planes
  pub stands_accepted : {work work' : List ℕ} → Sized s ls → accepts g P ≡ true → 8 * plane s.width s.height ≤ length work → IslandsNumbered s ls work
      → Kept 0 (2 * plane s.width s.height) work work'
      → Standing s ls g.nodes g.segments g.points g.segment_count work' (segments_in g)
  stands_accepted {work'} M e h numbers kept =
      stands s ls M g (accepts_true g P (framed s ls) e) work' (omega (arith, kept.long))
      (λ p b o. kept.others (5 * plane s.width s.height + p) (inr (omega arith)) ∙ numbers p b o)

  module _ (rs cs fs : List ℕ) where
    abbrev l : CutList
    l = given_list m g

    abbrev more : List Check
    more = strange (accepts g P) ∷ face_checks (cut_list m) rs cs fs

    abbrev parts : List (List ℕ × List ℕ)
    parts = (l.references, rs) ∷ (l.contours, cs) ∷ (l.faces, fs) ∷ []

    late : Late more
    unfolding face_checks
    late = (omega arith, (omega arith, (omega arith, (omega arith, tt))))

    -- THE NUMBER
    pub number_is : {fits : Bool} (given room : Result (Unit {0}) Refusal) → number_in given ≡ first_hit (strange fits ∷ []) → fits ≡ accepts g P
        → number_in room ≡ first_hit (face_checks (cut_list m) rs cs fs) → number_in (result_and given room) ≡ first_hit more
    number_is given room eg ef er =
        hits_and (strange (accepts g P) ∷ []) (face_checks (cut_list m) rs cs fs) (omega arith, tt) given room (eg ∙ ap (λ (b : Bool). first_hit (strange b ∷ [])) ef) er

    misses : first_hit more ≡ 0 → (first_hit (strange (accepts g P) ∷ []) ≡ 0) × (first_hit (face_checks (cut_list m) rs cs fs) ≡ 0)
    misses e = both_miss (strange (accepts g P) ∷ []) (face_checks (cut_list m) rs cs fs) (omega arith, tt) e

    -- where it is 0, the graph is accepted
    pub number_accepts : first_hit more ≡ 0 → accepts g P ≡ true
    unfolding first_hit
    number_accepts e = go (accepts g P) (misses e).0
      where
        go : (b : Bool) → first_hit (strange b ∷ []) ≡ 0 → b ≡ true
        go true z = refl
        go false z = absurd (omega arith)

    -- THE STORES, by the number
    pub record Benched (n : ℕ) (work work' rs' cs' fs' : List ℕ) : Type 0 where
      pub stores : rs' ∷ cs' ∷ fs' ∷ [] ≡ map (λ p. store_after n p.0 p.1) parts
      pub kept : Kept 0 (8 * plane s.width s.height) work work'

    pub bench_left : {n : ℕ} {work : List ℕ} → (n ≡ 0 → ⊥) → Benched n work work rs cs fs
    bench_left {n} h = record {
      stores = λ i. store_kept n l.references rs h i ∷ store_kept n l.contours cs h i ∷ store_kept n l.faces fs h i ∷ [];
      kept = kept_none;
    }

    pub bench_written : {n : ℕ} → n ≡ first_hit more → n ≡ 0 → s.paints ≤ OUTSIDE → {work work' rs' cs' fs' : List ℕ} {d : Done}
        → Assembled s ls (segments_in g) work rs cs fs d work' rs' cs' fs' → Benched n work work' rs' cs' fs'
    unfolding given_list cuts picture
    bench_written e h b {rs' = rs'} {cs' = cs'} {fs' = fs'} q =
        let zero : first_hit more ≡ 0 = sym e ∙ h in
        let room = given_room m b g (accepts_true g P (framed s ls) (number_accepts zero)) in
        let roomy = faces_roomy s ls rs cs fs 0 (λ _. (misses zero).1) in
        let references = store_written l.references rs rs' (omega (arith, room.0, roomy.references refl)) q.written.reference_words in
        let contours = store_written l.contours cs cs' (omega (arith, room.1, roomy.contours refl)) q.written.contour_words_lem in
        let faces = store_written l.faces fs fs' (omega (arith, room.2, roomy.faces refl)) q.written.face_words_lem in
        record { stores = rw h (λ i. references i ∷ contours i ∷ faces i ∷ []); kept = worked q }

    -- THE OUTCOME

    module _ (work : List ℕ) where
      pub bench_refused : (why : Refusal) → number_of why ≡ first m work → outcome (Err (unlooked why)) (work ∷ rs ∷ cs ∷ fs ∷ []) ≡ assemble m g work rs cs fs
      unfolding assemble
      bench_refused = call_refused s ls work (cut_list m) more parts

      pub bench_answered : (room : Result (Unit {0}) Refusal) {c : Counts} {work₁ work₂ work₃ rs' cs' fs' : List ℕ} → first m work ≡ 0 → number_in room ≡ first_hit more
          → answer_with 0 c ≡ counted 0 (cut_list m) → Kept 0 (8 * plane s.width s.height) work work₁ → Benched (number_in room) work₁ work₂ rs' cs' fs'
          → work₃ ≡ sets work₂ 0 (replicate (8 * plane s.width s.height) 0)
          → outcome (answered_by room c) (work₃ ∷ rs' ∷ cs' ∷ fs' ∷ []) ≡ assemble m g work rs cs fs
      unfolding assemble
      bench_answered room {c} {work₂ = work₂} {work₃ = work₃} {rs'} {cs'} {fs'} z e k kept b cleared =
          call_answered s ls work (cut_list m) more parts room c work₂ work₃ (rs' ∷ cs' ∷ fs' ∷ []) z late e k (kept_then kept b.kept) cleared b.stores
