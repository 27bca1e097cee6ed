-- Each call's outcome, put together from its steps.
use Prim.Native.Nat.{ℕ, ◌*◌, ◌≤◌}
use mathlib.Core.Path.{◌≡◌, refl, sym, ap, ◌∙◌}
use mathlib.Core.List.{List, [], ◌∷◌, ◌++◌, map}
use native.Mathlib.Omega.{arith}
use lib.ListN.{length, replicate, drop}
use lib.Seq.{sets}
use Rattle.rules.specs.Graph.{nodes, segments}
use Rattle.rules.specs.Face.{faces}
use Rattle.rules.specs.Records.{contours_of}
use Rattle.std.specs.Prelude.{Result, Ok, Err}
use Rattle.rules.specs.declared.Refusal.{Refusal}
use Rattle.rules.specs.Refusals.{number_of, number_in}
use Rattle.rules.specs.Calls.{Map, picture_of, CutList, cuts, graph_list, cut_list, counted, refused, Check, first_hit, map_checks, short, graph_checks, face_checks, store_after, call, graph, size, whole, work_words}
use Rattle.rules.proofs.Tracing.Partition.{describes}
use Rattle.rules.proofs.Tracing.Counts.{has_step}
use Rattle.rules.proofs.CutList.Lengths.{length_nodes, length_segments, length_points, length_contours, length_faces}
use Rattle.store.specs.Words.{Kept}
use Rattle.store.proofs.Writes.{kept_then, kept_within}
use Rattle.lattice.specs.declared.Size.{Size}
use Rattle.lattice.specs.Size.{Map as LabelledMap}
use Rattle.lattice.specs.Planes.{plane}
use Rattle.lattice.proofs.Frame.{framed}
use Rattle.graph.specs.declared.Counts.{Counts as GraphCounts}
use Rattle.calls.specs.declared.Counts.{Counts}
use Rattle.calls.specs.Outcome.{map_of, graph_counts, answer_with, unlooked, answer_of, answered_by, outcome}
use Rattle.calls.specs.Steps.{CountsGraph, CountsFaces, GraphRoomy, GraphWritten, FacesRoomy, FacesWritten}
use Rattle.calls.proofs.Checks.{room, all_miss, both_miss, graph_positive}
use Rattle.calls.proofs.Refusals.{positive}
use Rattle.calls.proofs.Outcomes.{Late, first, Passed, passed, refused_answer, refused_work, refused_store, number_late, accepted_answer, accepted_work, work_words_lem, work_cleared}

-- THE MAP passed the early checks

module _ (s : Size) (ls work : List ℕ) (z : first (map_of s ls) work ≡ 0) where
  abbrev ok : Passed (map_of s ls) work
  ok = passed (map_of s ls) work z

  pub map_passed : LabelledMap s ls
  map_passed = record { wide = ok.wide; high = ok.high; count = ok.labels }

  pub planes_passed : 8 * plane s.width s.height ≤ length work
  planes_passed = omega (arith, ok.planes, work_words_lem s ls)

-- ROOM, where the number of the checks is 0

module _ (s : Size) (ls : List ℕ) where
  pub graph_roomy : (ns ss ps : List ℕ) (n : ℕ) → (n ≡ 0 → first_hit (graph_checks (graph_list (map_of s ls)) ns ss ps) ≡ 0) → GraphRoomy s ls n ns ss ps
  unfolding graph_checks graph_list cuts
  graph_roomy ns ss ps n f = record { nodes = λ z. (all z).0; segments = λ z. (all z).1; points = λ z. (all z).2 }
    where
      l : CutList
      l = graph_list (map_of s ls)

      all : n ≡ 0 → (length l.nodes ≤ length ns) × (length l.segments ≤ length ss) × (length l.points ≤ length ps)
      all z =
          let F = framed s ls in
          let P = picture_of (map_of s ls) in
          let a = all_miss 4 (short 6 ns l.nodes) (short 8 ss l.segments) (short 2 ps l.points) (omega arith) (f z) in (
            omega (arith, room 6 ns l.nodes a.0, length_nodes (segments P) (nodes P)),
            omega (arith, room 8 ss l.segments a.1, length_segments P 0 (segments P)),
            omega (arith, room 2 ps l.points a.2, length_points (segments P) (has_step F (describes F))),
          )

  pub faces_roomy : (rs cs fs : List ℕ) (n : ℕ) → (n ≡ 0 → first_hit (face_checks (cut_list (map_of s ls)) rs cs fs) ≡ 0) → FacesRoomy s ls n rs cs fs
  unfolding face_checks cut_list cuts
  faces_roomy rs cs fs n f = record { references = λ z. (all z).0; contours = λ z. (all z).1; faces = λ z. (all z).2 }
    where
      l : CutList
      l = cut_list (map_of s ls)

      all : n ≡ 0 → (length l.references ≤ length rs) × (length l.contours ≤ length cs) × (length l.faces ≤ length fs)
      all z =
          let P = picture_of (map_of s ls) in
          let found = faces P (segments P) s.paints in
          let a = all_miss 7 (short 1 rs l.references) (short 2 cs l.contours) (short 5 fs l.faces) (omega arith) (f z) in (
            omega (arith, room 1 rs l.references a.0),
            omega (arith, room 2 cs l.contours a.1, length_contours 0 (contours_of found)),
            omega (arith, room 5 fs l.faces a.2, length_faces P.w 0 found),
          )

  -- of all six at once
  pub same_checks : (ns ss ps : List ℕ) → graph_checks (cut_list (map_of s ls)) ns ss ps ≡ graph_checks (graph_list (map_of s ls)) ns ss ps
  unfolding graph_checks cut_list graph_list cuts
  same_checks ns ss ps = refl

  module _ (ns ss ps rs cs fs : List ℕ) (n : ℕ) (e : n ≡ first_hit (graph_checks (cut_list (map_of s ls)) ns ss ps ++ face_checks (cut_list (map_of s ls)) rs cs fs)) where
    miss : n ≡ 0 → (first_hit (graph_checks (cut_list (map_of s ls)) ns ss ps) ≡ 0) × (first_hit (face_checks (cut_list (map_of s ls)) rs cs fs) ≡ 0)
    miss z = both_miss (graph_checks (cut_list (map_of s ls)) ns ss ps) (face_checks (cut_list (map_of s ls)) rs cs fs) (graph_positive (cut_list (map_of s ls)) ns ss ps) (sym e ∙ z)

    pub all_roomy : GraphRoomy s ls n ns ss ps × FacesRoomy s ls n rs cs fs
    all_roomy = (graph_roomy ns ss ps n (λ z. rw (same_checks ns ss ps) at (miss z).0), faces_roomy rs cs fs n (λ z. (miss z).1))

-- the counts with another number
pub renumbered : (n : ℕ) (c : Counts) (l : CutList) → answer_with 0 c ≡ counted 0 l → answer_with n c ≡ counted n l
unfolding counted
renumbered n c l k = λ i. record {
  number = n;
  nodes = (k i).nodes;
  segments = (k i).segments;
  points = (k i).points;
  references = (k i).references;
  contours = (k i).contours;
  faces = (k i).faces;
  steps = (k i).steps;
}

-- what is answered after the counting has the check's number
pub answered_number : (room : Result (Unit {0}) Refusal) (c : Counts) → answer_of (answered_by room c) ≡ answer_with (number_in room) c
answered_number (Ok u) c = refl
answered_number (Err why) c = refl

-- the work store at the end, after steps that keep what lies behind the planes
module _ (s : Size) (ls work : List ℕ) where
  abbrev m : Map
  m = map_of s ls

  pub work_left : (work₁ work₂ : List ℕ) → first m work ≡ 0 → Kept 0 (8 * plane s.width s.height) work work₁
      → work₂ ≡ sets work₁ 0 (replicate (8 * plane s.width s.height) 0) → work₂ ≡ replicate (work_words m) 0 ++ drop (work_words m) work
  work_left work₁ work₂ z k f =
      work_cleared (8 * plane s.width s.height) work work₁ work₂ (planes_passed s ls work z) k f
      ∙ ap (λ (n : ℕ). replicate n 0 ++ drop n work) (sym (work_words_lem s ls))

  -- ANY CALL

  module _ (l : CutList) (more : List Check) (parts : List (List ℕ × List ℕ)) where
    pub call_refused : (why : Refusal) → number_of why ≡ first m work → outcome (Err (unlooked why)) (work ∷ map (λ p. p.1) parts) ≡ call m l work more parts
    unfolding call
    call_refused why e = λ i. record { answer = (ap refused e ∙ sym (refused_answer m work more n l)) i; stores = sym (refused_work m work more n) i ∷ kept parts i }
      where
        n : first m work ≡ 0 → ⊥
        n z = let h = positive why in omega arith

        kept : (ps : List (List ℕ × List ℕ)) → map (λ p. p.1) ps ≡ map (λ p. store_after (first_hit (map_checks m work ++ more)) p.0 p.1) ps
        kept [] = refl
        kept (p ∷ ps) = λ i. sym (refused_store m work more n p.0 p.1) i ∷ kept ps i

    pub call_answered : (room : Result (Unit {0}) Refusal) (c : Counts) (work₁ work₂ : List ℕ) (stores : List (List ℕ))
        → first m work ≡ 0
        → Late more
        → number_in room ≡ first_hit more
        → answer_with 0 c ≡ counted 0 l
        → Kept 0 (8 * plane s.width s.height) work work₁
        → work₂ ≡ sets work₁ 0 (replicate (8 * plane s.width s.height) 0)
        → stores ≡ map (λ p. store_after (number_in room) p.0 p.1) parts
        → outcome (answered_by room c) (work₂ ∷ stores) ≡ call m l work more parts
    unfolding call
    call_answered room c work₁ work₂ stores z late e k kept cleared written =
        let answered = answered_number room c ∙ renumbered (number_in room) c l k ∙ ap (λ (n : ℕ). counted n l) e ∙ sym (accepted_answer m work more late z l) in
        let worked = work_left work₁ work₂ z kept cleared ∙ sym (accepted_work m work more late z) in
        let same : number_in room ≡ first_hit (map_checks m work ++ more) = e ∙ sym (number_late m work more late z) in
        let stored = written ∙ ap (λ (n : ℕ). map (λ p. store_after n p.0 p.1) parts) same in
        λ i. record { answer = answered i; stores = worked i ∷ stored i }

  -- SIZE

  pub size_refused : (why : Refusal) → number_of why ≡ first m work → outcome (Err (unlooked why)) (work ∷ []) ≡ size m work
  unfolding size
  size_refused = call_refused (cut_list m) [] []

  pub size_answered : {a : Counts} {c : GraphCounts} {work₁ work₂ work₃ : List ℕ} → first m work ≡ 0 → CountsGraph s ls work work₁ c → CountsFaces s ls work₁ c work₂ a
      → work₃ ≡ sets work₂ 0 (replicate (8 * plane s.width s.height) 0) → outcome (Ok a) (work₃ ∷ []) ≡ size m work
  unfolding size first_hit counted
  size_answered {a} {work₂ = work₂} {work₃ = work₃} z g k f =
      call_answered (cut_list m) [] [] (Ok tt) a work₂ work₃ [] z tt refl k.counts (kept_then g.1 k.kept) f refl

  -- GRAPH

  module _ (ns ss ps : List ℕ) where
    pub graph_refused : (why : Refusal) → number_of why ≡ first m work → outcome (Err (unlooked why)) (work ∷ ns ∷ ss ∷ ps ∷ []) ≡ graph m work ns ss ps
    unfolding graph
    graph_refused = call_refused (graph_list m) _ (((graph_list m).nodes, ns) ∷ ((graph_list m).segments, ss) ∷ ((graph_list m).points, ps) ∷ [])

    pub graph_answered : (room : Result (Unit {0}) Refusal) {c : GraphCounts} {work₁ work₂ work₃ ns' ss' ps' : List ℕ}
        → first m work ≡ 0
        → CountsGraph s ls work work₁ c
        → number_in room ≡ first_hit (graph_checks (graph_list m) ns ss ps)
        → GraphWritten s ls (number_in room) work₁ ns ss ps work₂ ns' ss' ps'
        → work₃ ≡ sets work₂ 0 (replicate (8 * plane s.width s.height) 0)
        → outcome (answered_by room (graph_counts c)) (work₃ ∷ ns' ∷ ss' ∷ ps' ∷ []) ≡ graph m work ns ss ps
    unfolding graph graph_checks
    graph_answered room {c} {work₂ = work₂} {work₃ = work₃} {ns' = ns'} {ss' = ss'} {ps' = ps'} z k e w f =
        call_answered (graph_list m) (graph_checks (graph_list m) ns ss ps) _ room (graph_counts c) work₂ work₃ (ns' ∷ ss' ∷ ps' ∷ []) z
        (omega arith, (omega arith, (omega arith, tt))) e k.0.counts
        (kept_then k.1 (kept_within (omega arith) (omega arith) w.kept)) f
        (λ i. w.nodes i ∷ w.segments i ∷ w.points i ∷ [])

  -- WHOLE

  module _ (ns ss ps rs cs fs : List ℕ) where
    pub whole_refused : (why : Refusal) → number_of why ≡ first m work
        → outcome (Err (unlooked why)) (work ∷ ns ∷ ss ∷ ps ∷ rs ∷ cs ∷ fs ∷ []) ≡ whole m work ns ss ps rs cs fs
    unfolding whole
    whole_refused =
        let l = cut_list m in
        call_refused l _ ((l.nodes, ns) ∷ (l.segments, ss) ∷ (l.points, ps) ∷ (l.references, rs) ∷ (l.contours, cs) ∷ (l.faces, fs) ∷ [])

    pub whole_answered : (room : Result (Unit {0}) Refusal) {a : Counts} {c : GraphCounts} {work₁ work₂ work₃ work₄ work₅ ns' ss' ps' rs' cs' fs' : List ℕ}
        → first m work ≡ 0
        → CountsGraph s ls work work₁ c
        → CountsFaces s ls work₁ c work₂ a
        → number_in room ≡ first_hit (graph_checks (cut_list m) ns ss ps ++ face_checks (cut_list m) rs cs fs)
        → GraphWritten s ls (number_in room) work₂ ns ss ps work₃ ns' ss' ps'
        → FacesWritten s ls (number_in room) work₃ rs cs fs work₄ rs' cs' fs'
        → work₅ ≡ sets work₄ 0 (replicate (8 * plane s.width s.height) 0)
        → outcome (answered_by room a) (work₅ ∷ ns' ∷ ss' ∷ ps' ∷ rs' ∷ cs' ∷ fs' ∷ []) ≡ whole m work ns ss ps rs cs fs
    unfolding whole graph_checks face_checks graph_list cut_list cuts
    whole_answered room {a} {work₄ = work₄} {work₅ = work₅} {ns' = ns'} {ss' = ss'} {ps' = ps'} {rs' = rs'} {cs' = cs'} {fs' = fs'} z g k e w v f =
        let l = cut_list m in
        call_answered l (graph_checks l ns ss ps ++ face_checks l rs cs fs)
        ((l.nodes, ns) ∷ (l.segments, ss) ∷ (l.points, ps) ∷ (l.references, rs) ∷ (l.contours, cs) ∷ (l.faces, fs) ∷ [])
        room a work₄ work₅ (ns' ∷ ss' ∷ ps' ∷ rs' ∷ cs' ∷ fs' ∷ []) z
        (omega arith, (omega arith, (omega arith, (omega arith, (omega arith, (omega arith, tt)))))) e k.counts
        (kept_then g.1 (kept_then k.kept (kept_then (kept_within (omega arith) (omega arith) w.kept) v.kept))) f
        (λ i. w.nodes i ∷ w.segments i ∷ w.points i ∷ v.references i ∷ v.contours i ∷ v.faces i ∷ [])
