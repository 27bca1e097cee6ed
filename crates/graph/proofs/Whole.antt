-- The first stage of tracing, and the last.
use Prim.Native.Nat.{ℕ, ◌+◌, ◌*◌, ◌≤◌, ◌<◌}
use mathlib.Core.Path.{◌≡◌, refl, sym, ap, subst, ◌∙◌}
use mathlib.Core.List.{List, [], ◌∷◌, ◌++◌, append-nil, Memᴰ as In}
use native.Mathlib.Omega.{arith}
use lib.ListN.{length, get_or, replicate, length-replicate}
use lib.Seq.{sets}
use Rattle.rules.specs.Lists.{flat}
use Rattle.rules.specs.Picture.{Picture, picture, Dart}
use Rattle.rules.specs.Graph.{on, trace, out, corners, nodes, segments}
use Rattle.rules.specs.Records.{node_words, segment_words, point_words}
use Rattle.rules.proofs.Tracing.Partition.{describes}
use Rattle.rules.proofs.Tracing.Bends.{bend, easts, rings_at_bends}
use Rattle.rules.proofs.Tracing.Counts.{step_count_lem}
use Rattle.store.specs.Words.{Kept}
use Rattle.store.proofs.Writes.{sets_kept, filled, kept_none, kept_then, kept_within}
use Rattle.lattice.specs.declared.Size.{Size}
use Rattle.lattice.specs.Size.{Corner, pic}
use Rattle.lattice.specs.Planes.{plane}
use Rattle.lattice.proofs.Frame.{framed}
use Rattle.graph.specs.declared.Counts.{Counts}
use Rattle.graph.specs.declared.Found.{Found}
use Rattle.graph.specs.Planes.{slot, unpacked, corners_at}
use Rattle.graph.specs.Words.{entries}
use Rattle.graph.specs.Nodes.{bends, Noded, Tallied, Classified}
use Rattle.graph.specs.Stage.{State, state, Stage, Standing, starts}
use Rattle.graph.specs.Extracted.{Extracted}
use Rattle.graph.proofs.Slots.{slot_low}
use Rattle.graph.proofs.Listing.{bends_few, corner_nth, noded_kept}
use Rattle.graph.proofs.Loops.{starts_all, starts_east}
use Rattle.graph.proofs.Numbering.{nodes_in_lem, nodes_few}
use Rattle.rules.proofs.Ground.Lists.{in_at, keep_in}
use Rattle.rules.proofs.Lattice.Grid.{corners_in}
use Rattle.rules.specs.declared.Dir.TheVariants.{N, E, S, W}
use Rattle.graph.proofs.Outs.{outs_written}

-- WHAT IS TRACED: first from the nodes, then from all corners

trace_append : (P : Picture) (k : List Dart) (ss : List (List Dart)) (l : List Dart) → trace P ss (k ++ l) ≡ trace P (trace P ss k) l
unfolding trace
trace_append P [] ss l = refl
trace_append P (a ∷ k) ss l = trace_append P k _ l

module _ (s : Size) (ls : List ℕ) where
  abbrev P : Picture
  P = pic s ls

  abbrev pub second : List Dart
  second = easts P (corners P) ++ []

  traced : trace P [] (out (nodes P) ++ second) ≡ segments P
  unfolding segments
  traced =
      trace_append P (out (nodes P)) [] second
      ∙ ap (trace P (trace P [] (out (nodes P)))) (append-nil (easts P (corners P)))
      ∙ sym (rings_at_bends (framed s ls))

  -- a list of corners of the frame, in the work words from `at` on
  listed_standing : {work : List ℕ} (at n : ℕ) (cs : List (ℕ × ℕ)) → 5 * plane s.width s.height ≤ length work → 2 * plane s.width s.height ≤ at → at + length cs ≤ 5 * plane s.width s.height
      → n ≡ length cs → corners_at work at (length cs) ≡ cs → ((c : ℕ × ℕ) → In c cs → (c.0 ≤ s.width) × (c.1 ≤ s.height)) → Standing s work at n
  listed_standing {work} at n cs planes behind room count stands inside = record {
    behind = behind;
    room = omega arith;
    inside = λ i h.
        let l : i < length cs = omega arith in
        let e : get_or cs i (0, 0) ≡ unpacked (get_or work (at + i) 0) = ap (λ (l : List (ℕ × ℕ)). get_or l i (0, 0)) (sym stands) ∙ corner_nth work at (length cs) i l in
        let k = inside (get_or cs i (0, 0)) (in_at cs i (0, 0) l) in
        subst (λ (c : ℕ × ℕ). Corner s c.0 c.1) e (record { across = k.0; down = k.1 });
  }

  module _ (work work₁ : List ℕ) (f : Found) (p : ℕ) (o : Noded s ls work) (k : Tallied s ls f) (e : p ≡ plane s.width s.height) (c : work₁ ≡ sets work 0 (replicate (2 * p) 0)) where
    -- the marks are cleared, and nothing else
    cleared : (i : ℕ) → i < 2 * plane s.width s.height → get_or work₁ i 0 ≡ 0
    cleared i h =
        let z : 0 + i ≡ i = omega arith in
        rw (c, ← z) (filled work 0 (2 * p) 0 i (omega (arith, o.planes)) (omega arith))

    pub clear_kept : Kept 0 (2 * plane s.width s.height) work work₁
    clear_kept = rw c (kept_within (omega arith) (omega (arith, length-replicate {A = ℕ} (2 * p) 0)) (sets_kept work 0 (replicate (2 * p) 0)))

    pub noded_cleared : Noded s ls work₁
    noded_cleared = noded_kept clear_kept o

    -- the nodes without out entries
    pub node_records : (nodes₀ nodes₁ : List ℕ) → nodes₁ ≡ sets nodes₀ 0 (node_words [] (corners_at work₁ (3 * p) f.nodes)) → nodes₁ ≡ sets nodes₀ 0 (node_words [] (nodes P))
    node_records nodes₀ nodes₁ q = q ∙ rw (e, k.nodes) (rw noded_cleared.corners)

    -- the corners of the nodes, and later those of the bends, as the loops ask
    pub nodes_standing : Standing s work₁ (3 * p) f.nodes
    unfolding picture
    nodes_standing = listed_standing (3 * p) f.nodes (nodes P) noded_cleared.planes (omega arith) (omega (arith, nodes_few s ls)) k.nodes (rw e noded_cleared.corners) (nodes_in_lem P)

    nodes_start : starts (corners_at work₁ (3 * p) f.nodes) (N ∷ E ∷ S ∷ W ∷ []) ≡ out (nodes P)
    nodes_start = rw (e, k.nodes, noded_cleared.corners) (starts_all (nodes P))

    module _ (work₂ : List ℕ) (o₂ : Noded s ls work₂) where
      pub bends_standing : Standing s work₂ (4 * p) f.bends
      unfolding picture
      bends_standing = listed_standing (4 * p) f.bends (bends P) o₂.planes (omega arith) (omega (arith, bends_few s ls)) k.bends (rw e o₂.bent_corners) (λ c i. corners_in P c (keep_in (bend P) (corners P) c i).0)

      bends_start : starts (corners_at work₂ (4 * p) f.bends) (E ∷ []) ≡ easts P (corners P)
      bends_start = rw (e, k.bends, o₂.bent_corners) (starts_east P)

      pub second_stage : {t₀ t : State} → Stage s ls t₀ second t → Stage s ls t₀ (starts (corners_at work₂ (4 * p) f.bends) (E ∷ []) ++ []) t
      second_stage st = rw bends_start st

    abbrev pub zeros : Counts
    zeros = record { nodes = f.nodes; bends = f.bends; segments = 0; points = 0; steps = 0 }

    module _ (nodes₁ segs points : List ℕ) where
      pub first_stage : Stage s ls (state work₁ nodes₁ segs points zeros) (starts (corners_at work₁ (3 * p) f.nodes) (N ∷ E ∷ S ∷ W ∷ []) ++ second) (state work₁ nodes₁ segs points zeros)
      unfolding flat on entries segment_words point_words
      first_stage = record {
        ss = [];
        whole = rw nodes_start traced;
        seen = λ b i. rw (cleared (slot s.width s.height b) (slot_low s.width s.height b i));
        noded = noded_cleared;
        kept = kept_none;
        outs = refl;
        records = refl;
        corners = refl;
        words = refl;
        tallied = k;
        segs = refl;
        pts = refl;
        steps = refl;
      }

      pub last_stage : (nodes₀ work' nodes' segs' points' : List ℕ) (r : Counts)
          → nodes₁ ≡ sets nodes₀ 0 (node_words [] (corners_at work₁ (3 * p) f.nodes))
          → Stage s ls (state work₁ nodes₁ segs points zeros) [] (state work' nodes' segs' points' r)
          → Extracted s ls 2 work nodes₀ segs points work' nodes' segs' points' r
      unfolding trace
      last_stage nodes₀ work' nodes' segs' points' r q st =
          let F = framed s ls in
          let D = describes F in
          let all : st.ss ≡ segments P = st.whole in
          record {
            node_store = st.outs ∙ rw (all, node_records nodes₀ nodes₁ q) (outs_written F D nodes₀);
            segment_store = rw (← all) st.records;
            point_store = rw (← all) st.corners;
            tallied = st.tallied;
            segment_count_lem = rw (← all) st.segs;
            point_count_lem = st.pts ∙ rw all (ap (λ (m : ℕ). m + length (segments P)) (step_count_lem F D));
            step_count_lem = st.steps ∙ rw all (step_count_lem F D);
            kept = kept_then clear_kept st.kept;
            noded = st.noded;
          }

-- BOTH STEPS

pub classified_traced : {s : Size} {ls work work₁ nodes₀ segs points work' nodes' segs' points' : List ℕ} {f : Found} {r : Counts}
    → Classified s ls work work₁ f
    → Extracted s ls 2 work₁ nodes₀ segs points work' nodes' segs' points' r
    → Extracted s ls 5 work nodes₀ segs points work' nodes' segs' points' r
classified_traced k e = record {
  node_store = e.node_store;
  segment_store = e.segment_store;
  point_store = e.point_store;
  tallied = e.tallied;
  segment_count_lem = e.segment_count_lem;
  point_count_lem = e.point_count_lem;
  step_count_lem = e.step_count_lem;
  kept = kept_then (kept_within (omega arith) (omega arith) k.kept) (kept_within (omega arith) (omega arith) e.kept);
  noded = e.noded;
}
