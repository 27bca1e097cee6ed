-- The steps of a call, by what extraction and the faces ensure.
use Prim.Native.Nat.{ℕ, ◌+◌, ◌*◌, ◌<◌, ◌≤◌}
use mathlib.Core.Path.{◌≡◌, sym, ap, ◌∙◌}
use mathlib.Core.Logic.{inr, ⊎_elim}
use mathlib.Core.List.{List, [], ◌++◌}
use native.Mathlib.Omega.{arith}
use lib.ListN.{length, get_or, drop, get_or-append}
use Rattle.rules.specs.Lists.{flat}
use Rattle.rules.specs.Picture.{picture}
use Rattle.rules.specs.Graph.{nodes, segments}
use Rattle.rules.specs.Face.{faces}
use Rattle.rules.specs.Records.{node_words, segment_words, point_words, contours_of, contour_words, face_words}
use Rattle.rules.specs.Calls.{cuts, graph_list, cut_list, counted, store_after}
use Rattle.rules.proofs.Tracing.Partition.{describes}
use Rattle.rules.proofs.CutList.Counts.{counts}
use Rattle.rules.proofs.CutList.Lengths.{length_nodes, length_segments}
use Rattle.store.specs.Words.{Kept}
use Rattle.store.proofs.Writes.{kept_none, kept_within}
use Rattle.lattice.specs.declared.Size.{Size}
use Rattle.lattice.specs.Size.{Map, pic}
use Rattle.lattice.specs.Planes.{plane}
use Rattle.lattice.proofs.Frame.{framed}
use Rattle.graph.specs.declared.Counts.{Counts as GraphCounts}
use Rattle.graph.specs.Extracted.{Extracted}
use Rattle.graph.proofs.Listing.{noded_beyond}
use Rattle.face.specs.declared.Counts.{Counts as FaceCounts}
use Rattle.face.specs.Counts.{CountsOf, Counted}
use Rattle.assemble.specs.declared.Done.{Done}
use Rattle.assemble.specs.Drawn.{Written}
use Rattle.assemble.specs.Assembly.{Standing, Assembled}
use Rattle.assemble.proofs.Drawing.{drawn, pointed}
use Rattle.calls.specs.declared.Counts.{Counts}
use Rattle.calls.specs.Outcome.{map_of, graph_counts, with_faces, answer_with}
use Rattle.calls.specs.Steps.{GraphCounted, CountsGraph, IslandsNumbered, CountsFaces, GraphRoomy, GraphWritten, FacesRoomy, FacesWritten}
use Rattle.calls.proofs.Outcomes.{store_written, store_kept}

-- a word of those that stand at the front of a store
in_front : (words store : List ℕ) {store' : List ℕ} → store' ≡ words ++ drop (length words) store → (i : ℕ) → i < length words → get_or store' i 0 ≡ get_or words i 0
in_front words store e i h = rw e (get_or-append words (drop (length words) store) 0 i h)

-- the counts of faces beside those of the graph
with_faces_lem : (s : Size) (ls : List ℕ) (c : GraphCounts) (f : FaceCounts) → answer_with 0 (graph_counts c) ≡ counted 0 (graph_list (map_of s ls))
    → f.references ≡ (counted 0 (cut_list (map_of s ls))).references → f.contours ≡ (counted 0 (cut_list (map_of s ls))).contours → f.faces ≡ (counted 0 (cut_list (map_of s ls))).faces
    → answer_with 0 (with_faces c f) ≡ counted 0 (cut_list (map_of s ls))
unfolding graph_list cut_list counted cuts
with_faces_lem s ls c f g er ec ef = λ i. record {
  number = 0;
  nodes = (g i).nodes;
  segments = (g i).segments;
  points = (g i).points;
  references = er i;
  contours = ec i;
  faces = ef i;
  steps = (g i).steps;
}

module _ {s : Size} {ls : List ℕ} where
  -- COUNTED

  pub graph_counted : {work ns ss ps work' ns' ss' ps' : List ℕ} {c : GraphCounts} → Extracted s ls 5 work ns ss ps work' ns' ss' ps' c → CountsGraph s ls work work' c
  unfolding graph_list counted cuts contours_of flat contour_words face_words
  graph_counted {c} e =
      let k = counts (framed s ls) (describes (framed s ls)) [] 0 in (
        record {
          counts = λ i. record {
            number = 0;
            nodes = (e.tallied.nodes ∙ sym k.nodes) i;
            segments = (e.segment_count_lem ∙ sym k.segments) i;
            points = (e.point_count_lem ∙ sym k.points) i;
            references = 0;
            contours = 0;
            faces = 0;
            steps = (e.step_count_lem ∙ sym k.steps) i;
          };
          noded = e.noded;
          tallied = e.tallied;
        },
        kept_within (omega arith) (omega arith) e.kept,
      )

  -- the graph's counts stay where planes from 5 on are used
  pub still_counted : {work work' : List ℕ} {c : GraphCounts} → Kept (5 * plane s.width s.height) (8 * plane s.width s.height) work work' → GraphCounted s ls work c → GraphCounted s ls work' c
  still_counted k g = record { counts = g.counts; noded = noded_beyond k g.noded; tallied = g.tallied }

  module _ {work : List ℕ} {c : GraphCounts} {f : FaceCounts} (g : GraphCounted s ls work c) where
    pub all_counted : CountsOf (faces (pic s ls) (segments (pic s ls)) s.paints) f → answer_with 0 (with_faces c f) ≡ counted 0 (cut_list (map_of s ls))
    unfolding cut_list
    all_counted n =
        let F = framed s ls in
        let m = counts F (describes F) (faces (pic s ls) (segments (pic s ls)) s.paints) 0 in
        with_faces_lem s ls c f g.counts (n.references ∙ sym m.references) (n.contours ∙ sym m.contours) (n.faces ∙ sym m.faces)

    pub faces_counted : {work' : List ℕ} → Counted s ls work f work' → CountsFaces s ls work c work' (with_faces c f)
    faces_counted k =
        record {
          counts = all_counted (k.counts (segments (pic s ls)) (describes (framed s ls)));
          graph = still_counted k.kept g;
          numbers = k.numbers;
          kept = kept_within (omega arith) (omega arith) k.kept;
        }

  -- WRITTEN

  module _ {n : ℕ} {work ns ss ps : List ℕ} where
    pub graph_written : {used : ℕ} {work₁ work₂ work' ns' ss' ps' : List ℕ} {c : GraphCounts} → n ≡ 0 → GraphRoomy s ls n ns ss ps
        → Extracted s ls used work₁ ns ss ps work₂ ns' ss' ps' c → Kept 0 (2 * plane s.width s.height) work work' → GraphWritten s ls n work ns ss ps work' ns' ss' ps'
    unfolding graph_list cuts
    graph_written z r e k =
        let l = graph_list (map_of s ls) in
        record {
          nodes = rw z (store_written l.nodes ns _ (r.nodes z) e.node_store);
          segments = rw z (store_written l.segments ss _ (r.segments z) e.segment_store);
          points = rw z (store_written l.points ps _ (r.points z) e.point_store);
          kept = k;
        }

    pub graph_left : (n ≡ 0 → ⊥) → GraphWritten s ls n work ns ss ps work ns ss ps
    graph_left h =
        let l = graph_list (map_of s ls) in
        record {
          nodes = store_kept n l.nodes ns h;
          segments = store_kept n l.segments ss h;
          points = store_kept n l.points ps h;
          kept = kept_none;
        }

  -- what the assembly asks, once the graph stands in its stores
  pub graph_standing : {work work' ns ss ps ns' ss' ps' : List ℕ} {c : GraphCounts} {n : ℕ} → Map s ls → 8 * plane s.width s.height ≤ length work → n ≡ 0
      → GraphCounted s ls work c → IslandsNumbered s ls work
      → GraphWritten s ls n work ns ss ps work' ns' ss' ps' → Standing s ls ns' ss' ps' c.segments work' (segments (pic s ls))
  unfolding graph_list counted cuts store_after
  graph_standing {work} {ns} {ss} {ps} {c} M h z g numbers w =
      let P = pic s ls in
      let D = describes (framed s ls) in
      let sides = segments P in
      let written : Written P sides _ _ _ = record {
        node_words_lem = λ i b. in_front (node_words sides (nodes P)) ns (rw z at w.nodes) i (omega (arith, length_nodes sides (nodes P)));
        segment_words_lem = λ i b. in_front (segment_words P 0 sides) ss (rw z at w.segments) i (omega (arith, length_segments P 0 sides));
        point_words_lem = λ i b. in_front (point_words sides) ps (rw z at w.points) i b;
      } in
      record {
        drawn = drawn s ls M sides D _ _ _ written;
        pointed = pointed s ls M sides D _ _ _ written;
        total = omega (arith, ap (λ b. b.segments) g.counts, length_segments P 0 sides);
        planes = omega (arith, w.kept.long);
        numbers = λ p b o. w.kept.others (5 * plane s.width s.height + p) (inr (omega arith)) ∙ numbers p b o;
      }

  -- both of a graph that is traced after its faces are counted
  pub traced : {work₀ work work' ns ss ps ns' ss' ps' : List ℕ} {c c' : GraphCounts} {counts : Counts} {n : ℕ} → Map s ls → CountsFaces s ls work₀ c work counts → 8 * plane s.width s.height ≤ length work
      → n ≡ 0 → GraphRoomy s ls n ns ss ps → Extracted s ls 2 work ns ss ps work' ns' ss' ps' c'
      → GraphWritten s ls n work ns ss ps work' ns' ss' ps' × Standing s ls ns' ss' ps' c.segments work' (segments (pic s ls))
  traced M k h z r e = let w = graph_written z r e e.kept in (w, graph_standing M h z k.graph k.numbers w)

  module _ {n : ℕ} {work rs cs fs : List ℕ} where
    pub faces_written : {work' rs' cs' fs' : List ℕ} {d : Done} → n ≡ 0 → FacesRoomy s ls n rs cs fs
        → Assembled s ls (segments (pic s ls)) work rs cs fs d work' rs' cs' fs' → FacesWritten s ls n work rs cs fs work' rs' cs' fs'
    unfolding picture cut_list cuts
    faces_written z r e =
        let l = cut_list (map_of s ls) in
        record {
          references = rw z (store_written l.references rs _ (r.references z) e.written.reference_words);
          contours = rw z (store_written l.contours cs _ (r.contours z) e.written.contour_words_lem);
          faces = rw z (store_written l.faces fs _ (r.faces z) e.written.face_words_lem);
          kept = record {
            long = e.changed.long;
            others = λ i o. ⊎_elim (λ (h : i < 0). absurd (omega arith)) (λ (h : 8 * plane s.width s.height ≤ i). e.changed.others i (inr (omega arith)) (inr (omega arith))) o;
          };
        }

    pub faces_left : (n ≡ 0 → ⊥) → FacesWritten s ls n work rs cs fs work rs cs fs
    faces_left h =
        let l = cut_list (map_of s ls) in
        record {
          references = store_kept n l.references rs h;
          contours = store_kept n l.contours cs h;
          faces = store_kept n l.faces fs h;
          kept = kept_none;
        }
