-- A call that writes at once: its outcome, put together from what extraction, the islands and the assembly ensure.
use Prim.Native.Nat.{ℕ, ◌*◌, ◌≤◌}
use mathlib.Core.Path.{◌≡◌, refl, sym, ap, ◌∙◌}
use mathlib.Core.List.{List, [], ◌∷◌, ◌++◌}
use native.Mathlib.Omega.{arith}
use lib.ListN.{length, replicate}
use lib.Seq.{sets}
use Rattle.std.specs.Prelude.{Ok}
use Rattle.rules.specs.Picture.{picture, OUTSIDE, Dart}
use Rattle.rules.specs.Graph.{segments}
use Rattle.rules.specs.Face.{faces}
use Rattle.rules.specs.Calls.{cut_list, graph_list, counted, first_hit, graph_checks, face_checks, graph, whole}
use Rattle.rules.proofs.Tracing.Partition.{describes}
use Rattle.rules.proofs.Faces.Counts.{faces_count}
use Rattle.rules.proofs.CutList.Counts.{bounds, words_fit}
use Rattle.store.specs.Words.{Kept}
use Rattle.store.proofs.Writes.{kept_none, kept_within}
use Rattle.lattice.specs.declared.Size.{Size}
use Rattle.lattice.specs.Size.{pic}
use Rattle.lattice.specs.Planes.{plane}
use Rattle.lattice.proofs.Planes.{plane_is}
use Rattle.lattice.proofs.Frame.{framed}
use Rattle.graph.specs.declared.Counts.{Counts as GraphCounts}
use Rattle.graph.specs.Extracted.{Extracted}
use Rattle.face.specs.declared.Counts.{Counts as FaceCounts}
use Rattle.face.specs.Counts.{CountsOf}
use Rattle.face.specs.Islands.{Numbered, plan}
use Rattle.assemble.specs.declared.Done.{Done}
use Rattle.assemble.specs.Assembly.{Standing, Assembled}
use Rattle.calls.specs.Outcome.{map_of, graph_counts, with_faces, answer_with, outcome}
use Rattle.calls.specs.Steps.{GraphRoomy, FacesRoomy, GraphWritten}
use Rattle.calls.proofs.Outcomes.{first}
use Rattle.calls.proofs.Steps.{graph_counted, still_counted, all_counted, graph_written, graph_standing, faces_written}
use Rattle.calls.proofs.Calls.{map_passed, planes_passed, graph_roomy, all_roomy, graph_answered, whole_answered}

module _ {s : Size} {ls work ns ss ps work₁ ns' ss' ps' : List ℕ} {c : GraphCounts} (z : first (map_of s ls) work ≡ 0) (e : Extracted s ls 5 work ns ss ps work₁ ns' ss' ps' c) where
  -- GRAPH

  pub graph_at_once : {work₂ : List ℕ} → first_hit (graph_checks (graph_list (map_of s ls)) ns ss ps) ≡ 0 → work₂ ≡ sets work₁ 0 (replicate (8 * plane s.width s.height) 0)
      → outcome (Ok (graph_counts c)) (work₂ ∷ ns' ∷ ss' ∷ ps' ∷ []) ≡ graph (map_of s ls) work ns ss ps
  graph_at_once q f =
      graph_answered s ls work ns ss ps (Ok tt) z (graph_counted e) (sym q) (graph_written refl (graph_roomy s ls ns ss ps 0 (λ k. q)) e kept_none) f

  -- WHOLE

  module _ (rs cs fs : List ℕ) (q : first_hit (graph_checks (cut_list (map_of s ls)) ns ss ps ++ face_checks (cut_list (map_of s ls)) rs cs fs) ≡ 0)
      {work₂ : List ℕ} {painted : ℕ} (i : Numbered (plan s) s.paints ls work₁ painted work₂) where
    roomy : GraphRoomy s ls 0 ns ss ps × FacesRoomy s ls 0 rs cs fs
    roomy = all_roomy s ls ns ss ps rs cs fs 0 (sym q)

    islands_kept : Kept (5 * plane s.width s.height) (8 * plane s.width s.height) work₁ work₂
    islands_kept = kept_within (omega arith) (omega (arith, plane_is s.width s.height)) i.kept

    written : GraphWritten s ls 0 work₂ ns ss ps work₂ ns' ss' ps'
    written = graph_written refl roomy.0 e kept_none

    pub standing_at_once : Standing s ls ns' ss' ps' c.segments work₂ (segments (pic s ls))
    standing_at_once =
        graph_standing (map_passed s ls work z) (omega (arith, planes_passed s ls work z, e.kept.long, islands_kept.long)) refl
        (still_counted islands_kept (graph_counted e).0) i.numbers written

    module _ {rs' cs' fs' work₃ : List ℕ} {d : Done} (assembled : (sides : List (List Dart)) → Standing s ls ns' ss' ps' c.segments work₂ sides → Assembled s ls sides work₂ rs cs fs d work₃ rs' cs' fs') where
      a : Assembled s ls (segments (pic s ls)) work₂ rs cs fs d work₃ rs' cs' fs'
      a = assembled _ standing_at_once

      -- the counts of the faces are those of the writing
      abbrev pub faces_done : FaceCounts
      faces_done = record { references = d.references; contours = d.contours; faces = painted }

      done_counts : CountsOf (faces (pic s ls) (segments (pic s ls)) s.paints) faces_done
      done_counts = record {
        references = a.written.references;
        contours = a.written.contours;
        faces = i.painted ∙ sym (faces_count (pic s ls) (segments (pic s ls)) s.paints);
      }

      all_done : answer_with 0 (with_faces c faces_done) ≡ counted 0 (cut_list (map_of s ls))
      all_done = all_counted (graph_counted e).0 done_counts

      pub long_at_once : length work₃ ≡ length work
      long_at_once = a.changed.long ∙ i.kept.long ∙ e.kept.long

      -- they are words
      pub done_low : s.paints ≤ OUTSIDE → (d.references ≤ 4294967295) × (d.contours ≤ 4294967295)
      unfolding cut_list picture
      done_low b =
          let F = framed s ls in
          let M = map_passed s ls work z in
          let k = bounds F (describes F) b 0 in
          let references : d.references ≤ 4294967295 = omega (arith, ap (λ a. a.references) all_done, k.references, (words_fit M.wide M.high k).references) in
          (references, omega (arith, ap (λ a. a.contours) all_done, ap (λ a. a.references) all_done, k.contours, references))

      pub whole_at_once : {work₄ : List ℕ} → work₄ ≡ sets work₃ 0 (replicate (8 * plane s.width s.height) 0)
          → outcome (Ok (with_faces c faces_done)) (work₄ ∷ ns' ∷ ss' ∷ ps' ∷ rs' ∷ cs' ∷ fs' ∷ []) ≡ whole (map_of s ls) work ns ss ps rs cs fs
      whole_at_once f =
          whole_answered s ls work ns ss ps rs cs fs (Ok tt) z (graph_counted e)
          (record {
            counts = all_done;
            graph = still_counted islands_kept (graph_counted e).0;
            numbers = i.numbers;
            kept = kept_within (omega arith) (omega arith) islands_kept;
          })
          (sym q) written (faces_written refl roomy.1 a) f
