-- GRAPH, THEN ASSEMBLE, IS WHOLE: assembling what tracing left answers as the whole call does, and leaves the same stores.
use Prim.Native.Nat.{ℕ, ◌+◌, ◌*◌, ◌≤◌}
use mathlib.Core.Bool.{true}
use mathlib.Core.Path.{◌≡◌, refl, sym, ap, ◌∙◌, subst}
use mathlib.Core.List.{List, [], ◌∷◌, ◌++◌}
use native.Mathlib.Omega.{arith}
use lib.ListN.{length, get_or, take, drop, replicate, length-append, length-drop, length-replicate, get_or-append}
use lib.Seq.{drop_at}
use Rattle.rules.specs.Picture.{Picture}
use Rattle.rules.specs.Graph.{nodes, segments}
use Rattle.rules.specs.Records.{node_words, segment_words, point_words}
use Rattle.rules.specs.Calls.{Map, picture_of, CutList, cuts, cut_list, graph_list, counted, Check, first_hit, work_words, map_checks, graph_checks, face_checks, answer, work_after, store_after, Outcome, call, graph, whole}
use Rattle.rules.proofs.Lattice.Frame.{Framed, picture_framed}
use Rattle.rules.proofs.CutList.Lengths.{length_nodes, length_segments}
use Rattle.accept.specs.Given.{Given}
use Rattle.accept.specs.Test.{accepts}
use Rattle.accept.proofs.Exact.{true_accepts}
use Rattle.accept.proofs.Traced.{Fronted, traced_accepted}
use Rattle.calls.proofs.Checks.{hit_late, both_miss, map_positive, graph_positive}
use Rattle.calls.proofs.Outcomes.{Late, late_number_lem, first, passed}
use Rattle.calls.proofs.Settled.{written, cleared, number_is, settled}
use Rattle.workbench.specs.Bench.{given_list, strange, assemble, traced_by}
use Rattle.workbench.proofs.Assembled.{traced_faces}

-- by what `graph`, `assemble` over what it left, and `whole` answer and leave
pub record InTwo (desk bench all : Outcome) : Type 0 where
  pub answer : bench.answer ≡ all.answer
  pub work : get_or bench.stores 0 [] ≡ get_or all.stores 0 []
  pub faces : drop 1 bench.stores ≡ drop 4 all.stores
  -- a refused whole call leaves the graph's stores alone
  pub graph : bench.answer.number ≡ 0 → drop 1 desk.stores ≡ take 3 (drop 1 all.stores)

module _ (m : Map) (work ns ss ps : List ℕ) where
  abbrev P : Picture
  P = picture_of m

  abbrev F : Framed P
  F = picture_framed m.width m.height m.bound m.labels

  abbrev k : CutList
  k = graph_list m

  abbrev l : CutList
  l = cut_list m

  abbrev parts : List (List ℕ × List ℕ)
  parts = (k.nodes, ns) ∷ (k.segments, ss) ∷ (k.points, ps) ∷ []

  -- THE DESK that answered 0
  abbrev desk : Outcome
  desk = record { answer = counted 0 k; stores = cleared m work ∷ written parts }

  abbrev g : Given
  g = traced_by desk

  in_front : (words store : List ℕ) (i n : ℕ) → i + 1 ≤ n → n ≡ length words → get_or (words ++ drop (length words) store) i 0 ≡ get_or words i 0
  in_front words store i n h e = get_or-append words (drop (length words) store) 0 i (omega arith)

  fronted : Fronted P (segments P) g
  unfolding graph_list cuts counted
  fronted =
      let sides = segments P in
      let ln = length_nodes sides (nodes P) in
      let lg = length_segments P 0 sides in
      let rest : (words store : List ℕ) → length words ≤ length (words ++ drop (length words) store) = λ words store. omega (arith, length-append words (drop (length words) store)) in
      record {
        written = record {
          node_words_lem = λ i b. in_front (node_words sides (nodes P)) ns i (6 * length (nodes P)) (omega arith) (sym ln);
          segment_words_lem = λ i b. in_front (segment_words P 0 sides) ss i (8 * length sides) (omega arith) (sym lg);
          point_words_lem = λ i b. in_front (point_words sides) ps i (length (point_words sides)) (omega arith) refl;
        };
        node_count_lem = omega (arith, ln);
        segment_count_lem = omega (arith, lg);
        node_words_lem = omega (arith, ln, rest (node_words sides (nodes P)) ns);
        segment_words_lem = omega (arith, lg, rest (segment_words P 0 sides) ss);
        point_words_lem = rest (point_words sides) ps;
      }

  module _ (z : (graph m work ns ss ps).answer.number ≡ 0) where
    desk_is : graph m work ns ss ps ≡ desk
    unfolding graph
    desk_is = (settled m k work (graph_checks k ns ss ps) parts).fine z

    missed : (first m work ≡ 0) × (first_hit (graph_checks k ns ss ps) ≡ 0)
    unfolding graph
    missed = both_miss (map_checks m work) (graph_checks k ns ss ps) (map_positive m work) (sym (number_is m k work (graph_checks k ns ss ps) parts) ∙ z)

    cleared_long : length (cleared m work) ≡ length work
    cleared_long =
        omega (
          arith,
          (passed m work missed.0).planes,
          length-append (replicate (work_words m) 0) (drop (work_words m) work),
          length-replicate {A = ℕ} (work_words m) 0,
          length-drop (work_words m) work,
        )

    same_map_checks : map_checks m (cleared m work) ≡ map_checks m work
    unfolding map_checks
    same_map_checks = rw cleared_long

    module _ (rs cs fs : List ℕ) where
      abbrev room : List Check
      room = face_checks l rs cs fs

      -- THE NUMBER is that of the stores of faces, in both
      abbrev n : ℕ
      n = first_hit room

      bench_number : first_hit (map_checks m (cleared m work) ++ (strange true ∷ room)) ≡ n
      unfolding first_hit
      bench_number = ap (λ (cs : List Check). first_hit (cs ++ (strange true ∷ room))) same_map_checks ∙ hit_late (map_checks m work) (strange true ∷ room) (map_positive m work) missed.0

      whole_number : first_hit (map_checks m work ++ (graph_checks l ns ss ps ++ room)) ≡ n
      unfolding graph_checks graph_list cut_list cuts
      whole_number =
          hit_late (map_checks m work) (graph_checks l ns ss ps ++ room) (map_positive m work) missed.0
          ∙ hit_late (graph_checks l ns ss ps) room (graph_positive l ns ss ps) missed.1

      late : Late room
      unfolding face_checks
      late = (omega arith, (omega arith, (omega arith, tt)))

      same_work : work_after m n (cleared m work) ≡ work_after m n work
      unfolding work_after
      same_work =
          rw (late_number_lem room late, work_after)
          (ap (λ (w : List ℕ). replicate (work_words m) 0 ++ w) (drop_at (replicate (work_words m) 0) (drop (work_words m) work) (work_words m) (length-replicate {A = ℕ} (work_words m) 0)))

      -- BOTH by that number
      abbrev bench : Outcome
      bench =
          record {
            answer = answer n l;
            stores = work_after m n (cleared m work) ∷ store_after n l.references rs ∷ store_after n l.contours cs ∷ store_after n l.faces fs ∷ [];
          }

      abbrev all : Outcome
      all =
          record {
            answer = answer n l;
            stores = work_after m n work ∷ store_after n l.nodes ns ∷ store_after n l.segments ss ∷ store_after n l.points ps ∷
                store_after n l.references rs ∷ store_after n l.contours cs ∷ store_after n l.faces fs ∷ [];
          }

      bench_is : assemble m g (cleared m work) rs cs fs ≡ bench
      unfolding assemble call
      bench_is =
          let fits : accepts g P ≡ true = true_accepts g P F (traced_accepted F g fronted) in
          let list : given_list m g ≡ l = traced_faces m g fronted in
          (λ i. call m l (cleared m work) (strange (fits i) ∷ room) (((list i).references, rs) ∷ ((list i).contours, cs) ∷ ((list i).faces, fs) ∷ []))
          ∙ ap (λ (n : ℕ). record {
            answer = answer n l;
            stores = work_after m n (cleared m work) ∷ store_after n l.references rs ∷ store_after n l.contours cs ∷ store_after n l.faces fs ∷ [];
          }) bench_number

      whole_is : whole m work ns ss ps rs cs fs ≡ all
      unfolding whole call
      whole_is =
          ap (λ (n : ℕ). record {
            answer = answer n l;
            stores = work_after m n work ∷ store_after n l.nodes ns ∷ store_after n l.segments ss ∷ store_after n l.points ps ∷
                store_after n l.references rs ∷ store_after n l.contours cs ∷ store_after n l.faces fs ∷ [];
          }) whole_number

      zero_number : (answer n l).number ≡ 0 → n ≡ 0
      unfolding answer counted
      zero_number e = rw (late_number_lem room late, answer) at e

      graph_stores : n ≡ 0 → written parts ≡ store_after n l.nodes ns ∷ store_after n l.segments ss ∷ store_after n l.points ps ∷ []
      unfolding store_after graph_list cut_list cuts
      graph_stores e = rw e refl

      in_two : InTwo desk bench all
      in_two = record { answer = refl; work = same_work; faces = refl; graph = λ e. graph_stores (zero_number e) }

      -- THE THEOREM
      pub desk_then_bench :
          InTwo (graph m work ns ss ps) (assemble m (traced_by (graph m work ns ss ps)) (get_or (graph m work ns ss ps).stores 0 []) rs cs fs) (whole m work ns ss ps rs cs fs)
      desk_then_bench =
          subst (λ (o : Outcome). InTwo o (assemble m (traced_by o) (get_or o.stores 0 []) rs cs fs) (whole m work ns ss ps rs cs fs)) (sym desk_is)
          (subst (λ (o : Outcome). InTwo desk o (whole m work ns ss ps rs cs fs)) (sym bench_is)
          (subst (λ (o : Outcome). InTwo desk bench o) (sym whole_is) in_two))
