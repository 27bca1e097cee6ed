-- The writer by its stages: the map is counted; 1 to 3 end it there, then 4 to 9, 19 and 13; and then every store is written.
use Prim.Native.Nat.{ℕ, ◌*◌}
use mathlib.Core.Bool.{true, false, not, ◌||◌}
use mathlib.Core.Path.{◌≡◌, sym, ap, ◌∙◌}
use mathlib.Core.List.{List, [], ◌∷◌, ◌++◌, append_assoc}
use native.Mathlib.Omega.{arith}
use lib.Dec.{ltb, eqb}
use lib.ListN.{length, drop, replicate, length-append, length-drop, length-replicate}
use lib.Seq.{drop_at}
use borrow.Author.Tests.{ne_eqb}
use Rattle.std.specs.Prelude.{Result}
use Rattle.std.specs.Result.{result_and}
use Rattle.rules.specs.declared.Refusal.{Refusal}
use Rattle.rules.specs.Refusals.{number_in}
use Rattle.rules.specs.Calls.{Map, CutList, cut_list, counted, refused, Check, first_hit, map_checks, work_words, graph_checks, face_checks, store_after, call, size, whole}
use Rattle.calls.proofs.Checks.{Positive, hits_and, both_miss}
use Rattle.calls.proofs.Outcomes.{Late, first, passed, number_late, refused_answer, refused_work, refused_store, accepted_answer, accepted_work, store_kept}
use Rattle.calls.proofs.Settled.{cleared}
use Rattle.jobfile.specs.JobFile.{waste_free, file_of, file_checks, Written, write}

-- the file's length for a number
abbrev length_for : ℕ → ℕ → ℕ
length_for k size = elim (eqb k 0) [ true ↦ size | false ↦ 0 ]

none_for : (k size : ℕ) → (k ≡ 0 → ⊥) → length_for k size ≡ 0
none_for k size h = rw (ne_eqb k 0 h, length_for)

module _ (m : Map) (work ns ss ps rs cs fs file : List ℕ) where
  abbrev n : Map
  n = waste_free m

  abbrev l : CutList
  l = cut_list n

  -- 4 to 9
  abbrev stores : List Check
  stores = graph_checks l ns ss ps ++ face_checks l rs cs fs

  abbrev pub store_number : ℕ
  store_number = first_hit stores

  -- and then 19 and 13
  abbrev more : List Check
  more = graph_checks l ns ss ps ++ (face_checks l rs cs fs ++ file_checks m (file_of m) file)

  abbrev pub late_number : ℕ
  late_number = first_hit more

  more_late : Late more
  unfolding graph_checks face_checks file_checks
  more_late = (omega arith, (omega arith, (omega arith, (omega arith, (omega arith, (omega arith, (omega arith, (omega arith, tt))))))))

  stores_late : Late stores
  unfolding graph_checks face_checks
  stores_late = (omega arith, (omega arith, (omega arith, (omega arith, (omega arith, (omega arith, tt))))))

  stores_positive : Positive stores
  unfolding graph_checks face_checks
  stores_positive = (omega arith, (omega arith, (omega arith, (omega arith, (omega arith, (omega arith, tt))))))

  joined : stores ++ file_checks m (file_of m) file ≡ more
  joined = append_assoc (graph_checks l ns ss ps) (face_checks l rs cs fs) (file_checks m (file_of m) file)

  -- the checks of the stores and of the file, in that order
  pub late_is : (held paid : Result (Unit {0}) Refusal) → number_in held ≡ store_number → number_in paid ≡ first_hit (file_checks m (file_of m) file)
      → number_in (result_and held paid) ≡ late_number
  late_is held paid e f = hits_and stores (file_checks m (file_of m) file) stores_positive held paid e f ∙ ap first_hit joined

  pub both_zero : late_number ≡ 0 → (store_number ≡ 0) × (first_hit (file_checks m (file_of m) file) ≡ 0)
  both_zero z = both_miss stores (file_checks m (file_of m) file) stores_positive (ap first_hit joined ∙ z)

  -- EARLY: nothing was looked at
  module _ (h : first n work ≡ 0 → ⊥) where
    pub size_early : size n work ≡ record { answer = refused (first n work); stores = work ∷ [] }
    unfolding size call
    size_early = λ i. record { answer = refused_answer n work [] h l i; stores = refused_work n work [] h i ∷ [] }

    pub write_early : write m work ns ss ps rs cs fs file
        ≡ record { outcome = record { answer = refused (first n work); stores = work ∷ ns ∷ ss ∷ ps ∷ rs ∷ cs ∷ fs ∷ file ∷ [] }; length = 0 }
    unfolding write call
    write_early =
        let a = refused_answer n work more h l in
        let size = length (file_of m) in
        λ i. record {
          outcome = record {
            answer = a i;
            stores =
                refused_work n work more h i ∷ refused_store n work more h l.nodes ns i ∷ refused_store n work more h l.segments ss i
                ∷ refused_store n work more h l.points ps i ∷ refused_store n work more h l.references rs i
                ∷ refused_store n work more h l.contours cs i ∷ refused_store n work more h l.faces fs i
                ∷ refused_store n work more h (file_of m) file i ∷ [];
          };
          length = (ap (λ a. length_for a.number size) a ∙ none_for (first n work) size h) i;
        }

  -- LATE: the map was counted
  module _ (z : first n work ≡ 0) where
    pub size_late : size n work ≡ record { answer = counted 0 l; stores = cleared n work ∷ [] }
    unfolding size call first_hit
    size_late = λ i. record { answer = accepted_answer n work [] tt z l i; stores = accepted_work n work [] tt z i ∷ [] }

    abbrev after : ℕ → Written
    after k =
        record {
          outcome = record {
            answer = counted k l;
            stores =
                cleared n work ∷ store_after k l.nodes ns ∷ store_after k l.segments ss ∷ store_after k l.points ps ∷ store_after k l.references rs
                ∷ store_after k l.contours cs ∷ store_after k l.faces fs ∷ store_after k (file_of m) file ∷ [];
          };
          length = length_for k (length (file_of m));
        }

    pub write_after : write m work ns ss ps rs cs fs file ≡ after late_number
    unfolding write call counted
    write_after =
        let a = accepted_answer n work more more_late z l in
        let e = number_late n work more more_late z in
        let k : ℕ → ℕ = λ j. length_for j (length (file_of m)) in
        let s : (words store : List ℕ) → store_after (first_hit (map_checks n work ++ more)) words store ≡ store_after (first_hit more) words store = λ words store. ap (λ j. store_after j words store) e in
        λ i. record {
          outcome = record {
            answer = a i;
            stores =
                accepted_work n work more more_late z i ∷ s l.nodes ns i ∷ s l.segments ss i ∷ s l.points ps i ∷ s l.references rs i
                ∷ s l.contours cs i ∷ s l.faces fs i ∷ s (file_of m) file i ∷ [];
          };
          length = k (a i).number;
        }

    -- 4 to 9, 19 and 13: no store but the work words changed
    pub write_refused : (late_number ≡ 0 → ⊥) → write m work ns ss ps rs cs fs file
        ≡ record { outcome = record { answer = counted late_number l; stores = cleared n work ∷ ns ∷ ss ∷ ps ∷ rs ∷ cs ∷ fs ∷ file ∷ [] }; length = 0 }
    write_refused h =
        let k = late_number in
        let s : (words store : List ℕ) → store_after k words store ≡ store = λ words store. sym (store_kept k words store h) in
        write_after
        ∙ (λ i. record {
          outcome = record {
            answer = counted k l;
            stores =
                cleared n work ∷ s l.nodes ns i ∷ s l.segments ss i ∷ s l.points ps i ∷ s l.references rs i
                ∷ s l.contours cs i ∷ s l.faces fs i ∷ s (file_of m) file i ∷ [];
          };
          length = none_for k (length (file_of m)) h i;
        })

    -- 0: every store is written
    pub write_fine : late_number ≡ 0 → write m work ns ss ps rs cs fs file ≡ after 0
    write_fine e = write_after ∙ ap after e

    -- the whole call over the work words that the counting left
    again_long : length (cleared n work) ≡ length work
    again_long =
        let h = (passed n work z).planes in
        length-append (replicate (work_words n) 0) (drop (work_words n) work) ∙ omega (arith, length-replicate {A = ℕ} (work_words n) 0, length-drop (work_words n) work, h)

    again_first : first n (cleared n work) ≡ 0
    unfolding map_checks
    again_first =
        ap
        (λ (k : ℕ).
        first_hit
        (record { number = 1; hits = ltb 16384 n.width || ltb 16384 n.height } ∷
        record { number = 2; hits = not (eqb (length n.labels) (n.width * n.height)) } ∷
        record { number = 3; hits = ltb k (work_words n) } ∷ []))
        again_long
        ∙ z

    cleared_twice : cleared n (cleared n work) ≡ cleared n work
    cleared_twice =
        let zeros : List ℕ = replicate (work_words n) 0 in
        ap (λ (t : List ℕ). zeros ++ t) (drop_at zeros (drop (work_words n) work) (work_words n) (length-replicate {A = ℕ} (work_words n) 0))

    pub whole_fine : store_number ≡ 0 → whole n (cleared n work) ns ss ps rs cs fs ≡ record {
      answer = counted 0 l;
      stores =
          cleared n work ∷ store_after 0 l.nodes ns ∷ store_after 0 l.segments ss ∷ store_after 0 l.points ps ∷ store_after 0 l.references rs
          ∷ store_after 0 l.contours cs ∷ store_after 0 l.faces fs ∷ [];
    }
    unfolding whole call
    whole_fine e =
        let w = cleared n work in
        let ds = stores in
        let k : first_hit (map_checks n w ++ ds) ≡ 0 = number_late n w ds stores_late again_first ∙ e in
        let s : (words store : List ℕ) → store_after (first_hit (map_checks n w ++ ds)) words store ≡ store_after 0 words store = λ words store. ap (λ j. store_after j words store) k in
        λ i. record {
          answer = (accepted_answer n w ds stores_late again_first l ∙ ap (λ j. counted j l) e) i;
          stores =
              (accepted_work n w ds stores_late again_first ∙ cleared_twice) i ∷ s l.nodes ns i ∷ s l.segments ss i ∷ s l.points ps i
              ∷ s l.references rs i ∷ s l.contours cs i ∷ s l.faces fs i ∷ [];
        }
