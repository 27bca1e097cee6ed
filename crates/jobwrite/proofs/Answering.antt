-- What the steps of the writer's code come to: its answer and its stores are those of the rules.
use Prim.Native.Nat.{ℕ}
use mathlib.Core.Path.{◌≡◌, refl, sym, ap, ◌∙◌, subst}
use mathlib.Core.List.{List, [], ◌∷◌, append-nil}
use lib.ListN.{length, get_or, take}
use Rattle.std.specs.Prelude.{Result, Ok, Err}
use Rattle.std.specs.Result.{result_and}
use Rattle.rules.specs.declared.Refusal.{Refusal}
use Rattle.rules.specs.Refusals.{number_in}
use native.Mathlib.Omega.{arith}
use Rattle.rules.specs.Calls.{Map, CutList, cut_list, Answer, counted, store_after, Outcome, first_hit, map_checks, size, whole}
use Rattle.lattice.specs.declared.Size.{Size}
use Rattle.calls.specs.declared.Counts.{Counts}
use Rattle.calls.specs.declared.Refused.{Refused}
use Rattle.calls.specs.Outcome.{map_with, answer_with, answer_of, answered_by, outcome}
use Rattle.calls.proofs.Refusals.{positive}
use Rattle.calls.proofs.Calls.{renumbered, answered_number}
use Rattle.calls.proofs.Outcomes.{first}
use Rattle.calls.proofs.Settled.{cleared, number_is}
use Rattle.jobfile.specs.JobFile.{write}
use Rattle.jobs.specs.declared.write.Job.{Job}
use Rattle.jobs.specs.Stored.{Put, file_number}
use Rattle.jobs.specs.Writes.{size_of, file_in, Front, Counted, Stands}
use Rattle.jobs.proofs.Standing.{counted_number, front_after, stands_put}
use Rattle.jobwrite.specs.Written.{job_of, written_as}
use Rattle.jobwrite.proofs.Stages.{store_number, late_number, late_is, both_zero, size_early, size_late, write_early, write_refused, write_fine, whole_fine}

abbrev store : ℕ → Outcome → List ℕ
store i o = get_or o.stores i []

module _ (w h p : ℕ) (ls work ns ss ps rs cs fs file : List ℕ) where
  -- the map that is counted and cut: the paint count is its bound
  abbrev s : Size
  s = record { width = w; height = h; paints = p; bound = p }

  abbrev m : Map
  m = map_with w h p p ls

  abbrev l : CutList
  l = cut_list m

  number_first : (r : Result Counts Refused) {work₁ : List ℕ} → outcome r (work₁ ∷ []) ≡ size m work → (answer_of r).number ≡ first m work
  unfolding size
  number_first r e = ap (λ o. o.answer.number) e ∙ (number_is m l work [] [] ∙ ap first_hit (append-nil (map_checks m work)))

  -- 1 to 3
  pub early_answered : (r : Refused) {work₁ : List ℕ} → outcome (Err r) (work₁ ∷ []) ≡ size m work
      → written_as (Err r) (work₁ ∷ ns ∷ ss ∷ ps ∷ rs ∷ cs ∷ fs ∷ file ∷ []) ≡ write m work ns ss ps rs cs fs file
  early_answered r e =
      let known = positive r.why in
      let number = number_first (Err r) e in
      let o : first m work ≡ 0 → ⊥ = λ z. omega (arith, known, number, z) in
      let q = e ∙ size_early m work ns ss ps rs cs fs file o in
      (λ i. record { outcome = record { answer = (q i).answer; stores = ap (store 0) q i ∷ ns ∷ ss ∷ ps ∷ rs ∷ cs ∷ fs ∷ file ∷ [] }; length = 0 })
      ∙ sym (write_early m work ns ss ps rs cs fs file o)

  -- the map was counted
  module _ (c : Counts) {work₁ : List ℕ} (e : outcome (Ok c) (work₁ ∷ []) ≡ size m work) where
    first_zero : first m work ≡ 0
    first_zero = sym (number_first (Ok c) e)

    sized : outcome (Ok c) (work₁ ∷ []) ≡ record { answer = counted 0 l; stores = cleared m work ∷ [] }
    sized = e ∙ size_late m work ns ss ps rs cs fs file first_zero

    pub counts : answer_with 0 c ≡ counted 0 l
    counts = ap (λ o. o.answer) sized

    counted_job : Counted m (job_of s c)
    unfolding counted
    counted_job = record {
      width = refl;
      height = refl;
      paints = refl;
      counts = ap (λ a. a.segments ∷ a.points ∷ a.references ∷ a.contours ∷ a.faces ∷ []) counts;
    }

    -- the room: 4 to 9, then 19 and 13
    pub room_late : (held paid : Result (Unit {0}) Refusal) {size : ℕ} → number_in held ≡ store_number m work ns ss ps rs cs fs file → size ≡ size_of (job_of s c)
        → number_in paid ≡ file_number p (length file) size → number_in (result_and held paid) ≡ late_number m work ns ss ps rs cs fs file
    room_late held paid d z f =
        late_is m work ns ss ps rs cs fs file held paid d (f ∙ (ap (file_number p (length file)) z ∙ counted_number m (job_of s c) counted_job file))

    module _ (room : Result (Unit {0}) Refusal) (g : number_in room ≡ late_number m work ns ss ps rs cs fs file) where
      numbered : answer_of (answered_by room c) ≡ counted (late_number m work ns ss ps rs cs fs file) l
      numbered = answered_number room c ∙ renumbered (number_in room) c l counts ∙ ap (λ (k : ℕ). counted k l) g

      number : (r : Result Counts Refused) → r ≡ answered_by room c → (answer_of r).number ≡ late_number m work ns ss ps rs cs fs file
      unfolding counted
      number r q = ap (λ (a : Answer). a.number) (ap answer_of q ∙ numbered)

      pub late_answered : (r : Refused) → Err r ≡ answered_by room c
          → written_as (Err r) (work₁ ∷ ns ∷ ss ∷ ps ∷ rs ∷ cs ∷ fs ∷ file ∷ []) ≡ write m work ns ss ps rs cs fs file
      late_answered r q =
          let known = positive r.why in
          let late = number (Err r) q in
          let answered : answer_of (Err r) ≡ counted (late_number m work ns ss ps rs cs fs file) l = ap answer_of q ∙ numbered in
          (λ i. record { outcome = record { answer = answered i; stores = ap (store 0) sized i ∷ ns ∷ ss ∷ ps ∷ rs ∷ cs ∷ fs ∷ file ∷ [] }; length = 0 })
          ∙ sym (write_refused m work ns ss ps rs cs fs file first_zero (λ z. omega (arith, known, late, z)))

      -- no store is short
      module _ {b : Counts} (q : Ok b ≡ answered_by room c) where
        late_zero : late_number m work ns ss ps rs cs fs file ≡ 0
        late_zero = sym (number (Ok b) q)

        stores_zero : store_number m work ns ss ps rs cs fs file ≡ 0
        stores_zero = (both_zero m work ns ss ps rs cs fs file late_zero).0

        file_zero : file_number p (length file) (size_of (job_of s c)) ≡ 0
        file_zero = counted_number m (job_of s c) counted_job file ∙ (both_zero m work ns ss ps rs cs fs file late_zero).1

        module _ (d : Result Counts Refused) {work₂ ns₂ ss₂ ps₂ rs₂ cs₂ fs₂ : List ℕ}
            (f : outcome d (work₂ ∷ ns₂ ∷ ss₂ ∷ ps₂ ∷ rs₂ ∷ cs₂ ∷ fs₂ ∷ []) ≡ whole m work₁ ns ss ps rs cs fs) where
          cut : outcome d (work₂ ∷ ns₂ ∷ ss₂ ∷ ps₂ ∷ rs₂ ∷ cs₂ ∷ fs₂ ∷ []) ≡ record {
            answer = counted 0 l;
            stores =
                cleared m work ∷ store_after 0 l.nodes ns ∷ store_after 0 l.segments ss ∷ store_after 0 l.points ps ∷ store_after 0 l.references rs
                ∷ store_after 0 l.contours cs ∷ store_after 0 l.faces fs ∷ [];
          }
          cut = f ∙ (ap (λ o. whole m (store 0 o) ns ss ps rs cs fs) sized ∙ whole_fine m work ns ss ps rs cs fs file first_zero stores_zero)

          front : (words held : List ℕ) {left : List ℕ} → left ≡ store_after 0 words held → Front words left
          front words held q = ap (take (length words)) q ∙ front_after 0 words held refl

          stands : Stands m ss₂ ps₂ rs₂ cs₂ fs₂
          stands = record {
            segments = front l.segments ss (ap (store 2) cut);
            points = front l.points ps (ap (store 3) cut);
            references = front l.references rs (ap (store 4) cut);
            contours = front l.contours cs (ap (store 5) cut);
            faces = front l.faces fs (ap (store 6) cut);
          }

          -- so the whole call does not refuse
          pub not_refused : {r : Refused} → d ≡ Err r → ⊥
          unfolding counted
          not_refused {r} x =
              let known = positive r.why in
              let none = ap (λ (o : Outcome). o.answer.number) cut in
              let number = ap (λ (q : Result Counts Refused). (answer_of q).number) x in
              omega (arith, known, none, number)

          pub fine_answered : {counts : Counts} → d ≡ Ok counts → (j : Job) (file₂ : List ℕ) (r : ℕ) → j ≡ job_of s c → Put file 0 (file_in j ss₂ ps₂ rs₂ cs₂ fs₂) file₂ r
              → written_as (Ok (record { counts = counts; length = r })) (work₂ ∷ ns₂ ∷ ss₂ ∷ ps₂ ∷ rs₂ ∷ cs₂ ∷ fs₂ ∷ file₂ ∷ []) ≡ write m work ns ss ps rs cs fs file
          fine_answered x j file₂ r same put =
              let put : Put file 0 (file_in (job_of s c) ss₂ ps₂ rs₂ cs₂ fs₂) file₂ r = subst (λ j. Put file 0 (file_in j ss₂ ps₂ rs₂ cs₂ fs₂) file₂ r) same put in
              let t = stands_put m (job_of s c) counted_job ss₂ ps₂ rs₂ cs₂ fs₂ stands file file₂ r file_zero put in
              (λ i. record {
                outcome = record {
                  answer = (ap answer_of (sym x) ∙ ap (λ (o : Outcome). o.answer) cut) i;
                  stores =
                      ap (store 0) cut i ∷ ap (store 1) cut i ∷ ap (store 2) cut i ∷ ap (store 3) cut i ∷ ap (store 4) cut i ∷ ap (store 5) cut i
                      ∷ ap (store 6) cut i ∷ t.0 i ∷ [];
                };
                length = t.1 i;
              })
              ∙ sym (write_fine m work ns ss ps rs cs fs file first_zero late_zero)
