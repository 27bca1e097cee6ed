-- The call for a sheet, put together from the calls `size` and `whole`.
use Prim.Native.Nat.{ℕ}
use mathlib.Core.Bool.{Bool, true, false}
use mathlib.Core.Path.{◌≡◌, refl, sym, ap, ◌∙◌}
use mathlib.Core.List.{List, [], ◌∷◌, ◌++◌, map, append-nil, append_assoc}
use native.Mathlib.Omega.{arith}
use lib.ListN.{get_or}
use Rattle.rules.specs.Calls.{Map, CutList, cut_list, Check, first_hit, counted, map_checks, graph_checks, face_checks, answer, work_after, store_after, Outcome, call, size, whole}
use Rattle.std.specs.Prelude.{Result, Ok, Err}
use Rattle.std.specs.Result.{result_and}
use Rattle.rules.specs.declared.Refusal.{Refusal}
use Rattle.rules.specs.declared.Refusal.TheVariants.{BadSheet}
use Rattle.rules.specs.Refusals.{number_in}
use Rattle.calls.specs.declared.Counts.{Counts}
use Rattle.calls.specs.declared.Refused.{Refused}
use Rattle.calls.specs.Outcome.{answer_of, answered_by, outcome}
use Rattle.calls.proofs.Refusals.{positive}
use Rattle.calls.proofs.Checks.{Positive, hit_early, hits_and, map_positive}
use Rattle.calls.proofs.Outcomes.{Late, first, refused_store, accepted_answer, accepted_work, number_late, store_kept}
use Rattle.calls.proofs.Settled.{number_is}
use Rattle.calls.proofs.Calls.{answered_number, renumbered}
use Rattle.sheet.specs.Sheet.{unfit_sheet}
use Rattle.sheet.specs.Call.{sheet_checks, whole_on_sheet}
use Rattle.sheet.specs.declared.Sheet.{Sheet}

-- a last check that does not hit
last_misses : (cs : List Check) (c : Check) → c.hits ≡ false → first_hit (cs ++ (c ∷ [])) ≡ first_hit cs
unfolding first_hit
last_misses [] c e = rw (e, first_hit)
last_misses (d ∷ cs) c e = go d.hits (last_misses cs c e)
  where
    go : (b : Bool) → first_hit (cs ++ (c ∷ [])) ≡ first_hit cs
        → ◌≡◌ {A = ℕ} (elim b [ true ↦ d.number | false ↦ first_hit (cs ++ (c ∷ [])) ]) (elim b [ true ↦ d.number | false ↦ first_hit cs ])
    go true f = refl
    go false f = f

-- with 16 behind it a check never passes
never_none : (room : Result (Unit {0}) Refusal) → number_in (result_and room (Err BadSheet)) ≡ 0 → ⊥
never_none (Ok u) e = omega arith
never_none (Err why) e = let h = positive why in omega arith

module _ (t : Sheet) (m : Map) (work ns ss ps rs cs fs : List ℕ) where
  abbrev l : CutList
  l = cut_list m

  abbrev more : List Check
  more = graph_checks l ns ss ps ++ face_checks l rs cs fs

  abbrev parts : List (List ℕ × List ℕ)
  parts = (l.nodes, ns) ∷ (l.segments, ss) ∷ (l.points, ps) ∷ (l.references, rs) ∷ (l.contours, cs) ∷ (l.faces, fs) ∷ []

  abbrev all : List Check
  all = more ++ sheet_checks t

  abbrev number : ℕ
  number = first_hit (map_checks m work ++ all)

  abbrev after : ℕ → Outcome
  after n = record { answer = answer n l; stores = work_after m n work ∷ map (λ p. store_after n p.0 p.1) parts }

  -- A SHEET THAT IS NOT REFUSED
  pub fit : unfit_sheet t ≡ false → whole m work ns ss ps rs cs fs ≡ whole_on_sheet t m work ns ss ps rs cs fs
  unfolding whole whole_on_sheet call sheet_checks
  fit e = ap after (sym (last_misses (map_checks m work ++ more) (record { number = 16; hits = unfit_sheet t }) e) ∙ ap first_hit (append_assoc (map_checks m work) more (sheet_checks t)))

  late : Late more
  unfolding graph_checks face_checks
  late = (omega arith, (omega arith, (omega arith, (omega arith, (omega arith, (omega arith, tt))))))

  all_late : Late all
  unfolding graph_checks face_checks sheet_checks
  all_late = (omega arith, (omega arith, (omega arith, (omega arith, (omega arith, (omega arith, (omega arith, tt)))))))

  positive_more : Positive more
  unfolding graph_checks face_checks
  positive_more = (omega arith, (omega arith, (omega arith, (omega arith, (omega arith, (omega arith, tt))))))

  sheet_hits : unfit_sheet t ≡ true → first_hit (sheet_checks t) ≡ 16
  unfolding sheet_checks first_hit
  sheet_hits u = rw (u, first_hit)

  -- A SHEET THAT IS REFUSED: what `size` left
  module _ (r : Result Counts Refused) (work' : List ℕ) (e : outcome r (work' ∷ []) ≡ size m work) where
    abbrev sized : ℕ
    sized = first_hit (map_checks m work ++ [])

    sized_first : sized ≡ first m work
    sized_first = ap first_hit (append-nil (map_checks m work))

    sized_answer : answer_of r ≡ answer sized l
    unfolding size call
    sized_answer = ap (λ o. o.answer) e

    sized_work : work' ≡ work_after m sized work
    unfolding size call
    sized_work = ap (λ o. get_or o.stores 0 []) e

    sized_number : (answer_of r).number ≡ first m work
    unfolding size
    sized_number = ap (λ o. o.answer.number) e ∙ number_is m l work [] [] ∙ sized_first

    sized_counts : first m work ≡ 0 → answer sized l ≡ counted 0 l
    unfolding first_hit
    sized_counts f = accepted_answer m work [] tt f l

    -- 1 to 3
    pub refused_early : ((answer_of r).number ≡ 0 → ⊥) → outcome r (work' ∷ ns ∷ ss ∷ ps ∷ rs ∷ cs ∷ fs ∷ []) ≡ whole_on_sheet t m work ns ss ps rs cs fs
    unfolding whole_on_sheet call
    refused_early n =
        let f : first m work ≡ 0 → ⊥ = λ z. n (sized_number ∙ z) in
        let same : sized ≡ number = sized_first ∙ sym (hit_early (map_checks m work) all (map_positive m work) f) in
        let kept : (words store : List ℕ) → store ≡ store_after number words store = λ words store. sym (refused_store m work all f words store) in
        λ i. record {
          answer = (sized_answer ∙ ap (λ (n : ℕ). answer n l) same) i;
          stores =
              (sized_work ∙ ap (λ (n : ℕ). work_after m n work) same) i ∷ kept l.nodes ns i ∷ kept l.segments ss i ∷ kept l.points ps i ∷
              kept l.references rs i ∷ kept l.contours cs i ∷ kept l.faces fs i ∷ [];
        }

  -- 4 to 9, and then 16
  module _ (c : Counts) (work' : List ℕ) (e : outcome (Ok c) (work' ∷ []) ≡ size m work) where
    pub refused_late : unfit_sheet t ≡ true → (room : Result (Unit {0}) Refusal) → (answer_of (Ok c) ≡ counted 0 l → number_in room ≡ first_hit more)
        → outcome (answered_by (result_and room (Err BadSheet)) c) (work' ∷ ns ∷ ss ∷ ps ∷ rs ∷ cs ∷ fs ∷ []) ≡ whole_on_sheet t m work ns ss ps rs cs fs
    unfolding whole_on_sheet call
    refused_late u room k =
        let q : Result (Unit {0}) Refusal = result_and room (Err BadSheet) in
        let n : ℕ = number_in q in
        let f : first m work ≡ 0 = sym (sized_number (Ok c) work' e) in
        let counts : answer_of (Ok c) ≡ counted 0 l = sized_answer (Ok c) work' e ∙ sized_counts (Ok c) work' e f in
        let hit : n ≡ first_hit all = hits_and more (sheet_checks t) positive_more room (Err BadSheet) (k counts) (sym (sheet_hits u)) in
        let is : number ≡ n = number_late m work all all_late f ∙ sym hit in
        let some : number ≡ 0 → ⊥ = λ z. never_none room (sym is ∙ z) in
        let kept : (words store : List ℕ) → store ≡ store_after number words store = λ words store. store_kept number words store some in
        λ i. record {
          answer = (answered_number q c ∙ renumbered n c l counts ∙ ap (λ (n : ℕ). counted n l) hit ∙ sym (accepted_answer m work all all_late f l)) i;
          stores =
              (sized_work (Ok c) work' e ∙ accepted_work m work [] tt f ∙ sym (accepted_work m work all all_late f)) i ∷ kept l.nodes ns i ∷ kept l.segments ss i ∷
              kept l.points ps i ∷ kept l.references rs i ∷ kept l.contours cs i ∷ kept l.faces fs i ∷ [];
        }
