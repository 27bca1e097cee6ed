-- A refused map cut out of the list, and its labels out of the store: the other maps answer and write the same.
use Prim.Native.Nat.{ℕ, ◌+◌, ◌*◌, ◌≤◌}
use mathlib.Core.Path.{◌≡◌, refl, sym, ap, ◌∙◌}
use mathlib.Core.List.{List, [], ◌∷◌, ◌++◌, map, append_assoc}
use native.Mathlib.Omega.{arith}
use native.Mathlib.Decide.{dec_lt}
use native.Mathlib.Nat.{zero-add}
use lib.ListN.{length, take, drop, length-append, length-drop}
use lib.Seq.{take_at, drop_at, drop-drop, take-append-le, drop-append-le}
use Rattle.rules.specs.Lists.{flat}
use Rattle.rules.specs.Calls.{Answer, Outcome}
use Rattle.lattice.specs.declared.Size.{Size}
use Rattle.calls.specs.Outcome.{map_of}
use Rattle.tray.specs.Tray.{tiles, pixels, Stores, both, work_of, stores_of, call, single, wrote, Run, onward, run, words, Afterwards, laid, tray}
use Rattle.tray.proofs.Runs.{total, behind, run_append}
use Rattle.tray.proofs.Single.{single_past, single_call}
use Rattle.tray.proofs.Progress.{words_many, tray_laid}
use Rattle.tray.proofs.Trays.{run_answers, words_append, left_is, own}
use Rattle.tray.proofs.Refused.{Agree, untouched}

-- LABELS ELSEWHERE: a map whose part holds the same labels, as far from the store's end

-- two places in two label stores, with the same labels from there on
pub record Alongside (labels labels' : List ℕ) (start start' : ℕ) : Type 0 where
  pub same_labels : drop start labels ≡ drop start' labels'
  pub same_left : start + length labels' ≡ start' + length labels

next : {labels labels' : List ℕ} {start start' : ℕ} → Alongside labels labels' start start' → (n : ℕ) → Alongside labels labels' (start + n) (start' + n)
next {labels} {labels'} {start} {start'} a n = record {
  same_labels = sym (drop-drop n start labels) ∙ ap (drop n) a.same_labels ∙ drop-drop n start' labels';
  same_left = let e = a.same_left in omega (arith, e);
}

single_moved : {labels labels' : List ℕ} {start start' : ℕ} → Alongside labels labels' start start' → (t : Size) (work : List ℕ) (s : Stores)
    → single t start labels work s ≡ single t start' labels' work s
single_moved {labels} {labels'} {start} {start'} a t work s =
    let e = a.same_left in
    elim (dec_lt (length labels) (start + pixels t)) [
      | yes h ↦ single_past t start labels work s h ∙ sym (single_past t start' labels' work s (omega (arith, h, e)))
      | no k ↦ single_call t start labels work s (omega (arith, k))
          ∙ ap (λ (ls : List ℕ). call (map_of t (take (pixels t) ls)) work s) a.same_labels
          ∙ sym (single_call t start' labels' work s (omega (arith, k, e)))
    ]

run_moved : {labels labels' : List ℕ} (us : List Size) {start start' : ℕ} → Alongside labels labels' start start' → (work : List ℕ) (s : Stores)
    → run us start labels work s ≡ run us start' labels' work s
unfolding run
run_moved [] a work s = refl
run_moved {labels} {labels'} (t ∷ us) {start} {start'} a work s =
    let o = single t start labels work s in
    ap (onward o) (run_moved us (next a (pixels t)) (work_of o) (both drop (wrote o.answer) (stores_of o)))
    ∙ ap (λ (o : Outcome). onward o (run us (start' + pixels t) labels' (work_of o) (both drop (wrote o.answer) (stores_of o)))) (single_moved a t work s)

-- THE LABELS BEHIND the parts of some maps are not looked at

part_front : (k n : ℕ) (xs ys : List ℕ) → k + n ≤ length xs → take n (drop k (xs ++ ys)) ≡ take n (drop k xs)
part_front k n xs ys h = ap (take n) (drop-append-le k xs ys (omega (arith, h))) ∙ take-append-le n (drop k xs) ys (omega (arith, h, length-drop k xs))

single_front : (front more more' : List ℕ) (t : Size) (start : ℕ) → start + pixels t ≤ length front → (work : List ℕ) (s : Stores)
    → single t start (front ++ more) work s ≡ single t start (front ++ more') work s
single_front front more more' t start h work s =
    single_call t start (front ++ more) work s (omega (arith, h, length-append front more))
    ∙ ap (λ (ls : List ℕ). call (map_of t ls) work s) (part_front start (pixels t) front more h ∙ sym (part_front start (pixels t) front more' h))
    ∙ sym (single_call t start (front ++ more') work s (omega (arith, h, length-append front more')))

run_front : (front more more' : List ℕ) (ts : List Size) (start : ℕ) → start + total ts ≤ length front → (work : List ℕ) (s : Stores)
    → run ts start (front ++ more) work s ≡ run ts start (front ++ more') work s
unfolding run total
run_front front more more' [] start h work s = refl
run_front front more more' (t ∷ ts) start h work s =
    let o = single t start (front ++ more) work s in
    ap (onward o) (run_front front more more' ts (start + pixels t) (omega (arith, h)) (work_of o) (both drop (wrote o.answer) (stores_of o)))
    ∙ ap (λ (o : Outcome). onward o (run ts (start + pixels t) (front ++ more') (work_of o) (both drop (wrote o.answer) (stores_of o))))
    (single_front front more more' t start (omega (arith, h)) work s)

-- ANSWER WORDS, taken apart behind n answers

words_front : (xs ys : List Answer) (more : List ℕ) (n : ℕ) → length xs ≡ n → take (8 * n) (flat (map words (xs ++ ys)) ++ more) ≡ flat (map words xs)
words_front xs ys more n e =
    ap (λ (l : List ℕ). take (8 * n) (l ++ more)) (words_append xs ys) ∙ ap (take (8 * n)) (append_assoc (flat (map words xs)) (flat (map words ys)) more)
    ∙ take_at (flat (map words xs)) (flat (map words ys) ++ more) (8 * n) (words_many xs ∙ ap (λ (k : ℕ). 8 * k) e)

words_behind : (xs ys : List Answer) (more : List ℕ) (n m : ℕ) → length xs ≡ n → length ys ≡ m
    → take (8 * m) (drop (8 * n) (flat (map words (xs ++ ys)) ++ more)) ≡ flat (map words ys)
words_behind xs ys more n m e f =
    ap (λ (l : List ℕ). take (8 * m) (drop (8 * n) (l ++ more))) (words_append xs ys)
    ∙ ap (λ (l : List ℕ). take (8 * m) (drop (8 * n) l)) (append_assoc (flat (map words xs)) (flat (map words ys)) more)
    ∙ ap (take (8 * m)) (drop_at (flat (map words xs)) (flat (map words ys) ++ more) (8 * n) (words_many xs ∙ ap (λ (k : ℕ). 8 * k) e))
    ∙ take_at (flat (map words ys)) more (8 * m) (words_many ys ∙ ap (λ (k : ℕ). 8 * k) f)

-- CUT OUT: the map t, between the maps ts and us, and its labels `between`
module _ (mode : ℕ) (maps maps' front between back work : List ℕ) (s : Stores) (answers answers' : List ℕ) (ts : List Size) (t : Size) (us : List Size) where
  -- with it and without it
  abbrev there : Afterwards
  there = tray mode maps (front ++ (between ++ back)) work s answers

  abbrev gone : Afterwards
  gone = tray mode maps' (front ++ back) work s answers'

  pub record CutOut : Type 0 where
    -- the answers before it, and those behind it
    pub earlier : take (8 * length ts) there.answers ≡ take (8 * length ts) gone.answers
    pub later : take (8 * length us) (drop (8 * (length ts + 1)) there.answers) ≡ take (8 * length us) (drop (8 * length ts) gone.answers)
    -- every word of every output store
    pub stores : there.stores ≡ gone.stores

  module _ (list : tiles mode maps ≡ ts ++ (t ∷ us)) (list' : tiles mode maps' ≡ ts ++ us) (before-it : length front ≡ total ts) (its_own : length between ≡ pixels t)
      (room : 8 * length (tiles mode maps) ≤ length answers) (room' : 8 * length (tiles mode maps') ≤ length answers')
      (refused : (own mode maps (front ++ (between ++ back)) work s answers ts t us).answer.number ≡ 0 → ⊥) where
    abbrev whole_store : List ℕ
    whole_store = front ++ (between ++ back)

    -- what the maps before it did, and then its call
    abbrev r : Run
    r = run ts 0 whole_store work s

    abbrev its : Outcome
    its = single t (total ts) whole_store r.work r.left

    abbrev r' : Run
    r' = run ts 0 (front ++ back) work s

    -- the maps behind it, without it
    abbrev v : Run
    v = run us (total ts) (front ++ back) r.work r.left

    still_refused : its.answer.number ≡ 0 → ⊥
    still_refused z = refused (ap (λ (l : Stores). (single t (total ts) whole_store r.work l).answer.number) (sym (left_is ts 0 whole_store work s)) ∙ z)

    alongside : Alongside whole_store (front ++ back) (total ts + pixels t) (total ts)
    alongside = record {
      same_labels =
          sym (drop-drop (pixels t) (total ts) whole_store) ∙ ap (drop (pixels t)) (drop_at front (between ++ back) (total ts) before-it)
          ∙ drop_at between back (pixels t) its_own ∙ sym (drop_at front back (total ts) before-it);
      same_left = omega (arith, its_own, length-append front (between ++ back), length-append between back, length-append front back);
    }

    moved : run us (total ts + pixels t) whole_store r.work r.left ≡ v
    moved = run_moved us alongside r.work r.left

    run_there : run (tiles mode maps) 0 whole_store work s ≡ behind r.answers r.records (run (t ∷ us) (total ts) whole_store r.work r.left)
    run_there =
        ap (λ (l : List Size). run l 0 whole_store work s) list ∙ run_append ts (t ∷ us) 0 whole_store work s
        ∙ ap (λ (k : ℕ). behind r.answers r.records (run (t ∷ us) k whole_store r.work r.left)) (zero-add (total ts))

    run_gone : run (tiles mode maps') 0 (front ++ back) work s ≡ behind r.answers r.records v
    run_gone =
        ap (λ (l : List Size). run l 0 (front ++ back) work s) list' ∙ run_append ts us 0 (front ++ back) work s
        ∙ ap (λ (k : ℕ). behind r'.answers r'.records (run us k (front ++ back) r'.work r'.left)) (zero-add (total ts))
        ∙ ap (λ (q : Run). behind q.answers q.records (run us (total ts) (front ++ back) q.work q.left))
        (run_front front back (between ++ back) ts 0 (omega (arith, before-it)) work s)

    agree : Agree (run (t ∷ us) (total ts) whole_store r.work r.left) (record { answers = its.answer ∷ v.answers; records = v.records; work = v.work; left = v.left })
    agree =
        let g = untouched t us (total ts) whole_store r.work r.left still_refused in
        record {
          answers = g.answers ∙ ap (λ (q : Run). its.answer ∷ q.answers) moved;
          records = g.records ∙ ap (λ (q : Run). q.records) moved;
          left = g.left ∙ ap (λ (q : Run). q.left) moved;
        }

    laid_there : there ≡ laid (run (tiles mode maps) 0 whole_store work s) answers
    laid_there = tray_laid mode maps whole_store work s answers room

    laid_gone : gone ≡ laid (run (tiles mode maps') 0 (front ++ back) work s) answers'
    laid_gone = tray_laid mode maps' (front ++ back) work s answers' room'

    words_there : there.answers ≡ flat (map words (r.answers ++ (its.answer ∷ v.answers))) ++ drop (8 * length (r.answers ++ (its.answer ∷ v.answers))) answers
    words_there =
        ap (λ (a : Afterwards). a.answers) laid_there ∙ ap (λ (q : Run). (laid q answers).answers) run_there
        ∙ ap (λ (l : List Answer). flat (map words (r.answers ++ l)) ++ drop (8 * length (r.answers ++ l)) answers) agree.answers

    words_gone : gone.answers ≡ flat (map words (r.answers ++ v.answers)) ++ drop (8 * length (r.answers ++ v.answers)) answers'
    words_gone = ap (λ (a : Afterwards). a.answers) laid_gone ∙ ap (λ (q : Run). (laid q answers').answers) run_gone

    pub cut_out : CutOut
    cut_out =
        let many = run_answers ts 0 whole_store work s in
        let behind-it = run_answers us (total ts) (front ++ back) r.work r.left in
        let x = its.answer in
        let tail = drop (8 * length (r.answers ++ (x ∷ v.answers))) answers in
        record {
          earlier =
              ap (take (8 * length ts)) words_there ∙ words_front r.answers (x ∷ v.answers) tail (length ts) many
              ∙ sym (ap (take (8 * length ts)) words_gone ∙ words_front r.answers v.answers (drop (8 * length (r.answers ++ v.answers)) answers') (length ts) many);
          later =
              ap (λ (l : List ℕ). take (8 * length us) (drop (8 * (length ts + 1)) l)) words_there
              ∙ ap (λ (l : List Answer). take (8 * length us) (drop (8 * (length ts + 1)) (flat (map words l) ++ tail))) (sym (append_assoc r.answers (x ∷ []) v.answers))
              ∙ words_behind (r.answers ++ (x ∷ [])) v.answers tail (length ts + 1) (length us) (omega (arith, length-append r.answers (x ∷ []), many)) behind-it
              ∙ sym (ap (λ (l : List ℕ). take (8 * length us) (drop (8 * length ts) l)) words_gone
              ∙ words_behind r.answers v.answers (drop (8 * length (r.answers ++ v.answers)) answers') (length ts) (length us) many behind-it);
          stores =
              ap (λ (a : Afterwards). a.stores) laid_there ∙ ap (λ (q : Run). (laid q answers).stores) run_there
              ∙ (λ i. both ◌++◌ (both ◌++◌ r.records (agree.records i)) (agree.left i))
              ∙ sym (ap (λ (a : Afterwards). a.stores) laid_gone ∙ ap (λ (q : Run). (laid q answers').stores) run_gone);
        }
