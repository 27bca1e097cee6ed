-- What a tray means: each map gets what the single call gives with what is left by those before it.
use Prim.Native.Nat.{ℕ, ◌+◌, ◌*◌, ◌/◌, ◌≤◌}
use mathlib.Core.Path.{◌≡◌, refl, sym, ap, ◌∙◌}
use mathlib.Core.List.{List, [], ◌∷◌, ◌++◌, map, append_assoc}
use native.Mathlib.Omega.{arith}
use native.Mathlib.Nat.{zero-add}
use native.Mathlib.Decide.{dec_lt, ℕ_discrete}
use lib.ListN.{length, take, drop, length-append}
use lib.Seq.{take_at, drop_at, drop-drop, length-take-le}
use Rattle.rules.specs.Lists.{flat}
use Rattle.rules.specs.Graph.{nodes, segments}
use Rattle.rules.specs.Face.{faces}
use Rattle.rules.specs.Records.{contours_of}
use Rattle.rules.specs.Calls.{Map, picture_of, CutList, cuts, cut_list, Answer, counted, Outcome, whole}
use Rattle.rules.proofs.Lattice.Frame.{picture_framed}
use Rattle.rules.proofs.Tracing.Partition.{describes}
use Rattle.rules.proofs.Tracing.Counts.{has_step}
use Rattle.rules.proofs.CutList.Lengths.{length_nodes, length_segments, length_points, length_contours, length_faces}
use Rattle.rules.specs.Calls.{call as call_of}
use Rattle.calls.proofs.Called.{Called}
use Rattle.lattice.specs.declared.Size.{Size}
use Rattle.calls.specs.Outcome.{map_of}
use Rattle.tray.specs.Tray.{tiles, pixels, past, Six, Stores, both, work_of, stores_of, call, single, wrote, Run, onward, run, words, Afterwards, laid, tray}
use Rattle.tray.specs.Steps.{afterwards}
use Rattle.tray.proofs.Runs.{lengths, behind, total, run_append}
use Rattle.tray.proofs.Single.{single_past, single_call, call_settled, past_refused, single_within}
use Rattle.tray.proofs.Progress.{words_many, seam_front, seam_left, tray_laid}

-- RECORDS: the words of a cut list are those of the records that its counts name

-- the words of each store
abbrev pub listed : CutList → Stores
listed l = record { nodes = l.nodes; segments = l.segments; points = l.points; references = l.references; contours = l.contours; faces = l.faces }

pub wrote_list : (m : Map) → wrote (counted 0 (cut_list m)) ≡ lengths (listed (cut_list m))
unfolding wrote counted cut_list cuts
wrote_list m =
    let P = picture_of m in
    let F = picture_framed m.width m.height m.bound m.labels in
    let ss = segments P in
    let fs = faces P ss m.paints in
    let l = cut_list m in
    let ns : 6 * (length l.nodes / 6) ≡ length l.nodes = omega (arith, length_nodes ss (nodes P)) in
    let gs : 8 * (length l.segments / 8) ≡ length l.segments = omega (arith, length_segments P 0 ss) in
    let ps : 2 * (length l.points / 2) ≡ length l.points = omega (arith, length_points ss (has_step F (describes F))) in
    let cs : 2 * (length l.contours / 2) ≡ length l.contours = omega (arith, length_contours 0 (contours_of fs)) in
    let fw : 5 * (length l.faces / 5) ≡ length l.faces = omega (arith, length_faces P.w 0 fs) in
    λ i. record { nodes = ns i; segments = gs i; points = ps i; references = length l.references; contours = cs i; faces = fw i }

-- a call that answers 0 leaves the cut list's words in front of what each store held
pub call_fine : (m : Map) (work : List ℕ) (s : Stores) → (call m work s).answer.number ≡ 0
    → ((call m work s).answer ≡ counted 0 (cut_list m)) × (stores_of (call m work s) ≡ both ◌++◌ (listed (cut_list m)) (both drop (lengths (listed (cut_list m))) s))
call_fine m work s z =
    let e = (call_settled m work s).fine z in (ap (λ (o : Outcome). o.answer) e, ap stores_of e)

-- so what is proved of a call of `whole` that answers 0 holds of each such map of a tray: the demands speak of `Called`
pub called : (m : Map) (work : List ℕ) (s : Stores) → (call m work s).answer.number ≡ 0 → m.paints ≤ 4294967295 → Called m
unfolding call whole call_of
called m work s z word =
    let o = call m work s in
    let after = stores_of o in
    record {
      before = record { work = work; nodes = s.nodes; segments = s.segments; points = s.points; references = s.references; contours = s.contours; faces = s.faces };
      answer = o.answer;
      after = record { work = work_of o; nodes = after.nodes; segments = after.segments; points = after.points; references = after.references; contours = after.contours; faces = after.faces };
      promise = refl;
      zero = z;
      word = word;
    }

-- one that refuses leaves each store as it was
pub call_refused : (m : Map) (work : List ℕ) (s : Stores) → ((call m work s).answer.number ≡ 0 → ⊥) → stores_of (call m work s) ≡ s
call_refused m work s k =
    elim (dec_lt 3 (call m work s).answer.number) [
      | yes h ↦ ap stores_of ((call_settled m work s).late (omega (arith, h)))
      | no h ↦ ap stores_of ((call_settled m work s).early (omega (arith, k)) (omega (arith, h)))
    ]

past_keeps : (t : Size) (work : List ℕ) (s : Stores) → stores_of (past t work s) ≡ s
unfolding past
past_keeps t work s = refl

module _ (t : Size) (start : ℕ) (labels work : List ℕ) (s : Stores) where
  abbrev o : Outcome
  o = single t start labels work s

  pub single_refused : (o.answer.number ≡ 0 → ⊥) → stores_of o ≡ s
  single_refused k =
      elim (dec_lt (length labels) (start + pixels t)) [
        | yes h ↦ ap stores_of (single_past t start labels work s h) ∙ past_keeps t work s
        | no h ↦ let e = single_call t start labels work s (omega (arith, h)) in
            ap stores_of e ∙ call_refused (map_of t (take (pixels t) (drop start labels))) work s (λ z. k (ap (λ (r : Outcome). r.answer.number) e ∙ z))
      ]

  -- the map that the single call is made for, when it answers 0
  pub single_fits : o.answer.number ≡ 0 → start + pixels t ≤ length labels
  single_fits z =
      elim (dec_lt (length labels) (start + pixels t)) [
        | yes h ↦ absurd (past_refused t work s (ap (λ (r : Outcome). r.answer.number) (sym (single_past t start labels work s h)) ∙ z))
        | no h ↦ omega (arith, h)
      ]

  abbrev own_map : Map
  own_map = map_of t (take (pixels t) (drop start labels))

  fine_parts : o.answer.number ≡ 0
      → (wrote o.answer ≡ lengths (listed (cut_list own_map))) × (stores_of o ≡ both ◌++◌ (listed (cut_list own_map)) (both drop (lengths (listed (cut_list own_map))) s))
  fine_parts z =
      let e = single_call t start labels work s (single_fits z) in
      let c = call_fine own_map work s (ap (λ (r : Outcome). r.answer.number) (sym e) ∙ z) in
      (ap wrote (ap (λ (r : Outcome). r.answer) e ∙ c.0) ∙ wrote_list own_map, ap stores_of e ∙ c.1)

  -- its records are the rules' words
  pub single_records : o.answer.number ≡ 0 → both take (wrote o.answer) (stores_of o) ≡ listed (cut_list own_map)
  single_records z = let p = fine_parts z in (λ i. both take (p.0 i) (p.1 i)) ∙ seam_front (listed (cut_list own_map)) (both drop (lengths (listed (cut_list own_map))) s)

  -- and behind them each store is as it was
  pub single_rest : both drop (wrote o.answer) (stores_of o) ≡ both drop (wrote o.answer) s
  single_rest =
      elim (ℕ_discrete o.answer.number 0) [
        | yes z ↦ let p = fine_parts z in
            (λ i. both drop (p.0 i) (p.1 i)) ∙ seam_left (listed (cut_list own_map)) (both drop (lengths (listed (cut_list own_map))) s) ∙ ap (λ (n : Six ℕ). both drop n s) (sym p.0)
        | no k ↦ ap (both drop (wrote o.answer)) (single_refused k)
      ]

-- WHAT IS LEFT of each store is what it held behind the records of the maps before

drop_more : (n : ℕ) (r x s : List ℕ) → n ≤ length x → drop (length r) (drop n s) ≡ drop (length (take n x ++ r)) s
drop_more n r x s h =
    let e : n + length r ≡ length (take n x ++ r) = omega (arith, length-append (take n x) r, length-take-le n x h) in
    drop-drop (length r) n s ∙ ap (λ (k : ℕ). drop k s) e

pub left_is : (ts : List Size) (start : ℕ) (labels work : List ℕ) (s : Stores) → (run ts start labels work s).left ≡ both drop (lengths (run ts start labels work s).records) s
unfolding run
left_is [] start labels work s = refl
left_is (t ∷ ts) start labels work s =
    let o = single t start labels work s in
    let n = wrote o.answer in
    let x = stores_of o in
    let r = run ts (start + pixels t) labels (work_of o) (both drop n x) in
    let w = single_within t start labels work s in
    left_is ts (start + pixels t) labels (work_of o) (both drop n x)
    ∙ ap (both drop (lengths r.records)) (single_rest t start labels work s)
    ∙ (λ i. record {
      nodes = drop_more n.nodes r.records.nodes x.nodes s.nodes w.nodes i;
      segments = drop_more n.segments r.records.segments x.segments s.segments w.segments i;
      points = drop_more n.points r.records.points x.points s.points w.points i;
      references = drop_more n.references r.records.references x.references s.references w.references i;
      contours = drop_more n.contours r.records.contours x.contours s.contours w.contours i;
      faces = drop_more n.faces r.records.faces x.faces s.faces w.faces i;
    })

-- an answer for each map
pub run_answers : (ts : List Size) (start : ℕ) (labels work : List ℕ) (s : Stores) → length (run ts start labels work s).answers ≡ length ts
unfolding run
run_answers [] start labels work s = refl
run_answers (t ∷ ts) start labels work s =
    let o = single t start labels work s in
    let h = run_answers ts (start + pixels t) labels (work_of o) (both drop (wrote o.answer) (stores_of o)) in omega (arith, h)

pub words_append : (xs ys : List Answer) → flat (map words (xs ++ ys)) ≡ flat (map words xs) ++ flat (map words ys)
unfolding flat
words_append [] ys = refl
words_append (a ∷ xs) ys = ap (λ (l : List ℕ). words a ++ l) (words_append xs ys) ∙ sym (append_assoc (words a) (flat (map words xs)) (flat (map words ys)))

-- the words w of a store, behind k others
found : (f w r l : List ℕ) (k n : ℕ) → length f ≡ k → length w ≡ n → take n (drop k ((f ++ (w ++ r)) ++ l)) ≡ w
found f w r l k n a b =
    ap (λ (z : List ℕ). take n (drop k z)) (append_assoc f (w ++ r) l)
    ∙ ap (take n) (drop_at f ((w ++ r) ++ l) k a ∙ append_assoc w r l)
    ∙ take_at w (r ++ l) n b

-- THE SHARE OF A MAP: the map t, behind the maps ts and before the maps us, in a tray that answers 0
module _ (mode : ℕ) (maps labels work : List ℕ) (s : Stores) (answers : List ℕ) (ts : List Size) (t : Size) (us : List Size) where
  -- what the maps before it did
  abbrev pub earlier : Run
  earlier = run ts 0 labels work s

  -- the single call on its own labels, with the rest of each store behind their records
  abbrev pub own : Outcome
  own = single t (total ts) labels earlier.work (both drop (lengths earlier.records) s)

  pub record Share : Type 0 where
    -- its eight words, behind those of the maps before it
    pub answer : take 8 (drop (8 * length ts) (tray mode maps labels work s answers).answers) ≡ words own.answer
    -- its records, behind theirs
    pub records : both take (wrote own.answer) (both drop (lengths earlier.records) (tray mode maps labels work s answers).stores) ≡ both take (wrote own.answer) (stores_of own)
    -- which are the rules' words for it
    pub right : own.answer.number ≡ 0 → both take (wrote own.answer) (stores_of own) ≡ listed (cut_list (map_of t (take (pixels t) (drop (total ts) labels))))

  module _ (list : tiles mode maps ≡ ts ++ (t ∷ us)) (room : 8 * length (tiles mode maps) ≤ length answers) where
    later : Run
    later = run us (total ts + pixels t) labels (work_of own) (both drop (wrote own.answer) (stores_of own))

    whole_run : run (tiles mode maps) 0 labels work s ≡ behind earlier.answers earlier.records (onward own later)
    unfolding run later
    whole_run =
        ap (λ (k : List Size). run k 0 labels work s) list ∙ run_append ts (t ∷ us) 0 labels work s
        ∙ (λ i. behind earlier.answers earlier.records (run (t ∷ us) (zero-add (total ts) i) labels earlier.work (left_is ts 0 labels work s i)))

    pub share : Share
    unfolding flat
    share =
        let n = wrote own.answer in
        let x = stores_of own in
        let w = single_within t (total ts) labels earlier.work (both drop (lengths earlier.records) s) in
        let whole-tray = tray_laid mode maps labels work s answers room ∙ ap (λ (r : Run). laid r answers) whole_run in
        let front = earlier.answers in
        record {
          answer =
              ap (λ (a : Afterwards). take 8 (drop (8 * length ts) a.answers)) whole-tray
              ∙ ap (λ (l : List ℕ). take 8 (drop (8 * length ts) (l ++ drop (8 * length (front ++ (own.answer ∷ later.answers))) answers))) (words_append front (own.answer ∷ later.answers))
              ∙ found (flat (map words front)) (words own.answer) (flat (map words later.answers)) (drop (8 * length (front ++ (own.answer ∷ later.answers))) answers) (8 * length ts) 8
              (words_many front ∙ ap (λ (k : ℕ). 8 * k) (run_answers ts 0 labels work s)) refl;
          records =
              ap (λ (a : Afterwards). both take n (both drop (lengths earlier.records) a.stores)) whole-tray
              ∙ (λ i. record {
                nodes = found earlier.records.nodes (take n.nodes x.nodes) later.records.nodes later.left.nodes (length earlier.records.nodes) n.nodes refl (length-take-le n.nodes x.nodes w.nodes) i;
                segments = found earlier.records.segments (take n.segments x.segments) later.records.segments later.left.segments (length earlier.records.segments) n.segments refl (length-take-le n.segments x.segments w.segments) i;
                points = found earlier.records.points (take n.points x.points) later.records.points later.left.points (length earlier.records.points) n.points refl (length-take-le n.points x.points w.points) i;
                references = found earlier.records.references (take n.references x.references) later.records.references later.left.references (length earlier.records.references) n.references refl (length-take-le n.references x.references w.references) i;
                contours = found earlier.records.contours (take n.contours x.contours) later.records.contours later.left.contours (length earlier.records.contours) n.contours refl (length-take-le n.contours x.contours w.contours) i;
                faces = found earlier.records.faces (take n.faces x.faces) later.records.faces later.left.faces (length earlier.records.faces) n.faces refl (length-take-le n.faces x.faces w.faces) i;
              });
          right = single_records t (total ts) labels earlier.work (both drop (lengths earlier.records) s);
        }

-- ONE OUTCOME: two results that keep the promise are one, number, answers and every store
pub one_outcome : (o : Afterwards) (n n' : ℕ) (work work' : List ℕ) (s s' : Stores) (answers answers' : List ℕ) → afterwards n work s answers ≡ o → afterwards n' work' s' answers' ≡ o
    → (n ≡ n') × (work ≡ work') × (s ≡ s') × (answers ≡ answers')
one_outcome o n n' work work' s s' answers answers' p q =
    let e = p ∙ sym q in (ap (λ (a : Afterwards). a.number) e, ap (λ (a : Afterwards). a.work) e, ap (λ (a : Afterwards). a.stores) e, ap (λ (a : Afterwards). a.answers) e)
