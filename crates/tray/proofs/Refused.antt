-- A refused map in a tray: the maps behind it answer and write as if its call had not been made.
use Prim.Native.Nat.{ℕ, ◌+◌, ◌*◌, ◌≤◌}
use mathlib.Core.Bool.{Bool, true, false, ◌||◌, not}
use mathlib.Core.Path.{◌≡◌, refl, sym, ap, subst, ◌∙◌}
use mathlib.Core.List.{List, [], ◌∷◌, ◌++◌}
use native.Mathlib.Omega.{arith}
use native.Mathlib.Decide.{dec_lt, ℕ_discrete}
use lib.Dec.{ltb, leb, eqb}
use lib.ListN.{length, take, drop, replicate, length-append, length-drop, length-replicate}
use borrow.Author.Tests.{leb-true}
use Rattle.rules.specs.Calls.{Map, cut_list, Answer, Outcome, Check, first_hit, work_words, map_checks, early, answer, work_after, store_after, whole}
use Rattle.rules.specs.Calls.{call as call_of}
use Rattle.rules.proofs.Ground.Booleans.{and_right}
use Rattle.calls.proofs.Checks.{hit_early, map_positive}
use Rattle.calls.proofs.Outcomes.{early_number, passed}
use Rattle.calls.proofs.Settled.{cleared}
use Rattle.lattice.specs.declared.Size.{Size}
use Rattle.calls.specs.Outcome.{map_of}
use Rattle.tray.specs.Tray.{pixels, past, Stores, same, both, work_of, stores_of, call, single, wrote, Run, run}
use Rattle.tray.proofs.Passing.{wrote_none}
use Rattle.tray.proofs.Runs.{behind}
use Rattle.tray.proofs.Single.{single_past, single_call, store_checks, call_settled, call_number}
use Rattle.tray.proofs.Trays.{single_refused}

-- THE STORES: the others get what it got, behind its labels
pub refused_between : (t : Size) (us : List Size) (start : ℕ) (labels work : List ℕ) (s : Stores)
    → ((single t start labels work s).answer.number ≡ 0 → ⊥)
    → run (t ∷ us) start labels work s
    ≡ behind ((single t start labels work s).answer ∷ []) (same []) (run us (start + pixels t) labels (work_of (single t start labels work s)) s)
unfolding run
refused_between t us start labels work s k =
    let o = single t start labels work s in
    let none = wrote_none o.answer k in
    let kept = single_refused t start labels work s k in
    λ i. record {
      answers = o.answer ∷ (run us (start + pixels t) labels (work_of o) (both drop (none i) (kept i))).answers;
      records = both ◌++◌ (both take (none i) (kept i)) (run us (start + pixels t) labels (work_of o) (both drop (none i) (kept i))).records;
      work = (run us (start + pixels t) labels (work_of o) (both drop (none i) (kept i))).work;
      left = (run us (start + pixels t) labels (work_of o) (both drop (none i) (kept i))).left;
    }

-- THE WORK STORE: of its words only their number matters

checks_same : (m : Map) (work work' : List ℕ) → length work ≡ length work' → map_checks m work ≡ map_checks m work'
unfolding map_checks
checks_same m work work' e = λ i.
    record { number = 1; hits = ltb 16384 m.width || ltb 16384 m.height } ∷
    record { number = 2; hits = not (eqb (length m.labels) (m.width * m.height)) } ∷
    record { number = 3; hits = ltb (e i) (work_words m) } ∷ []

after_long : (m : Map) (n : ℕ) (work work' : List ℕ) → length work ≡ length work' → length (work_after m n work) ≡ length (work_after m n work')
unfolding work_after
after_long m n work work' e = go (early n)
  where
    go : (b : Bool) → length {A = ℕ} (elim b [ true ↦ work | false ↦ replicate (work_words m) 0 ++ drop (work_words m) work ]) ≡ length {A = ℕ} (elim b [ true ↦ work' | false ↦ replicate (work_words m) 0 ++ drop (work_words m) work' ])
    go true = e
    go false =
        omega (arith, e, length-append (replicate (work_words m) 0) (drop (work_words m) work), length-append (replicate (work_words m) 0) (drop (work_words m) work'), length-drop (work_words m) work, length-drop (work_words m) work')

-- what two calls have in common
pub record Alike (o o' : Outcome) : Type 0 where
  pub answer : o.answer ≡ o'.answer
  pub stores : stores_of o ≡ stores_of o'
  pub long : length (work_of o) ≡ length (work_of o')

pub call_alike : (m : Map) (work work' : List ℕ) (s : Stores) → length work ≡ length work' → Alike (call m work s) (call m work' s)
unfolding call whole call_of
call_alike m work work' s e =
    let l = cut_list m in
    let more = store_checks m s in
    let n : ℕ = first_hit (map_checks m work ++ more) in
    let same_number : n ≡ first_hit (map_checks m work' ++ more) = ap (λ (cs : List Check). first_hit (cs ++ more)) (checks_same m work work' e) in
    let stores_at : ℕ → Stores = λ k. record {
      nodes = store_after k l.nodes s.nodes;
      segments = store_after k l.segments s.segments;
      points = store_after k l.points s.points;
      references = store_after k l.references s.references;
      contours = store_after k l.contours s.contours;
      faces = store_after k l.faces s.faces;
    } in
    record {
      answer = ap (λ (k : ℕ). answer k l) same_number;
      stores = ap stores_at same_number;
      long = after_long m n work work' e ∙ ap (λ (k : ℕ). length (work_after m k work')) same_number;
    }

past_alike : (t : Size) (work work' : List ℕ) (s : Stores) → length work ≡ length work' → Alike (past t work s) (past t work' s)
unfolding past
past_alike t work work' s e = record { answer = refl; stores = refl; long = e }

pub single_alike : (t : Size) (start : ℕ) (labels work work' : List ℕ) (s : Stores) → length work ≡ length work' → Alike (single t start labels work s) (single t start labels work' s)
single_alike t start labels work work' s e =
    elim (dec_lt (length labels) (start + pixels t)) [
      | yes h ↦ subst (λ (r : Outcome). Alike r (single t start labels work' s)) (sym (single_past t start labels work s h))
          (subst (λ (r : Outcome). Alike (past t work s) r) (sym (single_past t start labels work' s h)) (past_alike t work work' s e))
      | no h ↦ let k : start + pixels t ≤ length labels = omega (arith, h) in
          let m = map_of t (take (pixels t) (drop start labels)) in
          subst (λ (r : Outcome). Alike r (single t start labels work' s)) (sym (single_call t start labels work s k))
          (subst (λ (r : Outcome). Alike (call m work s) r) (sym (single_call t start labels work' s k)) (call_alike m work work' s e))
    ]

-- what two runs have in common
pub record Agree (r r' : Run) : Type 0 where
  pub answers : r.answers ≡ r'.answers
  pub records : r.records ≡ r'.records
  pub left : r.left ≡ r'.left

pub run_agree : (ts : List Size) (start : ℕ) (labels work work' : List ℕ) (s : Stores) → length work ≡ length work' → Agree (run ts start labels work s) (run ts start labels work' s)
unfolding run
run_agree [] start labels work work' s e = record { answers = refl; records = refl; left = refl }
run_agree (t ∷ ts) start labels work work' s e =
    let o = single t start labels work s in
    let o' = single t start labels work' s in
    let h = single_alike t start labels work work' s e in
    let rest : both drop (wrote o.answer) (stores_of o) ≡ both drop (wrote o'.answer) (stores_of o') = λ i. both drop (wrote (h.answer i)) (h.stores i) in
    let g = run_agree ts (start + pixels t) labels (work_of o) (work_of o') (both drop (wrote o.answer) (stores_of o)) h.long in
    let u : Stores → Run = λ d. run ts (start + pixels t) labels (work_of o') d in
    let answered = g.answers ∙ ap (λ (d : Stores). (u d).answers) rest in
    let recorded = g.records ∙ ap (λ (d : Stores). (u d).records) rest in
    record {
      answers = λ i. h.answer i ∷ answered i;
      records = λ i. both ◌++◌ (both take (wrote (h.answer i)) (h.stores i)) (recorded i);
      left = g.left ∙ ap (λ (d : Stores). (u d).left) rest;
    }

-- THE LENGTH of the work store stays

small : (n : ℕ) → early n ≡ true → n ≤ 3
unfolding early
small n e = leb-true n 3 (and_right (leb 1 n) (leb n 3) e)

late_long : (m : Map) (work : List ℕ) (s : Stores) → 4 ≤ (call m work s).answer.number → length (cleared m work) ≡ length work
late_long m work s h =
    elim (ℕ_discrete (first_hit (map_checks m work)) 0) [
      | yes z ↦ let p = (passed m work z).planes in
          omega (arith, p, length-append (replicate (work_words m) 0) (drop (work_words m) work), length-replicate {A = ℕ} (work_words m) 0, length-drop (work_words m) work)
      | no k ↦ let first = call_number m work s ∙ hit_early (map_checks m work) (store_checks m s) (map_positive m work) k in
          absurd (let few = small (first_hit (map_checks m work)) (early_number m work k) in omega (arith, h, first, few))
    ]

pub refused_long : (t : Size) (start : ℕ) (labels work : List ℕ) (s : Stores) → ((single t start labels work s).answer.number ≡ 0 → ⊥) → length (work_of (single t start labels work s)) ≡ length work
unfolding past
refused_long t start labels work s k =
    elim (dec_lt (length labels) (start + pixels t)) [
      | yes h ↦ ap (λ (r : Outcome). length (work_of r)) (single_past t start labels work s h)
      | no h ↦ let e = single_call t start labels work s (omega (arith, h)) in
          ap (λ (r : Outcome). length (work_of r)) e ∙ called (map_of t (take (pixels t) (drop start labels))) (λ z. k (ap (λ (r : Outcome). r.answer.number) e ∙ z))
    ]
  where
    called : (m : Map) → ((call m work s).answer.number ≡ 0 → ⊥) → length (work_of (call m work s)) ≡ length work
    called m n =
        elim (dec_lt 3 (call m work s).answer.number) [
          | yes h ↦ ap (λ (r : Outcome). length (work_of r)) ((call_settled m work s).late (omega (arith, h))) ∙ late_long m work s (omega (arith, h))
          | no h ↦ ap (λ (r : Outcome). length (work_of r)) ((call_settled m work s).early (omega (arith, n)) (omega (arith, h)))
        ]

-- A REFUSED MAP adds its own answer and takes its labels: all other answers, records and words left are as without its call
pub untouched : (t : Size) (us : List Size) (start : ℕ) (labels work : List ℕ) (s : Stores)
    → ((single t start labels work s).answer.number ≡ 0 → ⊥)
    → Agree (run (t ∷ us) start labels work s) (behind ((single t start labels work s).answer ∷ []) (same []) (run us (start + pixels t) labels work s))
untouched t us start labels work s k =
    let o = single t start labels work s in
    let e = refused_between t us start labels work s k in
    let g = run_agree us (start + pixels t) labels (work_of o) work s (refused_long t start labels work s k) in
    record {
      answers = ap (λ (r : Run). r.answers) e ∙ ap (λ (l : List Answer). o.answer ∷ l) g.answers;
      records = ap (λ (r : Run). r.records) e ∙ g.records;
      left = ap (λ (r : Run). r.left) e ∙ g.left;
    }
