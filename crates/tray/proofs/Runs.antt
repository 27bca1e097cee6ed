-- A run of maps taken apart: what the first of them do, and then the others with what is left.
use Prim.Native.Nat.{ℕ, ◌+◌}
use mathlib.Core.Path.{◌≡◌, sym, ap, ◌∙◌}
use mathlib.Core.List.{List, [], ◌∷◌, ◌++◌, append_assoc, append-nil}
use native.Mathlib.Nat.{add-zero, add_assoc}
use lib.ListN.{length, take, drop, take-append-drop}
use Rattle.rules.specs.Calls.{Answer, Outcome}
use Rattle.lattice.specs.declared.Size.{Size}
use Rattle.tray.specs.Tray.{pixels, Six, Stores, same, both, work_of, stores_of, single, wrote, Run, onward, run}

-- SIX STORES AT A TIME

abbrev pub lengths : Stores → Six ℕ
lengths s = record { nodes = length s.nodes; segments = length s.segments; points = length s.points; references = length s.references; contours = length s.contours; faces = length s.faces }

pub both_assoc : (a b c : Stores) → both ◌++◌ (both ◌++◌ a b) c ≡ both ◌++◌ a (both ◌++◌ b c)
both_assoc a b c = λ i. record {
  nodes = append_assoc a.nodes b.nodes c.nodes i;
  segments = append_assoc a.segments b.segments c.segments i;
  points = append_assoc a.points b.points c.points i;
  references = append_assoc a.references b.references c.references i;
  contours = append_assoc a.contours b.contours c.contours i;
  faces = append_assoc a.faces b.faces c.faces i;
}

pub both_nil : (a : Stores) → both ◌++◌ a (same []) ≡ a
both_nil a = λ i. record {
  nodes = append-nil a.nodes i;
  segments = append-nil a.segments i;
  points = append-nil a.points i;
  references = append-nil a.references i;
  contours = append-nil a.contours i;
  faces = append-nil a.faces i;
}

pub both_split : (n : Six ℕ) (a : Stores) → both ◌++◌ (both take n a) (both drop n a) ≡ a
both_split n a = λ i. record {
  nodes = take-append-drop n.nodes a.nodes i;
  segments = take-append-drop n.segments a.segments i;
  points = take-append-drop n.points a.points i;
  references = take-append-drop n.references a.references i;
  contours = take-append-drop n.contours a.contours i;
  faces = take-append-drop n.faces a.faces i;
}

-- BEHIND OTHER MAPS

-- a run with the answers and records of the maps before it
abbrev pub behind : List Answer → Stores → Run → Run
behind done rs r = record { answers = done ++ r.answers; records = both ◌++◌ rs r.records; work = r.work; left = r.left }

pub behind_one : (done : List Answer) (rs : Stores) (o : Outcome) (r : Run)
    → behind (done ++ (o.answer ∷ [])) (both ◌++◌ rs (both take (wrote o.answer) (stores_of o))) r ≡ behind done rs (onward o r)
behind_one done rs o r = λ i. record {
  answers = append_assoc done (o.answer ∷ []) r.answers i;
  records = both_assoc rs (both take (wrote o.answer) (stores_of o)) r.records i;
  work = r.work;
  left = r.left;
}

-- how many labels the maps take together
unfoldable pub total : List Size → ℕ
total [] = 0
total (t ∷ ts) = pixels t + total ts

-- the maps behind others get what those leave
pub run_append : (ts us : List Size) (start : ℕ) (labels work : List ℕ) (s : Stores)
    → run (ts ++ us) start labels work s
    ≡ behind (run ts start labels work s).answers (run ts start labels work s).records
    (run us (start + total ts) labels (run ts start labels work s).work (run ts start labels work s).left)
unfolding run total
run_append [] us start labels work s = ap (λ (k : ℕ). run us k labels work s) (sym (add-zero start))
run_append (t ∷ ts) us start labels work s =
    let o = single t start labels work s in
    let r = run ts (start + pixels t) labels (work_of o) (both drop (wrote o.answer) (stores_of o)) in
    ap (onward o) (run_append ts us (start + pixels t) labels (work_of o) (both drop (wrote o.answer) (stores_of o)))
    ∙ (λ i. let u = run us (add_assoc start (pixels t) (total ts) i) labels r.work r.left in record {
      answers = o.answer ∷ (r.answers ++ u.answers);
      records = sym (both_assoc (both take (wrote o.answer) (stores_of o)) r.records u.records) i;
      work = u.work;
      left = u.left;
    })
