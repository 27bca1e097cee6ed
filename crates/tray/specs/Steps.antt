-- What the steps of a tray ask and leave.
use Rattle.std.specs.Prelude.{ℕ, ◌+◌, ◌<◌, ◌≤◌, ◌≡◌, Some, None, Result, List, ◌++◌, length, take, drop}
use Rattle.rules.specs.Calls.{Outcome}
use Rattle.lattice.specs.declared.Size.{Size}
use Rattle.calls.specs.declared.Counts.{Counts}
use Rattle.calls.specs.declared.Refused.{Refused}
use Rattle.calls.specs.Outcome.{answer_of}
use Rattle.tray.specs.declared.Places.{Places}
use Rattle.tray.specs.Tray.{Six, Stores, both, work_of, stores_of, single, wrote, Afterwards}

abbrev pub stores_with : List ℕ → List ℕ → List ℕ → List ℕ → List ℕ → List ℕ → Stores
stores_with ns ss ps rs cs fs = record { nodes = ns; segments = ss; points = ps; references = rs; contours = cs; faces = fs }

-- the tray's number and its stores
abbrev pub afterwards : ℕ → List ℕ → Stores → List ℕ → Afterwards
afterwards n work stores answers = record { number = n; work = work; stores = stores; answers = answers }

-- PLACES

-- how many words of each store hold records
abbrev pub used : Places → Six ℕ
used p = record { nodes = p.nodes; segments = p.segments; points = p.points; references = p.references; contours = p.contours; faces = p.faces }

-- of `held` labels: the exact sum of those before a map, or none where it is past them all
pub record Starts (held : ℕ) (p : Places) (start : ℕ) : Type 0 where
  pub past : held < start → p.labels ≡ None
  pub here : start ≤ held → p.labels ≡ Some start

-- a map's labels start at one of `held`, or behind the last
abbrev pub LabelsWithin : ℕ → Places → Type 0
LabelsWithin held p = (k : ℕ) → p.labels ≡ Some k → k ≤ held

-- no more words are used than there are
pub record Inside (p : Places) (s : Stores) : Type 0 where
  pub nodes : p.nodes ≤ length s.nodes
  pub segments : p.segments ≤ length s.segments
  pub points : p.points ≤ length s.points
  pub references : p.references ≤ length s.references
  pub contours : p.contours ≤ length s.contours
  pub faces : p.faces ≤ length s.faces

-- ONE MAP: the answer, and behind the words used what the single call leaves
pub record Tiled (o : Outcome) (front : Stores) (work' : List ℕ) (s' : Stores) (a : Result Counts Refused) : Type 0 where
  pub answer : answer_of a ≡ o.answer
  pub work : work' ≡ work_of o
  pub stores : s' ≡ both ◌++◌ front (stores_of o)

-- wherever its labels start
abbrev pub Tiles : Size → List ℕ → Places → List ℕ → Stores → List ℕ → Stores → Result Counts Refused → Type 0
Tiles t labels p work s work' s' a =
    (start : ℕ) → Starts (length labels) p start → Tiled (single t start labels work (both drop (used p) s)) (both take (used p) s) work' s' a

-- BEHIND IT

-- its labels
pub record LabelsPassed (p : Places) (size held : ℕ) (q : Places) : Type 0 where
  pub starts : (start : ℕ) → Starts held p start → Starts held q (start + size)
  pub within : LabelsWithin held q
  pub others : used q ≡ used p

-- its records: the sums are words of 64 bits
pub record Fits (p : Places) (a : Result Counts Refused) : Type 0 where
  pub nodes : p.nodes + (wrote (answer_of a)).nodes ≤ 18446744073709551615
  pub segments : p.segments + (wrote (answer_of a)).segments ≤ 18446744073709551615
  pub points : p.points + (wrote (answer_of a)).points ≤ 18446744073709551615
  pub references : p.references + (wrote (answer_of a)).references ≤ 18446744073709551615
  pub contours : p.contours + (wrote (answer_of a)).contours ≤ 18446744073709551615
  pub faces : p.faces + (wrote (answer_of a)).faces ≤ 18446744073709551615

pub record RecordsPassed (p : Places) (a : Result Counts Refused) (q : Places) : Type 0 where
  pub sums : used q ≡ both ◌+◌ (used p) (wrote (answer_of a))
  pub labels : q.labels ≡ p.labels
