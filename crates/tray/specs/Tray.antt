-- What a tray of maps answers and what it leaves in every lent store, for every input (docs/RULES.md, #108).
use Rattle.std.specs.Prelude.{ℕ, ◌+◌, ◌*◌, true, false, ◌||◌, List, [], ◌∷◌, ◌++◌, map, leb, ltb, eqb, length, get_or, take, drop}
use Rattle.rules.specs.Lists.{flat}
use Rattle.rules.specs.Calls.{Map, Answer, refused, Outcome, whole}
use Rattle.lattice.specs.declared.Size.{Size}
use Rattle.calls.specs.Outcome.{map_of}
use Rattle.calls.specs.Mode.{size_in}

-- THE LIST OF MAPS: three words for each, in one mode; an unfinished three is ignored
unfoldable pub tiles : ℕ → List ℕ → List Size
tiles mode [] = []
tiles mode (w ∷ []) = []
tiles mode (w ∷ h ∷ []) = []
tiles mode (w ∷ h ∷ p ∷ more) = size_in mode w h p ∷ tiles mode more

-- how many labels a map takes
abbrev pub pixels : Size → ℕ
pixels t = t.width * t.height

-- SIX OUTPUT STORES, and something for each of them

pub record Six (A : Type 0) : Type 0 where
  pub nodes : A
  pub segments : A
  pub points : A
  pub references : A
  pub contours : A
  pub faces : A

abbrev pub Stores : Type 0
Stores = Six (List ℕ)

abbrev pub same : {A : Type 0} → A → Six A
same a = record { nodes = a; segments = a; points = a; references = a; contours = a; faces = a }

abbrev pub both : {A B C : Type 0} → (A → B → C) → Six A → Six B → Six C
both f a b =
    record {
      nodes = f a.nodes b.nodes;
      segments = f a.segments b.segments;
      points = f a.points b.points;
      references = f a.references b.references;
      contours = f a.contours b.contours;
      faces = f a.faces b.faces;
    }

-- what a call left: the work store comes first, then the six
abbrev pub work_of : Outcome → List ℕ
work_of o = get_or o.stores 0 []

abbrev pub stores_of : Outcome → Stores
stores_of o =
    record {
      nodes = get_or o.stores 1 [];
      segments = get_or o.stores 2 [];
      points = get_or o.stores 3 [];
      references = get_or o.stores 4 [];
      contours = get_or o.stores 5 [];
      faces = get_or o.stores 6 [];
    }

-- ONE MAP, whose labels start at `start`, with what is left of the stores

-- its label part runs past the store: 1 when it applies, else 2; nothing is written
unfoldable pub past_number : Size → ℕ
past_number t = elim (ltb 16384 t.width || ltb 16384 t.height) [ true ↦ 1 | false ↦ 2 ]

unfoldable pub past : Size → List ℕ → Stores → Outcome
past t work left =
    record {
      answer = refused (past_number t);
      stores = work ∷ left.nodes ∷ left.segments ∷ left.points ∷ left.references ∷ left.contours ∷ left.faces ∷ [];
    }

-- the single call
unfoldable pub call : Map → List ℕ → Stores → Outcome
call m work left = whole m work left.nodes left.segments left.points left.references left.contours left.faces

-- the sum is exact: behind a part that runs past the store every later one does too, even one without labels
unfoldable pub single : Size → ℕ → List ℕ → List ℕ → Stores → Outcome
single t start labels work left =
    elim (leb (start + pixels t) (length labels)) [
      | true ↦ call (map_of t (take (pixels t) (drop start labels))) work left
      | false ↦ past t work left
    ]

-- how many words of records a call wrote into each store: none when it refused
unfoldable pub wrote : Answer → Six ℕ
wrote a =
    elim (eqb a.number 0) [
      | true ↦ record { nodes = 6 * a.nodes; segments = 8 * a.segments; points = 2 * a.points; references = a.references; contours = 2 * a.contours; faces = 5 * a.faces }
      | false ↦ same 0
    ]

-- MAP AFTER MAP

-- their answers, their records, the work store, and what is left of each store behind the records
pub record Run : Type 0 where
  pub answers : List Answer
  pub records : Stores
  pub work : List ℕ
  pub left : Stores

-- one map, and then the others
abbrev pub onward : Outcome → Run → Run
onward o r =
    record {
      answers = o.answer ∷ r.answers;
      records = both ◌++◌ (both take (wrote o.answer) (stores_of o)) r.records;
      work = r.work;
      left = r.left;
    }

unfoldable pub run : List Size → ℕ → List ℕ → List ℕ → Stores → Run
run [] start labels work left = record { answers = []; records = same []; work = work; left = left }
run (t ∷ ts) start labels work left =
    let o = single t start labels work left in
    onward o (run ts (start + pixels t) labels (work_of o) (both drop (wrote o.answer) (stores_of o)))

-- THE TRAY

-- eight words: the number, then the counts
abbrev pub words : Answer → List ℕ
words a = a.number ∷ a.nodes ∷ a.segments ∷ a.points ∷ a.references ∷ a.contours ∷ a.faces ∷ a.steps ∷ []

-- the tray's own number, and every lent store afterwards
pub record Afterwards : Type 0 where
  pub number : ℕ
  pub work : List ℕ
  pub stores : Stores
  pub answers : List ℕ

abbrev pub laid : Run → List ℕ → Afterwards
laid r answers =
    record {
      number = 0;
      work = r.work;
      stores = both ◌++◌ r.records r.left;
      answers = flat (map words r.answers) ++ drop (8 * length r.answers) answers;
    }

-- 18, with nothing written, when there are fewer than eight answer words for each map
unfoldable pub tray : ℕ → List ℕ → List ℕ → List ℕ → Stores → List ℕ → Afterwards
tray mode maps labels work stores answers =
    elim (ltb (length answers) (8 * length (tiles mode maps))) [
      | true ↦ record { number = 18; work = work; stores = stores; answers = answers }
      | false ↦ laid (run (tiles mode maps) 0 labels work stores) answers
    ]
