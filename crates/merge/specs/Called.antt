-- What a call took and what it left, as the rules have them, and what its steps ask and leave.
use Rattle.std.specs.Prelude.{ℕ, ◌*◌, ◌≤◌, Bool, false, cond, not, ◌&&◌, ◌||◌, ◌≡◌, List, ℤ, ltb, eqb, length, get_or, replicate, Option, Some, None, Result, Ok, Err}
use Rattle.rules.specs.Calls.{Map, first_hit, work_words}
use Rattle.rules.specs.Refusals.{number_of, number_in}
use Rattle.rules.specs.declared.Refusal.{Refusal}
use Rattle.merge.specs.Merge.{start, pairs, settled, merges, limit_of, stray, region_words, checks_when, Outcome}
use Rattle.merge.specs.Balance.{Painted}
use Rattle.merge.specs.Stored.{Held, pairs_in}
use Rattle.merge.specs.Leaves.{Left}

-- the limit at which a merge is made, if one is
abbrev pub asked : ℤ → ℕ → Option ℕ
asked limit paints = cond (merges limit paints) (Some (limit_of limit)) None

-- the answer, and every lent store afterwards
abbrev pub outcome : Result ℕ Refusal → List ℕ → List ℕ → List ℕ → List ℕ → Outcome
outcome answer labels colours work store = record {
  number = elim answer [ Ok paints ↦ 0 | Err refusal ↦ number_of refusal ];
  paints = elim answer [ Ok paints ↦ paints | Err refusal ↦ 0 ];
  labels = labels;
  colours = colours;
  work = work;
  store = store;
}

-- the answer in two words, as C programs have it
abbrev pub answered : List ℕ → List ℕ → List ℕ → List ℕ → List ℕ → Outcome
answered ws labels colours work store = record { number = get_or ws 0 0; paints = get_or ws 1 0; labels = labels; colours = colours; work = work; store = store }

-- CHECKS

-- what no check refused
pub record Passed (m : Map) (merging : Bool) (colours work store : List ℕ) : Type 0 where
  pub wide : m.width ≤ 16384
  pub high : m.height ≤ 16384
  pub size : length m.labels ≡ m.width * m.height
  pub painted : (merging && stray m.paints m.labels) ≡ false
  pub words : work_words m ≤ length work
  pub rooms : (merging && (not (eqb (length colours) (3 * m.paints)) || ltb (length store) (region_words m))) ≡ false

-- the first check that hits, if one does
pub record Checked (m : Map) (merging : Bool) (colours work store : List ℕ) (r : Result (Unit {0}) Refusal) : Type 0 where
  pub number : number_in r ≡ first_hit (checks_when merging m colours work store)
  pub passes : number_in r ≡ 0 → Passed m merging colours work store

-- STEPS

-- a map that can be merged
pub record Sound (m : Map) : Type 0 where
  pub wide : m.width ≤ 16384
  pub high : m.height ≤ 16384
  pub size : length m.labels ≡ m.width * m.height
  pub painted : Painted m
  pub some : 2 ≤ m.paints
  pub few : m.paints ≤ 4294967295

pub record Starts (m : Map) (colours store : List ℕ) : Type 0 where
  pub sound : Sound m
  pub bytes : 3 * m.paints ≤ length colours
  pub rooms : region_words m ≤ length store

pub record Started (m : Map) (colours store store' : List ℕ) : Type 0 where
  pub long : length store' ≡ length store
  pub held : Held m.paints (start m colours) store'

-- the pairs in their order, from the front of the work store on
pub record Ranks (m : Map) (work : List ℕ) : Type 0 where
  pub sound : Sound m
  pub words : work_words m ≤ length work

pub record Ranked (m : Map) (colours work : List ℕ) (r : ℕ) (work' : List ℕ) : Type 0 where
  pub long : length work' ≡ length work
  pub room : 2 * r ≤ length work
  pub list : pairs_in work' r ≡ pairs m (start m colours)

pub record Runs (m : Map) (colours work store : List ℕ) : Type 0 where
  pub starts : Starts m colours store
  pub words : work_words m ≤ length work

pub record Ran (m : Map) (limit : ℕ) (colours work store : List ℕ) (r : ℕ) (labels' colours' work' store' : List ℕ) : Type 0 where
  pub pixels : length labels' ≡ length m.labels
  pub bytes : length colours' ≡ length colours
  pub words : length work' ≡ length work
  pub long : length store' ≡ length store
  pub few : r ≤ length m.labels
  pub left : Left (settled m colours limit) m.labels colours r labels' colours'

-- and both stores zero
pub record Merged (m : Map) (limit : ℕ) (colours work store : List ℕ) (r : ℕ) (labels' colours' work' store' : List ℕ) : Type 0 where
  pub pixels : length labels' ≡ length m.labels
  pub bytes : length colours' ≡ length colours
  pub words : work' ≡ replicate (length work) 0
  pub rooms : store' ≡ replicate (length store) 0
  pub left : Left (settled m colours limit) m.labels colours r labels' colours'
