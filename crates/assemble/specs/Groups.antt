-- Contours grouped by island: the first pixels of the islands in a list, and for each of them its contours, strung one after the other. The
-- word of a pixel's head is the first reference of its first contour.
use Rattle.std.specs.Prelude.{ℕ, ◌+◌, ◌*◌, ◌-◌, ◌<◌, ◌≤◌, ◌≡◌, Bool, cond, ◌&&◌, eqb, ltb, length, get_or, set}
use mathlib.Core.List.{List, [], map, Memᴰ as In}
use Rattle.rules.specs.Picture.{seen}
use Rattle.rules.specs.Lists.{keep, flat, upto, Distinct}
use Rattle.store.specs.Words.{part}
use Rattle.lattice.specs.declared.Size.{Size}
use Rattle.rules.specs.Records.{NONE}
use Rattle.assemble.specs.Words.{island_in, Starts}
use Rattle.assemble.specs.Changes.{Changed}
use Rattle.assemble.specs.Trails.{LINK, first_of, end_of, after, Along, Strung}

-- THE ISLANDS

-- the pixel p is the first of a painted island
abbrev pub leads : ℕ → ℕ → ℕ → List ℕ → List ℕ → ℕ → Bool
leads paints bound ids ls work p = ltb (seen bound (get_or ls p 0)) paints && eqb (get_or work (ids + p) 0) p

-- parts for the heads, the numbers of the pixels and the list, one behind the other
pub record Pages (heads ids list pixels : ℕ) (work : List ℕ) : Type 0 where
  pub apart : heads + pixels ≤ ids
  pub behind : ids + pixels ≤ list
  pub room : list + pixels ≤ length work
  pub low : pixels ≤ NONE

-- of the pixels before p those that lead are listed, m of them, and none has a contour
pub record Leaders (paints bound heads ids list : ℕ) (ls work₀ : List ℕ) (p m : ℕ) (work : List ℕ) : Type 0 where
  pub pages : Pages heads ids list (length ls) work₀
  pub changed : Changed heads (length ls) list (length ls) work₀ work
  pub few : m ≤ p
  pub listed : part work list m ≡ keep (leads paints bound ids ls work₀) (upto p 0)
  pub empty : (q : ℕ) → In q (keep (leads paints bound ids ls work₀) (upto p 0)) → get_or work (heads + q) 0 ≡ NONE

-- THE CONTOURS of each

-- the word at e leads on to the contour with the first reference h, if there is one
unfoldable pub linked : List ℕ → ℕ → ℕ → List ℕ
linked work e h = cond (eqb h NONE) work (set work e (LINK + h))

-- the contours cs, each along the trail and by itself, listed by their last references; parts for the trail of `span` references, the heads,
-- the numbers of the pixels and the list, one behind the other
pub record Loose (s : Size) (segs points : List ℕ) (trail span heads ids lasts count : ℕ) (work : List ℕ) (cs : List (List ℕ)) : Type 0 where
  pub apart : trail + span ≤ heads
  pub behind : heads + s.width * s.height ≤ ids
  pub last : ids + s.width * s.height ≤ lasts
  pub room : lasts + count ≤ length work
  pub total : count ≡ length cs
  pub once : Distinct (flat cs)
  pub below : (q : ℕ) → In q (flat cs) → q < span
  pub listed : (k : ℕ) → k < count → get_or work (lasts + k) 0 ≡ end_of (get_or cs k [])
  pub along : (k : ℕ) → k < count → Along trail work (get_or cs k [])
  pub closed : (k : ℕ) → k < count → after trail work (end_of (get_or cs k [])) ≡ first_of (get_or cs k [])
  pub begin : (k : ℕ) → k < count → Starts s segs points (first_of (get_or cs k []))
  pub inside : (k : ℕ) → k < count → island_in s segs points work ids (first_of (get_or cs k [])) < s.width * s.height
  pub empty : (k : ℕ) → k < count → get_or work (heads + island_in s segs points work ids (first_of (get_or cs k []))) 0 ≡ NONE

pub record Threadable (s : Size) (segs points : List ℕ) (trail heads ids lasts count : ℕ) (work : List ℕ) : Type 0 where
  pub cs : List (List ℕ)
  pub span : ℕ
  pub loose : Loose s segs points trail span heads ids lasts count work cs

-- the contour j is one of the island p
abbrev pub belongs : Size → List ℕ → List ℕ → ℕ → List ℕ → List (List ℕ) → ℕ → ℕ → Bool
belongs s segs points ids work cs p j = eqb (island_in s segs points work ids (first_of (get_or cs j []))) p

-- the contours of the island p from the contour k on
abbrev pub members : Size → List ℕ → List ℕ → ℕ → List ℕ → List (List ℕ) → ℕ → ℕ → List (List ℕ)
members s segs points ids work cs k p = map (λ j. get_or cs j []) (keep (belongs s segs points ids work cs p) (upto (length cs - k) k))

-- the contours from k on are strung by island, in order, where no island had one, and those before k are as they were
pub record Threads (s : Size) (segs points : List ℕ) (trail span heads ids : ℕ) (work₀ : List ℕ) (cs : List (List ℕ)) (k : ℕ) (work : List ℕ) : Type 0 where
  pub changed : Changed trail span heads (s.width * s.height) work₀ work
  pub fresh : (j : ℕ) → j < k → (q : ℕ) → In q (get_or cs j []) → after trail work q ≡ after trail work₀ q
  pub lists : (p : ℕ) → p < s.width * s.height → get_or work₀ (heads + p) 0 ≡ NONE → Strung trail work (get_or work (heads + p) 0) (members s segs points ids work₀ cs k p)

abbrev pub ThreadsAll : Size → List ℕ → List ℕ → ℕ → ℕ → ℕ → ℕ → ℕ → List ℕ → ℕ → List ℕ → Type 0
ThreadsAll s segs points trail heads ids lasts count work₀ k work =
    (cs : List (List ℕ)) (span : ℕ) → Loose s segs points trail span heads ids lasts count work₀ cs → Threads s segs points trail span heads ids work₀ cs k work
