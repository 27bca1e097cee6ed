-- Contours found so far, over any segments that the words of the graph stand for.
use Rattle.std.specs.Prelude.{ℕ, ◌+◌, ◌*◌, ◌<◌, ◌≤◌, ◌≡◌, Bool, true, false, cond, not, ltb, length, get_or}
use mathlib.Core.List.{List, [], ◌∷◌, ◌++◌, map, Memᴰ as In}
use Rattle.rules.specs.Lists.{flat, keep, upto, among}
use Rattle.rules.specs.Picture.{Picture, Dart}
use Rattle.rules.specs.Records.{NONE}
use Rattle.rules.specs.Face.{refs, region, is_open, next, discover, contours}
use Rattle.lattice.specs.declared.Size.{Size}
use Rattle.lattice.specs.Size.{pic}
use Rattle.assemble.specs.Words.{region_in, open_in}
use Rattle.assemble.specs.Changes.{Changed}
use Rattle.assemble.specs.Drawn.{Drawn}
use Rattle.assemble.specs.Trails.{first_of, end_of, after, Along}

abbrev pub is_painted : Picture → List (List Dart) → ℕ → List ℕ → Bool
is_painted P ss paints c = ltb (region P ss (get_or c 0 0)) paints

-- the words from `lasts` on are the last references of the contours ks, k of them
pub record Listed (lasts k : ℕ) (ks : List (List ℕ)) (work : List ℕ) : Type 0 where
  pub count : k ≡ length ks
  pub words : (i : ℕ) → i < length ks → get_or work (lasts + i) 0 ≡ get_or (map end_of ks) i 0

-- two parts of the work words: the trail of all references, and the list of the contours of painted regions
pub record Room (P : Picture) (ss : List (List Dart)) (paints trail lasts : ℕ) (work₀ work : List ℕ) : Type 0 where
  pub apart : trail + 2 * length ss ≤ lasts
  pub space : lasts + length (contours P ss paints) ≤ length work
  pub changed : Changed trail (2 * length ss) lasts (length (contours P ss paints)) work₀ work

-- the word of the reference q where the contours cs are found: the next one, or none
unfoldable pub trail_of : Picture → List (List Dart) → List (List ℕ) → ℕ → ℕ
trail_of P ss cs q = cond (among q (flat cs)) (next P ss q) NONE

-- the sides of open segments before r are done
pub record Stage (s : Size) (ls nodes segs : List ℕ) (ss : List (List Dart)) (trail lasts : ℕ) (work₀ : List ℕ) (r k : ℕ) (work : List ℕ) : Type 0 where
  pub cs : List (List ℕ)
  pub drawn : Drawn s ls nodes segs ss
  pub room : Room (pic s ls) ss s.paints trail lasts work₀ work
  pub whole : discover (pic s ls) ss [] (upto r 0) ≡ cs
  pub seen : (q : ℕ) → q < 2 * length ss → after trail work q ≡ trail_of (pic s ls) ss cs q
  pub listed : Listed lasts k (keep (is_painted (pic s ls) ss s.paints) cs) work

-- THE LOOP over all references, n of them

-- there is a stage with r references done
pub record Begun (s : Size) (ls nodes segs : List ℕ) (trail lasts n r k : ℕ) (work : List ℕ) : Type 0 where
  pub ss : List (List Dart)
  pub work₀ : List ℕ
  pub stage : Stage s ls nodes segs ss trail lasts work₀ r k work
  pub total : n ≡ 2 * length ss

-- from any first stage on
abbrev pub Through : Size → List ℕ → List ℕ → List ℕ → ℕ → ℕ → ℕ → List ℕ → ℕ → ℕ → List ℕ → Type 0
Through s ls nodes segs trail lasts n work r k work' =
    (ss : List (List Dart)) (work₀ : List ℕ) → n ≡ 2 * length ss → Stage s ls nodes segs ss trail lasts work₀ 0 0 work → Stage s ls nodes segs ss trail lasts work₀ r k work'

-- RINGS

-- the contours of painted regions when the rings before r are done too
unfoldable pub ringed : Picture → List (List Dart) → ℕ → ℕ → List (List ℕ)
ringed P ss paints r = keep (is_painted P ss paints) (discover P ss [] (refs ss) ++ map (λ r. r ∷ []) (keep (λ r. not (is_open P ss r)) (upto r 0)))

-- only what the words of the segments say of regions and rings counts
pub record Sided (P : Picture) (segs : List ℕ) (ss : List (List Dart)) : Type 0 where
  pub regions : (r : ℕ) → r < 2 * length ss → region_in segs r ≡ region P ss r
  pub opens : (r : ℕ) → r < 2 * length ss → open_in segs r ≡ is_open P ss r

pub record RingStage (s : Size) (segs : List ℕ) (P : Picture) (ss : List (List Dart)) (trail lasts : ℕ) (work₀ : List ℕ) (r k : ℕ) (work : List ℕ) : Type 0 where
  pub sided : Sided P segs ss
  pub room : Room P ss s.paints trail lasts work₀ work
  -- each ring before r leads back to itself, and nothing has changed in the trail of the others
  pub rings : (q : ℕ) → q < r → is_open P ss q ≡ false → after trail work q ≡ q
  pub opens : (q : ℕ) → q < 2 * length ss → is_open P ss q ≡ true → after trail work q ≡ after trail work₀ q
  pub listed : Listed lasts k (ringed P ss s.paints r) work

pub record RingBegun (s : Size) (segs : List ℕ) (trail lasts n r k : ℕ) (work : List ℕ) : Type 0 where
  pub P : Picture
  pub ss : List (List Dart)
  pub work₀ : List ℕ
  pub stage : RingStage s segs P ss trail lasts work₀ r k work
  pub total : n ≡ 2 * length ss

abbrev pub RingThrough : Size → List ℕ → ℕ → ℕ → ℕ → ℕ → List ℕ → ℕ → ℕ → List ℕ → Type 0
RingThrough s segs trail lasts n k work r k' work' =
    (P : Picture) (ss : List (List Dart)) (work₀ : List ℕ) → n ≡ 2 * length ss → RingStage s segs P ss trail lasts work₀ 0 k work → RingStage s segs P ss trail lasts work₀ r k' work'

-- ALL

-- no trail yet
pub record Ready (s : Size) (ls nodes segs : List ℕ) (ss : List (List Dart)) (trail lasts n : ℕ) (work : List ℕ) : Type 0 where
  pub drawn : Drawn s ls nodes segs ss
  pub total : n ≡ 2 * length ss
  pub apart : trail + 2 * length ss ≤ lasts
  pub space : lasts + length (contours (pic s ls) ss s.paints) ≤ length work
  pub blank : (q : ℕ) → q < 2 * length ss → after trail work q ≡ NONE

pub record Readied (s : Size) (ls nodes segs : List ℕ) (trail lasts n : ℕ) (work : List ℕ) : Type 0 where
  pub ss : List (List Dart)
  pub ready : Ready s ls nodes segs ss trail lasts n work

-- the contours of painted regions, by their last references, and the words that go along each
pub record Finds (s : Size) (ls : List ℕ) (ss : List (List Dart)) (trail lasts : ℕ) (work : List ℕ) (k : ℕ) (work' : List ℕ) : Type 0 where
  pub listed : Listed lasts k (contours (pic s ls) ss s.paints) work'
  pub changed : Changed trail (2 * length ss) lasts (length (contours (pic s ls) ss s.paints)) work work'
  pub along : (c : List ℕ) → In c (contours (pic s ls) ss s.paints) → Along trail work' c × (after trail work' (end_of c) ≡ first_of c)

abbrev pub FindsAll : Size → List ℕ → List ℕ → List ℕ → ℕ → ℕ → ℕ → List ℕ → ℕ → List ℕ → Type 0
FindsAll s ls nodes segs trail lasts n work k work' = (ss : List (List Dart)) → Ready s ls nodes segs ss trail lasts n work → Finds s ls ss trail lasts work k work'
