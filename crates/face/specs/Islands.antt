-- The numbers of the pixels, from `ids` on in the work store, while islands are joined: each pixel names one of its island, not after itself.
use Rattle.std.specs.Prelude.{◌≡◌, Bool, cond, ◌&&◌, List, Option, Some, None, ℕ, suc, ◌+◌, ◌-◌, ◌*◌, ◌/◌, ◌%◌, ◌≤◌, ◌<◌, ltb, eqb, length, get_or, set}
use Rattle.rules.specs.Picture.{Picture, picture, OUTSIDE, one}
use Rattle.rules.specs.Face.{label_of, firsts, islands}
use Rattle.rules.proofs.Islands.Joined.{Step, Joined}
use Rattle.store.specs.Words.{Kept}
use Rattle.lattice.specs.declared.Size.{Size}
use Rattle.lattice.specs.Planes.{plane}
use Rattle.face.specs.declared.islands.Plan.{Plan}

abbrev pub no_island : ℕ
no_island = 4294967295

-- how many pixels there are
abbrev pub area : Plan → ℕ
area m = m.width * m.height

abbrev pub view : Plan → List ℕ → Picture
view m ls = picture m.width m.height m.bound ls

-- the word for the number of q
abbrev pub number : Plan → List ℕ → ℕ → ℕ
number m work q = get_or work (m.ids + q) 0

-- q belongs to an island
abbrev pub Inside : Plan → List ℕ → ℕ → Type 0
Inside m ls q = label_of (view m ls) q ≡ OUTSIDE → ⊥

pub record Sizes (m : Plan) (ls work : List ℕ) : Type 0 where
  pub labels : length ls ≡ area m
  pub small : area m < no_island
  pub room : m.ids + area m ≤ length work

-- TREES of the pixels before k

pub record Forest (m : Plan) (k : ℕ) (ls work : List ℕ) : Type 0 where
  pub sizes : Sizes m ls work
  pub few : k ≤ area m
  pub down : (q : ℕ) → q < k → Inside m ls q → number m work q ≤ q
  pub joined : (q : ℕ) → q < k → Inside m ls q → Joined (view m ls) q (number m work q)
  pub outside : (q : ℕ) → q < k → label_of (view m ls) q ≡ OUTSIDE → number m work q ≡ no_island

-- a value that each pixel shares with the one that it names
abbrev pub Shared : Plan → ℕ → List ℕ → List ℕ → (ℕ → ℕ) → Type 0
Shared m k ls work f = (q : ℕ) → q < k → Inside m ls q → f (number m work q) ≡ f q

-- two pixels of one tree: no such value tells them apart
pub record Tied (m : Plan) (k : ℕ) (ls work : List ℕ) (p q : ℕ) : Type 0 where
  pub same : (f : ℕ → ℕ) → Shared m k ls work f → f p ≡ f q

-- the trees have grown: what was tied still is
pub record Grown (m : Plan) (k : ℕ) (ls work work' : List ℕ) : Type 0 where
  pub forest : Forest m k ls work'
  pub ties : (f : ℕ → ℕ) → Shared m k ls work' f → Shared m k ls work f
  pub kept : Kept m.ids (m.ids + area m) work work'

-- a pixel of the trees
pub record Leaf (m : Plan) (k : ℕ) (ls work : List ℕ) (p : ℕ) : Type 0 where
  pub forest : Forest m k ls work
  pub within : p < k
  pub inside : Inside m ls p

-- r is the root of p's tree; roots stay roots
pub record Rooted (m : Plan) (k : ℕ) (ls : List ℕ) (p : ℕ) (work : List ℕ) (r : ℕ) (work' : List ℕ) : Type 0 where
  pub grown : Grown m k ls work work'
  pub root : number m work' r ≡ r
  pub within : r ≤ p
  pub joined : Joined (view m ls) p r
  pub tied : Tied m k ls work' p r
  pub roots : (q : ℕ) → q < k → number m work q ≡ q → number m work' q ≡ q

-- JOINING p with pixels before it

-- those in S that have its label are in its tree
pub record Met (m : Plan) (p : ℕ) (ls work work' : List ℕ) (S : ℕ → Type 0) : Type 0 where
  pub grown : Grown m (suc p) ls work work'
  pub hits : (q : ℕ) → S q → Step (view m ls) p q → Tied m (suc p) ls work' p q

-- q is a neighbour of p before it
pub record Before (m : Plan) (p q : ℕ) : Type 0 where
  pub earlier : q < p
  pub right : q % m.width ≤ suc (p % m.width)
  pub left : p % m.width ≤ suc (q % m.width)
  pub down : q / m.width ≤ suc (p / m.width)
  pub up : p / m.width ≤ suc (q / m.width)

-- `at` is p, or the pixel right above it
pub record Over (m : Plan) (x p at : ℕ) : Type 0 where
  pub earlier : at ≤ p
  pub column : x ≡ p % m.width
  pub straight : at % m.width ≡ x
  pub down : at / m.width ≤ p / m.width
  pub up : p / m.width ≤ suc (at / m.width)

-- the pixel left or right of `at`, which stands in the column x, if there is one
abbrev pub beside_left : ℕ → ℕ → Option ℕ
beside_left x at = cond (ltb 0 x) (Some (at - 1)) None

abbrev pub beside_right : ℕ → ℕ → ℕ → Option ℕ
beside_right width x at = cond (ltb (x + 1) width) (Some (at + 1)) None

abbrev pub LeftOf : Plan → ℕ → ℕ → Type 0
LeftOf m at q = (suc (q % m.width) ≡ at % m.width) × (q / m.width ≡ at / m.width)

abbrev pub RightOf : Plan → ℕ → ℕ → Type 0
RightOf m at q = (q % m.width ≡ suc (at % m.width)) × (q / m.width ≡ at / m.width)

-- q lies in the row above
abbrev pub Above : Plan → ℕ → ℕ → Type 0
Above m p q = suc (q / m.width) ≡ p / m.width

-- all pixels before k are joined with their neighbours before them
pub record Linked (m : Plan) (k : ℕ) (ls work : List ℕ) : Type 0 where
  pub forest : Forest m k ls work
  pub ties : (q r : ℕ) → q < k → r < k → Step (view m ls) q r → Tied m k ls work q r

-- while p is joined with the neighbours before it: its place, and what was linked before it
pub record Hand (m : Plan) (x p : ℕ) (ls work : List ℕ) : Type 0 where
  pub leaf : Leaf m (suc p) ls work p
  pub column : x ≡ p % m.width
  pub ties : (q r : ℕ) → q < p → r < p → Step (view m ls) q r → Tied m (suc p) ls work q r

pub record Links (m : Plan) (j : ℕ) (ls work : List ℕ) (k : ℕ) (work' : List ℕ) : Type 0 where
  pub linked : Linked m k ls work'
  pub kept : Kept m.ids (m.ids + area m) work work'

-- SETTLING: each pixel before i takes over the number of the one that it names

pub record Settled (m : Plan) (i : ℕ) (ls work work' : List ℕ) : Type 0 where
  pub down : (q : ℕ) → q < i → Inside m ls q → number m work' q ≤ q
  pub joined : (q : ℕ) → q < i → Inside m ls q → Joined (view m ls) q (number m work' q)
  pub shared : (q : ℕ) → q < i → Inside m ls q → number m work' (number m work q) ≡ number m work' q
  pub root : (q : ℕ) → q < i → number m work q ≡ q → number m work' q ≡ q
  pub outside : (q : ℕ) → q < i → label_of (view m ls) q ≡ OUTSIDE → number m work' q ≡ no_island
  pub later : (q : ℕ) → i ≤ q → number m work' q ≡ number m work q
  pub kept : Kept m.ids (m.ids + area m) work work'

-- the pixel is a painted root
abbrev pub opens : Plan → ℕ → List ℕ → List ℕ → ℕ → Bool
opens m paints ls work q = ltb (label_of (view m ls) q) paints && eqb (number m work q) q

pub record Unsettled (m : Plan) (q : ℕ) (ls work : List ℕ) : Type 0 where
  pub sizes : Sizes m ls work
  pub within : q < area m
  pub down : Inside m ls q → number m work q ≤ q

pub record Settles (m : Plan) (paints q : ℕ) (ls work : List ℕ) (r : ℕ) (work' : List ℕ) : Type 0 where
  pub passes : label_of (view m ls) q ≡ OUTSIDE → (work' ≡ work) × (r ≡ 0)
  pub takes : Inside m ls q → (work' ≡ set work (m.ids + q) (number m work (number m work q))) × (r ≡ one (opens m paints ls work q))

-- the number of each pixel that is not outside, and how many painted islands there are
pub record Numbered (m : Plan) (paints : ℕ) (ls work : List ℕ) (r : ℕ) (work' : List ℕ) : Type 0 where
  pub numbers : (p : ℕ) → p < area m → Inside m ls p → number m work' p ≡ get_or (firsts (view m ls)) p 0
  pub outside : (p : ℕ) → p < area m → label_of (view m ls) p ≡ OUTSIDE → number m work' p ≡ no_island
  pub kept : Kept m.ids (m.ids + area m) work work'
  pub painted : r ≡ length (islands (view m ls) paints)

-- numbers in plane 5
abbrev pub plan : Size → Plan
plan s = record { width = s.width; height = s.height; bound = s.bound; ids = 5 * plane s.width s.height }
