-- Contours in a part of the work words, the trail: the word of each reference is the next one of its contour.
use Rattle.std.specs.Prelude.{ℕ, pred, ◌+◌, ◌-◌, ◌<◌, ◌≡◌, Bool, cond, ◌||◌, List, [], ◌∷◌, eqb, leb, length, get_or, Option, Some, None}
use Rattle.rules.proofs.Ground.Orbits.{until, Walk}
use Rattle.rules.specs.Records.{NONE}
use Rattle.assemble.specs.declared.Reference.{Reference}

-- a word from here on leads to another contour of the same island
abbrev pub LINK : ℕ
LINK = 2147483648

-- the first and the last reference of a contour
abbrev pub first_of : List ℕ → ℕ
first_of c = get_or c 0 0

abbrev pub end_of : List ℕ → ℕ
end_of c = get_or c (pred (length c)) 0

abbrev pub after : ℕ → List ℕ → ℕ → ℕ
after trail work q = get_or work (trail + q) 0

-- q is the last one of the contour that starts with r: its word leads back to r, or on to another contour
abbrev pub is_last : ℕ → List ℕ → ℕ → ℕ → Bool
is_last trail work r q = eqb (after trail work q) r || leb LINK (after trail work q)

-- a reference that a word names, and NONE for none
abbrev pub word_of : Option Reference → ℕ
word_of None = NONE
word_of (Some r) = r.0

-- its word is no NONE
abbrev pub Named : Option Reference → Type 0
Named None = Unit
Named (Some r) = r.0 ≡ NONE → ⊥

-- with a link its word is still a word
abbrev pub Linkable : Option Reference → Type 0
Linkable None = Unit
Linkable (Some r) = r.0 < LINK

-- from r on, up to the last one
unfoldable pub trail_in : ℕ → List ℕ → ℕ → List ℕ
trail_in trail work r = until (after trail work) (is_last trail work r) 4294967296 r

-- where the word v of the last one leads, none where it leads back to r
unfoldable pub link_of : ℕ → ℕ → ℕ
link_of r v = cond (eqb v r) NONE (v - LINK)

-- the words go along the contour: from its first reference r over the others
pub record Goes (trail : ℕ) (work : List ℕ) (r : ℕ) (l : List ℕ) : Type 0 where
  pub walk : Walk (after trail work) (is_last trail work r) r l
  pub short : length l < 4294967296
  pub low : r < LINK

abbrev pub Along : ℕ → List ℕ → List ℕ → Type 0
Along trail work [] = ⊥
Along trail work (r ∷ l) = Goes trail work r l

-- the contours cs one after the other, from the one that starts with r on; the last one leads back to its start
abbrev pub Strung : ℕ → List ℕ → ℕ → List (List ℕ) → Type 0
Strung trail work r [] = r ≡ NONE
Strung trail work r (c ∷ cs) = (r ≡ first_of c) × Along trail work c × Strung trail work (link_of r (after trail work (end_of c))) cs
