-- References, contours and faces written one after the other.
use Rattle.std.specs.Prelude.{ℕ, ◌+◌, ◌*◌, ◌<◌, ◌≤◌, ◌≡◌, length, get_or}
use mathlib.Core.List.{List, [], ◌∷◌, map, Memᴰ as In}
use Rattle.std.proofs.lemmas.List.Edits.{sets}
use Rattle.rules.specs.Lists.{flat}
use Rattle.rules.specs.Face.{Face}
use Rattle.rules.specs.Records.{contours_of, contour_words, face_words, NONE}
use Rattle.store.specs.Words.{part}
use Rattle.assemble.specs.declared.Done.{Done}
use Rattle.assemble.specs.declared.Run.{Run}
use Rattle.assemble.specs.Trails.{end_of, after, link_of, word_of, Named, Goes, Strung}

-- ONE CONTOUR

-- the words go along a contour that starts with r
pub record Going (trail : ℕ) (work : List ℕ) (r : ℕ) : Type 0 where
  pub rest : List ℕ
  pub goes : Goes trail work r rest

-- the references c of a contour from `at` on, and where its last word leads
pub record Ran (trail : ℕ) (work c : List ℕ) (at r : ℕ) (refs : List ℕ) (run : Run) (refs' : List ℕ) : Type 0 where
  pub count : run.count ≡ length c
  pub next : word_of run.next ≡ link_of r (after trail work (end_of c))
  pub named : Named run.next
  pub written : refs' ≡ sets refs at c

abbrev pub Runs : ℕ → List ℕ → ℕ → ℕ → List ℕ → Run → List ℕ → Type 0
Runs trail work at r refs run refs' = (l : List ℕ) → Goes trail work r l → Ran trail work (r ∷ l) at r refs run refs'

-- CONTOURS

-- after the contours cs the counts still fit a word
pub record Fits (cs : List (List ℕ)) (done : Done) : Type 0 where
  pub contours : done.contours + length cs ≤ NONE
  pub references : done.references + length (flat cs) ≤ NONE

-- the contours cs after those that are done
pub record Wrote (cs : List (List ℕ)) (done : Done) (refs cons : List ℕ) (done' : Done) (refs' cons' : List ℕ) : Type 0 where
  pub contours : cons' ≡ sets cons (2 * done.contours) (contour_words done.references cs)
  pub references : refs' ≡ sets refs done.references (flat cs)
  pub counts : done' ≡ record { contours = done.contours + length cs; references = done.references + length (flat cs) }

-- contours that are strung one after the other, from r on
pub record Chain (trail : ℕ) (work : List ℕ) (r : ℕ) (done : Done) : Type 0 where
  pub contours : List (List ℕ)
  pub strung : Strung trail work r contours
  pub fits : Fits contours done
  pub begins : trail ≤ length work

abbrev pub WritesChain : ℕ → List ℕ → ℕ → Done → List ℕ → List ℕ → Done → List ℕ → List ℕ → Type 0
WritesChain trail work r done refs cons done' refs' cons' = (cs : List (List ℕ)) → Strung trail work r cs → Wrote cs done refs cons done' refs' cons'

-- FACES

-- the face's contours are strung from the head of its first pixel on
pub record Gathered (ls : List ℕ) (trail heads : ℕ) (work : List ℕ) (f : Face) : Type 0 where
  pub strung : Strung trail work (get_or work (heads + f.first) 0) f.contours
  pub region : f.region ≡ get_or ls f.first 0

-- where the three parts begin
pub record Begins (trail heads list : ℕ) (work : List ℕ) : Type 0 where
  pub in_trail : trail ≤ length work
  pub in_heads : heads ≤ length work
  pub in_list : list ≤ length work

-- the faces fs, from the number f on
pub record WroteFaces (width f : ℕ) (fs : List Face) (done : Done) (refs cons faces : List ℕ) (done' : Done) (refs' cons' faces' : List ℕ) : Type 0 where
  pub wrote : Wrote (contours_of fs) done refs cons done' refs' cons'
  pub face_words_lem : faces' ≡ sets faces (5 * f) (face_words width done.contours fs)

-- the face number f, on a map that is wide enough to have one
pub record FaceDue (width : ℕ) (ls : List ℕ) (trail heads list : ℕ) (work : List ℕ) (f : ℕ) (done : Done) : Type 0 where
  pub face : Face
  pub first : get_or work (list + f) 0 ≡ face.first
  pub gathered : Gathered ls trail heads work face
  pub fits : Fits face.contours done
  pub low : f ≤ NONE
  pub wide : 0 < width
  pub begins : Begins trail heads list work

abbrev pub WritesFace : ℕ → List ℕ → ℕ → ℕ → ℕ → List ℕ → ℕ → Done → List ℕ → List ℕ → List ℕ → Done → List ℕ → List ℕ → List ℕ → Type 0
WritesFace width ls trail heads list work f done refs cons faces done' refs' cons' faces' =
    (face : Face) → get_or work (list + f) 0 ≡ face.first → Gathered ls trail heads work face → WroteFaces width f (face ∷ []) done refs cons faces done' refs' cons' faces'

abbrev pub nothing : Done
nothing = record { contours = 0; references = 0 }

-- all faces, by their first pixels from `list` on
pub record Ordered (width : ℕ) (ls : List ℕ) (trail heads list m : ℕ) (work : List ℕ) (fs : List Face) : Type 0 where
  pub firsts : part work list m ≡ map (λ f. f.first) fs
  pub gathered : (f : Face) → In f fs → Gathered ls trail heads work f
  pub fits : Fits (contours_of fs) nothing
  pub low : m ≤ NONE
  pub wide : 0 < m → 0 < width
  pub begins : Begins trail heads list work

pub record Orderly (width : ℕ) (ls : List ℕ) (trail heads list m : ℕ) (work : List ℕ) : Type 0 where
  pub fs : List Face
  pub ordered : Ordered width ls trail heads list m work fs

-- the records of all faces, from the front of each store, and how many contours and references they have
pub record AllWritten (width : ℕ) (fs : List Face) (refs cons faces : List ℕ) (done : Done) (refs' cons' faces' : List ℕ) : Type 0 where
  pub reference_words : refs' ≡ sets refs 0 (flat (contours_of fs))
  pub contour_words_lem : cons' ≡ sets cons 0 (contour_words 0 (contours_of fs))
  pub face_words_lem : faces' ≡ sets faces 0 (face_words width 0 fs)
  pub contours : done.contours ≡ length (contours_of fs)
  pub references : done.references ≡ length (flat (contours_of fs))
