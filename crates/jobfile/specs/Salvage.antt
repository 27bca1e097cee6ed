-- What the salvage tool keeps of a file (docs/RULES.md, #113): the records before the first that is cut short or breaks the form of #109.
use Rattle.std.specs.Prelude.{ℕ, zero, suc, ◌+◌, ◌-◌, ◌/◌, ◌%◌, Bool, true, false, not, ◌&&◌, ◌||◌, List, [], ◌∷◌, leb, ltb, eqb, length, get_or, take, drop}
use Rattle.rules.specs.Calls.{first_hit, store_after}
use Rattle.jobfile.specs.Entries.{word_at, words_of, pairs, body_length, kind_of, entry_size, body, rest, headed}

-- FORM OF A BODY, in words

-- across and down together
unfoldable pub unit_apart : ℕ × ℕ → ℕ × ℕ → Bool
unit_apart p q = eqb ((p.0 - q.0) + (q.0 - p.0) + ((p.1 - q.1) + (q.1 - p.1))) 1

-- each is one unit from the one before
unfoldable pub chained : ℕ × ℕ → List (ℕ × ℕ) → Bool
chained p [] = true
chained p (q ∷ ps) = unit_apart p q && chained q ps

module _ (w h : ℕ) where
  unfoldable pub on_map : List (ℕ × ℕ) → Bool
  on_map [] = true
  on_map (p ∷ ps) = leb p.0 w && (leb p.1 h && on_map ps)

  -- two points or more
  unfoldable pub points_fit : List (ℕ × ℕ) → Bool
  points_fit [] = false
  points_fit (p ∷ []) = false
  points_fit (p ∷ q ∷ ps) = on_map (p ∷ q ∷ ps) && chained p (q ∷ ps)

  unfoldable pub segment_fits : List ℕ → Bool
  segment_fits ws = eqb (length ws % 2) 0 && points_fit (pairs ws)

-- each reference names one of n segments
unfoldable pub all_below : ℕ → List ℕ → Bool
all_below n [] = true
all_below n (r ∷ rs) = ltb (r / 2) n && all_below n rs

-- c contours that fill the words, over n segments
unfoldable pub contours_fit : ℕ → ℕ → List ℕ → Bool
contours_fit n zero [] = true
contours_fit n zero (v ∷ ws) = false
contours_fit n (suc c) [] = false
contours_fit n (suc c) (k ∷ ws) = leb k (length ws) && (all_below n (take k ws) && contours_fit n c (drop k ws))

-- a painted region, a pixel, and contours that fit their counts
unfoldable pub face_fits : ℕ → ℕ → List ℕ → Bool
face_fits paints n ws = leb 4 (length ws) && (ltb (get_or ws 0 0) paints && contours_fit n (get_or ws 3 0) (drop 4 ws))

-- WHERE A RECORD STANDS: the header's three numbers, the segments kept so far, and whether a face was kept

pub record Place : Type 0 where
  pub width : ℕ
  pub height : ℕ
  pub paints : ℕ
  pub segments : ℕ
  pub faces : Bool

unfoldable pub kind_fits : Place → ℕ → List ℕ → Bool
kind_fits p k ws =
    elim (eqb k 2) [
      | true ↦ not p.faces && segment_fits p.width p.height ws
      | false ↦ eqb k 3 && face_fits p.paints p.segments ws
    ]

-- the first record of the bytes is whole and keeps the form
unfoldable pub fits : Place → List ℕ → Bool
fits p b = leb (entry_size b) (length b) && (eqb (body_length b % 4) 0 && kind_fits p (kind_of b) (words_of (body b)))

unfoldable pub after : Place → ℕ → Place
after p k =
    record {
      width = p.width;
      height = p.height;
      paints = p.paints;
      segments = elim (eqb k 2) [ true ↦ suc p.segments | false ↦ p.segments ];
      faces = p.faces || eqb k 3;
    }

-- WHAT IS KEPT: its length, and the kind of the first record dropped, 0 for a tail of under six bytes or for none

pub record Kept : Type 0 where
  pub length : ℕ
  pub kind : ℕ

-- with as much fuel as bytes no record is left out
unfoldable pub scan : ℕ → Place → List ℕ → Kept
scan zero p b = record { length = 0; kind = 0 }
scan (suc k) p b =
    elim (ltb (length b) 6) [
      | true ↦ record { length = 0; kind = 0 }
      | false ↦
          elim (fits p b) [
            | true ↦
                let s = scan k (after p (kind_of b)) (rest b) in
                record { length = entry_size b + s.length; kind = s.kind }
            | false ↦ record { length = 0; kind = kind_of b }
          ]
    ]

unfoldable pub start : List ℕ → Place
start b = record { width = word_at b 6; height = word_at b 10; paints = word_at b 14; segments = 0; faces = false }

-- behind the first record
unfoldable pub kept : List ℕ → Kept
kept b =
    let s = scan (length b) (start b) (drop 18 b) in
    record { length = 18 + s.length; kind = s.kind }

-- THE TOOL: 14 for another first record, 13 for a short store

pub record Salvaged : Type 0 where
  pub number : ℕ
  pub length : ℕ
  pub kind : ℕ
  pub store : List ℕ

unfoldable pub salvage : List ℕ → List ℕ → Salvaged
salvage b store =
    let s = kept b in
    let n = first_hit (record { number = 14; hits = not (headed b) } ∷ record { number = 13; hits = ltb (length store) s.length } ∷ []) in
    record {
      number = n;
      length = elim (eqb n 0) [ true ↦ s.length | false ↦ 0 ];
      kind = elim (eqb n 0) [ true ↦ s.kind | false ↦ 0 ];
      store = store_after n (take s.length b) store;
    }
