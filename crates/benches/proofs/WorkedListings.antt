-- Listings of small maps, the call on them, and maps with a pixel touched up, by computing the definitions.
use Prim.Native.Nat.{ℕ}
use mathlib.Core.Path.{◌≡◌, refl}
use mathlib.Core.List.{List, [], ◌∷◌, ◌++◌, map as mapped}
use lib.ListN.{replicate}
use Rattle.rules.specs.Lists.{keep, flat, upto, among}
use Rattle.rules.specs.Picture.{OUTSIDE, seen, label, northwest, picture, same_dart, to_x, to_y, turned, left_at, left, right, crack, degree, node}
use Rattle.rules.specs.Graph.{way_on, onward, following, meets, ending, walk, fuel, on, visit, trace, row, rows, out, corners, nodes, segments}
use Rattle.rules.specs.Face.{pixels, label_of, lesser, lesser3, least, rounds, firsts, backwards, refs, steps, first_step, last_step, sides, out_entry, keeps, successor, turn, region, is_open, next, round, enter, discover, contours, insert, sorted, islands, beside_at, island_of, face, faces}
use Rattle.rules.specs.Calls.{Map, picture_of, first_hit, map_checks, early, work_after, store_after}
use Rattle.benches.specs.Listing.{earlier, earliest, up_to, from_on, from_earliest, put_contour, by_first_step, contours_listed, step_words, loop_words, piece_words, listing_words, faces_of, listing_of, listing_checks, ListingOutcome, listing}

abbrev map : ℕ → ℕ → ℕ → List ℕ → Map
map w h paints ls = record { width = w; height = h; paints = paints; bound = OUTSIDE; labels = ls }

-- all 0, centre 1
abbrev ring : Map
ring = map 3 3 2 (0 ∷ 0 ∷ 0 ∷ 0 ∷ 1 ∷ 0 ∷ 0 ∷ 0 ∷ 0 ∷ [])

-- all 0, with 1 and 2 in the middle of the middle row (#102)
abbrev panel : Map
panel = map 4 3 3 (0 ∷ 0 ∷ 0 ∷ 0 ∷ 0 ∷ 1 ∷ 2 ∷ 0 ∷ 0 ∷ 0 ∷ 0 ∷ 0 ∷ [])

abbrev board : Map
board = map 2 2 2 (0 ∷ 1 ∷ 1 ∷ 0 ∷ [])

abbrev pixel : Map
pixel = map 1 1 1 (0 ∷ [])

-- a row of four, and the same with its last pixel touched up
abbrev strip : Map
strip = map 4 1 2 (0 ∷ 1 ∷ 0 ∷ 0 ∷ [])

abbrev touched : Map
touched = map 4 1 2 (0 ∷ 1 ∷ 0 ∷ 1 ∷ [])

-- two pixels that meet at a corner alone, and the same with the second touched up
abbrev apart : Map
apart = map 2 2 2 (0 ∷ OUTSIDE ∷ OUTSIDE ∷ 1 ∷ [])

abbrev joined : Map
joined = map 2 2 2 (0 ∷ OUTSIDE ∷ OUTSIDE ∷ 0 ∷ [])

-- a panel, the same with the pixels of 0 and 3 given other labels, and with a pixel of 1 given away
abbrev shared : Map
shared = map 3 2 4 (0 ∷ 1 ∷ 3 ∷ 0 ∷ 1 ∷ 1 ∷ [])

abbrev relabelled : Map
relabelled = map 3 2 4 (3 ∷ 1 ∷ 0 ∷ 2 ∷ 1 ∷ 1 ∷ [])

abbrev moved : Map
moved = map 3 2 4 (0 ∷ 1 ∷ 3 ∷ 0 ∷ 1 ∷ 0 ∷ [])

abbrev bent : List ℕ
bent = 1 ∷ 1 ∷ 8 ∷ 1 ∷ 0 ∷ 2 ∷ 1 ∷ 1 ∷ 2 ∷ 1 ∷ 2 ∷ 1 ∷ 2 ∷ 2 ∷ 1 ∷ 3 ∷ 2 ∷ 0 ∷ 3 ∷ 1 ∷ 3 ∷ 2 ∷ 1 ∷ 0 ∷ 2 ∷ 0 ∷ 3 ∷ []

-- a piece beside waste, which is cut and not cut
abbrev waste : ℕ → Map
waste b = record { width = 3; height = 1; paints = 2; bound = b; labels = 1 ∷ 7 ∷ 8 ∷ [] }

-- each piece by itself
abbrev pieces : Map → List (List ℕ)
pieces m = mapped (piece_words (segments (picture_of m))) (faces_of m)

-- a work store of 32 words and more, a listing store of n
abbrev lent : ℕ → List ℕ
lent n = replicate n 9

abbrev answered : ℕ → ℕ → List ℕ → List ℕ → ListingOutcome
answered n length work store = record { answer = record { number = n; length = length }; stores = work ∷ store ∷ [] }

pub record WorkedListings : Type 0 where
  -- a pixel: down its west side, along its south, up its east, back along its north
  pub one : listing_of pixel (0 ∷ []) ≡ 0 ∷ 1 ∷ 4 ∷ 0 ∷ 0 ∷ 2 ∷ 0 ∷ 1 ∷ 1 ∷ 1 ∷ 1 ∷ 0 ∷ 1 ∷ 0 ∷ 3 ∷ []
  -- named twice counts once, 7 is not painted
  pub names : listing_of ring (1 ∷ 7 ∷ 1 ∷ []) ≡ 1 ∷ 1 ∷ 4 ∷ 1 ∷ 1 ∷ 2 ∷ 1 ∷ 2 ∷ 1 ∷ 2 ∷ 2 ∷ 0 ∷ 2 ∷ 1 ∷ 3 ∷ []
  pub unpainted : listing_of (map 1 1 1 (7 ∷ [])) (7 ∷ OUTSIDE ∷ []) ≡ []
  -- a rim, which starts south, and a hole, which starts east
  pub hole : listing_of ring (0 ∷ []) ≡
      0 ∷ 2 ∷
      12 ∷ 0 ∷ 0 ∷ 2 ∷ 0 ∷ 1 ∷ 2 ∷ 0 ∷ 2 ∷ 2 ∷ 0 ∷ 3 ∷ 1 ∷ 1 ∷ 3 ∷ 1 ∷ 2 ∷ 3 ∷ 1 ∷ 3 ∷ 3 ∷ 0 ∷ 3 ∷ 2 ∷ 0 ∷ 3 ∷ 1 ∷ 0 ∷ 3 ∷ 0 ∷ 3 ∷ 2 ∷ 0 ∷ 3 ∷ 1 ∷ 0 ∷ 3 ∷
      4 ∷ 1 ∷ 1 ∷ 1 ∷ 2 ∷ 1 ∷ 2 ∷ 2 ∷ 2 ∷ 3 ∷ 1 ∷ 2 ∷ 0 ∷ []
  -- the hole is discovered before the rim, and listed after it
  pub rim_first : listing_of panel (0 ∷ []) ≡
      0 ∷ 2 ∷
      14 ∷ 0 ∷ 0 ∷ 2 ∷ 0 ∷ 1 ∷ 2 ∷ 0 ∷ 2 ∷ 2 ∷ 0 ∷ 3 ∷ 1 ∷ 1 ∷ 3 ∷ 1 ∷ 2 ∷ 3 ∷ 1 ∷ 3 ∷ 3 ∷ 1 ∷ 4 ∷ 3 ∷ 0 ∷ 4 ∷ 2 ∷ 0 ∷ 4 ∷ 1 ∷ 0 ∷ 4 ∷ 0 ∷ 3 ∷ 3 ∷ 0 ∷ 3 ∷ 2 ∷ 0 ∷ 3 ∷ 1 ∷ 0 ∷ 3 ∷
      6 ∷ 1 ∷ 1 ∷ 1 ∷ 2 ∷ 1 ∷ 1 ∷ 3 ∷ 1 ∷ 2 ∷ 3 ∷ 2 ∷ 3 ∷ 2 ∷ 2 ∷ 3 ∷ 1 ∷ 2 ∷ 0 ∷ []
  -- two pieces in the order of the faces, whatever the order of the names
  pub order : listing_of panel (2 ∷ 1 ∷ []) ≡
      1 ∷ 1 ∷ 4 ∷ 1 ∷ 1 ∷ 2 ∷ 1 ∷ 2 ∷ 1 ∷ 2 ∷ 2 ∷ 0 ∷ 2 ∷ 1 ∷ 3 ∷
      2 ∷ 1 ∷ 4 ∷ 2 ∷ 1 ∷ 2 ∷ 2 ∷ 2 ∷ 1 ∷ 3 ∷ 2 ∷ 0 ∷ 3 ∷ 1 ∷ 3 ∷ []
  -- one contour that meets a corner twice
  pub corner : listing_of board (1 ∷ []) ≡
      1 ∷ 1 ∷ 8 ∷ 1 ∷ 0 ∷ 2 ∷ 1 ∷ 1 ∷ 3 ∷ 0 ∷ 1 ∷ 2 ∷ 0 ∷ 2 ∷ 1 ∷ 1 ∷ 2 ∷ 0 ∷ 1 ∷ 1 ∷ 1 ∷ 2 ∷ 1 ∷ 0 ∷ 2 ∷ 0 ∷ 3 ∷ []
  -- the call: what lies behind stays
  pub written : listing pixel (lent 33) (0 ∷ []) (lent 17) ≡
      answered 0 15 (replicate 32 0 ++ lent 1) (0 ∷ 1 ∷ 4 ∷ 0 ∷ 0 ∷ 2 ∷ 0 ∷ 1 ∷ 1 ∷ 1 ∷ 1 ∷ 0 ∷ 1 ∷ 0 ∷ 3 ∷ 9 ∷ 9 ∷ [])
  pub short : listing pixel (lent 33) (0 ∷ []) (lent 14) ≡ answered 13 0 (replicate 32 0 ++ lent 1) (lent 14)
  pub no_work : listing pixel (lent 31) (0 ∷ []) (lent 0) ≡ answered 3 0 (lent 31) []
  pub no_label : listing (map 1 1 1 []) (lent 31) (0 ∷ []) (lent 0) ≡ answered 2 0 (lent 31) []
  pub nothing : listing pixel (lent 32) [] [] ≡ answered 0 0 (replicate 32 0) []
  -- however the other bench relabels its pixels, the listing is the same; where a pixel of one's own is given away, it is another
  pub mine : listing_of shared (1 ∷ []) ≡ bent
  pub theirs : listing_of relabelled (1 ∷ []) ≡ bent
  pub given_away : listing_of moved (1 ∷ []) ≡ 1 ∷ 1 ∷ 6 ∷ 1 ∷ 0 ∷ 2 ∷ 1 ∷ 1 ∷ 2 ∷ 1 ∷ 2 ∷ 1 ∷ 2 ∷ 2 ∷ 0 ∷ 2 ∷ 1 ∷ 0 ∷ 2 ∷ 0 ∷ 3 ∷ []
  -- in either mode
  pub wasteful : listing_of (waste OUTSIDE) (1 ∷ 7 ∷ []) ≡ 1 ∷ 1 ∷ 4 ∷ 0 ∷ 0 ∷ 2 ∷ 0 ∷ 1 ∷ 1 ∷ 1 ∷ 1 ∷ 0 ∷ 1 ∷ 0 ∷ 3 ∷ []
  pub waste_free_lem : listing_of (waste 2) (1 ∷ 7 ∷ []) ≡ 1 ∷ 1 ∷ 4 ∷ 0 ∷ 0 ∷ 2 ∷ 0 ∷ 1 ∷ 1 ∷ 1 ∷ 1 ∷ 0 ∷ 1 ∷ 0 ∷ 3 ∷ []
  -- ONE PIXEL: the pieces of the pixels 0 and 1 stay, that of the pixel 2 does not
  pub before : pieces strip ≡
      (0 ∷ 1 ∷ 4 ∷ 0 ∷ 0 ∷ 2 ∷ 0 ∷ 1 ∷ 1 ∷ 1 ∷ 1 ∷ 0 ∷ 1 ∷ 0 ∷ 3 ∷ []) ∷
      (0 ∷ 1 ∷ 6 ∷ 2 ∷ 0 ∷ 2 ∷ 2 ∷ 1 ∷ 1 ∷ 3 ∷ 1 ∷ 1 ∷ 4 ∷ 1 ∷ 0 ∷ 4 ∷ 0 ∷ 3 ∷ 3 ∷ 0 ∷ 3 ∷ []) ∷
      (1 ∷ 1 ∷ 4 ∷ 1 ∷ 0 ∷ 2 ∷ 1 ∷ 1 ∷ 1 ∷ 2 ∷ 1 ∷ 0 ∷ 2 ∷ 0 ∷ 3 ∷ []) ∷ []
  pub after : pieces touched ≡
      (0 ∷ 1 ∷ 4 ∷ 0 ∷ 0 ∷ 2 ∷ 0 ∷ 1 ∷ 1 ∷ 1 ∷ 1 ∷ 0 ∷ 1 ∷ 0 ∷ 3 ∷ []) ∷
      (0 ∷ 1 ∷ 4 ∷ 2 ∷ 0 ∷ 2 ∷ 2 ∷ 1 ∷ 1 ∷ 3 ∷ 1 ∷ 0 ∷ 3 ∷ 0 ∷ 3 ∷ []) ∷
      (1 ∷ 1 ∷ 4 ∷ 1 ∷ 0 ∷ 2 ∷ 1 ∷ 1 ∷ 1 ∷ 2 ∷ 1 ∷ 0 ∷ 2 ∷ 0 ∷ 3 ∷ []) ∷
      (1 ∷ 1 ∷ 4 ∷ 3 ∷ 0 ∷ 2 ∷ 3 ∷ 1 ∷ 1 ∷ 4 ∷ 1 ∷ 0 ∷ 4 ∷ 0 ∷ 3 ∷ []) ∷ []
  -- why a touch at a corner counts: islands hang together across corners, so the piece of the pixel 0 grows
  pub corner_before : pieces apart ≡
      (0 ∷ 1 ∷ 4 ∷ 0 ∷ 0 ∷ 2 ∷ 0 ∷ 1 ∷ 1 ∷ 1 ∷ 1 ∷ 0 ∷ 1 ∷ 0 ∷ 3 ∷ []) ∷
      (1 ∷ 1 ∷ 4 ∷ 1 ∷ 1 ∷ 2 ∷ 1 ∷ 2 ∷ 1 ∷ 2 ∷ 2 ∷ 0 ∷ 2 ∷ 1 ∷ 3 ∷ []) ∷ []
  pub corner_after : pieces joined ≡
      (0 ∷ 1 ∷ 8 ∷ 0 ∷ 0 ∷ 2 ∷ 0 ∷ 1 ∷ 1 ∷ 1 ∷ 1 ∷ 2 ∷ 1 ∷ 2 ∷ 1 ∷ 2 ∷ 2 ∷ 0 ∷ 2 ∷ 1 ∷ 3 ∷ 1 ∷ 1 ∷ 0 ∷ 1 ∷ 0 ∷ 3 ∷ []) ∷ []

pub worked_listings : WorkedListings
unfolding keep flat upto among seen label northwest picture same_dart to_x to_y turned left_at left right crack degree node way_on onward following meets ending walk fuel on visit trace row rows out corners nodes segments pixels label_of lesser lesser3 least rounds firsts backwards refs steps first_step last_step sides out_entry keeps successor turn region is_open next round enter discover contours insert sorted islands beside_at island_of face faces first_hit map_checks early work_after store_after earlier earliest up_to from_on from_earliest put_contour by_first_step contours_listed step_words loop_words piece_words listing_words listing_of listing_checks listing
worked_listings = record {
  one = refl;
  names = refl;
  unpainted = refl;
  hole = refl;
  rim_first = refl;
  order = refl;
  corner = refl;
  written = refl;
  short = refl;
  no_work = refl;
  no_label = refl;
  nothing = refl;
  mine = refl;
  theirs = refl;
  given_away = refl;
  wasteful = refl;
  waste_free_lem = refl;
  before = refl;
  after = refl;
  corner_before = refl;
  corner_after = refl;
}
