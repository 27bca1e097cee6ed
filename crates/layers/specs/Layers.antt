-- A map from layers (docs/RULES.md, #103): what is refused, and the label of each pixel.
-- A layer is four words, x and y offset, signed, then width and height; its mask is the next width × height bytes of one store.
use Rattle.std.specs.Prelude.{ℕ, zero, suc, ◌+◌, ◌*◌, ◌-◌, ◌/◌, ◌%◌, ◌<◌, Bool, true, false, not, ◌&&◌, ◌||◌, ◌≡◌, List, [], ◌∷◌, map, leb, ltb, eqb, length, get_or}
use Rattle.rules.specs.Lists.{upto}
use Rattle.rules.specs.Picture.{OUTSIDE}
use Rattle.rules.specs.Calls.{Check, first_hit, store_after}

-- OFFSETS: a word that stands for a signed number, raised by 2147483648, so that it is never below 0
abbrev pub half : ℕ
half = 2147483648

abbrev pub raised : ℕ → ℕ
raised word = (word + half) % 4294967296

-- a layer's columns (or rows) from an offset on, n of them, lie over x: offset plus column, as an exact sum, is x for a column below n
abbrev pub spans : ℕ → ℕ → ℕ → Bool
spans word n x = leb (raised word) (x + half) && ltb (x + half - raised word) n

-- which one it is
abbrev pub in_layer : ℕ → ℕ → ℕ
in_layer word x = x + half - raised word

module _ (ws : List ℕ) where
  abbrev pub layer_count : ℕ
  layer_count = length ws / 4

  abbrev pub offset_x : ℕ → ℕ
  offset_x i = get_or ws (4 * i) 0

  abbrev pub offset_y : ℕ → ℕ
  offset_y i = get_or ws (4 * i + 1) 0

  abbrev pub wide : ℕ → ℕ
  wide i = get_or ws (4 * i + 2) 0

  abbrev pub high : ℕ → ℕ
  high i = get_or ws (4 * i + 3) 0

  -- how many mask bytes the first i layers have: where the mask of the layer i starts
  unfoldable pub mask_at : ℕ → ℕ
  mask_at zero = 0
  mask_at (suc i) = mask_at i + wide i * high i

module _ (ws masks : List ℕ) where
  -- the layer i has a 1 over the pixel (x, y)
  abbrev pub covers : ℕ → ℕ → ℕ → Bool
  covers i x y =
      spans (offset_x ws i) (wide ws i) x && spans (offset_y ws i) (high ws i) y
      && eqb (get_or masks (mask_at ws i + (in_layer (offset_y ws i) y * wide ws i + in_layer (offset_x ws i) x)) 0) 1

  -- the last of the first n layers with a 1 over the pixel, else OUTSIDE
  unfoldable pub last_over : ℕ → ℕ → ℕ → ℕ
  last_over zero x y = OUTSIDE
  last_over (suc i) x y = elim (covers i x y) [ true ↦ i | false ↦ last_over i x y ]

  -- the same without recursion: the layer i has a 1 over the pixel, and no later one of the first n has
  pub record Topmost (n x y i : ℕ) : Type 0 where
    pub layer : i < n
    pub has : covers i x y ≡ true
    pub last : (j : ℕ) → i < j → j < n → covers j x y ≡ false

  -- all labels, row by row
  unfoldable pub flattened : ℕ → ℕ → List ℕ
  flattened w h = map (λ p. last_over (layer_count ws) (p % w) (p / w)) (upto (w * h) 0)

-- REFUSALS

-- a byte is above 1
unfoldable pub above_one : List ℕ → Bool
above_one [] = false
above_one (b ∷ more) = elim (ltb 1 b) [ true ↦ true | false ↦ above_one more ]

unfoldable pub layer_checks : ℕ → ℕ → List ℕ → List ℕ → List ℕ → List Check
layer_checks w h ws masks labels =
    record { number = 1; hits = ltb 16384 w || ltb 16384 h } ∷
    record { number = 11; hits = ltb 65535 (layer_count ws) } ∷
    record { number = 11; hits = not (eqb (length ws % 4) 0) } ∷
    record { number = 11; hits = not (eqb (mask_at ws (layer_count ws)) (length masks)) } ∷
    record { number = 11; hits = above_one masks } ∷
    record { number = 11; hits = not (eqb (length labels) (w * h)) } ∷ []

-- THE CALL: its number, and the label store afterwards
pub record Flat : Type 0 where
  pub number : ℕ
  pub labels : List ℕ

unfoldable pub flatten : ℕ → ℕ → List ℕ → List ℕ → List ℕ → Flat
flatten w h ws masks labels =
    let n = first_hit (layer_checks w h ws masks labels) in record { number = n; labels = store_after n (flattened ws masks w h) labels }
