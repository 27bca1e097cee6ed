-- The outcome of a text, by the tests that lead to it.
use Rattle.std.proofs.Common.{◌≡◌, ℕ, ◌<◌, ◌≤◌, List, [], length, drop, sym, refl, ap, ◌∙◌, drop_of_length-le, drop-cons, le-ltb, lt-ltb}
use lib.Seq.{sets}
use Rattle.text.specs.Grammar.{header, no_header, read_header, left, broken, lines}
use Rattle.std.specs.Prelude.{Ok, Err}
use Rattle.rules.specs.Picture.{OUTSIDE}
use Rattle.lattice.specs.declared.Size.{Size}
use Rattle.text.specs.Parse.{Map, Outcome, whole, body, small, parsed}
use Rattle.text.specs.Places.{ParsedIs}
use Rattle.text.specs.declared.BadMap.TheVariants.{TooBig, BadText}

abbrev too_big : Outcome
too_big = record { answer = Err TooBig; labels = [] }

abbrev bad_text : Outcome
bad_text = record { answer = Err BadText; labels = [] }

module _ (s : List ℕ) where
  pub long : 4096 < length s → parsed s ≡ too_big
  unfolding parsed
  long h = rw (lt-ltb 4096 (length s) h, parsed)

  module _ (short : length s ≤ 4096) where
    fits : parsed s ≡ small (read_header s)
    unfolding parsed
    fits = rw (le-ltb 4096 (length s) short, parsed)

    headless : read_header s ≡ no_header → parsed s ≡ bad_text
    unfolding small
    headless e = fits ∙ ap small e

    module _ (w h p : ℕ) (t : List ℕ) (e : read_header s ≡ header w h p t) where
      wide : 16 < w → parsed s ≡ too_big
      unfolding small
      wide k = fits ∙ (ap small e ∙ rw (lt-ltb 16 w k, small))

      tall : w ≤ 16 → 16 < h → parsed s ≡ too_big
      unfolding small
      tall k m = fits ∙ (ap small e ∙ rw (le-ltb 16 w k, small) (rw (lt-ltb 16 h m, small)))

      pub inner : w ≤ 16 → h ≤ 16 → parsed s ≡ body w h p t
      unfolding small
      inner k m = fits ∙ (ap small e ∙ rw (le-ltb 16 w k, small) (rw (le-ltb 16 h m, small)))

-- the contract, at each of the code's returns
module _ (s store : List ℕ) where
  pub is_long : 4096 < length s → ParsedIs (parsed s) store store (Err TooBig)
  is_long h = rw (long s h) (record { answer = refl; stored = refl })

  module _ (short : length s ≤ 4096) where
    pub is_headless : read_header s ≡ no_header → ParsedIs (parsed s) store store (Err BadText)
    is_headless e = rw (headless s short e) (record { answer = refl; stored = refl })

    module _ (w h p : ℕ) (t : List ℕ) (e : read_header s ≡ header w h p t) where
      pub is_wide : 16 < w → ParsedIs (parsed s) store store (Err TooBig)
      is_wide k = rw (wide s short w h p t e k) (record { answer = refl; stored = refl })

      pub is_tall : w ≤ 16 → 16 < h → ParsedIs (parsed s) store store (Err TooBig)
      is_tall k m = rw (tall s short w h p t e k m) (record { answer = refl; stored = refl })

      module _ (k : w ≤ 16) (m : h ≤ 16) (store' : List ℕ) (q : store' ≡ sets store 0 (lines w h t).labels) where
        pub is_broken : (lines w h t).rest ≡ broken → ParsedIs (parsed s) store store' (Err BadText)
        unfolding body whole
        is_broken f = rw (inner s short w h p t e k m) (record { answer = sym (ap (whole (Map w h p)) f); stored = q })

        pub is_more : (n : ℕ) → (lines w h t).rest ≡ left (drop n s) → n < length s → ParsedIs (parsed s) store store' (Err BadText)
        unfolding body whole
        is_more n f l = rw (inner s short w h p t e k m) (record { answer = sym (ap (whole (Map w h p)) (f ∙ ap left (drop-cons s n 0 l))); stored = q })

        pub is_map : (n : ℕ) → (lines w h t).rest ≡ left (drop n s) → length s ≤ n → ParsedIs (parsed s) store store' (Map w h p)
        unfolding body whole
        is_map n f l = rw (inner s short w h p t e k m) (record { answer = sym (ap (whole (Map w h p)) (f ∙ ap left (drop_of_length-le s l))); stored = q })

-- a map by its sides and its paints
pub map_is : (m : Size) → m.bound ≡ OUTSIDE → Map m.width m.height m.paints ≡ Ok m
map_is m e = λ i. Ok (record { width = m.width; height = m.height; paints = m.paints; bound = sym e i })

pub is_map_of : (s store : List ℕ) (short : length s ≤ 4096) (m : Size) → m.bound ≡ OUTSIDE → (t : List ℕ) → read_header s ≡ header m.width m.height m.paints t → m.width ≤ 16 → m.height ≤ 16
    → (store' : List ℕ) → store' ≡ sets store 0 (lines m.width m.height t).labels → (n : ℕ) → (lines m.width m.height t).rest ≡ left (drop n s) → length s ≤ n → ParsedIs (parsed s) store store' (Ok m)
is_map_of s store short m b t e k l store' q n f g = rw (map_is m b) at (is_map s store short m.width m.height m.paints t e k l store' q n f g)
