-- What the call's promise means: after 0 a pixel's label is a layer's number exactly when that layer is the topmost over it, and OUTSIDE exactly
-- when none is over it. One outcome is permitted.
use Prim.Native.Nat.{ℕ, zero, suc, ◌+◌, ◌*◌, ◌/◌, ◌%◌, ◌<◌, ◌≤◌}
use mathlib.Core.Bool.{Bool, true, false}
use mathlib.Core.Path.{◌≡◌, refl, sym, ap, ap₂, ◌∙◌}
use mathlib.Core.List.{List, map}
use native.Mathlib.Nat.{zero-add}
use native.Mathlib.Omega.{arith}
use native.Mathlib.Decide.{ℕ_discrete}
use lib.ListN.{length, get_or, drop, length-map, get_or-append}
use Rattle.rules.specs.Lists.{upto}
use Rattle.rules.specs.Picture.{OUTSIDE}
use Rattle.rules.specs.Calls.{store_after}
use Rattle.rules.proofs.Ground.Lists.{length_upto, at_map, at_upto}
use Rattle.rules.proofs.Islands.Pixels.{pixel_mod, pixel_div, pixel_in_lem}
use Rattle.layers.specs.Layers.{covers, last_over, Topmost, layer_count, flattened, Flat, flatten}
use Rattle.layers.specs.Painting.{flat}
use Rattle.layers.proofs.Refusals.{passed}

module _ (ws masks : List ℕ) (x y : ℕ) where
  abbrev last : ℕ → ℕ
  last n = last_over ws masks n x y

  abbrev over : ℕ → Bool
  over j = covers ws masks j x y

  abbrev step : ℕ → Bool → ℕ
  step n b = elim b [ true ↦ n | false ↦ last n ]

  topmost_is : (n i : ℕ) → Topmost ws masks n x y i → last n ≡ i
  unfolding last_over
  topmost_is zero i t = absurd (omega (arith, t.layer))
  topmost_is (suc n) i t =
      elim (ℕ_discrete n i) [
        | yes e ↦ ap (step n) (ap over e ∙ t.has) ∙ e
        | no e ↦ ap (step n) (t.last n (omega (arith, t.layer)) (omega arith))
            ∙ topmost_is n i (record { layer = omega (arith, t.layer); has = t.has; last = λ j a b. t.last j a (omega arith) })
      ]

  is_topmost : (n i : ℕ) → i < OUTSIDE → last n ≡ i → Topmost ws masks n x y i
  unfolding last_over
  is_topmost zero i h e = absurd (omega arith)
  is_topmost (suc n) i h e = go (over n) refl (is_topmost n i h) e
    where
      go : (b : Bool) → over n ≡ b → (last n ≡ i → Topmost ws masks n x y i) → step n b ≡ i → Topmost ws masks (suc n) x y i
      go true c f e = record { layer = omega arith; has = ap over (sym e) ∙ c; last = λ j a b. absurd (omega arith) }
      go false c f e =
          let t = f e in
          record {
            layer = omega (arith, t.layer);
            has = t.has;
            last = λ j a b. elim (ℕ_discrete j n) [ yes z ↦ ap over z ∙ c | no z ↦ t.last j a (omega arith) ];
          }

  none_is : (n : ℕ) → ((j : ℕ) → j < n → over j ≡ false) → last n ≡ OUTSIDE
  unfolding last_over
  none_is zero f = refl
  none_is (suc n) f = ap (step n) (f n (omega arith)) ∙ none_is n (λ j a. f j (omega arith))

  is_none : (n : ℕ) → n ≤ OUTSIDE → last n ≡ OUTSIDE → (j : ℕ) → j < n → over j ≡ false
  unfolding last_over
  is_none zero h e = λ j a. absurd (omega arith)
  is_none (suc n) h e = go (over n) refl (is_none n (omega arith)) e
    where
      go : (b : Bool) → over n ≡ b → (last n ≡ OUTSIDE → (j : ℕ) → j < n → over j ≡ false) → step n b ≡ OUTSIDE → (j : ℕ) → j < suc n → over j ≡ false
      go true c f e j a = absurd (omega arith)
      go false c f e j a = elim (ℕ_discrete j n) [ yes z ↦ ap over z ∙ c | no z ↦ f e j (omega arith) ]

module _ (w h : ℕ) (ws masks labels : List ℕ) (z : (flatten w h ws masks labels).number ≡ 0) (x y : ℕ) (hx : x < w) (hy : y < h) where
  -- the pixel's label
  abbrev at : ℕ
  at = get_or (flatten w h ws masks labels).labels (y * w + x) 0

  label_at_lem : at ≡ last_over ws masks (layer_count ws) x y
  unfolding flatten store_after flattened
  label_at_lem =
      let f : ℕ → ℕ = λ q. last_over ws masks (layer_count ws) (q % w) (q / w) in
      let words : List ℕ = map f (upto (w * h) 0) in
      let q : y * w + x < w * h = pixel_in_lem w h x y hx hy in
      ap (λ (n : ℕ). get_or (store_after n words labels) (y * w + x) 0) z
      ∙ get_or-append words (drop (length words) labels) 0 (y * w + x) (omega (arith, length-map (upto (w * h) 0) f, length_upto (w * h) 0))
      ∙ at_map f (upto (w * h) 0) (y * w + x) 0 0 (omega (arith, length_upto (w * h) 0))
      ∙ ap f (at_upto (w * h) 0 (y * w + x) 0 q ∙ zero-add (y * w + x))
      ∙ ap₂ (λ (a b : ℕ). last_over ws masks (layer_count ws) a b) (pixel_mod w h x y hx hy) (pixel_div w h x y hx hy)

  few : layer_count ws ≤ 65535
  unfolding flatten
  few = (passed w h ws masks labels z).few

  pub topmost : (i : ℕ) → i < layer_count ws → (at ≡ i → Topmost ws masks (layer_count ws) x y i) × (Topmost ws masks (layer_count ws) x y i → at ≡ i)
  topmost i k = (λ e. is_topmost ws masks x y (layer_count ws) i (omega (arith, few)) (sym label_at_lem ∙ e), λ t. label_at_lem ∙ topmost_is ws masks x y (layer_count ws) i t)

  pub uncovered : (at ≡ OUTSIDE → (j : ℕ) → j < layer_count ws → covers ws masks j x y ≡ false) × (((j : ℕ) → j < layer_count ws → covers ws masks j x y ≡ false) → at ≡ OUTSIDE)
  uncovered = (λ e. is_none ws masks x y (layer_count ws) (omega (arith, few)) (sym label_at_lem ∙ e), λ f. label_at_lem ∙ none_is ws masks x y (layer_count ws) f)

-- ONE OUTCOME: two results that meet the call's promise on the same input are equal, number and labels
pub one_outcome : (o : Flat) (m n : ℕ) (ls ks : List ℕ) → flat m ls ≡ o → flat n ks ≡ o → (m ≡ n) × (ls ≡ ks)
one_outcome o m n ls ks p q = let e = p ∙ sym q in (ap (λ (f : Flat). f.number) e, ap (λ (f : Flat). f.labels) e)
