-- One layer more, and all of them.
use Prim.Native.Nat.{ℕ, suc, ◌+◌, ◌*◌, ◌/◌, ◌%◌, ◌<◌, ◌≤◌}
use mathlib.Core.Bool.{Bool, true, false, cond, and-false}
use mathlib.Core.Path.{◌≡◌, refl, sym, ap, ◌∙◌}
use mathlib.Core.Logic.{◌⊎◌, inl, inr}
use mathlib.Core.List.{List, ◌++◌, map, append-nil}
use native.Mathlib.Nat.{zero-add, mul_comm, mul-le-mul_right, div-add-mod'}
use native.Mathlib.Omega.{arith}
use native.Mathlib.Decide.{dec_lt}
use lib.ListN.{length, get_or, replicate, get_or-replicate, length-replicate, length-map}
use lib.Seq.{ext_get_or, drop-length}
use Rattle.rules.specs.Lists.{upto}
use Rattle.rules.specs.Picture.{OUTSIDE}
use Rattle.rules.specs.Calls.{store_after}
use Rattle.rules.proofs.Ground.Lists.{length_upto, at_map, at_upto}
use Rattle.rules.proofs.Islands.Pixels.{pixel_in_lem, column_in, row_in}
use Rattle.layers.specs.Layers.{offset_x, offset_y, wide, high, mask_at, covers, last_over, layer_count, flattened}
use Rattle.layers.specs.Painting.{SpanIs, LayerFits, Layered, OneAsks, OneMore, Painted, Whole}
use Rattle.layers.specs.declared.Span.{Span}
use Rattle.layers.specs.declared.Stamp.{Stamp}
use Rattle.layers.proofs.Masks.{mask_rises}

-- inside a span or beside it
split : (s : Span) (x : ℕ) → ((s.start ≤ x) × (x < s.start + s.count)) ⊎ ((x < s.start) ⊎ (s.start + s.count ≤ x))
split s x =
    elim (dec_lt x s.start) [
      | yes a ↦ inr (inl a)
      | no a ↦ elim (dec_lt x (s.start + s.count)) [ yes b ↦ inl (omega arith, b) | no b ↦ inr (inr (omega arith)) ]
    ]

module _ (ws masks : List ℕ) (width height i mask : ℕ) (old : List ℕ) (q : OneAsks ws masks width height i mask old) {cols rows : Span}
    (c : SpanIs (offset_x ws i) (wide ws i) width cols) (r : SpanIs (offset_y ws i) (high ws i) height rows) where
  abbrev stamp : Stamp
  stamp = record { cols = cols; rows = rows; across = wide ws i; mask = mask }

  pub layer_fits : high ws i ≤ 4294967295 → LayerFits width stamp (length masks) (length old)
  unfolding mask_at
  layer_fits low =
      let d = mul-le-mul_right width r.on_side in
      let o = mul-le-mul_right (wide ws i) r.on_layer in
      let s : i + 1 ≡ suc i = omega arith in
      let b : mask_at ws i + wide ws i * high ws i ≤ length masks = rw s at q.bytes in
      record {
        across = c.on_side;
        own = c.on_layer;
        down = omega (arith, q.canvas, mul_comm height width);
        masked = omega (arith, q.starts, mul_comm (high ws i) (wide ws i));
        low = omega (arith, r.on_side, q.high);
        own_low = omega (arith, r.on_layer);
      }

  pub one_more : (new : List ℕ) → Layered masks width stamp i rows.count old new → OneMore ws masks width height i old new
  one_more new l = record { long = l.long; each = λ x y h k. by_side x y h k (split cols x) (split rows y) }
    where
      by_side : (x y : ℕ) → x < width → y < height → ((cols.start ≤ x) × (x < cols.start + cols.count)) ⊎ ((x < cols.start) ⊎ (cols.start + cols.count ≤ x))
          → ((rows.start ≤ y) × (y < rows.start + rows.count)) ⊎ ((y < rows.start) ⊎ (rows.start + rows.count ≤ y))
          → get_or new (y * width + x) 0 ≡ cond (covers ws masks i x y) i (get_or old (y * width + x) 0)
      by_side x y h k (inl a) (inl b) =
          let cx = c.inside x a.0 a.1 in
          let ry = r.inside y b.0 b.1 in
          l.inside x y a.0 a.1 b.0 b.1 ∙ rw (cx.0, ry.0, cx.1, ry.1, q.starts)
      by_side x y h k (inl a) (inr b) = l.outside x y h (inr b) ∙ rw (r.outside y k b, and-false)
      by_side x y h k (inr a) b = l.outside x y h (inl a) ∙ rw (c.outside x h a)

same_cond : (b : Bool) (i a : ℕ) → cond b i a ≡ elim b [ true ↦ i | false ↦ a ]
same_cond true i a = refl
same_cond false i a = refl

module _ (ws masks : List ℕ) (width height : ℕ) where
  pub next_painted : (i : ℕ) (old new : List ℕ) → Painted ws masks width height i old → OneMore ws masks width height i old new → Painted ws masks width height (i + 1) new
  unfolding last_over
  next_painted i old new p o =
      let s : i + 1 ≡ suc i = omega arith in
      rw s (record {
        long = o.long ∙ p.long;
        each = λ x y h k. o.each x y h k ∙ ap (λ (a : ℕ). cond (covers ws masks i x y) i a) (p.each x y h k) ∙ same_cond (covers ws masks i x y) i (last_over ws masks i x y);
      })

  -- at first all pixels are OUTSIDE
  pub none_painted : (old new : List ℕ) → length old ≡ width * height → new ≡ replicate (length old) OUTSIDE → Painted ws masks width height 0 new
  unfolding last_over
  none_painted old new c e = record {
    long = ap length e ∙ length-replicate (length old) OUTSIDE ∙ c;
    each = λ x y h k.
        let q : y * width + x < length old = rw c (pixel_in_lem width height x y h k) in
        ap (λ (l : List ℕ). get_or l (y * width + x) 0) e ∙ get_or-replicate (length old) (y * width + x) OUTSIDE 0 q;
  }

-- all painted: the labels of the rules
module _ (ws masks : List ℕ) (width height : ℕ) where
  pub all_painted : (old new : List ℕ) → length old ≡ width * height → Painted ws masks width height (layer_count ws) new
      → new ≡ store_after 0 (flattened ws masks width height) old
  unfolding flattened store_after
  all_painted old new c p =
      let f : ℕ → ℕ = λ q. last_over ws masks (layer_count ws) (q % width) (q / width) in
      let long : length (map f (upto (width * height) 0)) ≡ width * height = length-map (upto (width * height) 0) f ∙ length_upto (width * height) 0 in
      let same : new ≡ map f (upto (width * height) 0) =
      ext_get_or 0 new (map f (upto (width * height) 0)) (p.long ∙ sym long) (λ q h.
      let k : q < width * height = omega (arith, p.long) in
      ap (λ (j : ℕ). get_or new j 0) (sym (div-add-mod' q width)) ∙ p.each (q % width) (q / width) (column_in width height q k) (row_in width height q k)
      ∙ sym (at_map f (upto (width * height) 0) q 0 0 (omega (arith, length_upto (width * height) 0)) ∙ ap f (at_upto (width * height) 0 q 0 k ∙ zero-add q))) in
      same ∙ sym (ap (λ (l : List ℕ). map f (upto (width * height) 0) ++ l) (rw long (rw (← c) (drop-length old))) ∙ append-nil (map f (upto (width * height) 0)))

-- STEP BY STEP through the layers
module _ {ws masks : List ℕ} {width height count : ℕ} {labels : List ℕ} (q : Whole ws masks width height count labels) (i : ℕ) (h : i < count) where
  pub mask_fits : mask_at ws i + wide ws i * high ws i ≤ length masks
  unfolding mask_at
  mask_fits = let r = mask_rises ws (suc i) count h in omega (arith, q.bytes)

  pub one_asks : {mask : ℕ} {now : List ℕ} → mask ≡ mask_at ws i → length now ≡ width * height → OneAsks ws masks width height i mask now
  one_asks e l = record {
    canvas = l;
    layer = omega (arith, q.layers);
    starts = e;
    bytes = let s : i + 1 ≡ suc i = omega arith in rw s (let r = mask_rises ws (suc i) count h in omega (arith, q.bytes));
    few = omega (arith, q.few);
    wide = q.wide;
    high = q.high;
  }

pub mask_next : (ws : List ℕ) (i mask a : ℕ) → mask ≡ mask_at ws i → a ≡ wide ws i * high ws i → mask + a ≡ mask_at ws (i + 1)
unfolding mask_at
mask_next ws i mask a e k = let s : i + 1 ≡ suc i = omega arith in rw s (omega arith)
