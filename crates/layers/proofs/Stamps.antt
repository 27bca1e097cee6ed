-- What painting leaves: a row, the rows of a layer.
use Prim.Native.Nat.{ℕ, suc, ◌+◌, ◌*◌, ◌-◌, ◌<◌, ◌≤◌}
use mathlib.Core.Bool.{cond}
use mathlib.Core.Path.{◌≡◌, refl, sym, ap, ap₂, ◌∙◌}
use mathlib.Core.Logic.{◌⊎◌, inl, inr}
use mathlib.Core.List.{List}
use native.Mathlib.Nat.{mul_comm, suc-mul, mul-le-mul_right}
use native.Mathlib.Omega.{arith}
use native.Mathlib.Decide.{ℕ_discrete, dec_lt}
use lib.Dec.{eqb}
use lib.ListN.{length, get_or, set, length-set}
use lib.Seq.{get_or-set_same, get_or-set_other}
use Rattle.rules.proofs.Islands.Pixels.{pixel_in_lem}
use Rattle.layers.specs.Painting.{Rowed, LayerFits, Layered}
use Rattle.layers.specs.declared.Stamp.{Stamp}

-- A ROW

module _ (masks : List ℕ) (to from number : ℕ) (old : List ℕ) where
  pub row_none : Rowed masks to from 0 number old old
  row_none = record { long = refl; inside = λ k h. absurd (omega arith); outside = λ q h. refl }

  pub row_more : (k : ℕ) (new : List ℕ) (v : ℕ) → to + k < length old → Rowed masks to from k number old new
      → v ≡ cond (eqb (get_or masks (from + k) 0) 1) number (get_or new (to + k) 0) → Rowed masks to from (k + 1) number old (set new (to + k) v)
  row_more k new v h r e = record {
    long = length-set new (to + k) v ∙ r.long;
    inside = λ j q. elim (ℕ_discrete j k) [
      | yes z ↦ rw z (at_k)
      | no z ↦ get_or-set_other new (to + k) (to + j) v 0 (λ y. z (omega arith)) ∙ r.inside j (omega arith)
    ];
    outside = λ q o. get_or-set_other new (to + k) q v 0 (apart q o) ∙ r.outside q (wider q o);
  }
    where
      at_k : get_or (set new (to + k) v) (to + k) 0 ≡ cond (eqb (get_or masks (from + k) 0) 1) number (get_or old (to + k) 0)
      at_k =
          get_or-set_same new (to + k) v 0 (omega (arith, r.long)) ∙ e
          ∙ ap (λ (a : ℕ). cond (eqb (get_or masks (from + k) 0) 1) number a) (r.outside (to + k) (inr (omega arith)))

      apart : (q : ℕ) → (q < to) ⊎ (to + (k + 1) ≤ q) → q ≡ to + k → ⊥
      apart q (inl o) z = omega arith
      apart q (inr o) z = omega arith

      wider : (q : ℕ) → (q < to) ⊎ (to + (k + 1) ≤ q) → (q < to) ⊎ (to + k ≤ q)
      wider q (inl o) = inl o
      wider q (inr o) = inr (omega arith)

-- THE ROWS OF A LAYER

-- pixels of another row
row_above : (width x y z : ℕ) → x < width → y < z → y * width + x < z * width
row_above width x y z h k = rw (mul_comm z width) (pixel_in_lem width z x y h k)

module _ {width : ℕ} {s : Stamp} {bytes pixels : ℕ} (f : LayerFits width s bytes pixels) (k : ℕ) (h : k < s.rows.count) where
  pub to_fits : (s.rows.start + k) * width + s.cols.start + s.cols.count ≤ pixels
  to_fits =
      let r = mul-le-mul_right {m = suc (s.rows.start + k)} {n = s.rows.start + s.rows.count} width (omega arith) in
      omega (arith, suc-mul (s.rows.start + k) width, f.across, f.down)

  pub from_fits : s.mask + ((s.rows.skip + k) * s.across + s.cols.skip) + s.cols.count ≤ bytes
  from_fits =
      let r = mul-le-mul_right {m = suc (s.rows.skip + k)} {n = s.rows.skip + s.rows.count} s.across (omega arith) in
      omega (arith, suc-mul (s.rows.skip + k) s.across, f.own, f.masked)

module _ (masks : List ℕ) (width : ℕ) (s : Stamp) (number : ℕ) (old : List ℕ) where
  pub layer_none : Layered masks width s number 0 old old
  layer_none = record { long = refl; inside = λ x y a b c d. absurd (omega arith); outside = λ x y h o. refl }

  pub layer_blank : (k : ℕ) → s.cols.count ≡ 0 → Layered masks width s number k old old
  layer_blank k z = record { long = refl; inside = λ x y a b c d. absurd (omega arith); outside = λ x y h o. refl }

  pub layer_more : (k : ℕ) (new new' : List ℕ) → s.cols.start + s.cols.count ≤ width → Layered masks width s number k old new
      → Rowed masks ((s.rows.start + k) * width + s.cols.start) (s.mask + ((s.rows.skip + k) * s.across + s.cols.skip)) s.cols.count number new new'
      → Layered masks width s number (k + 1) old new'
  layer_more k new new' fits l r = record {
    long = r.long ∙ l.long;
    inside = λ x y a b c d. elim (ℕ_discrete y (s.rows.start + k)) [
      | yes z ↦ this_row x y a b z
      | no z ↦ r.outside (y * width + x) (inl (let q = row_above width x y (s.rows.start + k) (omega arith) (omega arith) in omega arith)) ∙ l.inside x y a b c (omega arith)
    ];
    outside = λ x y h o. elim (ℕ_discrete y (s.rows.start + k)) [
      | yes z ↦ r.outside (y * width + x) (beside x y z o) ∙ l.outside x y h (inr (inr (omega arith)))
      | no z ↦ r.outside (y * width + x) (apart x y h z) ∙ l.outside x y h (less x y z o)
    ];
  }
    where
      this_row : (x y : ℕ) → s.cols.start ≤ x → x < s.cols.start + s.cols.count → y ≡ s.rows.start + k
          → get_or new' (y * width + x) 0
          ≡ cond (eqb (get_or masks (s.mask + ((s.rows.skip + (y - s.rows.start)) * s.across + (s.cols.skip + (x - s.cols.start)))) 0) 1) number (get_or old (y * width + x) 0)
      this_row x y a b z =
          let i : y * width + x ≡ (s.rows.start + k) * width + s.cols.start + (x - s.cols.start) = ap (λ (v : ℕ). v * width + x) z ∙ omega arith in
          let v : s.rows.skip + (y - s.rows.start) ≡ s.rows.skip + k = omega arith in
          let j : s.mask + ((s.rows.skip + k) * s.across + s.cols.skip) + (x - s.cols.start) ≡ s.mask + ((s.rows.skip + (y - s.rows.start)) * s.across + (s.cols.skip + (x - s.cols.start))) =
          rw v (omega arith) in
          ap (λ (q : ℕ). get_or new' q 0) i ∙ r.inside (x - s.cols.start) (omega arith)
          ∙ ap₂ (λ (p q : ℕ). cond (eqb (get_or masks p 0) 1) number (get_or new q 0)) j (sym i)
          ∙ ap (λ (q : ℕ). cond (eqb (get_or masks (s.mask + ((s.rows.skip + (y - s.rows.start)) * s.across + (s.cols.skip + (x - s.cols.start)))) 0) 1) number q)
          (l.outside x y (omega arith) (inr (inr (omega arith))))

      beside : (x y : ℕ) → y ≡ s.rows.start + k → ((x < s.cols.start) ⊎ (s.cols.start + s.cols.count ≤ x)) ⊎ ((y < s.rows.start) ⊎ (s.rows.start + (k + 1) ≤ y))
          → (y * width + x < (s.rows.start + k) * width + s.cols.start) ⊎ ((s.rows.start + k) * width + s.cols.start + s.cols.count ≤ y * width + x)
      beside x y z (inl (inl o)) = let e = ap (λ (v : ℕ). v * width) z in inl (omega arith)
      beside x y z (inl (inr o)) = let e = ap (λ (v : ℕ). v * width) z in inr (omega arith)
      beside x y z (inr (inl o)) = absurd (omega arith)
      beside x y z (inr (inr o)) = absurd (omega arith)

      apart : (x y : ℕ) → x < width → (y ≡ s.rows.start + k → ⊥)
          → (y * width + x < (s.rows.start + k) * width + s.cols.start) ⊎ ((s.rows.start + k) * width + s.cols.start + s.cols.count ≤ y * width + x)
      apart x y h z =
          elim (dec_lt y (s.rows.start + k)) [
            | yes b ↦ inl (let q = row_above width x y (s.rows.start + k) h b in omega arith)
            | no b ↦ inr (let q = mul-le-mul_right {m = suc (s.rows.start + k)} {n = y} width (omega arith) in omega (arith, suc-mul (s.rows.start + k) width))
          ]

      less : (x y : ℕ) → (y ≡ s.rows.start + k → ⊥) → ((x < s.cols.start) ⊎ (s.cols.start + s.cols.count ≤ x)) ⊎ ((y < s.rows.start) ⊎ (s.rows.start + (k + 1) ≤ y))
          → ((x < s.cols.start) ⊎ (s.cols.start + s.cols.count ≤ x)) ⊎ ((y < s.rows.start) ⊎ (s.rows.start + k ≤ y))
      less x y z (inl o) = inl o
      less x y z (inr (inl o)) = inr (inl o)
      less x y z (inr (inr o)) = inr (inr (omega arith))
