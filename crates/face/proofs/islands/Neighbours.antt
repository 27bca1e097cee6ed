-- The neighbours before a pixel: which there are, and that those with its label come into its tree.
use mathlib.Core.Path.{◌≡◌, refl, sym, ◌∙◌, ap, subst}
use mathlib.Core.List.{List}
use lib.Dec.{ltb}
use mathlib.Core.Logic.{◌⊎◌, inl, inr}
use Rattle.std.specs.Prelude.{Option, Some, None}
use Rattle.std.proofs.lemmas.Option.{none-some, same_Some, cond_some}
use borrow.Author.Tests.{lt-ltb, ltb-true}
use Prim.Native.Nat.{ℕ, min, max, suc, ◌+◌, ◌*◌, ◌-◌, ◌/◌, ◌%◌, ◌≤◌, ◌<◌}
use native.Mathlib.Omega.{arith}
use native.Mathlib.Decide.{ℕ_discrete, dec_lt}
use native.Mathlib.Nat.{div-eq_of_lt, add-mod_right, div-add-mod', suc-mul, mod-le}
use lib.ListN.{get_or, set}
use Rattle.rules.specs.Picture.{seen, picture}
use Rattle.rules.proofs.Islands.Joined.{Step, here, step}
use Rattle.rules.proofs.Islands.Pixels.{label_of_is, column_in, left_column, left_row, right_column, right_row, below_row, same_pixel}
use Rattle.face.specs.declared.islands.Plan.{Plan}
use Rattle.face.specs.Islands.{area, view, number, Tied, Grown, Leaf, Rooted, Met, Before, Over, beside_left, beside_right, LeftOf, RightOf, Above, Hand}
use Rattle.face.proofs.islands.Trees.{tied_to, tied_grown, grown_none, grown_then, below_first, below_second}

-- PLACES

-- the end of one row comes before the next row
pub row_before : (w h q p : ℕ) → q < w * h → suc (q / w) ≡ p / w → q < p
row_before w h q p b e = omega (arith, div-add-mod' q w, div-add-mod' p w, suc-mul (q / w) w, ap (λ (i : ℕ). i * w) e, column_in w h q b)

-- in one row the columns decide
pub column_before : (w q p : ℕ) → q / w ≡ p / w → q < p → q % w < p % w
column_before w q p e l = omega (arith, div-add-mod' q w, div-add-mod' p w, ap (λ (i : ℕ). i * w) e)

module _ {m : Plan} {p : ℕ} {ls work : List ℕ} (l : Leaf m (suc p) ls work p) where
  pub leaf_in : p < area m
  leaf_in = omega (arith, l.forest.few)

  -- an equal neighbour
  pub step_before : {q : ℕ} → Before m p q → seen m.bound (get_or ls q 0) ≡ seen m.bound (get_or ls p 0) → Step (view m ls) p q
  unfolding picture
  step_before {q} b e =
      record {
        start = leaf_in;
        end = omega (arith, b.earlier, leaf_in);
        same = label_of_is m.width m.height m.bound ls l.forest.sizes.labels p leaf_in ∙ sym e ∙ sym (label_of_is m.width m.height m.bound ls l.forest.sizes.labels q (omega (arith, b.earlier, leaf_in)));
        inside = l.inside;
        right = b.right;
        left = b.left;
        down = b.down;
        up = b.up;
      }

  -- a neighbour with another label
  pub other_label : {q : ℕ} → (seen m.bound (get_or ls q 0) ≡ seen m.bound (get_or ls p 0) → ⊥) → Step (view m ls) p q → ⊥
  unfolding picture
  other_label {q} n s = n (sym (label_of_is m.width m.height m.bound ls l.forest.sizes.labels q s.end) ∙ sym s.same ∙ label_of_is m.width m.height m.bound ls l.forest.sizes.labels p s.start)

  -- MEETING ONE

  pub met_none : {S : ℕ → Type 0} → ((q : ℕ) → S q → Step (view m ls) p q → ⊥) → Met m p ls work work S
  met_none n = record { grown = grown_none l.forest; hits = λ q i s. absurd (n q i s) }

pub met_other : {m : Plan} {p q : ℕ} {ls work : List ℕ} → Leaf m (suc p) ls work p → (seen m.bound (get_or ls q 0) ≡ seen m.bound (get_or ls p 0) → ⊥) → Met m p ls work work (λ r. r ≡ q)
met_other {m} {p} {q} {ls} l n = met_none l (λ z e s. other_label l n (subst (Step (view m ls) p) e s))

pub met_nobody : {m : Plan} {p : ℕ} {ls work : List ℕ} {o : Option ℕ} → Leaf m (suc p) ls work p → o ≡ None → Met m p ls work work (λ r. o ≡ Some r)
met_nobody l e = met_none l (λ q i s. absurd (none-some q (sym e ∙ i)))

pub met_one : {m : Plan} {p q : ℕ} {ls work work' : List ℕ} → Grown m (suc p) ls work work' × Tied m (suc p) ls work' p q → Met m p ls work work' (λ r. r ≡ q)
met_one {m} {p} {q} {ls} {work} {work'} t = record { grown = t.0; hits = λ z e s. subst (Tied m (suc p) ls work' p) (sym e) t.1 }

pub met_as : {m : Plan} {p : ℕ} {ls work work' : List ℕ} {S T : ℕ → Type 0} → Met m p ls work work' S → ((q : ℕ) → T q → Step (view m ls) p q → S q) → Met m p ls work work' T
met_as f t = record { grown = f.grown; hits = λ q i s. f.hits q (t q i s) s }

pub met_some : {m : Plan} {p q : ℕ} {ls work work' : List ℕ} → Met m p ls work work' (λ r. r ≡ q) → Met m p ls work work' (λ r. Some q ≡ Some r)
met_some {q = q} f = met_as f (λ r i s. sym (same_Some q r i))

pub met_both : {m : Plan} {p : ℕ} {ls a b c : List ℕ} {S T : ℕ → Type 0} → Met m p ls a b S → Met m p ls b c T → Met m p ls a c (λ q. S q ⊎ T q)
met_both {m} {p} {ls} {a} {b} {c} {S} {T} f g = record { grown = grown_then f.grown g.grown; hits = λ q i s. go q i s }
  where
    go : (q : ℕ) → S q ⊎ T q → Step (view m ls) p q → Tied m (suc p) ls c p q
    go q (inl i) s = tied_grown g.grown (f.hits q i s)
    go q (inr i) s = g.hits q i s

pub met_leaf : {m : Plan} {p : ℕ} {ls work work' : List ℕ} {S : ℕ → Type 0} → Leaf m (suc p) ls work p → Met m p ls work work' S → Leaf m (suc p) ls work' p
met_leaf l f = record { forest = f.grown.forest; within = l.within; inside = l.inside }

-- LEFT AND RIGHT of `at`

module _ {m : Plan} {x p at : ℕ} {ls work : List ℕ} (l : Leaf m (suc p) ls work p) (o : Over m x p at) where
  at_in : at < m.width * m.height
  at_in = omega (arith, o.earlier, leaf_in l)

  pub column_low : x ≤ p
  column_low = omega (arith, o.column, mod-le p m.width)

  module _ (k : 0 < x) where
    to_left : (suc ((at - 1) % m.width) ≡ at % m.width) × ((at - 1) / m.width ≡ at / m.width)
    to_left = let c : 0 < at % m.width = omega (arith, o.straight) in (left_column m.width m.height at at_in c, left_row m.width m.height at at_in c)

    pub at_some : 0 < at
    at_some = omega (arith, mod-le at m.width, o.straight)

    left_before : Before m p (at - 1)
    left_before = record { earlier = omega (arith, o.earlier, at_some); right = omega (arith, to_left, o.straight, o.column); left = omega (arith, to_left, o.straight, o.column); down = omega (arith, to_left, o.down); up = omega (arith, to_left, o.up) }

    left_is : (q : ℕ) → LeftOf m at q → at - 1 ≡ q
    left_is q i = sym (same_pixel m.width q (at - 1) (omega (arith, i.0, to_left.0)) (i.1 ∙ sym to_left.1))

  -- the pixel on the left, if there is one, is a neighbour, and the only one there
  pub left_asks : (r : ℕ) → beside_left x at ≡ Some r → Before m p r
  left_asks r e = let k = cond_some (ltb 0 x) (at - 1) r e in subst (Before m p) k.1 (left_before (ltb-true 0 x k.0))

  pub left_met : {work' : List ℕ} → Met m p ls work work' (λ r. beside_left x at ≡ Some r) → Met m p ls work work' (LeftOf m at)
  left_met f = met_as f (λ q i s. let k : 0 < x = omega (arith, i.0, o.straight) in rw (lt-ltb 0 x k, left_is k q i) refl)

  module _ (k : x + 1 < m.width) where
    to_right : ((at + 1) % m.width ≡ suc (at % m.width)) × ((at + 1) / m.width ≡ at / m.width)
    to_right = let c : suc (at % m.width) < m.width = omega (arith, o.straight) in (right_column m.width m.height at at_in c, right_row m.width m.height at at_in c)

    right_before : Above m p at → Before m p (at + 1)
    right_before a = record {
      earlier = row_before m.width m.height (at + 1) p (omega (arith, row_before m.width m.height at p at_in a, leaf_in l)) (omega (arith, a, to_right.1));
      right = omega (arith, to_right, o.straight, o.column);
      left = omega (arith, to_right, o.straight, o.column);
      down = omega (arith, to_right, o.down);
      up = omega (arith, to_right, o.up);
    }

    right_is : (q : ℕ) → RightOf m at q → at + 1 ≡ q
    right_is q i = sym (same_pixel m.width q (at + 1) (i.0 ∙ sym to_right.0) (i.1 ∙ sym to_right.1))

  pub right_asks : Above m p at → (r : ℕ) → beside_right m.width x at ≡ Some r → Before m p r
  right_asks a r e = let k = cond_some (ltb (x + 1) m.width) (at + 1) r e in subst (Before m p) k.1 (right_before (ltb-true (x + 1) m.width k.0) a)

  pub right_met : {work' : List ℕ} → Met m p ls work work' (λ r. beside_right m.width x at ≡ Some r) → Met m p ls work work' (RightOf m at)
  unfolding picture
  right_met f = met_as f (λ q i s. let k : x + 1 < m.width = omega (arith, i.0, o.straight, column_in m.width m.height q s.end) in rw (lt-ltb (x + 1) m.width k, right_is k q i) refl)

-- a neighbour in the row of `at`, which stands in the column of p
in_row : {m : Plan} {x p at : ℕ} (ls : List ℕ) → Over m x p at → (q : ℕ) → q / m.width ≡ at / m.width → Step (view m ls) p q → (q ≡ at) ⊎ (LeftOf m at q ⊎ RightOf m at q)
unfolding picture
in_row {m} {x} {p} {at} ls o q i s =
    elim (ℕ_discrete (q % m.width) (at % m.width)) [
      | yes e ↦ inl (same_pixel m.width q at e i)
      | no n ↦
          elim (dec_lt (q % m.width) (at % m.width)) [
            | yes l ↦ inr (inl (omega (arith, s.left, o.column, o.straight), i))
            | no l ↦ inr (inr (omega (arith, s.right, o.column, o.straight), i))
          ]
    ]

-- THE ROW ABOVE

module _ {m : Plan} {x p : ℕ} {ls work : List ℕ} (g : Hand m x p ls work) where
  pub above_none : p < m.width → Met m p ls work work (Above m p)
  above_none k = met_none g.leaf (λ q i s. omega (arith, i, div-eq_of_lt k))

  module _ (k : m.width ≤ p) where
    abbrev north : ℕ
    north = p - m.width

    up_one : north + m.width ≡ p
    up_one = omega arith

    north_in : north < m.width * m.height
    north_in = omega (arith, leaf_in g.leaf)

    pub north_above : Above m p north
    north_above = sym (below_row m.width m.height north north_in) ∙ ap (λ (i : ℕ). i / m.width) up_one

    pub north_over : Over m x p north
    north_over = record {
      earlier = omega arith;
      column = g.column;
      straight = sym (add-mod_right north m.width) ∙ ap (λ (i : ℕ). i % m.width) up_one ∙ sym g.column;
      down = omega (arith, north_above);
      up = omega (arith, north_above);
    }

    pub north_before : Before m p north
    north_before = record {
      earlier = row_before m.width m.height north p north_in north_above;
      right = omega (arith, north_over.straight, g.column);
      left = omega (arith, north_over.straight, g.column);
      down = omega (arith, north_above);
      up = omega (arith, north_above);
    }

    in_north : (q : ℕ) → Above m p q → Step (view m ls) p q → (q ≡ north) ⊎ (LeftOf m north q ⊎ RightOf m north q)
    in_north q i s = in_row ls north_over q (omega (arith, i, north_above)) s

    -- the one right above is equal: what is beside it is in its tree
    pub above_equal : {work' : List ℕ} → seen m.bound (get_or ls north 0) ≡ seen m.bound (get_or ls p 0) → Met m p ls work work' (λ r. r ≡ north) → Met m p ls work work' (Above m p)
    unfolding picture
    above_equal {work'} e f = record { grown = f.grown; hits = λ q i s. hit q i s }
      where
        north_step : Step (view m ls) p north
        north_step = step_before g.leaf north_before e

        hit : (q : ℕ) → Above m p q → Step (view m ls) p q → Tied m (suc p) ls work' p q
        hit q i s =
            let beside : Step (view m ls) north q =
            record {
              start = north_in;
              end = s.end;
              same = sym north_step.same ∙ s.same;
              inside = λ z. g.leaf.inside (north_step.same ∙ z);
              right = omega (arith, s.right, north_over.straight, g.column);
              left = omega (arith, s.left, north_over.straight, g.column);
              down = omega (arith, i, north_above);
              up = omega (arith, i, north_above);
            } in
            tied_to (f.hits north refl north_step) (tied_grown f.grown (g.ties north q north_before.earlier (row_before m.width m.height q p s.end i) beside))

    pub above_apart : {b c : List ℕ} → (seen m.bound (get_or ls north 0) ≡ seen m.bound (get_or ls p 0) → ⊥) → Met m p ls work b (LeftOf m north) → Met m p ls b c (RightOf m north) → Met m p ls work c (Above m p)
    above_apart {b} {c} n f h = met_as (met_both f h) (λ q i s. go q s (in_north q i s))
      where
        go : (q : ℕ) → Step (view m ls) p q → (q ≡ north) ⊎ (LeftOf m north q ⊎ RightOf m north q) → LeftOf m north q ⊎ RightOf m north q
        go q s (inl e) = absurd (other_label g.leaf n (subst (Step (view m ls) p) e s))
        go q s (inr i) = i

-- JOINING p and q, by their roots a and b

module _ {m : Plan} {p q : ℕ} {ls work : List ℕ} (l : Leaf m (suc p) ls work p) (h : Before m p q) (e : seen m.bound (get_or ls q 0) ≡ seen m.bound (get_or ls p 0)) where
  -- they name the same
  pub joined_already : number m work p ≡ number m work q → Met m p ls work work (λ r. r ≡ q)
  joined_already z =
      met_one (
        grown_none l.forest,
        record { same = λ f c. sym (c p l.within l.inside) ∙ ap f z ∙ c q (omega (arith, h.earlier)) (λ o. l.inside ((step_before l h e).same ∙ o)) },
      )

  module _ {a : ℕ} {work₁ : List ℕ} (ra : Rooted m (suc p) ls p work a work₁) where
    pub second_leaf : Leaf m (suc p) ls work₁ q
    second_leaf = record { forest = ra.grown.forest; within = omega (arith, h.earlier); inside = λ z. l.inside ((step_before l h e).same ∙ z) }

    module _ {b : ℕ} {work₂ : List ℕ} (rb : Rooted m (suc p) ls q work₁ b work₂) where
      joined_first : a < b → Met m p ls work (set work₂ (m.ids + b) a) (λ r. r ≡ q)
      joined_first k = met_one (below_first l (omega (arith, h.earlier)) (step (step_before l h e) here) ra rb k)

      joined_second : b ≤ a → Met m p ls work (set work₂ (m.ids + a) b) (λ r. r ≡ q)
      joined_second k = met_one (below_second l (omega (arith, h.earlier)) (step (step_before l h e) here) ra rb k)

      -- the greater root comes under the lesser one
      pub joined : Met m p ls work (set work₂ (m.ids + max a b) (min a b)) (λ r. r ≡ q)
      joined =
          elim (dec_lt a b) [
            | yes k ↦ let u : max a b ≡ b = omega arith in let v : min a b ≡ a = omega arith in rw (u, v) (joined_first k)
            | no k ↦ let u : max a b ≡ a = omega arith in let v : min a b ≡ b = omega arith in rw (u, v) (joined_second (omega arith))
          ]
