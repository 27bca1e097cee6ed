-- One pixel more, and then all of them: each is in one tree with its equal neighbours before it.
use mathlib.Core.Path.{◌≡◌, refl, sym, ◌∙◌, ap, subst}
use mathlib.Core.List.{List}
use mathlib.Core.Logic.{◌⊎◌, inl, inr}
use Prim.Native.Nat.{ℕ, suc, ◌+◌, ◌*◌, ◌/◌, ◌%◌, ◌≤◌, ◌<◌}
use native.Mathlib.Omega.{arith}
use native.Mathlib.Decide.{ℕ_discrete}
use native.Mathlib.Nat.{suc-mul, mul-add-mod_self_right, mod-eq_of_lt, not-suc-le-zero, mul_comm}
use lib.ListN.{length, get_or, set, length-set}
use lib.Seq.{get_or-set_same, get_or-set_other}
use Rattle.rules.specs.Picture.{seen, picture, OUTSIDE}
use Rattle.rules.specs.Face.{label_of}
use Rattle.rules.proofs.Islands.Joined.{Step, Joined, here, back}
use Rattle.rules.proofs.Islands.Pixels.{label_of_is}
use Rattle.store.proofs.Writes.{kept_none, kept_then, kept_set}
use Rattle.face.specs.declared.islands.Plan.{Plan}
use Rattle.face.specs.Islands.{no_island, area, view, number, Inside, Sizes, Forest, Tied, Met, Over, LeftOf, Above, Hand, Linked, Links}
use Rattle.face.proofs.islands.Trees.{tied_back, tied_here, tied_grown}
use Rattle.face.proofs.islands.Neighbours.{row_before, column_before, met_both, met_leaf}

module _ {m : Plan} {p : ℕ} {ls work : List ℕ} (t : Linked m p ls work) (within : p < area m) where
  pub here_label : label_of (view m ls) p ≡ seen m.bound (get_or ls p 0)
  here_label = label_of_is m.width m.height m.bound ls t.forest.sizes.labels p within

  pub here_inside : (v : ℕ) → v ≡ seen m.bound (get_or ls p 0) → (v ≡ OUTSIDE → ⊥) → Inside m ls p
  here_inside v e n o = n (e ∙ sym here_label ∙ o)

  -- A WORD for p
  module _ (v : ℕ) where
    abbrev work₁ : List ℕ
    work₁ = set work (m.ids + p) v

    pub in_store : m.ids + p < length work
    in_store = omega (arith, t.forest.sizes.room)

    here_is : number m work₁ p ≡ v
    here_is = get_or-set_same work (m.ids + p) v 0 in_store

    before_is : (q : ℕ) → q < p → number m work₁ q ≡ number m work q
    before_is q l = get_or-set_other work (m.ids + p) (m.ids + q) v 0 (omega arith)

    sizes₁ : Sizes m ls work₁
    sizes₁ = record { labels = t.forest.sizes.labels; small = t.forest.sizes.small; room = omega (arith, t.forest.sizes.room, length-set work (m.ids + p) v) }

    -- with it the forest reaches to p
    forest₁ : (Inside m ls p → v ≡ p) → (label_of (view m ls) p ≡ OUTSIDE → v ≡ no_island) → Forest m (suc p) ls work₁
    forest₁ a b = record {
      sizes = sizes₁;
      few = within;
      down = λ q l i. elim (ℕ_discrete q p) [
        | yes e ↦ omega (arith, ap (number m work₁) e, here_is, a (subst (Inside m ls) e i))
        | no n ↦ omega (arith, before_is q (omega (arith, n)), t.forest.down q (omega (arith, n)) i)
      ];
      joined = λ q l i. elim (ℕ_discrete q p) [
        | yes e ↦ subst (Joined (view m ls) q) (sym (ap (number m work₁) e ∙ here_is ∙ a (subst (Inside m ls) e i) ∙ sym e)) here
        | no n ↦ subst (Joined (view m ls) q) (sym (before_is q (omega (arith, n)))) (t.forest.joined q (omega (arith, n)) i)
      ];
      outside = λ q l o. elim (ℕ_discrete q p) [
        | yes e ↦ ap (number m work₁) e ∙ here_is ∙ b (sym (ap (label_of (view m ls)) e) ∙ o)
        | no n ↦ before_is q (omega (arith, n)) ∙ t.forest.outside q (omega (arith, n)) o
      ];
    }

    -- what was tied is
    ties₁ : (q r : ℕ) → q < p → r < p → Step (view m ls) q r → Tied m (suc p) ls work₁ q r
    ties₁ q r a b s = record { same = λ f c. (t.ties q r a b s).same f (λ z l i. ap f (sym (before_is z l)) ∙ c z (omega (arith, l)) i) }

  -- OUTSIDE
  pub link_outside : label_of (view m ls) p ≡ OUTSIDE → Links m p ls work (suc p) (set work (m.ids + p) no_island)
  link_outside o = record {
    linked = record { forest = forest₁ no_island (λ i. absurd (i o)) (λ _. refl); ties = λ q r a b s. ties₁ no_island q r (left q a s.inside) (left r b (λ e. s.inside (s.same ∙ e))) s };
    kept = kept_set work (m.ids + p) no_island (omega arith) (omega (arith, within));
  }
    where
      left : (q : ℕ) → q < suc p → Inside m ls q → q < p
      left q a i = elim (ℕ_discrete q p) [ yes e ↦ absurd (i (ap (label_of (view m ls)) e ∙ o)) | no n ↦ omega (arith, n) ]

  -- INSIDE
  module _ (i : Inside m ls p) (x : ℕ) (column : x ≡ p % m.width) where
    pub link_hand : Hand m x p ls (set work (m.ids + p) p)
    link_hand = record { leaf = record { forest = forest₁ p (λ _. refl) (λ o. absurd (i o)); within = omega arith; inside = i }; column = column; ties = ties₁ p }

    pub link_over : Over m x p p
    link_over = record { earlier = omega arith; column = column; straight = sym column; down = omega arith; up = omega arith }

    -- a neighbour before p is left of it or above it
    where_before : (q : ℕ) → q < p → Step (view m ls) p q → LeftOf m p q ⊎ Above m p q
    unfolding picture
    where_before q l s =
        elim (ℕ_discrete (q / m.width) (p / m.width)) [
          | yes e ↦ inl (omega (arith, column_before m.width q p e l, s.left), e)
          | no n ↦ inr (elim (ℕ_discrete (q / m.width) (suc (p / m.width))) [
            | yes e ↦ absurd (omega (arith, row_before m.width m.height p q s.start (sym e), l))
            | no d ↦ omega (arith, n, d, s.up, s.down)
          ])
        ]

    pub link_inside : {a b : List ℕ} → Met m p ls (set work (m.ids + p) p) a (LeftOf m p) → Met m p ls a b (Above m p) → Links m p ls work (suc p) b
    link_inside {a} {b} f g = record {
      linked = record { forest = both.grown.forest; ties = λ q r c d s. tied q r c d s (ℕ_discrete q p) (ℕ_discrete r p) };
      kept = kept_then (kept_set work (m.ids + p) p (omega arith) (omega (arith, within))) both.grown.kept;
    }
      where
        both : Met m p ls (set work (m.ids + p) p) b (λ q. LeftOf m p q ⊎ Above m p q)
        both = met_both f g

        hit : (r : ℕ) → r < p → Step (view m ls) p r → Tied m (suc p) ls b p r
        hit r l s = both.hits r (where_before r l s) s

        tied : (q r : ℕ) → q < suc p → r < suc p → Step (view m ls) q r → Dec (q ≡ p) → Dec (r ≡ p) → Tied m (suc p) ls b q r
        tied q r c d s (yes e) (yes z) = subst (Tied m (suc p) ls b q) (e ∙ sym z) tied_here
        tied q r c d s (yes e) (no n) = subst (λ (q : ℕ). Tied m (suc p) ls b q r) (sym e) (hit r (omega (arith, n)) (subst (λ (q : ℕ). Step (view m ls) q r) e s))
        tied q r c d s (no n) (yes z) = tied_back (subst (λ (r : ℕ). Tied m (suc p) ls b r q) (sym z) (hit q (omega (arith, n)) (subst (λ (r : ℕ). Step (view m ls) r q) z (back s))))
        tied q r c d s (no n) (no o) = tied_grown both.grown (link_hand.ties q r (omega (arith, n)) (omega (arith, o)) s)

-- the hand after p has met some of them
pub hand_then : {m : Plan} {x p : ℕ} {ls work a : List ℕ} {S : ℕ → Type 0} → Hand m x p ls work → Met m p ls work a S → Hand m x p ls a
hand_then g f = record { leaf = met_leaf g.leaf f; column = g.column; ties = λ q r c d s. tied_grown f.grown (g.ties q r c d s) }

-- ALL OF THEM

module _ {m : Plan} {ls work : List ℕ} where
  pub links_none : Sizes m ls work → Links m 0 ls work 0 work
  links_none s = record {
    linked = record {
      forest = record { sizes = s; few = omega arith; down = λ q l. absurd (not-suc-le-zero l); joined = λ q l. absurd (not-suc-le-zero l); outside = λ q l. absurd (not-suc-le-zero l) };
      ties = λ q r l. absurd (not-suc-le-zero l);
    };
    kept = kept_none;
  }

  pub links_then : {i j k : ℕ} {a b : List ℕ} → Links m i ls work j a → Links m j ls a k b → Links m i ls work k b
  links_then f g = record { linked = g.linked; kept = kept_then f.kept g.kept }

-- THE LOOPS: rows, and the pixels of a row

pub column_is : (w x y : ℕ) → x < w → x ≡ (y * w + x) % w
column_is w x y k = sym (mul-add-mod_self_right y w x ∙ mod-eq_of_lt k)

pub row_end : (w x y : ℕ) → w ≤ x → x ≤ w → y * w + x ≡ (y + 1) * w
row_end w x y h k = let e : y + 1 ≡ suc y = omega arith in rw e (omega (arith, suc-mul y w))

pub rows_end : (w h y : ℕ) → h ≤ y → y ≤ h → y * w ≡ w * h
rows_end w h y p q = let e : y ≡ h = omega arith in rw e (mul_comm h w)
