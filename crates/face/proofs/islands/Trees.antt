-- Trees of pixels: a way that is halved, two roots that become one.
use mathlib.Core.Path.{◌≡◌, refl, sym, ◌∙◌, ap, subst}
use mathlib.Core.List.{List}
use Prim.Native.Nat.{ℕ, ◌+◌, ◌≤◌, ◌<◌}
use native.Mathlib.Omega.{arith}
use native.Mathlib.Decide.{ℕ_discrete}
use lib.ListN.{length, set, length-set}
use lib.Seq.{get_or-set_same, get_or-set_other}
use Rattle.rules.specs.Face.{label_of}
use Rattle.rules.proofs.Islands.Joined.{Joined, here, trans, turn, joined_same}
use Rattle.store.proofs.Writes.{kept_none, kept_then, kept_set}
use Rattle.face.specs.declared.islands.Plan.{Plan}
use Rattle.face.specs.Islands.{view, number, Inside, Forest, Shared, Tied, Grown, Leaf, Rooted}

-- the same label is as much inside
pub inside_joined : (m : Plan) (ls : List ℕ) {p q : ℕ} → Joined (view m ls) p q → Inside m ls p → Inside m ls q
inside_joined m ls j i e = i (joined_same j ∙ e)

-- TIES

module _ {m : Plan} {k : ℕ} {ls work : List ℕ} where
  pub tied_to : {p q r : ℕ} → Tied m k ls work p q → Tied m k ls work q r → Tied m k ls work p r
  tied_to s t = record { same = λ f c. s.same f c ∙ t.same f c }

  pub tied_back : {p q : ℕ} → Tied m k ls work p q → Tied m k ls work q p
  tied_back s = record { same = λ f c. sym (s.same f c) }

  pub tied_here : {p : ℕ} → Tied m k ls work p p
  tied_here = record { same = λ f c. refl }

  pub tied_grown : {work' : List ℕ} {p q : ℕ} → Grown m k ls work work' → Tied m k ls work p q → Tied m k ls work' p q
  tied_grown g t = record { same = λ f c. t.same f (g.ties f c) }

  pub grown_none : Forest m k ls work → Grown m k ls work work
  grown_none f = record { forest = f; ties = λ f c. c; kept = kept_none }

  pub grown_then : {work₁ work₂ : List ℕ} → Grown m k ls work work₁ → Grown m k ls work₁ work₂ → Grown m k ls work work₂
  grown_then f g = record { forest = g.forest; ties = λ v c. f.ties v (g.ties v c); kept = kept_then f.kept g.kept }

-- A NEW NAME r for q, which does not come after it and is of its island

module _ {m : Plan} {k : ℕ} {ls work : List ℕ} (f : Forest m k ls work) (q r : ℕ) (h : q < k) (low : r ≤ q) (joins : Joined (view m ls) q r) (i : Inside m ls q) where
  abbrev renamed : List ℕ
  renamed = set work (m.ids + q) r

  pub in_store : m.ids + q < length work
  in_store = omega (arith, f.sizes.room, f.few)

  pub named : number m renamed q ≡ r
  named = get_or-set_same work (m.ids + q) r 0 in_store

  pub others : (z : ℕ) → (z ≡ q → ⊥) → number m renamed z ≡ number m work z
  others z n = get_or-set_other work (m.ids + q) (m.ids + z) r 0 (λ e. n (omega arith))

  pub renamed_forest : Forest m k ls renamed
  renamed_forest = record {
    sizes = record { labels = f.sizes.labels; small = f.sizes.small; room = omega (arith, f.sizes.room, length-set work (m.ids + q) r) };
    few = f.few;
    down = λ z b o. elim (ℕ_discrete z q) [
      | yes e ↦ omega (arith, named, ap (number m renamed) e)
      | no n ↦ omega (arith, others z n, f.down z b o)
    ];
    joined = λ z b o. elim (ℕ_discrete z q) [
      | yes e ↦ subst (λ (z : ℕ). Joined (view m ls) z (number m renamed z)) (sym e) (subst (Joined (view m ls) q) (sym named) joins)
      | no n ↦ subst (Joined (view m ls) z) (sym (others z n)) (f.joined z b o)
    ];
    outside = λ z b o. elim (ℕ_discrete z q) [
      | yes e ↦ absurd (i (sym (ap (label_of (view m ls)) e) ∙ o))
      | no n ↦ others z n ∙ f.outside z b o
    ];
  }

  -- if no value that is shared afterwards tells q from what it named before, the trees have grown
  pub renamed_grown : ((v : ℕ → ℕ) → Shared m k ls renamed v → v (number m work q) ≡ v q) → Grown m k ls work renamed
  renamed_grown t = record {
    forest = renamed_forest;
    ties = λ v c z b o. elim (ℕ_discrete z q) [
      | yes e ↦ subst (λ (z : ℕ). v (number m work z) ≡ v z) (sym e) (t v c)
      | no n ↦ sym (ap v (others z n)) ∙ c z b o
    ];
    kept = kept_set work (m.ids + q) r (omega arith) (omega (arith, f.few));
  }

-- THE WAY TO THE ROOT, as far as r: halved, so that r is tied to q still

pub record Climbs (m : Plan) (k : ℕ) (ls : List ℕ) (q : ℕ) (work : List ℕ) (r : ℕ) (work' : List ℕ) : Type 0 where
  pub grown : Grown m k ls work work'
  pub within : r ≤ q
  pub joined : Joined (view m ls) q r
  pub tied : Tied m k ls work' q r
  pub roots : (z : ℕ) → z < k → number m work z ≡ z → number m work' z ≡ z

module _ {m : Plan} {k : ℕ} {ls work : List ℕ} {q : ℕ} (l : Leaf m k ls work q) where
  pub climb_start : Climbs m k ls q work q work
  climb_start = record { grown = grown_none l.forest; within = omega arith; joined = here; tied = tied_here; roots = λ z b e. e }

  module _ {r : ℕ} {work₁ : List ℕ} (c : Climbs m k ls q work r work₁) where
    pub climb_in : r < k
    climb_in = omega (arith, c.within, l.within)

    pub climb_inside : Inside m ls r
    climb_inside = inside_joined m ls c.joined l.inside

    abbrev up : ℕ
    up = number m work₁ r

    pub climb_top : up ≡ r → Rooted m k ls q work r work₁
    climb_top e = record { grown = c.grown; root = e; within = c.within; joined = c.joined; tied = c.tied; roots = c.roots }

    pub climb_up : up ≤ r
    climb_up = c.grown.forest.down r climb_in climb_inside

    joins_up : Joined (view m ls) r up
    joins_up = c.grown.forest.joined r climb_in climb_inside

    abbrev over : ℕ
    over = number m work₁ up

    pub climb_over : over ≤ up
    climb_over = c.grown.forest.down up (omega (arith, climb_up, climb_in)) (inside_joined m ls joins_up climb_inside)

    module _ (n : up ≡ r → ⊥) where
      joins : Joined (view m ls) r over
      joins = trans joins_up (c.grown.forest.joined up (omega (arith, climb_up, climb_in)) (inside_joined m ls joins_up climb_inside))

      abbrev work₂ : List ℕ
      work₂ = set work₁ (m.ids + r) over

      low : over ≤ r
      low = omega (arith, climb_over, climb_up)

      -- a value that is shared afterwards
      over_shared : (v : ℕ → ℕ) → Shared m k ls work₂ v → v over ≡ v r
      over_shared v s = sym (ap v (named c.grown.forest r over climb_in low joins climb_inside)) ∙ s r climb_in climb_inside

      up_shared : (v : ℕ → ℕ) → Shared m k ls work₂ v → v up ≡ v r
      up_shared v s =
          sym (s up (omega (arith, climb_up, climb_in)) (inside_joined m ls joins_up climb_inside))
          ∙ ap v (others c.grown.forest r over climb_in low joins climb_inside up n)
          ∙ over_shared v s

      grows : Grown m k ls work₁ work₂
      grows = renamed_grown c.grown.forest r over climb_in low joins climb_inside up_shared

      pub climb_next : Climbs m k ls q work over work₂
      climb_next = record {
        grown = grown_then c.grown grows;
        within = omega (arith, low, c.within);
        joined = trans c.joined joins;
        tied = tied_to (tied_grown grows c.tied) (record { same = λ v s. sym (over_shared v s) });
        roots = λ z b e. others c.grown.forest r over climb_in low joins climb_inside z (λ d. n (ap (number m work₁) (sym d) ∙ c.roots z b e ∙ d)) ∙ c.roots z b e;
      }

      pub climb_less : over < r
      climb_less = omega (arith, climb_over, climb_up, n)

-- TWO ROOTS a and b, of p and q: the later one names the other

module _ {m : Plan} {k : ℕ} {ls work work₁ work₂ : List ℕ} {p q a b : ℕ} (lp : Leaf m k ls work p) (hq : q < k) (j : Joined (view m ls) p q) (ra : Rooted m k ls p work a work₁) (rb : Rooted m k ls q work₁ b work₂) where
  a_in : a < k
  a_in = omega (arith, ra.within, lp.within)

  b_in : b < k
  b_in = omega (arith, rb.within, hq)

  a_inside : Inside m ls a
  a_inside = inside_joined m ls ra.joined lp.inside

  b_inside : Inside m ls b
  b_inside = inside_joined m ls (trans j rb.joined) lp.inside

  a_root : number m work₂ a ≡ a
  a_root = rb.roots a a_in ra.root

  a_to_b : Joined (view m ls) a b
  a_to_b = trans (turn ra.joined) (trans j rb.joined)

  abbrev forest : Forest m k ls work₂
  forest = rb.grown.forest

  -- what was done before, and p and q if a and b are tied
  joined_by : {work₃ : List ℕ} → Grown m k ls work₂ work₃ → Tied m k ls work₃ a b → Grown m k ls work work₃ × Tied m k ls work₃ p q
  joined_by g t = (
    grown_then ra.grown (grown_then rb.grown g),
    tied_to (tied_grown (grown_then rb.grown g) ra.tied) (tied_to t (tied_back (tied_grown g rb.tied))),
  )

  pub below_first : a < b → let work₃ = set work₂ (m.ids + b) a in Grown m k ls work work₃ × Tied m k ls work₃ p q
  below_first l =
      let low : a ≤ b = omega arith in
      joined_by
      (renamed_grown forest b a b_in low (turn a_to_b) b_inside (λ v s. ap v rb.root))
      (record { same = λ v s. ap v (sym (named forest b a b_in low (turn a_to_b) b_inside)) ∙ s b b_in b_inside })

  pub below_second : b ≤ a → let work₃ = set work₂ (m.ids + a) b in Grown m k ls work work₃ × Tied m k ls work₃ p q
  below_second low =
      joined_by
      (renamed_grown forest a b a_in low a_to_b a_inside (λ v s. ap v a_root))
      (record { same = λ v s. sym (ap v (sym (named forest a b a_in low a_to_b a_inside)) ∙ s a a_in a_inside) })
