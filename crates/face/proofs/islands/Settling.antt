-- Each pixel takes over its root's number: a value that all pixels of a tree share, so all of an island, and the least of them.
use mathlib.Core.Path.{◌≡◌, refl, sym, ◌∙◌, ap, subst}
use mathlib.Core.Bool.{Bool, false, ◌&&◌}
use mathlib.Core.List.{List}
use Prim.Native.Nat.{ℕ, suc, ◌+◌, ◌≤◌, ◌<◌}
use native.Mathlib.Omega.{arith}
use native.Mathlib.Decide.{ℕ_discrete}
use native.Mathlib.Nat.{not-suc-le-zero}
use borrow.Author.Tests.{eq-eqb, ne_eqb, le-ltb}
use lib.Dec.{ltb, eqb}
use lib.ListN.{length, get_or, set}
use lib.Seq.{get_or-set_same, get_or-set_other}
use Rattle.rules.specs.Picture.{seen, picture, OUTSIDE, one}
use Rattle.rules.specs.Face.{label_of, firsts, islands, pixels}
use Rattle.rules.proofs.Ground.Lists.{count, count_le, count_suc, count_same}
use Rattle.rules.proofs.Lattice.Frame.{picture_framed}
use Rattle.rules.proofs.Islands.Joined.{Step, Joined, here, trans, along, joined_in}
use Rattle.rules.proofs.Islands.Firsts.{firsts_in, firsts_least}
use Rattle.rules.proofs.Islands.Pixels.{label_of_is}
use Rattle.store.proofs.Writes.{kept_none, kept_then, kept_set}
use Rattle.face.specs.declared.islands.Plan.{Plan}
use Rattle.face.specs.Islands.{no_island, area, view, number, Inside, Linked, Links, Settled, opens, Unsettled, Settles, Numbered}
use Rattle.face.proofs.islands.Trees.{inside_joined}

-- ONE PIXEL

module _ {m : Plan} {q : ℕ} {ls work : List ℕ} (u : Unsettled m q ls work) where
  label_here : label_of (view m ls) q ≡ seen m.bound (get_or ls q 0)
  label_here = label_of_is m.width m.height m.bound ls u.sizes.labels q u.within

  pub settle_inside : (v : ℕ) → v ≡ seen m.bound (get_or ls q 0) → (v ≡ OUTSIDE → ⊥) → Inside m ls q
  settle_inside v e n o = n (e ∙ sym label_here ∙ o)

  pub passed : {paints : ℕ} (v : ℕ) → v ≡ seen m.bound (get_or ls q 0) → v ≡ OUTSIDE → Settles m paints q ls work 0 work
  passed v e o = record { passes = λ _. (refl, refl); takes = λ i. absurd (i (label_here ∙ sym e ∙ o)) }

  pub taken : {paints r up first : ℕ} (v : ℕ) → v ≡ seen m.bound (get_or ls q 0) → (v ≡ OUTSIDE → ⊥) → up ≡ number m work q → first ≡ number m work up → r ≡ one (ltb v paints && eqb up q)
      → Settles m paints q ls work r (set work (m.ids + q) first)
  taken {paints} {r} {up} {first} v e n eu ef er = record {
    passes = λ o. absurd (settle_inside v e n o);
    takes = λ i. (
      ap (set work (m.ids + q)) (ef ∙ ap (number m work) eu),
      er ∙ (λ j. one (ltb ((e ∙ sym label_here) j) paints && eqb (eu j) q)),
    );
  }

-- THE LOOP

pub record Settling (m : Plan) (paints : ℕ) (ls work : List ℕ) (r i : ℕ) (work' : List ℕ) : Type 0 where
  pub settled : Settled m i ls work work'
  pub within : i ≤ area m
  pub found : r ≡ count (opens m paints ls work) i

module _ {m : Plan} {paints : ℕ} {ls work : List ℕ} (t : Linked m (area m) ls work) (word : paints ≤ OUTSIDE) where
  abbrev T : ℕ → ℕ
  T = number m work

  pub settling_start : Settling m paints ls work 0 0 work
  settling_start = record {
    settled = record {
      down = λ q l. absurd (not-suc-le-zero l);
      joined = λ q l. absurd (not-suc-le-zero l);
      shared = λ q l. absurd (not-suc-le-zero l);
      root = λ q l. absurd (not-suc-le-zero l);
      outside = λ q l. absurd (not-suc-le-zero l);
      later = λ q l. refl;
      kept = kept_none;
    };
    within = omega arith;
    found = omega (arith, count_le (opens m paints ls work) 0);
  }

  module _ {r i : ℕ} {work₁ : List ℕ} (s : Settling m paints ls work r i work₁) (l : i < area m) where
    pub settling_ready : Unsettled m i ls work₁
    settling_ready = record {
      sizes = record { labels = t.forest.sizes.labels; small = t.forest.sizes.small; room = omega (arith, t.forest.sizes.room, s.settled.kept.long) };
      within = l;
      down = λ o. omega (arith, s.settled.later i (omega arith), t.forest.down i l o);
    }

    -- the same pixel opens, by the words before
    opens_here : opens m paints ls work₁ i ≡ opens m paints ls work i
    opens_here = ap (λ (n : ℕ). ltb (label_of (view m ls) i) paints && eqb n i) (s.settled.later i (omega arith))

    module _ {r₁ : ℕ} {work₂ : List ℕ} (e : Settles m paints i ls work₁ r₁ work₂) where
      -- OUTSIDE nothing changes
      module _ (o : label_of (view m ls) i ≡ OUTSIDE) where
        shut : opens m paints ls work i ≡ false
        shut = cond_false
          where
            cond_false : opens m paints ls work i ≡ false
            cond_false = let b : ltb (label_of (view m ls) i) paints ≡ false = le-ltb (label_of (view m ls) i) paints (omega (arith, o, word)) in rw b

        outside_next : Settled m (suc i) ls work work₁
        outside_next = let d = s.settled in record {
          down = λ q b j. d.down q (not_here q b j) j;
          joined = λ q b j. d.joined q (not_here q b j) j;
          shared = λ q b j. d.shared q (not_here q b j) j;
          root = λ q b z. elim (ℕ_discrete q i) [ yes f ↦ absurd (omega (arith, ap T (sym f), z, t.forest.outside i l o, f, l, t.forest.sizes.small)) | no n ↦ d.root q (omega (arith, n)) z ];
          outside = λ q b z. elim (ℕ_discrete q i) [ yes f ↦ d.later q (omega (arith, f)) ∙ t.forest.outside q (omega (arith, f, l)) z | no n ↦ d.outside q (omega (arith, n)) z ];
          later = λ q b. d.later q (omega (arith, b));
          kept = d.kept;
        }
          where
            not_here : (q : ℕ) → q < suc i → Inside m ls q → q < i
            not_here q b j = elim (ℕ_discrete q i) [ yes f ↦ absurd (j (ap (label_of (view m ls)) f ∙ o)) | no n ↦ omega (arith, n) ]

      -- INSIDE i takes over the number of the one that it names
      module _ (j : Inside m ls i) where
        abbrev now : ℕ → ℕ
        now = number m work₁

        abbrev now₂ : ℕ → ℕ
        now₂ = number m (set work₁ (m.ids + i) (now (now i)))

        kept_up : now i ≡ T i
        kept_up = s.settled.later i (omega arith)

        in_store : m.ids + i < length work₁
        in_store = omega (arith, settling_ready.sizes.room, l)

        here_is : now₂ i ≡ now (T i)
        here_is = get_or-set_same work₁ (m.ids + i) (now (now i)) 0 in_store ∙ ap now kept_up

        else_is : (q : ℕ) → (q ≡ i → ⊥) → now₂ q ≡ now q
        else_is q n = get_or-set_other work₁ (m.ids + i) (m.ids + q) (now (now i)) 0 (λ z. n (omega (arith, z)))

        low : T i ≤ i
        low = t.forest.down i l j

        up_inside : Inside m ls (T i)
        up_inside = inside_joined m ls (t.forest.joined i l j) j

        -- its new number
        new_low : now (T i) ≤ T i
        new_low = elim (ℕ_discrete (T i) i) [ yes f ↦ omega (arith, ap now f, kept_up, f) | no n ↦ s.settled.down (T i) (omega (arith, low, n)) up_inside ]

        new_joined : Joined (view m ls) i (now (T i))
        new_joined = elim (ℕ_discrete (T i) i) [
          | yes f ↦ subst (Joined (view m ls) i) (sym (ap now f ∙ kept_up ∙ f)) here
          | no n ↦ trans (t.forest.joined i l j) (s.settled.joined (T i) (omega (arith, low, n)) up_inside)
        ]

        new_shared : now₂ (T i) ≡ now₂ i
        new_shared = elim (ℕ_discrete (T i) i) [ yes f ↦ ap now₂ f | no n ↦ else_is (T i) n ∙ sym here_is ]

        inside_next : Settled m (suc i) ls work (set work₁ (m.ids + i) (now (now i)))
        inside_next = let d = s.settled in record {
          down = λ q b k. elim (ℕ_discrete q i) [ yes f ↦ omega (arith, ap now₂ f, here_is, new_low, low, f) | no n ↦ omega (arith, else_is q n, d.down q (omega (arith, n)) k) ];
          joined = λ q b k. elim (ℕ_discrete q i) [
            | yes f ↦ subst (λ (q : ℕ). Joined (view m ls) q (now₂ q)) (sym f) (subst (Joined (view m ls) i) (sym here_is) new_joined)
            | no n ↦ subst (Joined (view m ls) q) (sym (else_is q n)) (d.joined q (omega (arith, n)) k)
          ];
          shared = λ q b k. elim (ℕ_discrete q i) [
            | yes f ↦ subst (λ (q : ℕ). now₂ (T q) ≡ now₂ q) (sym f) new_shared
            | no n ↦ else_is (T q) (λ z. omega (arith, z, n, t.forest.down q (omega (arith, b, l)) k)) ∙ d.shared q (omega (arith, n)) k ∙ sym (else_is q n)
          ];
          root = λ q b z. elim (ℕ_discrete q i) [
            | yes f ↦ ap now₂ f ∙ here_is ∙ ap now (sym (ap T f) ∙ z ∙ f) ∙ kept_up ∙ sym (ap T f) ∙ z
            | no n ↦ else_is q n ∙ d.root q (omega (arith, n)) z
          ];
          outside = λ q b o. elim (ℕ_discrete q i) [ yes f ↦ absurd (j (sym (ap (label_of (view m ls)) f) ∙ o)) | no n ↦ else_is q n ∙ d.outside q (omega (arith, n)) o ];
          later = λ q b. else_is q (λ z. omega (arith, z, b)) ∙ d.later q (omega (arith, b));
          kept = kept_then d.kept (kept_set work₁ (m.ids + i) (now (now i)) (omega arith) (omega (arith, l)));
        }

      pub settling_next : Settling m paints ls work (r + r₁) (suc i) work₂
      settling_next = elim (ℕ_discrete (label_of (view m ls) i) OUTSIDE) [
        | yes o ↦ record {
          settled = subst (Settled m (suc i) ls work) (sym (e.passes o).0) (outside_next o);
          within = l;
          found = omega (arith, s.found, (e.passes o).1, count_suc (opens m paints ls work) i, ap one (shut o));
        }
        | no j ↦ record {
          settled = subst (Settled m (suc i) ls work) (sym (e.takes j).0) (inside_next j);
          within = l;
          found = omega (arith, s.found, (e.takes j).1, ap one opens_here, count_suc (opens m paints ls work) i);
        }
      ]

      pub settling_room : r + r₁ < no_island
      settling_room = omega (arith, settling_next.found, count_le (opens m paints ls work) (suc i), l, t.forest.sizes.small)

  -- ALL SETTLED
  module _ {r : ℕ} {work₁ : List ℕ} (s : Settling m paints ls work r (area m) work₁) where
    abbrev W : ℕ → ℕ
    W = number m work₁

    -- the number is the same all over an island
    over_step : (a b : ℕ) → Step (view m ls) a b → W a ≡ W b
    unfolding picture
    over_step a b k = (t.ties a b k.start k.end k).same W s.settled.shared

    over_island : {p q : ℕ} → Joined (view m ls) p q → W p ≡ W q
    over_island {p} k = along (λ a. W p ≡ W a) (λ a b d e. e ∙ over_step a b d) k refl

    number_is : (p : ℕ) → p < area m → Inside m ls p → W p ≡ get_or (firsts (view m ls)) p 0
    unfolding picture
    number_is p l i =
        let f = get_or (firsts (view m ls)) p 0 in
        let F = picture_framed m.width m.height m.bound ls in
        let j = firsts_in (view m ls) F p l in
        let inside = inside_joined m ls j i in
        let in_map = joined_in l j in
        over_island j ∙ omega (arith, s.settled.down f in_map inside, firsts_least (view m ls) F p l (W f) (trans j (s.settled.joined f in_map inside)))

    -- the roots are the first pixels
    opens_is : (q : ℕ) → q < area m → opens m paints ls work q ≡ (ltb (label_of (view m ls) q) paints && eqb (get_or (firsts (view m ls)) q 0) q)
    opens_is q l = elim (ℕ_discrete (label_of (view m ls) q) OUTSIDE) [
      | yes o ↦ let b : ltb (label_of (view m ls) q) paints ≡ false = le-ltb (label_of (view m ls) q) paints (omega (arith, o, word)) in rw b
      | no i ↦ ap (λ (b : Bool). ltb (label_of (view m ls) q) paints && b) (elim (ℕ_discrete (T q) q) [
        | yes e ↦ eq-eqb (T q) q e ∙ sym (eq-eqb _ q (sym (number_is q l i) ∙ s.settled.root q l e))
        | no n ↦ ne_eqb (T q) q n ∙ sym (ne_eqb _ q (λ z. n (omega (arith, z, number_is q l i, s.settled.shared q l i, s.settled.down (T q) (omega (arith, t.forest.down q l i, l)) (inside_joined m ls (t.forest.joined q l i) i), t.forest.down q l i))))
      ])
    ]

    pub settling_end : Numbered m paints ls work r work₁
    unfolding picture islands pixels
    settling_end = record {
      numbers = number_is;
      outside = s.settled.outside;
      kept = s.settled.kept;
      painted = s.found ∙ count_same _ _ (area m) opens_is;
    }

-- after the links
pub numbered : {m : Plan} {paints r : ℕ} {ls work a b : List ℕ} → Links m 0 ls work (area m) a → Numbered m paints ls a r b → Numbered m paints ls work r b
numbered f n = record { numbers = n.numbers; outside = n.outside; kept = kept_then f.kept n.kept; painted = n.painted }
