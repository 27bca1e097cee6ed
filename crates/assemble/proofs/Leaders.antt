-- The first pixels of the painted islands, listed one after the other.
use Prim.Native.Nat.{ℕ, suc, ◌+◌, ◌*◌, ◌<◌, ◌≤◌}
use mathlib.Core.Path.{◌≡◌, refl, sym, ap, subst, ◌∙◌}
use mathlib.Core.Bool.{Bool, true, false, ◌&&◌}
use mathlib.Core.Logic.{inl, inr, ⊎_elim}
use mathlib.Core.List.Memᴰ.{append_cases as in-cases}
use mathlib.Core.List.Memᴰ.{eq_of_singleton}
use mathlib.Core.List.Memᴰ.{not-nil}
use mathlib.Core.List.{List, [], ◌∷◌, ◌++◌, append-nil, Memᴰ as In}
use native.Mathlib.Omega.{arith}
use native.Mathlib.Decide.{dec_lt}
use lib.Dec.{eqb, ltb}
use lib.ListN.{length, get_or, set, length-set}
use lib.Seq.{get_or-set_same, get_or-set_other}
use borrow.Author.Tests.{lt-ltb, le-ltb, eq-eqb, ne_eqb}
use Rattle.rules.specs.Lists.{keep, upto}
use Rattle.rules.specs.Picture.{OUTSIDE, seen, picture}
use Rattle.rules.specs.Face.{pixels, label_of, firsts, islands}
use Rattle.rules.proofs.Ground.Lists.{keep_append, keep_in, keep_same, upto_in, upto_snoc}
use Rattle.rules.proofs.Islands.Pixels.{label_of_is}
use Rattle.store.specs.Words.{part}
use Rattle.store.proofs.Parts.{part_append, part_same}
use Rattle.rules.specs.Records.{NONE}
use Rattle.lattice.specs.declared.Size.{Size}
use Rattle.lattice.specs.Size.{Map, pic}
use Rattle.assemble.specs.Groups.{leads, Pages, Leaders}
use Rattle.assemble.proofs.Changes.{changed_none, changed_then, set_first, set_second}

-- the next number among those that pass a test
keep_next : (t : ℕ → Bool) (p : ℕ) (b : Bool) → t p ≡ b → keep t (upto (suc p) 0) ≡ keep t (upto p 0) ++ elim b [ true ↦ p ∷ [] | false ↦ [] ]
unfolding keep
keep_next t p b e =
    let z : 0 + p ≡ p = omega arith in
    ap (keep t) (upto_snoc p 0 ∙ ap (λ n. upto p 0 ++ (n ∷ [])) z)
    ∙ keep_append t (upto p 0) (p ∷ [])
    ∙ ap (λ (b : Bool). keep t (upto p 0) ++ elim b as (λ x. List ℕ) [ true ↦ p ∷ [] | false ↦ [] ]) e

module _ {paints bound heads ids list : ℕ} {ls work₀ : List ℕ} where
  pub begin : Pages heads ids list (length ls) work₀ → Leaders paints bound heads ids list ls work₀ 0 0 work₀
  unfolding keep upto
  begin g = record { pages = g; changed = changed_none; few = omega arith; listed = refl; empty = λ q i. absurd (not-nil i) }

  module _ {p m : ℕ} {work : List ℕ} (t : Leaders paints bound heads ids list ls work₀ p m work) (b : p < length ls) where
    abbrev leader : ℕ → Bool
    leader = leads paints bound ids ls work₀

    same_number : get_or work (ids + p) 0 ≡ get_or work₀ (ids + p) 0
    same_number = t.changed.others (ids + p) (inr (omega (arith, t.pages.apart))) (inl (omega (arith, t.pages.behind)))

    skip : leader p ≡ false → Leaders paints bound heads ids list ls work₀ (suc p) m work
    skip e =
        let z : keep leader (upto (suc p) 0) ≡ keep leader (upto p 0) = keep_next leader p false e ∙ append-nil (keep leader (upto p 0)) in
        record { pages = t.pages; changed = t.changed; few = omega (arith, t.few); listed = t.listed ∙ sym z; empty = λ q i. t.empty q (subst (In q) z i) }

    pub unpainted : paints ≤ seen bound (get_or ls p 0) → Leaders paints bound heads ids list ls work₀ (suc p) m work
    unpainted h = skip (rw (le-ltb (seen bound (get_or ls p 0)) paints h))

    module _ (l : seen bound (get_or ls p 0) < paints) where
      pub follower : (get_or work (ids + p) 0 ≡ p → ⊥) → Leaders paints bound heads ids list ls work₀ (suc p) m work
      follower n = skip (rw (lt-ltb (seen bound (get_or ls p 0)) paints l, ne_eqb (get_or work₀ (ids + p) 0) p (λ e. n (same_number ∙ e))))

      module _ (own : get_or work (ids + p) 0 ≡ p) {work₁ work₂ : List ℕ} (g : work₁ ≡ set work (list + m) p) (h : work₂ ≡ set work₁ (heads + p) NONE) where
        more : keep leader (upto (suc p) 0) ≡ keep leader (upto p 0) ++ (p ∷ [])
        more = keep_next leader p true (rw (lt-ltb (seen bound (get_or ls p 0)) paints l, eq-eqb (get_or work₀ (ids + p) 0) p (sym same_number ∙ own)))

        long : length work₁ ≡ length work₀
        long = ap length g ∙ length-set work (list + m) p ∙ t.changed.long

        other : (i : ℕ) → (i ≡ list + m → ⊥) → (i ≡ heads + p → ⊥) → get_or work₂ i 0 ≡ get_or work i 0
        other i u v = ap (λ (w : List ℕ). get_or w i 0) h ∙ get_or-set_other work₁ (heads + p) i NONE 0 v ∙ ap (λ (w : List ℕ). get_or w i 0) g ∙ get_or-set_other work (list + m) i p 0 u

        listed : get_or work₂ (list + m) 0 ≡ p
        listed =
            ap (λ (w : List ℕ). get_or w (list + m) 0) h
            ∙ get_or-set_other work₁ (heads + p) (list + m) NONE 0 (λ z. omega (arith, t.few, t.pages.apart, t.pages.behind))
            ∙ ap (λ (w : List ℕ). get_or w (list + m) 0) g
            ∙ get_or-set_same work (list + m) p 0 (omega (arith, t.few, t.changed.long, t.pages.apart, t.pages.behind, t.pages.room))

        empty : get_or work₂ (heads + p) 0 ≡ NONE
        empty = ap (λ (w : List ℕ). get_or w (heads + p) 0) h ∙ get_or-set_same work₁ (heads + p) NONE 0 (omega (arith, long, t.pages.behind, t.pages.room))

        pub leading : Leaders paints bound heads ids list ls work₀ (suc p) (m + 1) work₂
        leading = record {
          pages = t.pages;
          changed = changed_then t.changed (changed_then {ws' = work₁} (rw g (set_second work (list + m) p (omega arith) (omega (arith, t.few)))) (rw h (set_first work₁ (heads + p) NONE (omega arith) (omega arith))));
          few = omega (arith, t.few);
          listed = part_append work₂ list m 1
              ∙ ap (λ (l : List ℕ). l ++ part work₂ (list + m) 1) (part_same work₂ work list list m (λ i k. other (list + i) (λ z. omega arith) (λ z. omega (arith, t.few, t.pages.apart, t.pages.behind))) ∙ t.listed)
              ∙ ap (λ v. keep leader (upto p 0) ++ (v ∷ [])) listed
              ∙ sym more;
          empty = λ q i. ⊎_elim (λ (j : In q (keep leader (upto p 0))). before q j) (λ (j : In q (p ∷ [])). ap (λ q. get_or work₂ (heads + q) 0) (eq_of_singleton j) ∙ empty) (in-cases (keep leader (upto p 0)) (subst (In q) more i));
        }
          where
            before : (q : ℕ) → In q (keep leader (upto p 0)) → get_or work₂ (heads + q) 0 ≡ NONE
            before q j =
                let u = upto_in p 0 q (keep_in leader (upto p 0) q j).0 in
                other (heads + q) (λ z. omega (arith, t.few, t.pages.apart, t.pages.behind)) (λ z. omega arith) ∙ t.empty q j

-- OF A MAP whose pixels have the numbers of their islands they are the painted islands
module _ {s : Size} {ls : List ℕ} (M : Map s ls) (b : s.paints ≤ OUTSIDE) (ids : ℕ) (work : List ℕ)
    (numbers : (p : ℕ) → p < s.width * s.height → (label_of (pic s ls) p ≡ OUTSIDE → ⊥) → get_or work (ids + p) 0 ≡ get_or (firsts (pic s ls)) p 0) where
  leads_same : (p : ℕ) → p < s.width * s.height → leads s.paints s.bound ids ls work p ≡ (ltb (label_of (pic s ls) p) s.paints && eqb (get_or (firsts (pic s ls)) p 0) p)
  leads_same p h = go (dec_lt (label_of (pic s ls) p) s.paints)
    where
      own : label_of (pic s ls) p ≡ seen s.bound (get_or ls p 0)
      own = label_of_is s.width s.height s.bound ls M.count p h

      go : Dec (label_of (pic s ls) p < s.paints) → leads s.paints s.bound ids ls work p ≡ (ltb (label_of (pic s ls) p) s.paints && eqb (get_or (firsts (pic s ls)) p 0) p)
      go (yes i) = rw own (ap (λ v. ltb (seen s.bound (get_or ls p 0)) s.paints && eqb v p) (numbers p h (λ e. omega arith)))
      go (no i) = rw (own, le-ltb (seen s.bound (get_or ls p 0)) s.paints (omega (arith, own)))

  pub island_leaders : keep (leads s.paints s.bound ids ls work) (upto (length ls) 0) ≡ islands (pic s ls) s.paints
  unfolding islands pixels picture
  island_leaders =
      ap (λ n. keep (leads s.paints s.bound ids ls work) (upto n 0)) M.count
      ∙ keep_same (leads s.paints s.bound ids ls work) (λ p. ltb (label_of (pic s ls) p) s.paints && eqb (get_or (firsts (pic s ls)) p 0) p) (upto (s.width * s.height) 0)
      (λ p i. leads_same p (let u = upto_in (s.width * s.height) 0 p i in omega arith))
