-- The references of one contour, written along its trail.
use Prim.Native.Nat.{ℕ, ◌+◌, ◌-◌, ◌≤◌, ◌<◌}
use mathlib.Core.Path.{◌≡◌, refl, sym, ap, ◌∙◌}
use mathlib.Core.Bool.{true}
use mathlib.Core.List.{List, [], ◌∷◌, ◌++◌}
use native.Mathlib.Omega.{arith}
use lib.ListN.{length, set, length-append}
use lib.Seq.{sets, length-sets}
use Rattle.store.proofs.Writes.{sets_append}
use Rattle.rules.proofs.Ground.Walking.{walked}
use Rattle.assemble.specs.Trails.{LINK, end_of, after, is_last, link_of, word_of, Named, Goes}
use Rattle.assemble.specs.Writing.{Going, Runs}
use Rattle.assemble.specs.declared.Reference.{Reference}
use Rattle.std.specs.Prelude.{Option, Some, None}
use Rattle.assemble.proofs.Walking.{all, Way, begin as first_way, over_here, on, ahead, ahead_is}
use Rattle.assemble.proofs.Following.{end_more}
use Rattle.assemble.proofs.Trails.{leads_back, leads_away, leads_on, link_back, link_on}

module _ (trail : ℕ) (work : List ℕ) (at r : ℕ) (refs₀ : List ℕ) where
  pub record Sofar (refs : List ℕ) (q n : ℕ) : Type 0 where
    pub done : List ℕ
    pub more : List ℕ
    pub way : Way (after trail work) (is_last trail work r) r done q more
    pub count : n ≡ length done
    pub written : refs ≡ sets refs₀ at done
    pub low : q < 4294967296

  pub begin : Going trail work r → Sofar refs₀ r 0
  begin g = record {
    done = [];
    more = g.rest;
    way = first_way (after trail work) (is_last trail work r) r g.rest g.goes.walk g.goes.short;
    count = refl;
    written = refl;
    low = omega (arith, g.goes.low);
  }

  -- how many references are left
  abbrev pub left : ℕ → ℕ
  left q = ahead (after trail work) (is_last trail work r) r q

  the_walk : (l : List ℕ) → Goes trail work r l → all (after trail work) (is_last trail work r) r ≡ r ∷ l
  unfolding all
  the_walk l g = walked (after trail work) (is_last trail work r) 4294967296 r l g.walk g.short

  module _ {refs : List ℕ} {q n : ℕ} (o : Sofar refs q n) where
    pub few : n < 4294967296
    few = omega (arith, o.way.short, o.count)

    pub refs_length : length refs ≡ length refs₀
    refs_length = ap length o.written ∙ length-sets refs₀ at o.done

    module _ {refs' : List ℕ} {v : ℕ} (wrote : refs' ≡ set refs (at + n) q) (word : v ≡ after trail work q) where
      written_more : refs' ≡ sets refs₀ at (o.done ++ (q ∷ []))
      written_more = wrote ∙ rw (o.written, o.count) (sym (sets_append refs₀ at o.done (q ∷ [])))

      pub going : (v ≡ r → ⊥) → v < LINK → (o' : Sofar refs' v (n + 1)) × (left v < left q)
      going e h =
          let f = after trail work in
          let stop = is_last trail work r in
          let g = on f stop r o.way v word (leads_on trail work r q (λ z. e (word ∙ z)) (omega (arith, word))) in
          (record { done = o.done ++ (q ∷ []); more = g.0; way = g.1; count = omega (arith, o.count, length-append o.done (q ∷ [])); written = written_more; low = omega arith }, omega (arith, ahead_is f stop r o.way, ahead_is f stop r g.1, g.2))

      ran : is_last trail work r q ≡ true → (next : Option Reference) → Named next → word_of next ≡ link_of r v → Runs trail work at r refs₀ (record { count = n + 1; next = next }) refs'
      ran e next k z l g =
          let whole : r ∷ l ≡ o.done ++ (q ∷ []) = sym (the_walk l g) ∙ over_here (after trail work) (is_last trail work r) r o.way e in
          record {
            count = omega (arith, o.count, ap length whole, length-append o.done (q ∷ []));
            named = k;
            next = z ∙ ap (link_of r) (word ∙ ap (after trail work) (sym (ap end_of whole ∙ end_more o.done q)));
            written = written_more ∙ ap (sets refs₀ at) (sym whole);
          }

      pub back : v ≡ r → Runs trail work at r refs₀ (record { count = n + 1; next = None }) refs'
      back e = ran (leads_back trail work r q (sym word ∙ e)) None tt (sym (link_back r v e))

      pub away : (v ≡ r → ⊥) → LINK ≤ v → v < 4294967296 → Runs trail work at r refs₀ (record { count = n + 1; next = Some (record { 0 = v - LINK }) }) refs'
      away e h b = ran (leads_away trail work r q (omega (arith, word))) (Some (record { 0 = v - LINK })) (λ e. omega arith) (sym (link_on r v e))
