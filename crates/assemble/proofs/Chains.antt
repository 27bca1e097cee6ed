-- The contours of one island, written one after the other.
use Prim.Native.Nat.{ℕ, zero, suc, ◌+◌, ◌*◌, ◌≤◌, ◌<◌}
use mathlib.Core.Path.{◌≡◌, refl, sym, ap, subst, ◌∙◌}
use mathlib.Core.Bool.{true, false}
use mathlib.Core.List.{List, [], ◌∷◌, ◌++◌, append-nil, append_assoc}
use native.Mathlib.Omega.{arith}
use lib.Dec.{eqb}
use lib.ListN.{length, length-append}
use lib.Seq.{sets, length-sets}
use borrow.Author.Tests.{eq-eqb, ne_eqb}
use Rattle.rules.specs.Lists.{flat}
use Rattle.rules.specs.Records.{contour_words, NONE}
use Rattle.rules.proofs.Ground.Walking.{walked}
use Rattle.assemble.specs.declared.Done.{Done}
use Rattle.assemble.specs.declared.Run.{Run}
use Rattle.assemble.specs.Trails.{first_of, end_of, after, is_last, link_of, word_of, Named, trail_in, Goes, Along, Strung}
use Rattle.assemble.specs.Writing.{Going, Ran, Runs, Fits, Wrote, Chain, WritesChain}
use Rattle.assemble.proofs.Trails.{strung_one, first_low}
use Rattle.assemble.proofs.Writing.{wrote_none, wrote_one, wrote_then, fits_front, fits_rest}

-- HOW MANY contours are strung from r on, at most as many as the fuel
module _ (trail : ℕ) (work : List ℕ) where
  unfoldable pub links : ℕ → ℕ → ℕ
  links zero r = 0
  links (suc n) r = elim (eqb r NONE) [ true ↦ 0 | false ↦ suc (links n (link_of r (after trail work (end_of (trail_in trail work r))))) ]

  trail_is : (r : ℕ) (c : List ℕ) → r ≡ first_of c → Along trail work c → trail_in trail work r ≡ c
  unfolding trail_in
  trail_is r [] e a = absurd a
  trail_is r (q ∷ l) e a = rw e (walked (after trail work) (is_last trail work q) 4294967296 q l a.walk a.short)

  links_are : (n r : ℕ) (cs : List (List ℕ)) → Strung trail work r cs → length cs ≤ n → links n r ≡ length cs
  unfolding links
  links_are zero r [] t h = refl
  links_are zero r (c ∷ cs) t h = absurd (omega arith)
  links_are (suc n) r [] t h = rw (eq-eqb r NONE t, links)
  links_are (suc n) r (c ∷ cs) t h =
      let e = trail_is r c t.0 t.1 in
      rw (ne_eqb r NONE (λ z. let y = first_low trail work c t.1 in omega (arith, t.0)), links)
      (ap suc (ap (λ (d : List ℕ). links n (link_of r (after trail work (end_of d)))) e ∙ links_are n (link_of r (after trail work (end_of c))) cs t.2 (omega arith)))

  -- those that start with r
  record Some (r : ℕ) (cs : List (List ℕ)) : Type 0 where
    pub rest : List ℕ
    pub more : List (List ℕ)
    pub whole : cs ≡ (r ∷ rest) ∷ more
    pub goes : Goes trail work r rest
    pub strung : Strung trail work (link_of r (after trail work (end_of (r ∷ rest)))) more

  some : (r : ℕ) (cs : List (List ℕ)) → Strung trail work r cs → (r ≡ NONE → ⊥) → Some r cs
  some r [] t n = absurd (n t)
  some r ([] ∷ cs) t n = absurd t.1
  some r ((q ∷ l) ∷ cs) t n = record {
    rest = l;
    more = cs;
    whole = ap (λ q. (q ∷ l) ∷ cs) (sym t.0);
    goes = subst (λ q. Goes trail work q l) (sym t.0) t.1;
    strung = subst (λ q. Strung trail work (link_of r (after trail work (end_of (q ∷ l)))) cs) (sym t.0) t.2;
  }

module _ (trail : ℕ) (work : List ℕ) (first : ℕ) (done₀ : Done) (refs₀ cons₀ : List ℕ) where
  -- those of the front are written, and the next one starts with r
  pub record Sofar (refs cons : List ℕ) (r c at : ℕ) : Type 0 where
    pub chain : Chain trail work first done₀
    pub front : List (List ℕ)
    pub more : List (List ℕ)
    pub whole : chain.contours ≡ front ++ more
    pub left : Strung trail work r more
    pub wrote : Wrote front done₀ refs₀ cons₀ (record { contours = c; references = at }) refs cons

  pub begin : Chain trail work first done₀ → Sofar refs₀ cons₀ first done₀.contours done₀.references
  begin k = record { chain = k; front = []; more = k.contours; whole = refl; left = k.strung; wrote = wrote_none done₀ refs₀ cons₀ }

  -- how many are left
  abbrev pub ahead : ℕ → ℕ
  ahead r = links trail work NONE r

  module _ {refs cons : List ℕ} {r c at : ℕ} (o : Sofar refs cons r c at) where
    pub refs_length : length refs ≡ length refs₀
    refs_length = ap length o.wrote.references ∙ length-sets refs₀ done₀.references (flat o.front)

    pub cons_length : length cons ≡ length cons₀
    cons_length = ap length o.wrote.contours ∙ length-sets cons₀ (2 * done₀.contours) (contour_words done₀.references o.front)

    fits : Fits o.more (record { contours = c; references = at })
    fits = fits_rest o.front o.more (subst (λ (cs : List (List ℕ)). Fits cs done₀) o.whole o.chain.fits) o.wrote

    pub at_low : at ≤ NONE
    at_low = omega (arith, fits.references)

    ahead_is : ahead r ≡ length o.more
    ahead_is = links_are trail work NONE r o.more o.left (omega (arith, fits.contours))

    pub over : r ≡ NONE → WritesChain trail work first done₀ refs₀ cons₀ (record { contours = c; references = at }) refs cons
    over e cs t =
        let z : o.more ≡ [] = strung_one trail work r o.more [] o.left e in
        let all : cs ≡ o.front = strung_one trail work first cs o.chain.contours t o.chain.strung ∙ o.whole ∙ ap (λ (l : List (List ℕ)). o.front ++ l) z ∙ append-nil o.front in
        rw all o.wrote

    module _ (n : r ≡ NONE → ⊥) where
      abbrev next_one : Some trail work r o.more
      next_one = some trail work r o.more o.left n

      pub goes_here : Going trail work r
      goes_here = record { rest = next_one.rest; goes = next_one.goes }

      fits_one : Fits ((r ∷ next_one.rest) ∷ []) (record { contours = c; references = at })
      fits_one = fits_front ((r ∷ next_one.rest) ∷ []) next_one.more (subst (λ (cs : List (List ℕ)). Fits cs (record { contours = c; references = at })) next_one.whole fits)

      pub count_low : c < NONE
      count_low = omega (arith, fits_one.contours)

      module _ {run : Run} {refs' : List ℕ} (ran : Runs trail work at r refs run refs') where
        its_run : Ran trail work (r ∷ next_one.rest) at r refs run refs'
        its_run = ran next_one.rest next_one.goes

        pub next_named : Named run.next
        next_named = its_run.named

        pub place_low : at + run.count ≤ NONE
        unfolding flat
        place_low = omega (arith, fits_one.references, its_run.count, length-append (r ∷ next_one.rest) [])

        pub going : {cons' : List ℕ} → cons' ≡ sets cons (2 * c) (at ∷ run.count ∷ []) → Sofar refs' cons' (word_of run.next) (c + 1) (at + run.count)
        going w = record {
          chain = o.chain;
          front = o.front ++ ((r ∷ next_one.rest) ∷ []);
          more = next_one.more;
          whole = o.whole ∙ ap (λ (l : List (List ℕ)). o.front ++ l) next_one.whole ∙ sym (append_assoc o.front ((r ∷ next_one.rest) ∷ []) next_one.more);
          left = rw its_run.next next_one.strung;
          wrote = wrote_then o.wrote (wrote_one (r ∷ next_one.rest) (record { contours = c; references = at }) refs cons refs' _ run.count its_run.count its_run.written w);
        }

  pub fewer : {refs cons : List ℕ} {r c at : ℕ} (o : Sofar refs cons r c at) (n : r ≡ NONE → ⊥) {run : Run} {refs' cons' : List ℕ} → Runs trail work at r refs run refs'
      → cons' ≡ sets cons (2 * c) (at ∷ run.count ∷ []) → ahead (word_of run.next) < ahead r
  unfolding going
  fewer o n ran w = omega (arith, ahead_is o, ahead_is (going o n ran w), ap length (next_one o n).whole)
