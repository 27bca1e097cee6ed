-- A round of references under way, and its end.
use Prim.Native.Nat.{ℕ, pred, ◌+◌, ◌<◌}
use mathlib.Core.Path.{◌≡◌, refl, sym, ap, subst, ◌∙◌}
use mathlib.Core.List.{List, [], ◌∷◌, ◌++◌, Memᴰ as In}
use native.Mathlib.Omega.{arith}
use lib.ListN.{length, set, get_or, length-append, length-set}
use lib.Seq.{get_or-append_seam}
use borrow.Author.Tests.{eq-eqb, ne_eqb}
use Rattle.rules.specs.Picture.{Picture, code}
use Rattle.rules.specs.declared.Dir.{Dir}
use Rattle.lattice.specs.declared.Size.{Size}
use Rattle.lattice.specs.declared.Around.{Around}
use Rattle.lattice.specs.Around.{around_of}
use Rattle.lattice.specs.Size.{pic}
use Rattle.face.specs.Contours.{successor_in}
use Rattle.rules.proofs.Ground.Walking.{walked}
use Rattle.face.proofs.contours.Turning.{successor_in_lem}
use Rattle.assemble.specs.Words.{node_in, next_at, next_in, EndsAt}
use Rattle.assemble.specs.Trails.{end_of}
use Rattle.assemble.specs.Round.{closes, round_in, marks, Closes, Followed}
use Rattle.assemble.proofs.Walking.{all, Way, begin as first_way, in_way, over_here, on, ahead, ahead_is}

-- WHAT THE SMALL FUNCTIONS SAY

pub next_said : (P : Picture) (nodes : List ℕ) (n x y : ℕ) (d e : Dir) (region v : ℕ) (a : Around) → x ≡ node_in nodes n 0 → y ≡ node_in nodes n 1 → a ≡ around_of P x y
    → e ≡ successor_in a region d → v ≡ node_in nodes n (2 + code e) → v ≡ next_at P nodes n d region
unfolding next_at
next_said P nodes n x y d e region v a p q r f g =
    g ∙ rw (f, r, successor_in_lem P x y region d, p, q)

-- LISTS that grow at their end

marks_more : (f : ℕ → ℕ) (trail : ℕ) (ws l : List ℕ) (r : ℕ) → marks f trail ws (l ++ (r ∷ [])) ≡ set (marks f trail ws l) (trail + r) (f r)
marks_more f trail ws [] r = refl
marks_more f trail ws (q ∷ l) r = marks_more f trail (set ws (trail + q) (f q)) l r

pub length_marks : (f : ℕ → ℕ) (trail : ℕ) (ws l : List ℕ) → length (marks f trail ws l) ≡ length ws
length_marks f trail ws [] = refl
length_marks f trail ws (q ∷ l) = length_marks f trail (set ws (trail + q) (f q)) l ∙ length-set ws (trail + q) (f q)

pub end_more : (done : List ℕ) (c : ℕ) → end_of (done ++ (c ∷ [])) ≡ c
end_more done c =
    let e : pred (length (done ++ (c ∷ []))) ≡ length done = let z = length-append done (c ∷ []) in omega arith in
    ap (λ n. get_or (done ++ (c ∷ [])) n 0) e ∙ get_or-append_seam done c [] 0

-- THE ROUND

pub round_is : (s : Size) (ls nodes segs : List ℕ) (r : ℕ) (k : Closes s ls nodes segs r) → round_in (pic s ls) nodes segs r ≡ r ∷ k.rest
unfolding round_in
round_is s ls nodes segs r k = walked (next_in (pic s ls) nodes segs) (closes (pic s ls) nodes segs r) 4294967296 r k.rest k.walk k.short

module _ (s : Size) (ls nodes segs work₀ : List ℕ) (trail r : ℕ) where
  abbrev P : Picture
  P = pic s ls

  pub record Sofar (work : List ℕ) (c : ℕ) : Type 0 where
    pub closed : Closes s ls nodes segs r
    pub done : List ℕ
    pub more : List ℕ
    pub way : Way (next_in P nodes segs) (closes P nodes segs r) r done c more
    pub words : work ≡ marks (next_in P nodes segs) trail work₀ done
    pub low : c < 4294967296

  pub begin : Closes s ls nodes segs r → r < 4294967296 → Sofar work₀ r
  begin k l = record {
    closed = k;
    done = [];
    more = k.rest;
    way = first_way (next_in P nodes segs) (closes P nodes segs r) r k.rest k.walk k.short;
    words = refl;
    low = l;
  }

  -- how many references are left
  abbrev pub left : ℕ → ℕ
  left c = ahead (next_in P nodes segs) (closes P nodes segs r) r c

  the_round : all (next_in P nodes segs) (closes P nodes segs r) r ≡ round_in P nodes segs r
  unfolding all round_in
  the_round = refl

  module _ {work : List ℕ} {c : ℕ} (o : Sofar work c) where
    pub ends_here : EndsAt s nodes segs c
    ends_here =
        o.closed.ends c (subst (In c) (the_round ∙ round_is s ls nodes segs r o.closed) (in_way (next_in P nodes segs) (closes P nodes segs r) r o.way))

    pub work_length : length work ≡ length work₀
    work_length = ap length o.words ∙ length_marks (next_in P nodes segs) trail work₀ o.done

    module _ {work' : List ℕ} {d : ℕ} (next : d ≡ next_in P nodes segs c) (marked : work' ≡ set work (trail + c) d) where
      words_more : work' ≡ marks (next_in P nodes segs) trail work₀ (o.done ++ (c ∷ []))
      words_more = marked ∙ rw (o.words, next) (sym (marks_more (next_in P nodes segs) trail work₀ o.done c))

      pub going : d < 4294967296 → (d ≡ r → ⊥) → (o' : Sofar work' d) × (left d < left c)
      going l e =
          let f = next_in P nodes segs in
          let stop = closes P nodes segs r in
          let g = on f stop r o.way d next (ne_eqb (f c) r (λ q. e (next ∙ q))) in
          (record { closed = o.closed; done = o.done ++ (c ∷ []); more = g.0; way = g.1; words = words_more; low = l }, omega (arith, ahead_is f stop r o.way, ahead_is f stop r g.1, g.2))

      pub gone : d ≡ r → Followed s ls nodes segs trail r work₀ work' c
      gone e =
          let whole : round_in P nodes segs r ≡ o.done ++ (c ∷ []) =
          sym the_round ∙ over_here (next_in P nodes segs) (closes P nodes segs r) r o.way (eq-eqb (next_in P nodes segs c) r (sym next ∙ e)) in
          record { last = rw whole (sym (end_more o.done c)); marked = rw whole words_more }
