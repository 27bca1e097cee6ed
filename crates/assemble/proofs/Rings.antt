-- Rings after the contours through nodes, and all contours.
use Prim.Native.Nat.{ℕ, suc, ◌+◌, ◌*◌, ◌-◌, ◌≤◌, ◌<◌}
use mathlib.Core.Path.{◌≡◌, refl, sym, ap, subst, ◌∙◌}
use mathlib.Core.Bool.{Bool, true, false, not, true≢false}
use mathlib.Core.Logic.{◌⊎◌, inl, inr, ⊎_elim}
use mathlib.Core.List.Memᴰ.{head as here}
use mathlib.Core.List.{List, [], ◌∷◌, ◌++◌, map, map-append, append-nil, append_assoc, Memᴰ as In}
use native.Mathlib.Omega.{arith}
use native.Mathlib.Decide.{dec_lt}
use lib.Dec.{ltb}
use lib.ListN.{length, set, get_or, length-append, length-set}
use lib.Seq.{get_or-set_same, get_or-set_other}
use borrow.Author.Tests.{lt-ltb, le-ltb}
use Rattle.rules.specs.Lists.{flat, keep, upto, among, Distinct}
use Rattle.rules.specs.Picture.{Picture, OUTSIDE, Dart}
use Rattle.rules.specs.Face.{refs, region, is_open, next, discover, contours}
use Rattle.rules.proofs.Ground.Lists.{flat_each, keep_append, upto_snoc, upto_split, in_among}
use Rattle.rules.proofs.Lattice.Frame.{Framed}
use Rattle.rules.proofs.Contours.Rounds.{Live, next_live}
use Rattle.rules.proofs.Contours.Discovery.{live_found}
use Rattle.rules.proofs.Contours.Painted.{Contour, Painted, painted, reference_count}
use Rattle.lattice.specs.declared.Size.{Size}
use Rattle.lattice.specs.Size.{pic}
use Rattle.lattice.proofs.Frame.{framed}
use Rattle.assemble.specs.Words.{region_in, open_in}
use Rattle.assemble.specs.Trails.{LINK, first_of, end_of, after, Along}
use Rattle.assemble.specs.Stage.{is_painted, Listed, Room, trail_of, Stage, ringed, RingStage, Ready, Finds}
use Rattle.assemble.proofs.Lists.{flat_long}
use Rattle.assemble.proofs.Changes.{changed_none, changed_then, set_first, set_second}
use Rattle.assemble.proofs.Staging.{on_trail, listed_same, listed_more}
use Rattle.assemble.proofs.Trails.{cycle_along, ring_along}

below_or_same : {q r : ℕ} → q < suc r → (q < r) ⊎ (q ≡ r)
below_or_same {q} {r} h = elim (dec_lt q r) [ yes p ↦ inl p | no p ↦ inr (omega arith) ]

module _ (P : Picture) (ss : List (List Dart)) (paints : ℕ) where
  abbrev is_ring : ℕ → Bool
  is_ring r = not (is_open P ss r)

  abbrev single : ℕ → List ℕ
  single r = r ∷ []

  -- the ring r, if it is one and painted
  abbrev if_ring : Bool → Bool → ℕ → List (List ℕ)
  if_ring true true r = (r ∷ []) ∷ []
  if_ring true false r = []
  if_ring false p r = []

  one_ring : (o p : Bool) (r : ℕ) → is_ring r ≡ o → ltb (region P ss r) paints ≡ p → keep (is_painted P ss paints) (map single (keep is_ring (r ∷ []))) ≡ if_ring o p r
  unfolding keep
  one_ring true true r e f = rw (e, keep) (rw (f, keep))
  one_ring true false r e f = rw (e, keep) (rw (f, keep))
  one_ring false p r e f = rw (e, keep)

  ringed_append : (l m : List ℕ) → keep (is_painted P ss paints) (discover P ss [] (refs ss) ++ map single (keep is_ring (l ++ m)))
      ≡ keep (is_painted P ss paints) (discover P ss [] (refs ss) ++ map single (keep is_ring l)) ++ keep (is_painted P ss paints) (map single (keep is_ring m))
  ringed_append l m =
      let t = is_painted P ss paints in
      let base = discover P ss [] (refs ss) in
      ap (λ (k : List ℕ). keep t (base ++ map single k)) (keep_append is_ring l m)
      ∙ ap (λ (k : List (List ℕ)). keep t (base ++ k)) (map-append single (keep is_ring l) (keep is_ring m))
      ∙ ap (keep t) (sym (append_assoc base (map single (keep is_ring l)) (map single (keep is_ring m))))
      ∙ keep_append t (base ++ map single (keep is_ring l)) (map single (keep is_ring m))

  ringed_next : (o p : Bool) (r : ℕ) → is_ring r ≡ o → ltb (region P ss r) paints ≡ p → ringed P ss paints (suc r) ≡ ringed P ss paints r ++ if_ring o p r
  unfolding ringed
  ringed_next o p r e f =
      let z : 0 + r ≡ r = omega arith in
      ap (λ (l : List ℕ). keep (is_painted P ss paints) (discover P ss [] (refs ss) ++ map single (keep is_ring l))) (upto_snoc r 0 ∙ ap (λ n. upto r 0 ++ (n ∷ [])) z)
      ∙ ringed_append (upto r 0) (r ∷ [])
      ∙ ap (λ (l : List (List ℕ)). keep (is_painted P ss paints) (discover P ss [] (refs ss) ++ map single (keep is_ring (upto r 0))) ++ l) (one_ring o p r e f)

  ringed_all : ringed P ss paints (2 * length ss) ≡ contours P ss paints
  unfolding ringed contours refs
  ringed_all = refl

  ringed_none : ringed P ss paints 0 ≡ keep (is_painted P ss paints) (discover P ss [] (refs ss))
  unfolding ringed upto keep
  ringed_none = ap (keep (is_painted P ss paints)) (append-nil (discover P ss [] (refs ss)))

  ringed_few : (r : ℕ) → r ≤ 2 * length ss → length (ringed P ss paints r) ≤ length (contours P ss paints)
  unfolding ringed contours refs
  ringed_few r h =
      let n = 2 * length ss - r in
      let z : 2 * length ss ≡ r + n = omega arith in
      let u : upto (2 * length ss) 0 ≡ upto r 0 ++ upto n (0 + r) = ap (λ n. upto n 0) z ∙ upto_split r n 0 in
      let l = keep (is_painted P ss paints) (discover P ss [] (refs ss) ++ map single (keep is_ring (upto r 0))) in
      let m = keep (is_painted P ss paints) (map single (keep is_ring (upto n (0 + r)))) in
      let e = ap (λ (k : List ℕ). keep (is_painted P ss paints) (discover P ss [] (refs ss) ++ map single (keep is_ring k))) u ∙ ringed_append (upto r 0) (upto n (0 + r)) in
      omega (arith, ap length e, length-append l m)

-- THE STAGES

module _ {s : Size} {segs : List ℕ} {P : Picture} {ss : List (List Dart)} {trail lasts : ℕ} {work₀ : List ℕ} {r k : ℕ} {work : List ℕ} (t : RingStage s segs P ss trail lasts work₀ r k work) (b : r < 2 * length ss) where
  pub ring_low : k ≤ length (contours P ss s.paints)
  ring_low = omega (arith, t.listed.count, ringed_few P ss s.paints r (omega arith))

  pub no_ring : open_in segs r ≡ true → RingStage s segs P ss trail lasts work₀ (suc r) k work
  no_ring o = record {
    sided = t.sided;
    room = t.room;
    rings = λ q h e. ⊎_elim (λ (h : q < r). t.rings q h e) (λ (z : q ≡ r). absurd (true≢false (sym through_nodes ∙ ap (is_open P ss) (sym z) ∙ e))) (below_or_same h);
    opens = t.opens;
    listed = subst (λ (ks : List (List ℕ)). Listed lasts k ks work) (sym (ringed_next P ss s.paints false (ltb (region P ss r) s.paints) r (ap not through_nodes) refl ∙ append-nil (ringed P ss s.paints r))) t.listed;
  }
    where
      through_nodes : is_open P ss r ≡ true
      through_nodes = sym (t.sided.opens r b) ∙ o

  -- a ring, which gets its own number
  module _ (o : open_in segs r ≡ false) {work₁ : List ℕ} (m : work₁ ≡ set work (trail + r) r) where
    shut : is_open P ss r ≡ false
    shut = sym (t.sided.opens r b) ∙ o

    long : length work₁ ≡ length work
    long = ap length m ∙ length-set work (trail + r) r

    other : (n : ℕ) → (n ≡ trail + r → ⊥) → get_or work₁ n 0 ≡ get_or work n 0
    other n e = ap (λ (l : List ℕ). get_or l n 0) m ∙ get_or-set_other work (trail + r) n r 0 e

    own : after trail work₁ r ≡ r
    own = ap (λ (l : List ℕ). get_or l (trail + r) 0) m ∙ get_or-set_same work (trail + r) r 0 (omega (arith, t.room.apart, t.room.space))

    room₁ : Room P ss s.paints trail lasts work₀ work₁
    room₁ = record {
      apart = t.room.apart;
      space = omega (arith, t.room.space, long);
      changed = changed_then t.room.changed (rw m (set_first work (trail + r) r (omega arith) (omega arith)));
    }

    rings₁ : (q : ℕ) → q < suc r → is_open P ss q ≡ false → after trail work₁ q ≡ q
    rings₁ q h e =
        ⊎_elim (λ (h : q < r). other (trail + q) (λ z. omega arith) ∙ t.rings q h e) (λ (z : q ≡ r). ap (after trail work₁) z ∙ own ∙ sym z) (below_or_same h)

    opens₁ : (q : ℕ) → q < 2 * length ss → is_open P ss q ≡ true → after trail work₁ q ≡ after trail work₀ q
    opens₁ q h e = other (trail + q) (λ z. let y : q ≡ r = omega arith in true≢false (sym e ∙ ap (is_open P ss) y ∙ shut)) ∙ t.opens q h e

    listed₁ : Listed lasts k (ringed P ss s.paints r) work₁
    listed₁ = listed_same lasts k (ringed P ss s.paints r) work work₁ t.listed (λ i h. other (lasts + i) (λ z. omega (arith, t.room.apart)))

    pub not_painted : s.paints ≤ region_in segs r → RingStage s segs P ss trail lasts work₀ (suc r) k work₁
    not_painted h = record {
      sided = t.sided;
      room = room₁;
      rings = rings₁;
      opens = opens₁;
      listed = subst (λ (ks : List (List ℕ)). Listed lasts k ks work₁)
          (sym (ringed_next P ss s.paints true false r (ap not shut) (ap (λ l. ltb l s.paints) (sym (t.sided.regions r b)) ∙ le-ltb (region_in segs r) s.paints h) ∙ append-nil (ringed P ss s.paints r))) listed₁;
    }

    module _ (h : region_in segs r < s.paints) where
      more : ringed P ss s.paints (suc r) ≡ ringed P ss s.paints r ++ ((r ∷ []) ∷ [])
      more = ringed_next P ss s.paints true true r (ap not shut) (ap (λ l. ltb l s.paints) (sym (t.sided.regions r b)) ∙ lt-ltb (region_in segs r) s.paints h)

      place_low : k < length (contours P ss s.paints)
      place_low = omega (arith, t.listed.count, ap length more, length-append (ringed P ss s.paints r) ((r ∷ []) ∷ []), ringed_few P ss s.paints (suc r) b)

      pub ring_painted : {work₂ : List ℕ} → work₂ ≡ set work₁ (lasts + k) r → RingStage s segs P ss trail lasts work₀ (suc r) (k + 1) work₂
      ring_painted {work₂} p = record {
        sided = t.sided;
        room = record {
          apart = t.room.apart;
          space = omega (arith, room₁.space, ap length p, length-set work₁ (lasts + k) r);
          changed = changed_then room₁.changed (rw p (set_second work₁ (lasts + k) r (omega arith) (omega (arith, place_low))));
        };
        rings = λ q w e. still q (omega arith) ∙ rings₁ q w e;
        opens = λ q w e. still q w ∙ opens₁ q w e;
        listed = subst (λ (ks : List (List ℕ)). Listed lasts (k + 1) ks work₂) (sym more) (rw p (listed_more lasts k (ringed P ss s.paints r) work₁ (r ∷ []) r listed₁ (omega (arith, place_low, room₁.space)) refl));
      }
        where
          still : (q : ℕ) → q < 2 * length ss → after trail work₂ q ≡ after trail work₁ q
          still q w = ap (λ (l : List ℕ). get_or l (trail + q) 0) p ∙ get_or-set_other work₁ (lasts + k) (trail + q) r 0 (λ z. omega (arith, t.room.apart))

-- FIRST AND LAST

module _ {s : Size} {ls nodes segs : List ℕ} {ss : List (List Dart)} {trail lasts n : ℕ} {work : List ℕ} where
  pub begin : Ready s ls nodes segs ss trail lasts n work → Stage s ls nodes segs ss trail lasts work 0 0 work
  unfolding discover upto flat keep among trail_of
  begin h = record {
    cs = [];
    drawn = h.drawn;
    room = record { apart = h.apart; space = h.space; changed = changed_none };
    whole = refl;
    seen = h.blank;
    listed = record { count = refl; words = λ i p. absurd (omega arith) };
  }

  -- the open ones are done
  pub turn_to_rings : {work₀ : List ℕ} {k : ℕ} → n ≡ 2 * length ss → Stage s ls nodes segs ss trail lasts work₀ n k work → RingStage s segs (pic s ls) ss trail lasts work 0 k work
  unfolding refs
  turn_to_rings {work₀} {k} e t = record {
    sided = record { regions = t.drawn.regions; opens = t.drawn.opens };
    room = record { apart = t.room.apart; space = t.room.space; changed = changed_none };
    rings = λ q h o. absurd (omega arith);
    opens = λ q h o. refl;
    listed = subst (λ (ks : List (List ℕ)). Listed lasts k ks work)
        (ap (keep (is_painted (pic s ls) ss s.paints)) (sym t.whole ∙ ap (λ n. discover (pic s ls) ss [] (upto n 0)) e) ∙ sym (ringed_none (pic s ls) ss s.paints)) t.listed;
  }

  module _ (b : s.paints ≤ OUTSIDE) {work₁ work₂ : List ℕ} {k m : ℕ} (e : n ≡ 2 * length ss) (t : Stage s ls nodes segs ss trail lasts work n k work₁) (u : RingStage s segs (pic s ls) ss trail lasts work₁ n m work₂) where
    abbrev P : Picture
    P = pic s ls

    abbrev F : Framed P
    F = framed s ls

    abbrev cs : List (List ℕ)
    cs = contours P ss s.paints

    abbrev ok : Painted P ss s.paints cs
    ok = painted F t.drawn.describes s.paints b

    all_open : t.cs ≡ discover P ss [] (refs ss)
    unfolding refs
    all_open = sym t.whole ∙ ap (λ n. discover P ss [] (upto n 0)) e

    -- an open reference of a contour has the next one
    open_after : (q : ℕ) → Live P ss q → after trail work₂ q ≡ next P ss q
    open_after q v =
        u.opens q v.below v.opens
        ∙ t.seen q v.below
        ∙ on_trail P ss t.cs q (ap (λ (ds : List (List ℕ)). among q (flat ds)) all_open ∙ in_among q (flat (discover P ss [] (refs ss))) (live_found F t.drawn.describes q v))

    along : (c : List ℕ) → In c cs → Along trail work₂ c × (after trail work₂ (end_of c) ≡ first_of c)
    along c i = go (ok.contour c i)
      where
        low : (q : ℕ) → In q c → q < LINK
        low q j = let z = (ok.member c i q j).below in omega (arith, t.drawn.few)

        once : Distinct c
        once = flat_each cs ok.once c i

        few : length c < 4294967296
        few = omega (arith, t.drawn.few, reference_count ok, flat_long cs c i)

        live : (q : ℕ) → In q c → is_open P ss q ≡ true → Live P ss q
        live q j o = record { below = (ok.member c i q j).below; opens = o; inside = λ z. let w = ok.painted c i q j in omega arith }

        go : Contour P ss c → Along trail work₂ c × (after trail work₂ (end_of c) ≡ first_of c)
        go (inl k) =
            cycle_along trail work₂ (next P ss) c k.0 once
            (λ q j. let v = live q j (k.1 q j) in (open_after q v, low q j, let z = (next_live F t.drawn.describes q v).below in omega (arith, t.drawn.few))) few
        go (inr k) =
            let j : In k.0 c = subst (In k.0) (sym k.1) (here refl) in
            ring_along trail work₂ c k.0 k.1 (low k.0 j) (u.rings k.0 (let z = (ok.member c i k.0 j).below in omega arith) k.2)

    pub all_found : Finds s ls ss trail lasts work m work₂
    all_found = record {
      listed = subst (λ (ks : List (List ℕ)). Listed lasts m ks work₂) (ap (ringed P ss s.paints) e ∙ ringed_all P ss s.paints) u.listed;
      changed = changed_then t.room.changed u.room.changed;
      along = along;
    }
