-- Contours found one after the other.
use Prim.Native.Nat.{ℕ, suc, ◌+◌, ◌*◌, ◌-◌, ◌≤◌, ◌<◌}
use mathlib.Core.Path.{◌≡◌, refl, sym, ap, ap₂, subst, ◌∙◌}
use mathlib.Core.Bool.{Bool, true, false, cond, not, ◌&&◌}
use mathlib.Core.Logic.{◌⊎◌, inr, ⊎_elim}
use mathlib.Core.List.Memᴰ.{append_cases as in-cases}
use mathlib.Core.List.Memᴰ.{append_left as in_left}
use mathlib.Core.List.Memᴰ.{append_right as in_right}
use mathlib.Core.List.Memᴰ.{head as here}
use mathlib.Core.List.Memᴰ.{not-nil}
use mathlib.Core.List.Memᴰ.{tail as there}
use mathlib.Core.List.{List, [], ◌∷◌, ◌++◌, map, map-append, append-nil, append_assoc, Memᴰ as In}
use native.Mathlib.Omega.{arith}
use native.Mathlib.Decide.{dec_lt, ℕ_discrete}
use lib.Dec.{eqb, ltb}
use lib.ListN.{length, set, get_or, length-append, length-set, length-map, get_or-append}
use lib.Seq.{get_or-set_same, get_or-set_other, get_or-append_seam}
use borrow.Author.Tests.{eq-eqb, ne_eqb, lt-ltb, le-ltb}
use Rattle.rules.specs.Lists.{flat, keep, upto, among, last_of}
use Rattle.rules.specs.Picture.{Picture, OUTSIDE, Dart}
use Rattle.rules.specs.Face.{refs, region, is_open, next, round, enter, discover, contours}
use Rattle.rules.proofs.Ground.Lists.{flat_snoc, keep_append, upto_snoc, upto_split, among_in, in_among, not_among, none_among, length_upto}
use Rattle.rules.proofs.Ground.Orbits.{Linked, Walk}
use Rattle.rules.proofs.Ground.Pigeonhole.{pigeonhole}
use Rattle.rules.proofs.Lattice.Frame.{Framed}
use Rattle.rules.proofs.References.Steps.{in_refs}
use Rattle.rules.proofs.Contours.Rounds.{Live, next_live, the_round}
use Rattle.lattice.specs.declared.Size.{Size}
use Rattle.lattice.specs.Size.{pic}
use Rattle.lattice.proofs.Frame.{framed}
use Rattle.rules.specs.Records.{NONE}
use Rattle.assemble.specs.Words.{region_in, open_in, next_in}
use Rattle.assemble.specs.Trails.{first_of, end_of, after}
use Rattle.assemble.specs.Round.{round_in, marks, Closes, Followed}
use Rattle.assemble.specs.Drawn.{Drawn}
use Rattle.assemble.specs.Stage.{is_painted, Listed, Room, trail_of, Stage}
use Rattle.assemble.proofs.Changes.{changed_then, set_second}
use Rattle.assemble.proofs.Following.{round_is, length_marks}

-- MARKS

module _ (f : ℕ → ℕ) (trail : ℕ) where
  stays : (ws l : List ℕ) (q : ℕ) → trail + q < length ws → get_or ws (trail + q) 0 ≡ f q → get_or (marks f trail ws l) (trail + q) 0 ≡ f q
  stays ws [] q h e = e
  stays ws (r ∷ l) q h e = stays (set ws (trail + r) (f r)) l q (omega (arith, length-set ws (trail + r) (f r))) (go (ℕ_discrete q r))
    where
      go : Dec (q ≡ r) → get_or (set ws (trail + r) (f r)) (trail + q) 0 ≡ f q
      go (yes z) = rw (← z) (get_or-set_same ws (trail + q) (f q) 0 h)
      go (no n) = get_or-set_other ws (trail + r) (trail + q) (f r) 0 (λ z. n (omega arith)) ∙ e

  marks_in : (ws l : List ℕ) (q : ℕ) → In q l → trail + q < length ws → get_or (marks f trail ws l) (trail + q) 0 ≡ f q
  marks_in ws [] q i h = absurd (not-nil i)
  marks_in ws (r ∷ l) q (here e) h =
      stays (set ws (trail + r) (f r)) l q (omega (arith, length-set ws (trail + r) (f r))) (rw e (get_or-set_same ws (trail + r) (f r) 0 (rw e at h)))
  marks_in ws (r ∷ l) q (there i) h = marks_in (set ws (trail + r) (f r)) l q i (omega (arith, length-set ws (trail + r) (f r)))

  marks_off : (ws l : List ℕ) (k : ℕ) → ((q : ℕ) → In q l → k ≡ trail + q → ⊥) → get_or (marks f trail ws l) k 0 ≡ get_or ws k 0
  marks_off ws [] k n = refl
  marks_off ws (r ∷ l) k n = marks_off (set ws (trail + r) (f r)) l k (λ q i. n q (there i)) ∙ get_or-set_other ws (trail + r) k (f r) 0 (n r (here refl))

among_off : (q : ℕ) (l m : List ℕ) → among q m ≡ false → among q (l ++ m) ≡ among q l
among_off q l m n = go (among q l) refl
  where
    go : (b : Bool) → among q l ≡ b → among q (l ++ m) ≡ among q l
    go true e = in_among q (l ++ m) (in_left m (among_in q l e)) ∙ sym e
    go false e = none_among q (l ++ m) (λ i. ⊎_elim (not_among q l e) (not_among q m n) (in-cases l i)) ∙ sym e

-- THE LIST

pub listed_same : (lasts k : ℕ) (ks : List (List ℕ)) (work work' : List ℕ) → Listed lasts k ks work → ((i : ℕ) → i < length ks → get_or work' (lasts + i) 0 ≡ get_or work (lasts + i) 0) → Listed lasts k ks work'
listed_same lasts k ks work work' l f = record { count = l.count; words = λ i h. f i h ∙ l.words i h }

pub listed_more : (lasts k : ℕ) (ks : List (List ℕ)) (work : List ℕ) (c : List ℕ) (e : ℕ) → Listed lasts k ks work → lasts + k < length work → e ≡ end_of c → Listed lasts (k + 1) (ks ++ (c ∷ [])) (set work (lasts + k) e)
listed_more lasts k ks work c e l h q = record {
  count = omega (arith, l.count, length-append ks (c ∷ []));
  words = λ i p. go i (dec_lt i (length ks)) p;
}
  where
    go : (i : ℕ) → Dec (i < length ks) → i < length (ks ++ (c ∷ [])) → get_or (set work (lasts + k) e) (lasts + i) 0 ≡ get_or (map end_of (ks ++ (c ∷ []))) i 0
    go i (yes p) b =
        get_or-set_other work (lasts + k) (lasts + i) e 0 (λ z. omega (arith, l.count))
        ∙ l.words i p
        ∙ sym (ap (λ (m : List ℕ). get_or m i 0) (map-append end_of ks (c ∷ [])) ∙ get_or-append (map end_of ks) (end_of c ∷ []) 0 i (omega (arith, length-map ks end_of)))
    go i (no p) b =
        let z : i ≡ k = omega (arith, l.count, length-append ks (c ∷ [])) in
        let y : k ≡ length (map end_of ks) = omega (arith, l.count, length-map ks end_of) in
        rw z (get_or-set_same work (lasts + k) e 0 h ∙ q
        ∙ sym (ap (λ (m : List ℕ). get_or m k 0) (map-append end_of ks (c ∷ [])) ∙ rw y (get_or-append_seam (map end_of ks) (end_of c) [] 0)))

-- DISCOVERY, one reference more

module _ (P : Picture) (ss : List (List Dart)) where
  discover_snoc : (cs : List (List ℕ)) (rs : List ℕ) (r : ℕ) → discover P ss cs (rs ++ (r ∷ [])) ≡ enter P ss (discover P ss cs rs) r
  unfolding discover
  discover_snoc cs [] r = refl
  discover_snoc cs (q ∷ rs) r = discover_snoc (enter P ss cs q) rs r

  discover_next : (r : ℕ) → discover P ss [] (upto (suc r) 0) ≡ enter P ss (discover P ss [] (upto r 0)) r
  discover_next r =
      let z : 0 + r ≡ r = omega arith in
      ap (discover P ss []) (upto_snoc r 0) ∙ discover_snoc [] (upto r 0) (0 + r) ∙ ap (enter P ss (discover P ss [] (upto r 0))) z

  enter_is : (cs : List (List ℕ)) (r : ℕ) (b : Bool) → (is_open P ss r && not (eqb (region P ss r) OUTSIDE) && not (among r (flat cs))) ≡ b
      → enter P ss cs r ≡ elim b [ true ↦ cs ++ (round P ss (2 * length ss) r r ∷ []) | false ↦ cs ]
  unfolding enter
  enter_is cs r b e = ap (λ (b : Bool). elim b as (λ x. List (List ℕ)) [ true ↦ cs ++ (round P ss (2 * length ss) r r ∷ []) | false ↦ cs ]) e

  enter_longer : (cs : List (List ℕ)) (r : ℕ) → (d : List (List ℕ)) × (enter P ss cs r ≡ cs ++ d)
  enter_longer cs r = go (is_open P ss r && not (eqb (region P ss r) OUTSIDE) && not (among r (flat cs))) refl
    where
      go : (b : Bool) → (is_open P ss r && not (eqb (region P ss r) OUTSIDE) && not (among r (flat cs))) ≡ b → (d : List (List ℕ)) × (enter P ss cs r ≡ cs ++ d)
      go true e = (round P ss (2 * length ss) r r ∷ [], enter_is cs r true e)
      go false e = ([], enter_is cs r false e ∙ sym (append-nil cs))

  discover_longer : (rs : List ℕ) (cs : List (List ℕ)) → (d : List (List ℕ)) × (discover P ss cs rs ≡ cs ++ d)
  unfolding discover
  discover_longer [] cs = ([], sym (append-nil cs))
  discover_longer (r ∷ rs) cs =
      let e = enter_longer cs r in
      let d = discover_longer rs (enter P ss cs r) in
      (e.0 ++ d.0, d.1 ∙ ap (λ (l : List (List ℕ)). l ++ d.0) e.1 ∙ append_assoc cs e.0 d.0)

  discover_append : (cs : List (List ℕ)) (rs qs : List ℕ) → discover P ss cs (rs ++ qs) ≡ discover P ss (discover P ss cs rs) qs
  unfolding discover
  discover_append cs [] qs = refl
  discover_append cs (r ∷ rs) qs = discover_append (enter P ss cs r) rs qs

-- no more are found on the way than in all
found_few : (P : Picture) (ss : List (List Dart)) (paints r : ℕ) → r ≤ 2 * length ss → length (keep (is_painted P ss paints) (discover P ss [] (upto r 0))) ≤ length (contours P ss paints)
unfolding contours refs
found_few P ss paints r h =
    let t = is_painted P ss paints in
    let cs = discover P ss [] (upto r 0) in
    let rings = map (λ r. r ∷ []) (keep (λ r. not (is_open P ss r)) (upto (2 * length ss) 0)) in
    let z : 2 * length ss ≡ r + (2 * length ss - r) = omega arith in
    let u : upto (2 * length ss) 0 ≡ upto r 0 ++ upto (2 * length ss - r) (0 + r) = ap (λ n. upto n 0) z ∙ upto_split r (2 * length ss - r) 0 in
    let d = discover_longer P ss (upto (2 * length ss - r) (0 + r)) cs in
    let e : discover P ss [] (upto (2 * length ss) 0) ≡ cs ++ d.0 = ap (discover P ss []) u ∙ discover_append P ss [] (upto r 0) (upto (2 * length ss - r) (0 + r)) ∙ d.1 in
    let f : keep t (discover P ss [] (upto (2 * length ss) 0) ++ rings) ≡ keep t cs ++ keep t (d.0 ++ rings) =
    ap (λ (l : List (List ℕ)). keep t (l ++ rings)) e ∙ ap (keep t) (append_assoc cs d.0 rings) ∙ keep_append t cs (d.0 ++ rings) in
    omega (arith, ap length f, length-append (keep t cs) (keep t (d.0 ++ rings)))

-- THE ROUND of a live reference

module _ (f g : ℕ → ℕ) (r : ℕ) where
  walk_of : (c : ℕ) (l : List ℕ) → Linked g c l → g (last_of c l) ≡ r → (In r l → ⊥) → ((q : ℕ) → In q (c ∷ l) → f q ≡ g q) → Walk f (λ q. eqb (f q) r) c l
  walk_of c [] k e n h = eq-eqb (f c) r (h c (here refl) ∙ e)
  walk_of c (b ∷ l) k e n h =
      let z : b ≡ f c = k.0 ∙ sym (h c (here refl)) in
      (ne_eqb (f c) r (λ q. n (here (sym (z ∙ q)))), z, walk_of b l k.1 e (λ i. n (there i)) (λ q i. h q (there i)))

module _ (s : Size) (ls nodes segs : List ℕ) (ss : List (List Dart)) (d : Drawn s ls nodes segs ss) (r : ℕ) (v : Live (pic s ls) ss r) where
  pub live_closes : Closes s ls nodes segs r
  unfolding refs
  live_closes =
      let P = pic s ls in
      let o = the_round (framed s ls) d.describes r v in
      let h = o.2 in
      record {
        rest = o.0;
        walk = walk_of (next_in P nodes segs) (next P ss) r r o.0 h.cycle.0 h.cycle.1 h.once.0 (λ q i. d.nexts q (h.live q i).below (h.live q i).opens);
        short = omega (arith, d.few, pigeonhole (r ∷ o.0) (refs ss) h.once (λ q i. in_refs ss q (h.live q i).below), length_upto (2 * length ss) 0);
        ends = λ q i. d.ends q (h.live q i).below (h.live q i).opens;
      }

  live_round : round_in (pic s ls) nodes segs r ≡ round (pic s ls) ss (2 * length ss) r r
  unfolding live_closes
  live_round = round_is s ls nodes segs r live_closes ∙ sym (the_round (framed s ls) d.describes r v).1

  live_all : (q : ℕ) → In q (round_in (pic s ls) nodes segs r) → Live (pic s ls) ss q
  live_all q i = (the_round (framed s ls) d.describes r v).2.live q (subst (In q) (live_round ∙ (the_round (framed s ls) d.describes r v).1) i)

  live_below : (q : ℕ) → In q (round_in (pic s ls) nodes segs r) → q < 2 * length ss
  live_below q i = (live_all q i).below

  -- each of them has the next one of the definitions
  live_next : (q : ℕ) → In q (round_in (pic s ls) nodes segs r) → next_in (pic s ls) nodes segs q ≡ next (pic s ls) ss q
  live_next q i = d.nexts q (live_all q i).below (live_all q i).opens

  live_first : r ≡ first_of (round_in (pic s ls) nodes segs r)
  live_first = sym (ap first_of (round_is s ls nodes segs r live_closes))

-- THE TRAIL of a reference

module _ (P : Picture) (ss : List (List Dart)) where
  pub on_trail : (cs : List (List ℕ)) (q : ℕ) → among q (flat cs) ≡ true → trail_of P ss cs q ≡ next P ss q
  unfolding trail_of
  on_trail cs q e = ap (λ (b : Bool). cond b (next P ss q) NONE) e

  off_trail : (cs : List (List ℕ)) (q : ℕ) → among q (flat cs) ≡ false → trail_of P ss cs q ≡ NONE
  unfolding trail_of
  off_trail cs q e = ap (λ (b : Bool). cond b (next P ss q) NONE) e

  same_trail : (cs ds : List (List ℕ)) (q : ℕ) → among q (flat cs) ≡ among q (flat ds) → trail_of P ss cs q ≡ trail_of P ss ds q
  unfolding trail_of
  same_trail cs ds q e = ap (λ (b : Bool). cond b (next P ss q) NONE) e

-- A STAGE, and the next

module _ {s : Size} {ls nodes segs : List ℕ} {ss : List (List Dart)} {trail lasts : ℕ} {work₀ : List ℕ} {r k : ℕ} {work : List ℕ} (t : Stage s ls nodes segs ss trail lasts work₀ r k work) (b : r < 2 * length ss) where
  abbrev P : Picture
  P = pic s ls

  abbrev F : Framed P
  F = framed s ls

  next_whole : (ds : List (List ℕ)) → enter P ss t.cs r ≡ ds → discover P ss [] (upto (suc r) 0) ≡ ds
  next_whole ds e = discover_next P ss r ∙ ap (λ (cs : List (List ℕ)). enter P ss cs r) t.whole ∙ e

  pub found_low : k ≤ length (contours P ss s.paints)
  found_low = omega (arith, t.listed.count, ap (λ (cs : List (List ℕ)). length (keep (is_painted P ss s.paints) cs)) t.whole, found_few P ss s.paints r (omega arith))

  skip : enter P ss t.cs r ≡ t.cs → Stage s ls nodes segs ss trail lasts work₀ (suc r) k work
  skip e = record { cs = t.cs; drawn = t.drawn; room = t.room; whole = next_whole t.cs e; seen = t.seen; listed = t.listed }

  -- the three reasons to skip
  pub skip_ring : open_in segs r ≡ false → Stage s ls nodes segs ss trail lasts work₀ (suc r) k work
  skip_ring e = skip (enter_is P ss t.cs r false (ap (λ (o : Bool). o && not (eqb (region P ss r) OUTSIDE) && not (among r (flat t.cs))) (sym (t.drawn.opens r b) ∙ e)))

  pub skip_outside : open_in segs r ≡ true → region_in segs r ≡ 4294967295 → Stage s ls nodes segs ss trail lasts work₀ (suc r) k work
  skip_outside o e =
      skip (enter_is P ss t.cs r false (ap₂ (λ (o q : Bool). o && not q && not (among r (flat t.cs))) (sym (t.drawn.opens r b) ∙ o) (eq-eqb (region P ss r) OUTSIDE (sym (t.drawn.regions r b) ∙ e))))

  module _ (o : open_in segs r ≡ true) (i : region_in segs r ≡ 4294967295 → ⊥) where
    at_enter : (m : Bool) → among r (flat t.cs) ≡ m → (is_open P ss r && not (eqb (region P ss r) OUTSIDE) && not (among r (flat t.cs))) ≡ not m
    at_enter m e =
        ap₂ (λ (o q : Bool). o && not q && not (among r (flat t.cs))) (sym (t.drawn.opens r b) ∙ o) (ne_eqb (region P ss r) OUTSIDE (λ z. i (t.drawn.regions r b ∙ z))) ∙ ap not e

    pub skip_used : (after trail work r ≡ NONE → ⊥) → Stage s ls nodes segs ss trail lasts work₀ (suc r) k work
    skip_used n = go (among r (flat t.cs)) refl
      where
        go : (m : Bool) → among r (flat t.cs) ≡ m → Stage s ls nodes segs ss trail lasts work₀ (suc r) k work
        go true e = skip (enter_is P ss t.cs r false (at_enter true e))
        go false e = absurd (n (t.seen r b ∙ off_trail P ss t.cs r e))

    pub live : Live P ss r
    live = record { below = b; opens = sym (t.drawn.opens r b) ∙ o; inside = λ z. i (t.drawn.regions r b ∙ z) }

    -- a new contour
    module _ (z : after trail work r ≡ NONE) {work' : List ℕ} {last : ℕ} (m : Followed s ls nodes segs trail r work work' last) where
      abbrev c : List ℕ
      c = round_in P nodes segs r

      fresh : among r (flat t.cs) ≡ false
      fresh = go (among r (flat t.cs)) refl
        where
          go : (m : Bool) → among r (flat t.cs) ≡ m → among r (flat t.cs) ≡ false
          go true e = absurd (let n = (next_live F t.drawn.describes r live).below in omega (arith, t.drawn.few, z, t.seen r b, on_trail P ss t.cs r e))
          go false e = e

      entered : discover P ss [] (upto (suc r) 0) ≡ t.cs ++ (c ∷ [])
      entered = next_whole (t.cs ++ (c ∷ [])) (enter_is P ss t.cs r true (at_enter false fresh) ∙ ap (λ (c : List ℕ). t.cs ++ (c ∷ [])) (sym (live_round s ls nodes segs ss t.drawn r live)))

      below : (q : ℕ) → In q c → q < 2 * length ss
      below q i = live_below s ls nodes segs ss t.drawn r live q i

      long : length work' ≡ length work
      long = ap length m.marked ∙ length_marks (next_in P nodes segs) trail work c

      inside : (q : ℕ) → q < 2 * length ss → trail + q < length work
      inside q h = omega (arith, t.room.apart, t.room.space)

      seen_more : (q : ℕ) → q < 2 * length ss → after trail work' q ≡ trail_of P ss (t.cs ++ (c ∷ [])) q
      seen_more q h = rw m.marked (go (among q c) refl)
        where
          go : (e : Bool) → among q c ≡ e → after trail (marks (next_in P nodes segs) trail work c) q ≡ trail_of P ss (t.cs ++ (c ∷ [])) q
          go true e =
              let i = among_in q c e in
              marks_in (next_in P nodes segs) trail work c q i (inside q h)
              ∙ live_next s ls nodes segs ss t.drawn r live q i
              ∙ sym (on_trail P ss (t.cs ++ (c ∷ [])) q (ap (among q) (flat_snoc t.cs c) ∙ in_among q (flat t.cs ++ c) (in_right (flat t.cs) i)))
          go false e =
              marks_off (next_in P nodes segs) trail work c (trail + q) (λ p i w. not_among q c e (subst (λ p. In p c) (let y : p ≡ q = omega arith in y) i))
              ∙ t.seen q h
              ∙ sym (same_trail P ss (t.cs ++ (c ∷ [])) t.cs q (ap (among q) (flat_snoc t.cs c) ∙ among_off q (flat t.cs) c e))

      unmarked : (n : ℕ) → (n < trail) ⊎ (trail + 2 * length ss ≤ n) → get_or work' n 0 ≡ get_or work n 0
      unmarked n o =
          ap (λ (l : List ℕ). get_or l n 0) m.marked
          ∙ marks_off (next_in P nodes segs) trail work c n (λ q i w. let l = below q i in ⊎_elim (λ (h : n < trail). omega arith) (λ (h : trail + 2 * length ss ≤ n). omega arith) o)

      room' : Room P ss s.paints trail lasts work₀ work'
      room' = record {
        apart = t.room.apart;
        space = omega (arith, t.room.space, long);
        changed = changed_then t.room.changed (record { long = long; others = λ n p q. unmarked n p });
      }

      listed' : Listed lasts k (keep (is_painted P ss s.paints) t.cs) work'
      listed' = listed_same lasts k (keep (is_painted P ss s.paints) t.cs) work work' t.listed (λ i h. unmarked (lasts + i) (inr (omega (arith, t.room.apart))))

      is_painted_lem : (e : Bool) → ltb (region_in segs r) s.paints ≡ e → is_painted P ss s.paints c ≡ e
      is_painted_lem e h = ap (λ q. ltb (region P ss q) s.paints) (sym (live_first s ls nodes segs ss t.drawn r live)) ∙ ap (λ l. ltb l s.paints) (sym (t.drawn.regions r b)) ∙ h

      kept_one : (e : Bool) → is_painted P ss s.paints c ≡ e → keep (is_painted P ss s.paints) (t.cs ++ (c ∷ [])) ≡ keep (is_painted P ss s.paints) t.cs ++ elim e [ true ↦ c ∷ [] | false ↦ [] ]
      unfolding keep
      kept_one e h =
          keep_append (is_painted P ss s.paints) t.cs (c ∷ [])
          ∙ ap (λ (e : Bool). keep (is_painted P ss s.paints) t.cs ++ elim e as (λ x. List (List ℕ)) [ true ↦ c ∷ [] | false ↦ [] ]) h

      pub unpainted : s.paints ≤ region_in segs r → Stage s ls nodes segs ss trail lasts work₀ (suc r) k work'
      unpainted h = record {
        cs = t.cs ++ (c ∷ []);
        drawn = t.drawn;
        room = room';
        whole = entered;
        seen = seen_more;
        listed = subst (λ (ks : List (List ℕ)). Listed lasts k ks work') (sym (kept_one false (is_painted_lem false (le-ltb (region_in segs r) s.paints h)) ∙ append-nil (keep (is_painted P ss s.paints) t.cs))) listed';
      }

      module _ (h : region_in segs r < s.paints) where
        more : keep (is_painted P ss s.paints) (t.cs ++ (c ∷ [])) ≡ keep (is_painted P ss s.paints) t.cs ++ (c ∷ [])
        more = kept_one true (is_painted_lem true (lt-ltb (region_in segs r) s.paints h))

        pub place_low : k < length (contours P ss s.paints)
        place_low =
            omega (
              arith,
              t.listed.count,
              ap (λ (cs : List (List ℕ)). length (keep (is_painted P ss s.paints) cs)) entered,
              ap length more,
              length-append (keep (is_painted P ss s.paints) t.cs) (c ∷ []),
              found_few P ss s.paints (suc r) b,
            )

        pub painted : {work'' : List ℕ} → work'' ≡ set work' (lasts + k) last → Stage s ls nodes segs ss trail lasts work₀ (suc r) (k + 1) work''
        painted {work''} p = record {
          cs = t.cs ++ (c ∷ []);
          drawn = t.drawn;
          room = record {
            apart = t.room.apart;
            space = omega (arith, room'.space, ap length p, length-set work' (lasts + k) last);
            changed = changed_then room'.changed (rw p (set_second work' (lasts + k) last (omega arith) (omega (arith, place_low))));
          };
          whole = entered;
          seen = λ q w. other (trail + q) (λ e. let z = t.room.apart in omega arith) ∙ seen_more q w;
          listed = subst (λ (ks : List (List ℕ)). Listed lasts (k + 1) ks work'') (sym more) (rw p (listed_more lasts k (keep (is_painted P ss s.paints) t.cs) work' c last listed' (omega (arith, place_low, room'.space)) m.last));
        }
          where
            other : (n : ℕ) → (n ≡ lasts + k → ⊥) → get_or work'' n 0 ≡ get_or work' n 0
            other n e = ap (λ (l : List ℕ). get_or l n 0) p ∙ get_or-set_other work' (lasts + k) n last 0 e
