-- One segment more.
use Prim.Native.Nat.{ℕ, suc, ◌+◌, ◌*◌, ◌<◌, ◌≤◌}
use mathlib.Core.Path.{◌≡◌, refl, sym, ap, ap₂, subst, ◌∙◌}
use mathlib.Core.Bool.{Bool, true, false, cond, not, ◌&&◌, ◌||◌, true≢false, false≢true, or_comm}
use mathlib.Core.Logic.{◌⊎◌, inl, inr, ⊎_elim}
use mathlib.Core.List.{List, [], ◌∷◌, ◌++◌, append_assoc, append-nil, Memᴰ as In}
use native.Mathlib.Omega.{arith}
use native.Mathlib.Nat.{mul-le-mul, mul_assoc}
use lib.ListN.{length, get_or, set, length-set, length-append}
use Rattle.std.specs.Prelude.{Option}
use Rattle.rules.specs.Lists.{flat, last_of}
use Rattle.rules.specs.Picture.{Picture, picture, code, right_of, Dart, turned, left, right, crack, node, ahead_x, ahead_y}
use Rattle.rules.specs.Graph.{walk, fuel, meets, on, visit, trace, nodes, segments, cracks}
use Rattle.rules.specs.Face.{no_dart}
use Rattle.rules.specs.Records.{NONE, node_at, segment_words}
use Rattle.rules.proofs.Lattice.Darts.{crack_to_x, crack_to_y}
use Rattle.rules.proofs.Ground.Lists.{flat_append, flat_snoc, in_last, last_at}
use Rattle.rules.proofs.Tracing.Partition.{describes}
use Rattle.rules.proofs.Tracing.Walks.{the_walk, walk_crack}
use Rattle.rules.proofs.Tracing.Counts.{step_count_lem, segment_count_lem, crack_count}
use Rattle.rules.proofs.CutList.Records.{unnumbered}
use Rattle.rules.specs.Describes.{Open, Ring, Segment}
use Rattle.store.specs.Words.{Kept}
use Rattle.lattice.specs.declared.Size.{Size}
use Rattle.lattice.specs.declared.Around.{Around}
use Rattle.lattice.specs.declared.Walker.{Walker}
use Rattle.lattice.specs.declared.RegionId.{RegionId}
use Rattle.lattice.specs.Size.{Map, Corner, pic}
use Rattle.lattice.specs.Around.{around_of, left_in, node_in}
use Rattle.lattice.specs.Walker.{dart_of}
use Rattle.lattice.proofs.Ways.{left_in_lem, right_in, node_in_lem}
use Rattle.lattice.proofs.Frame.{framed}
use Rattle.graph.specs.declared.Walked.{Walked}
use Rattle.graph.specs.declared.Joined.{Joined}
use Rattle.lattice.specs.Planes.{plane}
use Rattle.graph.specs.Planes.{id_slot, marked, mark_all, Inside}
use Rattle.graph.specs.Walk.{steps_of, end_of, Starts}
use Rattle.graph.specs.Words.{start_word, end_word, arrives_word, id_at, Linked, entry_slot, entered, entries}
use Rattle.graph.proofs.Growing.{length_marks}
use Rattle.graph.proofs.Slots.{marked_all_lem, unmarked, on_append}
use Rattle.graph.proofs.Along.{steps_inside}
use Rattle.graph.proofs.Numbering.{nodes_node}

-- TRACING ONLY ADDS

module _ (P : Picture) where
  pub visit_old : (ss : List (List Dart)) (a : Dart) → (crack P a && not (on a (flat ss))) ≡ false → visit P ss a ≡ ss
  unfolding visit
  visit_old ss a e = go (crack P a && not (on a (flat ss))) e
    where
      go : (b : Bool) → b ≡ false → ◌≡◌ {A = List (List Dart)} (elim b [ true ↦ ss ++ (walk P (fuel P) a.x a.y a ∷ []) | false ↦ ss ]) ss
      go true e = absurd (true≢false e)
      go false e = refl

  pub visit_new : (ss : List (List Dart)) (a : Dart) → (crack P a && not (on a (flat ss))) ≡ true → visit P ss a ≡ ss ++ (walk P (fuel P) a.x a.y a ∷ [])
  unfolding visit
  visit_new ss a e = go (crack P a && not (on a (flat ss))) e
    where
      go : (b : Bool) → b ≡ true → ◌≡◌ {A = List (List Dart)} (elim b [ true ↦ ss ++ (walk P (fuel P) a.x a.y a ∷ []) | false ↦ ss ]) (ss ++ (walk P (fuel P) a.x a.y a ∷ []))
      go true e = refl
      go false e = absurd (false≢true e)

  visit_adds : (ss : List (List Dart)) (a : Dart) → (m : List (List Dart)) × (visit P ss a ≡ ss ++ m)
  visit_adds ss a = go (crack P a && not (on a (flat ss))) refl
    where
      go : (b : Bool) → (crack P a && not (on a (flat ss))) ≡ b → (m : List (List Dart)) × (visit P ss a ≡ ss ++ m)
      go true e = (walk P (fuel P) a.x a.y a ∷ [], visit_new ss a e)
      go false e = ([], visit_old ss a e ∙ sym (append-nil ss))

  pub trace_adds : (ss : List (List Dart)) (l : List Dart) → (m : List (List Dart)) × (trace P ss l ≡ ss ++ m)
  unfolding trace
  trace_adds ss [] = ([], sym (append-nil ss))
  trace_adds ss (a ∷ l) =
      let v = visit_adds ss a in
      let r = trace_adds (visit P ss a) l in
      (v.0 ++ r.0, r.1 ∙ ap (λ (k : List (List Dart)). k ++ r.0) v.1 ∙ append_assoc ss v.0 r.0)

-- so the segments so far are few
pub record Few (ss : List (List Dart)) : Type 0 where
  pub segs : length ss ≤ 536903680
  pub steps : length (flat ss) ≤ 536903680

pub few : (s : Size) (ls : List ℕ) (ss : List (List Dart)) (todo : List Dart) → Map s ls → trace (pic s ls) ss todo ≡ segments (pic s ls) → Few ss
unfolding picture
few s ls ss todo m e =
    let P = pic s ls in
    let F = framed s ls in
    let r = trace_adds P ss todo in
    let q : segments P ≡ ss ++ r.0 = sym e ∙ r.1 in
    let c = crack_count F in
    let b : length (cracks P) ≤ 536903680 = omega (arith, c, mul-le-mul m.wide m.high, mul_assoc 2 s.width s.height, m.wide, m.high) in
    record {
      segs = omega (arith, ap length q, length-append ss r.0, segment_count_lem F (describes F));
      steps = omega (arith, ap (λ (k : List (List Dart)). length (flat k)) q, ap length (flat_append ss r.0), length-append (flat ss) (flat r.0), step_count_lem F (describes F));
    }

pub entries_more : (P : Picture) (l : List ℕ) (i : ℕ) (ss : List (List Dart)) (s : List Dart) → entries P l i (ss ++ (s ∷ [])) ≡ entered P (entries P l i ss) (i + length ss) s
unfolding entries
entries_more P l i [] s = let e : i + 0 ≡ i = omega arith in rw e
entries_more P l i (k ∷ ss) s =
    let e : i + suc (length ss) ≡ suc i + length ss = omega arith in
    rw e (entries_more P (entered P l i k) (suc i) ss s)

pub length_entered : (P : Picture) (l : List ℕ) (i : ℕ) (s : List Dart) → length (entered P l i s) ≡ length l
unfolding entered
length_entered P l i s = go (node P (get_or s 0 no_dart).x (get_or s 0 no_dart).y)
  where
    go : (b : Bool) → length (cond b (set (set l (entry_slot P (get_or s 0 no_dart)) (2 * i)) (entry_slot P (turned (end_of s))) (2 * i + 1)) l) ≡ length l
    go true = simp length-set
    go false = refl

pub length_entries : (P : Picture) (l : List ℕ) (i : ℕ) (ss : List (List Dart)) → length (entries P l i ss) ≡ length l
unfolding entries
length_entries P l i [] = refl
length_entries P l i (s ∷ ss) = length_entries P (entered P l i s) (suc i) ss ∙ length_entered P l i s

-- THE SEGMENT THAT STARTS WITH THE DART OF w

module _ (s : Size) (ls : List ℕ) (w : Walker) (h : Starts s ls w) where
  abbrev P : Picture
  P = pic s ls

  first_is : get_or (steps_of s ls w) 0 no_dart ≡ dart_of w
  first_is = ap (λ (l : List Dart). get_or l 0 no_dart) (the_walk (framed s ls) (dart_of w) h.crack).1

  end_is : end_of (steps_of s ls w) ≡ last_of (dart_of w) (the_walk (framed s ls) (dart_of w) h.crack).0
  end_is =
      let r = the_walk (framed s ls) (dart_of w) h.crack in
      ap end_of r.1 ∙ last_at (dart_of w) no_dart r.0

  end_crack : crack P (end_of (steps_of s ls w)) ≡ true
  end_crack =
      let r = the_walk (framed s ls) (dart_of w) h.crack in
      let z = last_of (dart_of w) r.0 in
      ap (crack P) end_is ∙ walk_crack (framed s ls) w.x w.y (dart_of w) r.0 h.crack r.2 z (in_last (dart_of w) r.0)

  -- where it ends is a corner of the frame
  pub end_corner : Corner s (ahead_x (end_of (steps_of s ls w))) (ahead_y (end_of (steps_of s ls w)))
  unfolding picture
  end_corner = record { across = crack_to_x (framed s ls) (end_of (steps_of s ls w)) end_crack; down = crack_to_y (framed s ls) (end_of (steps_of s ls w)) end_crack }

  -- from a node to a node, or round
  ends : In (steps_of s ls w) (segments P) → Open P (dart_of w) (end_of (steps_of s ls w)) ⊎ Ring P (dart_of w) (end_of (steps_of s ls w))
  ends i =
      let r = the_walk (framed s ls) (dart_of w) h.crack in
      let g : Segment P (dart_of w ∷ r.0) = subst (Segment P) r.1 ((describes (framed s ls)).segment (steps_of s ls w) i) in
      rw end_is g.1

  no_number : (x y : ℕ) → node P x y ≡ false → node_at (nodes P) 0 x y ≡ NONE
  no_number x y e = unnumbered (nodes P) 0 x y (λ i. true≢false (sym (nodes_node P x y i) ∙ e))

  -- the marks and the numbers
  module _ (work work' : List ℕ) (f : work' ≡ mark_all s.width s.height work (steps_of s ls w)) (p : 2 * plane s.width s.height ≤ length work) where
    pub marks_kept : Kept 0 (2 * plane s.width s.height) work work'
    marks_kept = record {
      long = ap length f ∙ length_marks s.width s.height work (steps_of s ls w);
      others = λ i o. ⊎_elim
          (λ (q : i < 0). absurd (omega arith))
          (λ (q : 2 * plane s.width s.height ≤ i). rw f (unmarked s.width s.height work (steps_of s ls w) (steps_inside s ls w h) i q))
          o;
    }

    pub seen_more : (ss : List (List Dart)) → ((b : Dart) → Inside s.width s.height b → marked s.width s.height work b ≡ on b (flat ss))
        → (b : Dart) → Inside s.width s.height b → marked s.width s.height work' b ≡ on b (flat (ss ++ (steps_of s ls w ∷ [])))
    seen_more ss g b i =
        let l = steps_of s ls w in
        ap (λ (k : List ℕ). marked s.width s.height k b) f
        ∙ marked_all_lem s.width s.height work l b i (steps_inside s ls w h) (omega arith)
        ∙ ap (λ (t : Bool). on b l || t) (g b i)
        ∙ or_comm (on b l) (on b (flat ss))
        ∙ sym (on_append b (flat ss) l)
        ∙ ap (on b) (sym (flat_snoc ss l))

  -- the record, by whether it starts at a node
  module _ (a : Around) (around : a ≡ around_of P w.x w.y) (work' nodes₁ nodes₂ : List ℕ) (i n : ℕ) (e : Walked) (j : Option Joined)
      (ids : (x y : ℕ) → Corner s x y → node P x y ≡ true → get_or work' (id_slot s.width s.height x y) 0 ≡ node_at (nodes P) 0 x y)
      (corner : Corner s w.x w.y)
      (ex : e.to.x ≡ ahead_x (end_of (steps_of s ls w)))
      (ey : e.to.y ≡ ahead_y (end_of (steps_of s ls w)))
      (ed : e.to.d ≡ (end_of (steps_of s ls w)).d)
      (k : Linked s a work' nodes₁ n w e nodes₂ j) (among : In (steps_of s ls w) (segments P)) where
    abbrev z : Dart
    z = end_of (steps_of s ls w)

    node_is : node_in a ≡ node P w.x w.y
    node_is = ap node_in around ∙ node_in_lem P w.x w.y

    pub record Made : Type 0 where
      pub start : start_word j ≡ node_at (nodes P) 0 w.x w.y
      pub end : end_word j ≡ node_at (nodes P) 0 (ahead_x z) (ahead_y z)
      pub arrives : arrives_word j ≡ cond (node P w.x w.y) (code z.d) 0
      pub outs : nodes₂ ≡ entered P nodes₁ n (steps_of s ls w)

    end_id : meets P z ≡ true → id_at s work' e.to.x e.to.y ≡ node_at (nodes P) 0 (ahead_x z) (ahead_y z)
    unfolding meets
    end_id o = rw (ex, ey) (ids (ahead_x z) (ahead_y z) end_corner o)

    from_node : node P w.x w.y ≡ true → meets P z ≡ true → Made
    unfolding entered turned
    from_node b o =
        let t : node_in a ≡ true = node_is ∙ b in
        let u = ids w.x w.y corner b in
        let v = end_id o in
        record {
          start = k.start ∙ rw t u;
          end = k.end ∙ rw t v;
          arrives = k.arrives ∙ rw (t, b, ed);
          outs = k.entered ∙ rw (t, first_is, b) (rw (u, v, ed));
        }

    from_ring : node P w.x w.y ≡ false → Ring P (dart_of w) z → Made
    unfolding entered
    from_ring b o =
        let t : node_in a ≡ false = node_is ∙ b in
        record {
          start = k.start ∙ rw t (sym (no_number w.x w.y b));
          end = k.end ∙ rw t (sym (ap₂ (node_at (nodes P) 0) o.1 o.2 ∙ no_number w.x w.y b));
          arrives = k.arrives ∙ rw (t, b);
          outs = k.entered ∙ rw (t, first_is, b);
        }

    pub made : Made
    made = go (ends among)
      where
        go : Open P (dart_of w) z ⊎ Ring P (dart_of w) z → Made
        go (inl o) = from_node o.0 o.1
        go (inr o) = from_ring o.0 o

    pub record_made : (l r : RegionId) → l.0 ≡ left_in a w.d → r.0 ≡ left_in a (right_of w.d) → (c : ℕ) → c ≡ suc (length (steps_of s ls w))
        → segment_words P i (steps_of s ls w ∷ []) ≡ i ∷ c ∷ start_word j ∷ end_word j ∷ l.0 ∷ r.0 ∷ code w.d ∷ arrives_word j ∷ []
    unfolding segment_words
    record_made l r lp rp c cp =
        let m = made in
        let le : l.0 ≡ left P (dart_of w) = lp ∙ rw around (left_in_lem P w.x w.y w.d) in
        let re : r.0 ≡ right P (dart_of w) = rp ∙ rw around (right_in P w.x w.y w.d) in
        rw (first_is, cp, m.start, m.end, m.arrives, le, re)
