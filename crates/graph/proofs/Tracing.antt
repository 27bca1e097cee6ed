-- The stages of tracing: a dart that starts nothing, and one that starts a segment.
use Prim.Native.Nat.{ℕ, suc, ◌+◌, ◌*◌, ◌≤◌, ◌<◌}
use mathlib.Core.Path.{◌≡◌, refl, sym, ap, ap₂, subst, ◌∙◌}
use mathlib.Core.Bool.{Bool, true, false, not, ◌&&◌}
use mathlib.Core.List.Memᴰ.{append_left as in_left}
use mathlib.Core.List.Memᴰ.{append_right as in_right}
use mathlib.Core.List.Memᴰ.{head as here}
use mathlib.Core.List.{List, [], ◌∷◌, ◌++◌, map, Memᴰ as In}
use mathlib.Core.Logic.{inr}
use native.Mathlib.Omega.{arith}
use lib.ListN.{length, get_or, length-append}
use lib.Seq.{sets}
use Rattle.std.specs.Prelude.{Option}
use Rattle.rules.specs.Lists.{flat}
use Rattle.rules.specs.Picture.{Picture, code, right_of, Dart, dart, crack}
use Rattle.rules.specs.declared.Dir.{Dir}
use Rattle.rules.specs.Graph.{on, trace, segments}
use Rattle.rules.specs.Records.{point_words, point_records, segment_words}
use Rattle.rules.proofs.Ground.Booleans.{both}
use Rattle.rules.proofs.Ground.Lists.{flat_snoc}
use Rattle.rules.proofs.Tracing.Walks.{the_walk}
use Rattle.rules.proofs.CutList.Lengths.{length_segments}
use Rattle.store.specs.Words.{Kept}
use Rattle.store.proofs.Writes.{sets_more, kept_then}
use Rattle.lattice.specs.declared.Size.{Size}
use Rattle.lattice.specs.declared.Around.{Around}
use Rattle.lattice.specs.declared.Walker.{Walker}
use Rattle.lattice.specs.declared.RegionId.{RegionId}
use Rattle.lattice.specs.Size.{Corner, pic}
use Rattle.lattice.specs.Planes.{plane}
use Rattle.lattice.specs.Around.{around_of, left_in, crack_in}
use Rattle.lattice.specs.Walker.{dart_of}
use Rattle.lattice.proofs.Ways.{crack_in_lem}
use Rattle.lattice.proofs.Frame.{framed}
use Rattle.graph.specs.declared.Counts.{Counts}
use Rattle.graph.specs.declared.Walked.{Walked}
use Rattle.graph.specs.declared.Joined.{Joined}
use Rattle.graph.specs.Planes.{marked, unpacked, corners_at}
use Rattle.graph.specs.Walk.{steps_of, reached, Starts, Went}
use Rattle.graph.specs.Words.{start_word, end_word, arrives_word, Ended, Linked}
use Rattle.graph.specs.Todo.{Due, Does}
use Rattle.graph.specs.Nodes.{Noded}
use Rattle.graph.specs.Stage.{State, state, Stage, Standing, starts}
use Rattle.graph.proofs.Growing.{length_reached, length_more, points_more, segments_more}
use Rattle.graph.proofs.Slots.{crack_inside}
use Rattle.graph.proofs.Along.{walk_points}
use Rattle.graph.proofs.Listing.{length_corners, corner_nth, noded_kept}
use Rattle.graph.proofs.Loops.{Through, due, goes, starts_of}
use Rattle.graph.proofs.Stages.{visit_old, visit_new, trace_adds, few, entries_more, end_corner, marks_kept, seen_more, made, record_made}

-- ONE SEGMENT MORE

abbrev pub counted : Counts → ℕ → Counts
counted c n = record { nodes = c.nodes; bends = c.bends; segments = c.segments + 1; points = c.points + (n + 1); steps = c.steps + n }

module _ (s : Size) (ls : List ℕ) (o : State) (todo : List Dart) (work nodes₁ segs points : List ℕ) (c : Counts) (w : Walker) (st : Stage s ls o (dart_of w ∷ todo) (state work nodes₁ segs points c)) where
  -- a dart that starts nothing
  pub no_segment : (crack (pic s ls) (dart_of w) && not (on (dart_of w) (flat st.ss))) ≡ false → Stage s ls o todo (state work nodes₁ segs points c)
  unfolding trace
  no_segment e = record {
    ss = st.ss;
    whole = ap (λ (k : List (List Dart)). trace (pic s ls) k todo) (sym (visit_old (pic s ls) st.ss (dart_of w) e)) ∙ st.whole;
    seen = st.seen;
    noded = st.noded;
    kept = st.kept;
    outs = st.outs;
    records = st.records;
    corners = st.corners;
    words = st.words;
    tallied = st.tallied;
    segs = st.segs;
    pts = st.pts;
    steps = st.steps;
  }

  seen_here : crack (pic s ls) (dart_of w) ≡ true → marked s.width s.height work (dart_of w) ≡ on (dart_of w) (flat st.ss)
  seen_here k = st.seen (dart_of w) (crack_inside s ls (dart_of w) k)

  -- the code's test says so
  pub not_fresh : (crack (pic s ls) (dart_of w) && not (marked s.width s.height work (dart_of w))) ≡ false → Stage s ls o todo (state work nodes₁ segs points c)
  not_fresh e = no_segment (go (crack (pic s ls) (dart_of w)) refl e)
    where
      go : (k : Bool) → crack (pic s ls) (dart_of w) ≡ k → (k && not (marked s.width s.height work (dart_of w))) ≡ false → (k && not (on (dart_of w) (flat st.ss))) ≡ false
      go true k e = ap not (sym (seen_here k)) ∙ e
      go false k e = refl

  module _ (h : Starts s ls w) (fresh : marked s.width s.height work (dart_of w) ≡ false) where
    whole_more : trace (pic s ls) (st.ss ++ (steps_of s ls w ∷ [])) todo ≡ segments (pic s ls)
    unfolding trace
    whole_more =
        let P = pic s ls in
        let e : (crack P (dart_of w) && not (on (dart_of w) (flat st.ss))) ≡ true = both (crack P (dart_of w)) (not (on (dart_of w) (flat st.ss))) h.crack (ap not (sym (seen_here h.crack) ∙ fresh)) in
        ap (λ (k : List (List Dart)). trace P k todo) (sym (visit_new P st.ss (dart_of w) e)) ∙ st.whole

    among : In (steps_of s ls w) (segments (pic s ls))
    among =
        let l = steps_of s ls w in
        let r = trace_adds (pic s ls) (st.ss ++ (l ∷ [])) todo in
        subst (In l) (sym r.1 ∙ whole_more) (in_left r.0 (in_right st.ss (here refl)))

    flat_length : length (flat (st.ss ++ (steps_of s ls w ∷ []))) ≡ length (flat st.ss) + length (steps_of s ls w)
    flat_length = ap length (flat_snoc st.ss (steps_of s ls w)) ∙ length-append (flat st.ss) (steps_of s ls w)

    -- so the counts fit
    pub record Fits (n : ℕ) : Type 0 where
      pub few_segments : c.segments + 1 ≤ 536903680
      pub few_steps : c.steps + n ≤ 536903680
      pub few_points : c.points + n + 1 ≤ 1073807360

    pub fits : (n : ℕ) → n ≡ length (steps_of s ls w) → Fits n
    fits n e =
        let f = few s ls (st.ss ++ (steps_of s ls w ∷ [])) todo h.map whole_more in
        let a = length_more st.ss (steps_of s ls w) in
        let b = flat_length in
        record {
          few_segments = omega (arith, f.segs, a, st.segs);
          few_steps = omega (arith, f.steps, b, st.steps);
          few_points = omega (arith, f.segs, f.steps, a, b, st.pts);
        }

    corner : Corner s w.x w.y
    corner = let i = crack_inside s ls (dart_of w) h.crack in record { across = i.across; down = i.down }

    module _ (work' points₁ points' : List ℕ) (e : Walked) (first : points₁ ≡ sets points (2 * c.points) (w.x ∷ w.y ∷ [])) (went : Went s ls work points₁ c.points w work' points' e) where
      marked_now : Kept 0 (2 * plane s.width s.height) work work'
      marked_now = marks_kept s ls w h work work' went.words (omega (arith, st.noded.planes))

      noded_now : Noded s ls work'
      noded_now = noded_kept marked_now st.noded

      -- what `join` asks
      pub ended : Ended s work' w e c.segments
      ended =
          record {
            sides = record { wide = h.map.wide; high = h.map.high };
            planes = omega (arith, marked_now.long, st.noded.planes);
            low = omega (arith, (fits e.steps went.count).few_segments);
            from = corner;
            to = rw (went.x, went.y) (end_corner s ls w h);
          }

      points_of_lem : point_records (steps_of s ls w) ≡ w.x ∷ w.y ∷ reached (steps_of s ls w)
      points_of_lem =
          let r = the_walk (framed s ls) (dart_of w) h.crack in
          ap point_records r.1 ∙ walk_points (pic s ls) w.x w.y (dart_of w) r.0 r.2 ∙ ap (λ (k : List Dart). w.x ∷ w.y ∷ reached k) (sym r.1)

      points_behind : points' ≡ sets points (2 * c.points) (w.x ∷ w.y ∷ reached (steps_of s ls w))
      points_behind = let j : 2 * (c.points + 1) ≡ suc (suc (2 * c.points)) = omega arith in went.stored ∙ rw (j, first)

      points_all : point_words (st.ss ++ (steps_of s ls w ∷ [])) ≡ point_words st.ss ++ (w.x ∷ w.y ∷ reached (steps_of s ls w))
      points_all = points_more st.ss (steps_of s ls w) ∙ ap (λ (k : List ℕ). point_words st.ss ++ k) points_of_lem

      module _ (a : Around) (around : a ≡ around_of (pic s ls) w.x w.y) (nodes₂ segs' : List ℕ) (j : Option Joined) (linked : Linked s a work' nodes₁ c.segments w e nodes₂ j)
          (l r : RegionId) (lp : l.0 ≡ left_in a w.d) (rp : r.0 ≡ left_in a (right_of w.d))
          (recorded : segs' ≡ sets segs (8 * c.segments) (c.points ∷ (e.steps + 1) ∷ start_word j ∷ end_word j ∷ l.0 ∷ r.0 ∷ code w.d ∷ arrives_word j ∷ [])) where
        pub one_segment : Stage s ls o todo (state work' nodes₂ segs' points' (counted c e.steps))
        one_segment =
            let P = pic s ls in
            let k = steps_of s ls w in
            let i : c.points ≡ 0 + (length (flat st.ss) + length st.ss) = omega (arith, st.pts) in
            let m = made s ls w h a around work' nodes₁ nodes₂ c.points c.segments e j noded_now.ids corner went.x went.y went.d linked among in
            let rec = record_made s ls w h a around work' nodes₁ nodes₂ c.points c.segments e j noded_now.ids corner went.x went.y went.d linked among l r lp rp (e.steps + 1) (omega (arith, went.count)) in
            let z : c.segments ≡ 0 + length st.ss = omega (arith, st.segs) in
            record {
              ss = st.ss ++ (k ∷ []);
              whole = whole_more;
              seen = seen_more s ls w h work work' went.words (omega (arith, st.noded.planes)) st.ss st.seen;
              noded = noded_now;
              kept = kept_then st.kept marked_now;
              outs = m.outs ∙ rw (st.outs, z) (sym (entries_more P o.nodes 0 st.ss k));
              records = sets_more o.segments segs segs' (8 * c.segments) (segment_words P 0 st.ss) (c.points ∷ (e.steps + 1) ∷ start_word j ∷ end_word j ∷ l.0 ∷ r.0 ∷ code w.d ∷ arrives_word j ∷ []) (segment_words P 0 (st.ss ++ (k ∷ []))) st.records (omega (arith, length_segments P 0 st.ss, st.segs)) (segments_more P 0 st.ss k ∙ rw (← i) (ap (λ (v : List ℕ). segment_words P 0 st.ss ++ v) rec)) recorded;
              corners = sets_more o.points points points' (2 * c.points) (point_words st.ss) (w.x ∷ w.y ∷ reached k) (point_words (st.ss ++ (k ∷ []))) st.corners (sym st.words) points_all points_behind;
              words = omega (arith, ap length points_all, length-append (point_words st.ss) (w.x ∷ w.y ∷ reached k), length_reached k, st.words, went.count);
              tallied = st.tallied;
              segs = omega (arith, length_more st.ss k, st.segs);
              pts = omega (arith, length_more st.ss k, flat_length, st.pts, went.count);
              steps = omega (arith, flat_length, st.steps, went.count);
            }

-- so the counts fit, as the code asks
pub count_room : {s : Size} {ls work nodes₁ segs points : List ℕ} {c : Counts} {w : Walker} {n : ℕ}
    → Due (Stage s ls) (dart_of w ∷ []) (state work nodes₁ segs points c) → Starts s ls w → marked s.width s.height work (dart_of w) ≡ false → n ≡ length (steps_of s ls w)
    → (c.segments + 1 ≤ 536903680) × ((c.steps + n ≤ 536903680) × (c.points + n + 1 ≤ 1073807360))
count_room d h fresh e = let f = fits _ _ d.o d.rest _ _ _ _ _ _ d.now h fresh _ e in (f.few_segments, (f.few_steps, f.few_points))

pub around_crack : (P : Picture) (a : Around) (w : Walker) → a ≡ around_of P w.x w.y → crack_in a w.d ≡ crack P (dart_of w)
around_crack P a w e = ap (λ (a : Around). crack_in a w.d) e ∙ crack_in_lem P w.x w.y w.d

-- A LOOP THROUGH CORNERS that stand in the work words

-- the words behind the marks stay
stays : {s : Size} {ls : List ℕ} {o t t' : State} {todo todo' : List Dart} → Stage s ls o todo t → Stage s ls o todo' t' → (i : ℕ) → 2 * plane s.width s.height ≤ i → get_or t'.work i 0 ≡ get_or t.work i 0
stays a b i p = b.kept.others i (inr p) ∙ sym (a.kept.others i (inr p))

-- the pass i of the loop, from the state t on
module _ {s : Size} {ls : List ℕ} {at n : ℕ} (ways : List Dir) (t₀ t : State) (S : Standing s t₀.work at n) (i : ℕ) (h : i < n)
    (r : Through (starts_of (corners_at t₀.work at n) ways) (Stage s ls) t₀ t i) (d : Due (Stage s ls) (starts (corners_at t₀.work at n) ways) t₀)
    (x y : ℕ) (ex : x ≡ (unpacked (get_or t.work (at + i) 0)).0) (ey : y ≡ (unpacked (get_or t.work (at + i) 0)).1) where
  word_same : get_or t.work (at + i) 0 ≡ get_or t₀.work (at + i) 0
  word_same = stays d.now (r d.o d.rest d.now) (at + i) (omega (arith, S.behind))

  item_low : i < length (corners_at t₀.work at n)
  item_low = omega (arith, length_corners t₀.work at n)

  item_is : get_or (corners_at t₀.work at n) i (0, 0) ≡ (x, y)
  item_is = corner_nth t₀.work at n i h ∙ ap unpacked (sym word_same) ∙ ap₂ (λ (a b : ℕ). (a, b)) (sym ex) (sym ey)

  pub corner_here : Corner s x y
  corner_here = rw (ex, ey, word_same) (S.inside i h)

  pub due_here : Due (Stage s ls) (map (dart x y) ways) t
  due_here = due (starts_of (corners_at t₀.work at n) ways) (Stage s ls) (0, 0) (x, y) i item_low item_is t₀ t r d

  pub done_here : (t' : State) → Does (Stage s ls) (map (dart x y) ways) t t' → Through (starts_of (corners_at t₀.work at n) ways) (Stage s ls) t₀ t' (i + 1)
  done_here t' g = goes (starts_of (corners_at t₀.work at n) ways) (Stage s ls) (0, 0) (x, y) i item_low item_is t₀ t t' r g
