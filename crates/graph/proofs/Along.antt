-- A walk under way, and its end.
use Prim.Native.Nat.{ℕ, zero, suc, ◌+◌, ◌*◌, ◌≤◌}
use mathlib.Core.Path.{◌≡◌, refl, sym, ap, subst, ◌∙◌}
use mathlib.Core.Bool.{Bool, true, false, ◌&&◌, ◌||◌}
use mathlib.Core.List.{List, [], ◌∷◌, ◌++◌, append_assoc, Memᴰ as In}
use native.Mathlib.Omega.{arith}
use lib.Dec.{eqb}
use lib.ListN.{length, set, length-append}
use lib.Seq.{sets}
use Rattle.rules.specs.Picture.{Picture, Dart, crack, ahead_x, ahead_y}
use Rattle.rules.specs.Graph.{walk, fuel, following, meets, ending}
use Rattle.rules.specs.Records.{point_records}
use Rattle.rules.proofs.Lattice.WayOn.{following_crack}
use Rattle.rules.proofs.Ground.Walking.{over, goes}
use Rattle.lattice.proofs.Planes.{fuel_low}
use Rattle.rules.proofs.Tracing.Walks.{Steps, going_meets, the_walk, walk_crack}
use Rattle.lattice.specs.declared.Around.{Around}
use Rattle.lattice.specs.declared.Size.{Size}
use Rattle.lattice.specs.declared.Walker.{Walker}
use Rattle.lattice.specs.Around.{around_of, node_in}
use Rattle.lattice.specs.Size.{Map, pic}
use Rattle.lattice.specs.Walker.{dart_of, Ahead, Edge, moved_of, step_in}
use Rattle.lattice.proofs.Ways.{node_in_lem, step_follows}
use Rattle.lattice.proofs.Frame.{crack_edge, framed}
use Rattle.graph.specs.Planes.{slot, mark_all, Inside}
use Rattle.graph.specs.Walk.{steps_of, reached, Starts, Went, end_of}
use Rattle.store.proofs.Writes.{sets_append}
use Rattle.graph.proofs.Growing.{marks_more, length_marks, reached_more, length_reached, length_more, last_more}
use Rattle.graph.proofs.Slots.{crack_inside}

walk_short : (P : Picture) (k x₀ y₀ : ℕ) (a : Dart) → length (walk P k x₀ y₀ a) ≤ k
unfolding walk
walk_short P zero x₀ y₀ a = omega arith
walk_short P (suc k) x₀ y₀ a = go (ending P x₀ y₀ a) (walk_short P k x₀ y₀ (following P a))
  where
    go : (t : Bool) → length (walk P k x₀ y₀ (following P a)) ≤ k → length (a ∷ elim t [ true ↦ [] | false ↦ walk P k x₀ y₀ (following P a) ]) ≤ suc k
    go true p = omega arith
    go false p = omega arith

pub steps_low : (s : Size) (ls : List ℕ) (w : Walker) → Map s ls → length (steps_of s ls w) ≤ 1073872900
steps_low s ls w m = omega (arith, fuel_low s ls m, walk_short (pic s ls) (fuel (pic s ls)) w.x w.y (dart_of w))

-- what the code's test says
pub stop_said : (P : Picture) (w c m : Walker) (a : Around) (r : Bool) → m ≡ moved_of c → a ≡ around_of P m.x m.y
    → r ≡ (node_in a || (eqb m.x w.x && eqb m.y w.y)) → r ≡ ending P w.x w.y (dart_of c)
unfolding ending meets
stop_said P w c m a r e f g = g ∙ rw (f, e) (rw (node_in_lem P (ahead_x (dart_of c)) (ahead_y (dart_of c))))

pub around_ahead : (P : Picture) (c m : Walker) (a : Around) → m ≡ moved_of c → a ≡ around_of P m.x m.y → a ≡ around_of P (ahead_x (dart_of c)) (ahead_y (dart_of c))
around_ahead P c m a e f = f ∙ rw e

-- the points of a walk: the first corner, and those reached
pub walk_points : (P : Picture) (x₀ y₀ : ℕ) (a : Dart) (l : List Dart) → Steps P x₀ y₀ a l → point_records (a ∷ l) ≡ a.x ∷ a.y ∷ reached (a ∷ l)
unfolding point_records following
walk_points P x₀ y₀ a [] w = refl
walk_points P x₀ y₀ a (b ∷ l) w =
    ap (λ (m : List ℕ). a.x ∷ a.y ∷ m) (walk_points P x₀ y₀ b l w.2
    ∙ λ i. ap (λ (c : Dart). c.x) w.1 i ∷ ap (λ (c : Dart). c.y) w.1 i ∷ reached (b ∷ l))

-- each step of the walk is an edge of the frame
pub steps_inside : (s : Size) (ls : List ℕ) (w : Walker) → Starts s ls w → (c : Dart) → In c (steps_of s ls w) → Inside s.width s.height c
steps_inside s ls w h c i =
    let F = framed s ls in
    let r = the_walk F (dart_of w) h.crack in
    crack_inside s ls c (walk_crack F w.x w.y (dart_of w) r.0 h.crack r.2 c (subst (In c) r.1 i))

-- room to move along an edge
pub edge_ahead : {s : Size} {ls : List ℕ} {w : Walker} → Map s ls → Edge s w → Ahead w
edge_ahead m e = record { across = omega (arith, e.across, m.wide); down = omega (arith, e.down, m.high); north = e.north; west = e.west }

module _ (s : Size) (ls work₀ points₀ : List ℕ) (at : ℕ) (w : Walker) where
  -- at the head of the loop: `done` is walked, `more` comes after the step ahead
  pub record Sofar (work points : List ℕ) (c : Walker) (n : ℕ) : Type 0 where
    pub done : List Dart
    pub more : List Dart
    pub count : length done ≡ n
    pub whole : steps_of s ls w ≡ done ++ (dart_of c ∷ more)
    pub left : Steps (pic s ls) w.x w.y (dart_of c) more
    pub words : work ≡ mark_all s.width s.height work₀ done
    pub stored : points ≡ sets points₀ (2 * (at + 1)) (reached done)
    pub crack : crack (pic s ls) (dart_of c) ≡ true

  pub begin : Starts s ls w → Sofar work₀ points₀ w 0
  begin h =
      let r = the_walk (framed s ls) (dart_of w) h.crack in
      record { done = []; more = r.0; count = refl; whole = r.1; left = r.2; words = refl; stored = refl; crack = h.crack }

  module _ {work points : List ℕ} {c : Walker} {n : ℕ} (o : Sofar work points c n) where
    pub edge : Edge s c
    edge = crack_edge s ls c o.crack

    pub long : suc n ≤ length (steps_of s ls w)
    long = omega (arith, simp length-append at (ap length o.whole), o.count)

    pub work_length : length work ≡ length work₀
    work_length = ap length o.words ∙ length_marks s.width s.height work₀ o.done

    module _ {work' points' : List ℕ} {m : Walker}
        (marks : work' ≡ set work (slot s.width s.height (dart_of c)) 1)
        (moves : m ≡ moved_of c)
        (puts : points' ≡ sets points (2 * (at + (n + 1))) (m.x ∷ m.y ∷ [])) where
      words_more : work' ≡ mark_all s.width s.height work₀ (o.done ++ (dart_of c ∷ []))
      words_more = marks ∙ ap (λ (l : List ℕ). set l (slot s.width s.height (dart_of c)) 1) o.words ∙ sym (marks_more s.width s.height work₀ o.done (dart_of c))

      points_more : points' ≡ sets points₀ (2 * (at + 1)) (reached (o.done ++ (dart_of c ∷ [])))
      points_more =
          let e : 2 * (at + (n + 1)) ≡ 2 * (at + 1) + length (reached o.done) = omega (arith, length_reached o.done, o.count) in
          puts ∙ rw (o.stored, e, moves) (rw (reached_more o.done (dart_of c)) (sym (sets_append points₀ (2 * (at + 1)) (reached o.done) (ahead_x (dart_of c) ∷ ahead_y (dart_of c) ∷ []))))

      -- the walk goes on
      pub going : (a : Around) → a ≡ around_of (pic s ls) (ahead_x (dart_of c)) (ahead_y (dart_of c)) → ending (pic s ls) w.x w.y (dart_of c) ≡ false → Sofar work' points' (step_in a c) (n + 1)
      going a q e =
          let P = pic s ls in
          let b = dart_of c in
          let r = goes (following P) (ending P w.x w.y) b (following P b) o.more o.left refl e in
          let f = step_follows P c a q in
          record {
            done = o.done ++ (b ∷ []);
            more = r.0;
            count = omega (arith, length_more o.done b, o.count);
            whole = o.whole ∙ rw (append_assoc, f) (ap (λ (l : List Dart). o.done ++ (b ∷ l)) r.1);
            left = rw f r.2;
            words = words_more;
            stored = points_more;
            crack = rw f (following_crack (framed s ls) b o.crack (going_meets P w.x w.y b e));
          }

      -- the walk is over
      pub gone : ending (pic s ls) w.x w.y (dart_of c) ≡ true → Went s ls work₀ points₀ at w work' points' (record { to = m; steps = n + 1 })
      gone e =
          let b = dart_of c in
          let all : steps_of s ls w ≡ o.done ++ (b ∷ []) = o.whole ∙ ap (λ (l : List Dart). o.done ++ (b ∷ l)) (over (following (pic s ls)) (ending (pic s ls) w.x w.y) b o.more o.left e) in
          let z : end_of (steps_of s ls w) ≡ b = ap end_of all ∙ last_more o.done b in
          record {
            count = omega (arith, ap length all, length_more o.done b, o.count);
            x = rw (z, moves);
            y = rw (z, moves);
            d = rw (z, moves);
            words = rw all words_more;
            stored = rw all points_more;
          }
