-- Where rings start: row by row, the first corner of a ring has an E and an S crack and no other, a bend, and the ring leaves it by its E crack.
-- So to trace the rings it is enough to visit the E crack of each bend.
use Prim.Native.Nat.{ℕ, zero, suc, pred, ◌+◌, ◌<◌}
use mathlib.Core.Bool.{Bool, true, false, not, ◌&&◌, true≢false, false≢true}
use mathlib.Core.Path.{◌≡◌, refl, sym, ap, ◌∙◌, subst}
use mathlib.Core.Logic.{◌⊎◌, inl, inr}
use mathlib.Core.List.Memᴰ.{head as here}
use mathlib.Core.List.Memᴰ.{tail as there}
use mathlib.Core.List.{List, [], ◌∷◌, ◌++◌, map, Memᴰ as In}
use native.Mathlib.Omega.{arith}
use native.Mathlib.Decide.{ℕ_discrete}
use lib.Dec.{leb}
use borrow.Author.Tests.{not-true}
use Rattle.rules.specs.Lists.{keep, flat}
use Rattle.rules.specs.Picture.{Picture, same_dir, Dart, dart, to_x, to_y, ahead_x, ahead_y, turned, crack, one, degree, node}
use Rattle.rules.specs.declared.Dir.{Dir}
use Rattle.rules.specs.declared.Dir.TheVariants.{N, E, S, W}
use Rattle.rules.specs.Graph.{following, meets, on, visit, trace, row, rows, corners, nodes, out, walk, fuel}
use Rattle.rules.specs.Describes.{On}
use Rattle.rules.proofs.Ground.Booleans.{both, and_left, and_right}
use Rattle.rules.proofs.Ground.Lists.{keep_yes, keep_no}
use Rattle.rules.proofs.Ground.Order.{Ordered, ordered_append}
use Rattle.rules.proofs.Lattice.Frame.{Framed}
use Rattle.rules.proofs.Lattice.Darts.{dart_path, no_north, no_west, turned_turned, turned_crack}
use Rattle.rules.proofs.Lattice.Directions.{same_dir_eq, same_dir_refl}
use Rattle.rules.proofs.Lattice.Corners.{no_single}
use Rattle.rules.proofs.Lattice.WayOn.{following_only}
use Rattle.rules.proofs.Lattice.Edges.{on_is}
use Rattle.rules.proofs.Lattice.Grid.{row_in, rows_in, out_node, crack_corner, crack_out_node}
use Rattle.rules.proofs.Tracing.Partition.{Nodes, Good, visit_good, visit_holds, trace_good, trace_keeps, trace_holds, none_good}

module _ (P : Picture) where
  -- an E and an S crack, and no other
  unfoldable pub bend : ℕ × ℕ → Bool
  bend c = not (crack P (dart c.0 c.1 N)) && (crack P (dart c.0 c.1 E) && (crack P (dart c.0 c.1 S) && not (crack P (dart c.0 c.1 W))))

  -- the E darts of the bends among corners
  unfoldable pub easts : List (ℕ × ℕ) → List Dart
  easts cs = map (λ c. dart c.0 c.1 E) (keep bend cs)

-- a visit to a dart whose edge, if a crack, is walked
visit_idle : (P : Picture) (ss : List (List Dart)) (a : Dart) → (crack P a ≡ true → On a (flat ss)) → visit P ss a ≡ ss
unfolding visit
visit_idle P ss a f = go (crack P a) refl (on a (flat ss)) refl
  where
    go : (p : Bool) → crack P a ≡ p → (q : Bool) → on a (flat ss) ≡ q → ◌≡◌ {A = List (List Dart)} (elim (p && not q) [ true ↦ ss ++ (walk P (fuel P) a.x a.y a ∷ []) | false ↦ ss ]) ss
    go true p true q = refl
    go true p false q = absurd (true≢false (sym (on_is a (flat ss) (f p)) ∙ q))
    go false p q r = refl

-- the edge, the other way
on_turned_back : {P : Picture} (F : Framed P) (l : List Dart) (a : Dart) → crack P a ≡ true → On (turned a) l → On a l
on_turned_back F l a c (inl i) = inr i
on_turned_back F l a c (inr i) = inl (subst (λ b. In b l) (turned_turned F a c) i)

-- AT ONE CORNER

module _ {P : Picture} (F : Framed P) (x y : ℕ) where
  -- at a corner that is no node, an edge that is walked takes the others with it
  spreads : (ss : List (List Dart)) → Good P ss → node P x y ≡ false → (d : Dir) → crack P (dart x y d) ≡ true → On (dart x y d) (flat ss)
      → (e : Dir) → crack P (dart x y e) ≡ true → On (dart x y e) (flat ss)
  unfolding turned meets
  spreads ss g k d c o e ce = go (same_dir e d) refl
    where
      a : Dart
      a = dart x y d

      b : Dart
      b = turned a

      back : turned b ≡ a
      back = turned_turned F a c

      on_b : On a (flat ss) → On b (flat ss)
      on_b (inl i) = inr (subst (λ z. In z (flat ss)) (sym back) i)
      on_b (inr i) = inl i

      on_next : On (following P b) (flat ss)
      on_next = g.closed b (turned_crack F a c) (on_b o) (subst (λ z. node P z.x z.y ≡ false) (sym back) k)

      go : (s : Bool) → same_dir e d ≡ s → On (dart x y e) (flat ss)
      go true s = subst (λ f. On (dart x y f) (flat ss)) (sym (same_dir_eq e d s)) o
      go false s =
          subst (λ z. On z (flat ss))
          (sym (following_only F b (turned_crack F a c) (subst (λ z. node P z.x z.y ≡ false) (sym back) k) (dart x y e) ce
          (sym (ap (λ z. z.x) back)) (sym (ap (λ z. z.y) back))
          (λ q. true≢false (sym (same_dir_refl e) ∙ ap (λ z. same_dir e z.d) (q ∙ back) ∙ s))))
          on_next

  abbrev n : Bool
  n = crack P (dart x y N)

  abbrev e : Bool
  e = crack P (dart x y E)

  abbrev s : Bool
  s = crack P (dart x y S)

  abbrev w : Bool
  w = crack P (dart x y W)

  -- a bend has two cracks
  pub bend_plain : bend P (x, y) ≡ true → node P x y ≡ false
  unfolding bend node degree
  bend_plain b = go n e s w b
    where
      go : (n e s w : Bool) → not n && (e && (s && not w)) ≡ true → leb 3 (one n + one e + one s + one w) ≡ false
      go false true true false b = refl
      go true e s w b = absurd (false≢true b)
      go false false s w b = absurd (false≢true b)
      go false true false w b = absurd (false≢true b)
      go false true true true b = absurd (false≢true b)

  -- a corner with neither an N nor a W crack that is no bend has no crack
  no_crack : bend P (x, y) ≡ false → n ≡ false → w ≡ false → (e ≡ false) × (s ≡ false)
  unfolding bend degree
  no_crack b en ew = go e refl s refl
    where
      go : (p : Bool) → e ≡ p → (q : Bool) → s ≡ q → (p ≡ false) × (q ≡ false)
      go false ep false eq = (refl, refl)
      go true ep true eq = absurd (true≢false (sym (both (not n) (e && (s && not w)) (ap not en) (both e (s && not w) ep (both s (not w) eq (ap not ew)))) ∙ b))
      go true ep false eq = absurd (no_single P x y (rw (en, ep, eq, ew)))
      go false ep true eq = absurd (no_single P x y (rw (en, ep, eq, ew)))

  module _ (ss : List (List Dart)) (g : Good P ss) (ns : Nodes P (flat ss))
      (wn : n ≡ true → On (dart x y N) (flat ss)) (ww : w ≡ true → On (dart x y W) (flat ss)) where
    -- where the N and W cracks are walked, so are all but those of a bend
    settled : bend P (x, y) ≡ false → (d : Dir) → crack P (dart x y d) ≡ true → On (dart x y d) (flat ss)
    settled b d c = go (node P x y) refl n refl w refl
      where
        lone : n ≡ false → w ≡ false → (d : Dir) → crack P (dart x y d) ≡ true → On (dart x y d) (flat ss)
        lone en ew N c = wn c
        lone en ew W c = ww c
        lone en ew E c = absurd (true≢false (sym c ∙ (no_crack b en ew).0))
        lone en ew S c = absurd (true≢false (sym c ∙ (no_crack b en ew).1))

        go : (k : Bool) → node P x y ≡ k → (p : Bool) → n ≡ p → (q : Bool) → w ≡ q → On (dart x y d) (flat ss)
        go true k p ep q eq = ns (dart x y d) c k
        go false k true ep q eq = spreads ss g k N ep (wn ep) d c
        go false k false ep true eq = spreads ss g k W eq (ww eq) d c
        go false k false ep false eq = lone ep eq d c

    -- its four darts come to nothing, or to the E dart if it is a bend
    idle_corner : bend P (x, y) ≡ false → trace P ss (out ((x, y) ∷ [])) ≡ ss
    unfolding trace out
    idle_corner b =
        let none : (d : Dir) → visit P ss (dart x y d) ≡ ss = λ d. visit_idle P ss (dart x y d) (settled b d) in
        rw (none N) (rw (none E) (rw (none S) (none W)))

    bend_corner : bend P (x, y) ≡ true → trace P ss (out ((x, y) ∷ [])) ≡ visit P ss (dart x y E)
    unfolding trace out bend
    bend_corner b =
        let r = visit P ss (dart x y E) in
        let plain = bend_plain b in
        let east : e ≡ true = and_left e (s && not w) (and_right (not n) (e && (s && not w)) b) in
        let none-n : visit P ss (dart x y N) ≡ ss = visit_idle P ss (dart x y N) (λ c. absurd (true≢false (sym c ∙ not-true n (and_left (not n) (e && (s && not w)) b)))) in
        let none-s : visit P r (dart x y S) ≡ r =
        visit_idle P r (dart x y S) (λ c. spreads r (visit_good F ss (dart x y E) g (inr ns)) plain E east (visit_holds F ss (dart x y E) east) S c) in
        let none-w : visit P r (dart x y W) ≡ r =
        visit_idle P r (dart x y W) (λ c. absurd (true≢false (sym c ∙ not-true w (and_right s (not w) (and_right e (s && not w) (and_right (not n) (e && (s && not w)) b)))))) in
        rw none-n (rw none-s none-w)

-- ROW BY ROW

abbrev pub Raster : ℕ × ℕ → ℕ × ℕ → Type 0
Raster c d = (c.1 < d.1) ⊎ ((c.1 ≡ d.1) × (c.0 < d.0))

not_after : (x y x' y' : ℕ) → Raster (x, y) (x', y') → (y' < y) ⊎ ((y' ≡ y) × (x' < x)) → ⊥
not_after x y x' y' (inl p) (inl q) = omega arith
not_after x y x' y' (inl p) (inr q) = omega arith
not_after x y x' y' (inr p) (inl q) = omega arith
not_after x y x' y' (inr p) (inr q) = omega arith

row_ordered : (n x y : ℕ) → Ordered Raster (row n x y)
unfolding row
row_ordered zero x y = tt
row_ordered (suc n) x y = (λ c i. let r = row_in n (suc x) y c i in inr (sym r.2, omega arith), row_ordered n (suc x) y)

rows_ordered : (m n y : ℕ) → Ordered Raster (rows m n y)
unfolding rows
rows_ordered m zero y = tt
rows_ordered m (suc n) y =
    ordered_append Raster (row m 0 y) (rows m n (suc y)) (row_ordered m 0 y) (rows_ordered m n (suc y))
    (λ c d i j. let r = row_in m 0 y c i in let s = rows_in m n (suc y) d j in inl (omega arith))

corners_ordered : (P : Picture) → Ordered Raster (corners P)
unfolding corners
corners_ordered P = rows_ordered (suc P.w) (suc P.h) 0

pred_less : (n : ℕ) → 0 < n → pred n < n
pred_less n h = omega arith

module _ {P : Picture} (F : Framed P) where
  -- the cracks that leave no corner of the list are walked
  abbrev Behind : List (ℕ × ℕ) → List (List Dart) → Type 0
  Behind cs ss = (d : Dart) → crack P d ≡ true → (In {A = ℕ × ℕ} (d.x, d.y) cs → ⊥) → On d (flat ss)

  -- an edge that leads back to an earlier corner is walked
  leads_back : (c : ℕ × ℕ) (cs : List (ℕ × ℕ)) (ss : List (List Dart)) → Ordered Raster (c ∷ cs) → Behind (c ∷ cs) ss → (d : Dir) → crack P (dart c.0 c.1 d) ≡ true
      → (ahead_y (dart c.0 c.1 d) < c.1) ⊎ ((ahead_y (dart c.0 c.1 d) ≡ c.1) × (ahead_x (dart c.0 c.1 d) < c.0)) → On (dart c.0 c.1 d) (flat ss)
  unfolding turned
  leads_back c cs ss o j d k q =
      let a = dart c.0 c.1 d in
      on_turned_back F (flat ss) a k (j (turned a) (turned_crack F a k) (absent q))
    where
      absent : (ahead_y (dart c.0 c.1 d) < c.1) ⊎ ((ahead_y (dart c.0 c.1 d) ≡ c.1) × (ahead_x (dart c.0 c.1 d) < c.0))
          → In {A = ℕ × ℕ} (ahead_x (dart c.0 c.1 d), ahead_y (dart c.0 c.1 d)) (c ∷ cs) → ⊥
      absent (inl p) (here z) = let h = ap (λ c. c.1) z in omega arith
      absent (inr p) (here z) = let h = ap (λ c. c.0) z in omega arith
      absent q (there i) = not_after c.0 c.1 _ _ (o.0 _ i) q

  -- a dart that leaves the corner is one of its four
  leaves : (d : Dart) (c : ℕ × ℕ) → d.x ≡ c.0 → d.y ≡ c.1 → In d (out (c ∷ []))
  unfolding out
  leaves d c ex ey = go d.d refl
    where
      go : (e : Dir) → d.d ≡ e → In d (dart c.0 c.1 N ∷ dart c.0 c.1 E ∷ dart c.0 c.1 S ∷ dart c.0 c.1 W ∷ [])
      go N ed = here (dart_path d (dart c.0 c.1 N) ex ey ed)
      go E ed = there (here (dart_path d (dart c.0 c.1 E) ex ey ed))
      go S ed = there (there (here (dart_path d (dart c.0 c.1 S) ex ey ed)))
      go W ed = there (there (there (here (dart_path d (dart c.0 c.1 W) ex ey ed))))

  crack_low : (x y : ℕ) → crack P (dart x y N) ≡ true → 0 < y
  crack_low x zero k = absurd (no_north F x k)
  crack_low x (suc y) k = omega arith

  crack_right : (x y : ℕ) → crack P (dart x y W) ≡ true → 0 < x
  crack_right zero y k = absurd (no_west F y k)
  crack_right (suc x) y k = omega arith

  -- the E dart of a bend comes first
  easts_bend : (c : ℕ × ℕ) (cs : List (ℕ × ℕ)) → bend P c ≡ true → easts P (c ∷ cs) ≡ dart c.0 c.1 E ∷ easts P cs
  unfolding easts
  easts_bend c cs b = ap (map (λ c. dart c.0 c.1 E)) (keep_yes (bend P) c cs b)

  easts_none : (c : ℕ × ℕ) (cs : List (ℕ × ℕ)) → bend P c ≡ false → easts P (c ∷ cs) ≡ easts P cs
  unfolding easts
  easts_none c cs b = ap (map (λ c. dart c.0 c.1 E)) (keep_no (bend P) c cs b)

  traced_bends : (cs : List (ℕ × ℕ)) (ss : List (List Dart)) → Ordered Raster cs → Good P ss → Nodes P (flat ss) → Behind cs ss → trace P ss (out cs) ≡ trace P ss (easts P cs)
  unfolding trace out easts keep to_x to_y
  traced_bends [] ss o g ns j = refl
  traced_bends (c ∷ cs) ss o g ns j = traced_bends cs rs o.1 (trace_good F ds ss g (λ a i. inr ns)) (λ d k e. keeps d (ns d k e)) behind ∙ go (bend P c) refl
    where
      ds : List Dart
      ds = out (c ∷ [])

      rs : List (List Dart)
      rs = trace P ss ds

      keeps : (d : Dart) → On d (flat ss) → On d (flat rs)
      keeps d = trace_keeps F ds ss d

      -- a crack that leaves no later corner leaves this one or an earlier one
      behind : Behind cs rs
      behind d k q =
          elim (ℕ_discrete d.x c.0) [
            | no n ↦ keeps d (j d k (λ i. elsewhere (λ z. n (ap (λ c. c.0) z)) i))
            | yes ex ↦ elim (ℕ_discrete d.y c.1) [
              | no n ↦ keeps d (j d k (λ i. elsewhere (λ z. n (ap (λ c. c.1) z)) i))
              | yes ey ↦ trace_holds F ds ss d (leaves d c ex ey) k
            ]
          ]
        where
          elsewhere : (◌≡◌ {A = ℕ × ℕ} (d.x, d.y) c → ⊥) → In {A = ℕ × ℕ} (d.x, d.y) (c ∷ cs) → ⊥
          elsewhere n (here z) = n z
          elsewhere n (there i) = q i

      north : crack P (dart c.0 c.1 N) ≡ true → On (dart c.0 c.1 N) (flat ss)
      north k = leads_back c cs ss o j N k (inl (pred_less c.1 (crack_low c.0 c.1 k)))

      west : crack P (dart c.0 c.1 W) ≡ true → On (dart c.0 c.1 W) (flat ss)
      west k = leads_back c cs ss o j W k (inr (refl, pred_less c.0 (crack_right c.0 c.1 k)))

      go : (b : Bool) → bend P c ≡ b → trace P rs (easts P cs) ≡ trace P ss (easts P (c ∷ cs))
      go true h = ap (λ ss. trace P ss (easts P cs)) (bend_corner F c.0 c.1 ss g ns north west h) ∙ ap (trace P ss) (sym (easts_bend c cs h))
      go false h = ap (λ ss. trace P ss (easts P cs)) (idle_corner F c.0 c.1 ss g ns north west h) ∙ ap (trace P ss) (sym (easts_none c cs h))

  -- THE RINGS: after the segments from the nodes
  pub rings_at_bends : trace P (trace P [] (out (nodes P))) (out (corners P)) ≡ trace P (trace P [] (out (nodes P))) (easts P (corners P))
  rings_at_bends =
      let ns : Nodes P (flat (trace P [] (out (nodes P)))) = λ c k e. trace_holds F (out (nodes P)) [] c (crack_out_node F c k e) k in
      traced_bends (corners P) (trace P [] (out (nodes P))) (corners_ordered P)
      (trace_good F (out (nodes P)) [] (none_good F) (λ a i. inl (out_node P a i)))
      ns (λ d k q. absurd (q (crack_corner F d k)))
