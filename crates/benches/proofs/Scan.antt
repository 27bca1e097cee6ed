-- A scan of the corners row by row, east before south, finds the contours of the named islands in the order in which they are listed: the
-- earliest step of a contour goes east or south, so the first side that is on no contour yet starts the next one.
use Prim.Native.Nat.{ℕ, zero, suc, ◌+◌, ◌*◌, ◌<◌, ◌≤◌}
use mathlib.Core.Bool.{Bool, true, false, true≢false}
use mathlib.Core.Path.{◌≡◌, refl, sym, ap, ◌∙◌, subst, subst₂}
use mathlib.Core.Logic.{◌⊎◌, inl, inr, ⊎_elim}
use mathlib.Core.List.Memᴰ.{append_cases as in-cases}
use mathlib.Core.List.Memᴰ.{append_left as in_left}
use mathlib.Core.List.Memᴰ.{append_right as in_right}
use mathlib.Core.List.Memᴰ.{cast as in-cast}
use mathlib.Core.List.Memᴰ.{eq_of_singleton}
use mathlib.Core.List.Memᴰ.{head as here}
use mathlib.Core.List.Memᴰ.{not-nil}
use mathlib.Core.List.Memᴰ.{of_map}
use mathlib.Core.List.{List, [], ◌∷◌, ◌++◌, map, map-append, Memᴰ as In}
use native.Mathlib.Omega.{arith}
use lib.Dec.{eqb}
use lib.ListN.{get_or}
use borrow.Author.Tests.{eqb-true, eq-eqb}
use Rattle.rules.specs.Lists.{keep, flat, Distinct}
use Rattle.rules.specs.Picture.{Picture, OUTSIDE, Dart, dart, same_dart, to_x, to_y, left, crack}
use Rattle.rules.specs.declared.Dir.{Dir}
use Rattle.rules.specs.declared.Dir.TheVariants.{N, E, S, W}
use Rattle.rules.specs.Graph.{fuel}
use Rattle.rules.specs.Face.{no_dart, label_of, turn, island, faces}
use Rattle.rules.specs.Describes.{Describes}
use Rattle.benches.specs.Listing.{from_earliest, listing_words}
use Rattle.rules.proofs.Ground.Lists.{distinct_append, flat_snoc, in_flat, flat_in, keep_in, in_keep, keep_same, keep_map, keep_flat_distinct}
use Rattle.rules.proofs.Ground.Order.{ordered_append, ordered_keep}
use Rattle.rules.proofs.Ground.Orbits.{Cycle, until}
use Rattle.rules.proofs.Ground.Cycles.{cycle_all, cycle_next, same_cycle}
use Rattle.rules.proofs.Lattice.Frame.{Framed}
use Rattle.rules.proofs.Lattice.Darts.{same_path, same_refl, no_north, no_west}
use Rattle.rules.proofs.Contours.Turns.{turn_crack, turn_left}
use Rattle.rules.proofs.Contours.Loops.{closes, loop_of, the_loop, loop_in_lem, loop_cycle, loop_once, loop_cracks, loop_left}
use Rattle.rules.proofs.Islands.Bounds.{island_label}
use Rattle.rules.proofs.Islands.Beside.{turn_island}
use Rattle.rules.proofs.Faces.FirstPixels.{First}
use Rattle.benches.proofs.Earlier.{NoLater, by_y, by_x, by_d, Earlier, no_later_trans, no_later_both}
use Rattle.benches.proofs.Starts.{Canonical, canonical, started_in, in_started, head_is, head_in_lem}
use Rattle.benches.proofs.Arranged.{Arranged, Sooner}
use Rattle.benches.proofs.Pieces.{Bounds}
use Rattle.benches.proofs.SameListing.{named_firsts, named_first, island_words, listing_by}

abbrev pub EastSouth : Dir → Type 0
EastSouth d = (d ≡ E) ⊎ (d ≡ S)

-- THE EARLIEST STEP of a cycle of cracks goes east or south: the turn after any other leaves an earlier corner

module _ {P : Picture} (F : Framed P) where
  north : (x y : ℕ) → crack P (dart x y N) ≡ true → NoLater (dart x y N) (turn P (dart x y N)) → ⊥
  unfolding turn to_x to_y
  north x zero k l = no_north F x k
  north x (suc y) k (by_y p) = omega arith
  north x (suc y) k (by_x p q) = omega arith
  north x (suc y) k (by_d p q r) = omega arith

  west : (x y : ℕ) → crack P (dart x y W) ≡ true → NoLater (dart x y W) (turn P (dart x y W)) → ⊥
  unfolding turn to_x to_y
  west zero y k l = no_west F y k
  west (suc x) y k (by_y p) = omega arith
  west (suc x) y k (by_x p q) = omega arith
  west (suc x) y k (by_d p q r) = omega arith

  way : (x y : ℕ) (d : Dir) → crack P (dart x y d) ≡ true → NoLater (dart x y d) (turn P (dart x y d)) → EastSouth d
  way x y N k l = absurd (north x y k l)
  way x y E k l = inl refl
  way x y S k l = inr refl
  way x y W k l = absurd (west x y k l)

  earliest_way : {c : List Dart} (u : Canonical (turn P) c) → crack P u.first ≡ true → EastSouth u.first.d
  earliest_way u k = way u.first.x u.first.y u.first.d k (u.least (turn P u.first) (cycle_next (turn P) (u.first ∷ u.rest) u.cycle u.first (here refl)))

-- WANTED SIDES: of painted regions that are named

pub record Wanted (P : Picture) (paints : ℕ) (names : List ℕ) (a : Dart) : Type 0 where
  pub cracked : crack P a ≡ true
  pub painted : left P a < paints
  pub named : In (left P a) names

-- the contours from a list of starts
abbrev pub loops : Picture → List Dart → List (List Dart)
loops P starts = map (loop_of P) starts

-- the loop of a dart starts with it
head_until : (f : Dart → Dart) (stop : Dart → Bool) (k : ℕ) (a : Dart) → 0 < k → get_or (until f stop k a) 0 no_dart ≡ a
unfolding until
head_until f stop zero a h = absurd (omega arith)
head_until f stop (suc k) a h = refl

head_loop : (P : Picture) (a : Dart) → get_or (loop_of P a) 0 no_dart ≡ a
unfolding loop_of fuel
head_loop P a = head_until (turn P) (closes P a) (4 * (P.w + 1) * (P.h + 1)) a (omega arith)

-- found before the step b: the wanted contours that start before it, each with its earliest step, in order
pub record Found (P : Picture) (paints : ℕ) (names : List ℕ) (b : Dart) (starts : List Dart) : Type 0 where
  pub arranged : Arranged (turn P) (loops P starts)
  pub wanted : (a : Dart) → In a (flat (loops P starts)) → Wanted P paints names a
  pub before : (a : Dart) → In a starts → Earlier a b
  pub done : (a : Dart) → Earlier a b → EastSouth a.d → Wanted P paints names a → In a (flat (loops P starts))

-- b' is the next step to look at after b
pub record Next (P : Picture) (b b' : Dart) : Type 0 where
  pub later : Earlier b b'
  pub none : (a : Dart) → crack P a ≡ true → EastSouth a.d → Earlier a b' → (a ≡ b) ⊎ Earlier a b

pub earlier_trans : (a b c : Dart) → Earlier a b → Earlier b c → Earlier a c
earlier_trans a b c p q = (no_later_trans a b c p.0 q.0, λ e. p.1 (no_later_both a b p.0 (subst (NoLater b) (sym e) q.0)))

module _ {P : Picture} (F : Framed P) {paints : ℕ} {names : List ℕ} where
  -- the loop of a wanted side is wanted
  loop_wanted : (a : Dart) → Wanted P paints names a → (b : Dart) → In b (loop_of P a) → Wanted P paints names b
  loop_wanted a w b i =
      let e = loop_left F a w.cracked b i in
      let l = w.painted in
      record { cracked = loop_cracks F a w.cracked b i; painted = omega arith; named = in-cast e w.named }

  -- from its earliest step on
  loop_canonical : (a : Dart) → Wanted P paints names a → Canonical (turn P) (from_earliest (loop_of P a))
  loop_canonical a w = canonical (turn P) (loop_of P a) (loop_cycle F a w.cracked) (loop_once F a w.cracked)

  -- which is a wanted side that goes east or south
  earliest_of : (a : Dart) → Wanted P paints names a → (z : Dart) × In z (loop_of P a) × EastSouth z.d × ((b : Dart) → In b (loop_of P a) → NoLater z b)
  earliest_of a w =
      let u = loop_canonical a w in
      let i = started_in (loop_of P a) u.first (head_in_lem u) in
      (u.first, i, earliest_way F u (loop_cracks F a w.cracked u.first i), λ b j. u.least b (subst (In b) u.is (in_started (loop_of P a) b j)))

  -- a side on the loop of a side that is on a contour is on it too
  shared : {cs : List (List Dart)} → ((c : List Dart) → In c cs → Cycle (turn P) c) → (a : Dart) → Wanted P paints names a → (z : Dart) → In z (loop_of P a) → In z (flat cs) → (b : Dart) → In b (loop_of P a) → In b (flat cs)
  shared {cs} k a w z i j b m =
      let q = flat_in cs z j in
      in_flat cs q.0 b q.1 (same_cycle (turn P) (loop_of P a) q.0 (loop_cycle F a w.cracked) (k q.0 q.1) z i q.2 b m)

  module _ (b : Dart) (starts : List Dart) (f : Found P paints names b starts) where
    abbrev cs : List (List Dart)
    cs = loops P starts

    cycles : (c : List Dart) → In c cs → Cycle (turn P) c
    cycles c i = let u = f.arranged.canonical c i in subst (Cycle (turn P)) (sym u.is) u.cycle

    pub nothing_new : (b' : Dart) → Next P b b' → (EastSouth b.d → Wanted P paints names b → In b (flat cs)) → Found P paints names b' starts
    nothing_new b' n g = record {
      arranged = f.arranged;
      wanted = f.wanted;
      before = λ a i. earlier_trans a b b' (f.before a i) n.later;
      done = λ a e d w. ⊎_elim (λ (z : a ≡ b). in-cast z (g (subst (λ c. EastSouth c.d) z d) (subst (Wanted P paints names) z w))) (λ (z : Earlier a b). f.done a z d w) (n.none a w.cracked d e);
    }

    -- A NEW CONTOUR starts with b
    module _ (w : Wanted P paints names b) (new : In b (flat cs) → ⊥) where
      apart : (a : Dart) → In a (flat cs) → In a (loop_of P b) → ⊥
      apart a i j = new (shared cycles b w a j i b (loop_in_lem F b w.cracked))

      least : (a : Dart) → In a (loop_of P b) → NoLater b a
      least a i = go (same_dart q.0 b) refl
        where
          q : (z : Dart) × In z (loop_of P b) × EastSouth z.d × ((a : Dart) → In a (loop_of P b) → NoLater z a)
          q = earliest_of b w

          go : (t : Bool) → same_dart q.0 b ≡ t → NoLater b a
          go true e = subst (λ z. NoLater z a) (same_path q.0 b e) (q.3 a i)
          go false e =
              let n : q.0 ≡ b → ⊥ = λ z. true≢false (sym (same_refl b) ∙ ap (λ c. same_dart c b) (sym z) ∙ e) in
              absurd (apart q.0 (f.done q.0 (q.3 b (loop_in_lem F b w.cracked), n) q.2 (loop_wanted b w q.0 q.1)) q.1)

      pub new_canonical : Canonical (turn P) (loop_of P b)
      new_canonical =
          let r = the_loop F b w.cracked in
          record {
            first = b;
            rest = r.0;
            is = r.1;
            cycle = subst (Cycle (turn P)) r.1 (loop_cycle F b w.cracked);
            once = subst Distinct r.1 (loop_once F b w.cracked);
            least = λ a i. least a (subst (In a) (sym r.1) i);
          }

      more_is : loops P (starts ++ (b ∷ [])) ≡ cs ++ (loop_of P b ∷ [])
      more_is = map-append (loop_of P) starts (b ∷ [])

      more_flat : flat (loops P (starts ++ (b ∷ []))) ≡ flat cs ++ loop_of P b
      more_flat = ap flat more_is ∙ flat_snoc cs (loop_of P b)

      sooner : (c d : List Dart) → In c cs → In d (loop_of P b ∷ []) → Sooner c d
      sooner c d i j =
          let q = of_map (loop_of P) starts i in
          let a = q.0 in
          let u = f.arranged.canonical c i in
          let r = the_loop F b w.cracked in
          let e : get_or c 0 no_dart ≡ a = ap (λ c. get_or c 0 no_dart) (sym q.2) ∙ head_loop P a in
          subst₂ Earlier (sym e) (sym (ap (λ d. get_or d 0 no_dart) (eq_of_singleton j ∙ r.1))) (f.before a q.1)

      pub new_contour : (b' : Dart) → Next P b b' → Found P paints names b' (starts ++ (b ∷ []))
      new_contour b' n = record {
        arranged = subst (Arranged (turn P)) (sym more_is) (record {
          canonical = λ c i. ⊎_elim (f.arranged.canonical c) (λ (j : In c (loop_of P b ∷ [])). subst (Canonical (turn P)) (sym (eq_of_singleton j)) new_canonical) (in-cases cs i);
          once = subst Distinct (sym (flat_snoc cs (loop_of P b))) (distinct_append (flat cs) (loop_of P b) f.arranged.once (loop_once F b w.cracked) apart);
          order = ordered_append Sooner cs (loop_of P b ∷ []) f.arranged.order (λ d i. absurd (not-nil i), tt) sooner;
        });
        wanted = λ a i. ⊎_elim (f.wanted a) (loop_wanted b w a) (in-cases (flat cs) (subst (In a) more_flat i));
        before = λ a i. ⊎_elim (λ (j : In a starts). earlier_trans a b b' (f.before a j) n.later) (λ (j : In a (b ∷ [])). subst (λ a. Earlier a b') (sym (eq_of_singleton j)) n.later) (in-cases starts i);
        done = λ a e d v. subst (In a) (sym more_flat)
            (⊎_elim (λ (z : a ≡ b). in_right (flat cs) (in-cast z (loop_in_lem F b w.cracked))) (λ (z : Earlier a b). in_left (loop_of P b) (f.done a z d v)) (n.none a v.cracked d e));
      }

    -- ALL OF THEM, where no crack goes east or south from b on
    module _ (end : (a : Dart) → crack P a ≡ true → EastSouth a.d → Earlier a b) where
      pub all_sides : (a : Dart) → Wanted P paints names a → In a (flat cs)
      all_sides a w =
          let q = earliest_of a w in
          let v = loop_wanted a w q.0 q.1 in
          shared cycles a w q.0 q.1 (f.done q.0 (end q.0 v.cracked q.2) q.2 v) a (loop_in_lem F a w.cracked)

      -- those of one island
      abbrev pub starts_of : ℕ → List Dart
      starts_of p = keep (λ a. eqb (island P a) p) starts

      module _ (b₀ : paints ≤ OUTSIDE) (p : ℕ) (r : First P paints p) (m : In (label_of P p) names) where
        test : List Dart → Bool
        test c = eqb (island P (get_or c 0 no_dart)) p

        of_island : loops P (starts_of p) ≡ keep test cs
        unfolding test
        of_island =
            sym (keep_map test (loop_of P) starts ∙ ap (map (loop_of P)) (keep_same (λ a. test (loop_of P a)) (λ a. eqb (island P a) p) starts (λ a i. ap (λ a. eqb (island P a) p) (head_loop P a))))

        -- a contour lies in one island
        along : (c : List Dart) → In c cs → (a z : Dart) → In a c → In z c → island P z ≡ island P a
        along c i a z j k =
            let good : Dart → Type 0 = λ b. (crack P b ≡ true) × (left P b ≡ left P a) × (island P b ≡ island P a) in
            let v = f.wanted a (in_flat cs c a i j) in
            let l = v.painted in
            (cycle_all (turn P) c (cycles c i) good
            (λ b g. let o : left P b ≡ OUTSIDE → ⊥ = λ e. let z = g.1 in omega arith in (turn_crack F b g.0, turn_left F b g.0 ∙ g.1, sym (turn_island F b o g.0) ∙ g.2))
            a j (v.cracked, refl, refl) z k).2

        head_of : (c : List Dart) → In c cs → In (get_or c 0 no_dart) c
        head_of c i = let u = f.arranged.canonical c i in in-cast (head_is u) (head_in_lem u)

        island_bounds : Bounds P p (loops P (starts_of p))
        unfolding test
        island_bounds = subst (Bounds P p) (sym of_island) (record {
          arranged = record {
            canonical = λ c i. f.arranged.canonical c (keep_in test cs c i).0;
            once = keep_flat_distinct test cs f.arranged.once;
            order = ordered_keep Sooner test cs f.arranged.order;
          };
          side = λ a i.
              let q = flat_in (keep test cs) a i in
              let c = q.0 in
              let k = keep_in test cs c q.1 in
              let v = f.wanted a (in_flat cs c a k.0 q.2) in
              let l = v.painted in
              record { cracked = v.cracked; inside = λ e. omega arith; isle = sym (along c k.0 a (get_or c 0 no_dart) q.2 (head_of c k.0)) ∙ eqb-true (island P (get_or c 0 no_dart)) p k.1 };
          whole = λ a s.
              let e : left P a ≡ label_of P p = sym (island_label F a s.inside) ∙ ap (label_of P) s.isle in
              let l = r.painted in
              let q = flat_in cs a (all_sides a (record { cracked = s.cracked; painted = omega arith; named = in-cast e m })) in
              let c = q.0 in
              in_flat (keep test cs) c a (in_keep test cs c (eq-eqb (island P (get_or c 0 no_dart)) p (along c q.1 a (get_or c 0 no_dart) q.2 (head_of c q.1) ∙ s.isle)) q.1) q.2;
        })

      -- THE LISTING is that of the named islands in their order, each with the contours from its starts
      pub scan_listing : paints ≤ OUTSIDE → {ss : List (List Dart)} → Describes P ss
          → listing_words ss names (faces P ss paints) ≡ flat (map (island_words P (λ p. loops P (starts_of p))) (named_firsts P paints names))
      scan_listing b₀ D = listing_by F D b₀ names (λ p. loops P (starts_of p)) (λ p i. let n = named_first P paints names p i in island_bounds b₀ p n.first n.named)
