-- The partition: the segments of a picture describe it.
use Prim.Native.Nat.{ℕ}
use mathlib.Core.Bool.{Bool, true, false, not, ◌&&◌, false≢true, true≢false}
use mathlib.Core.Path.{◌≡◌, refl, sym, ap, ap₂, ◌∙◌, subst}
use mathlib.Core.Logic.{◌⊎◌, inl, inr, ⊎_elim, ⊎_map}
use mathlib.Core.List.Memᴰ.{append_cases as in-cases}
use mathlib.Core.List.Memᴰ.{cast as in-cast}
use mathlib.Core.List.Memᴰ.{eq_of_singleton}
use mathlib.Core.List.Memᴰ.{head as here}
use mathlib.Core.List.Memᴰ.{not-nil}
use mathlib.Core.List.Memᴰ.{tail as there}
use mathlib.Core.List.{List, [], ◌∷◌, ◌++◌, Memᴰ as In}
use Rattle.rules.specs.Lists.{flat, last_of}
use Rattle.rules.specs.Picture.{Picture, Dart, turned, crack, node}
use Rattle.rules.specs.Graph.{following, meets, ending, walk, fuel, on, visit, trace, out, nodes, corners, segments}
use Rattle.rules.proofs.Lattice.Frame.{Framed}
use Rattle.rules.proofs.Lattice.Darts.{turned_turned, turned_crack}
use Rattle.rules.proofs.Lattice.WayOn.{following_crack, following_back}
use Rattle.rules.proofs.Ground.Lists.{flat_snoc, in_last}
use Rattle.rules.proofs.Lattice.Edges.{on_true, on_false, on_left, on_right_lem, on_cases, once_append, on_back, on_turn}
use Rattle.rules.proofs.Ground.Orbits.{Before, walk_before, walk_next, walk_last}
use Rattle.rules.proofs.Tracing.Walks.{Steps, going_meets, back_at, the_walk, walk_crack, walk_once, walk_ring}
use Rattle.rules.proofs.Lattice.Grid.{crack_out, crack_out_node, out_node}
use Rattle.rules.specs.Describes.{On, Once, Through, Open, Ring, Segment, Describes}

-- the step from each edge on the list, either way, is on the list too
abbrev pub Closed : Picture → List Dart → Type 0
Closed P l = (c : Dart) → crack P c ≡ true → On c l → meets P c ≡ false → On (following P c) l

-- the cracks that leave nodes are on the list
abbrev pub Nodes : Picture → List Dart → Type 0
Nodes P l = (c : Dart) → crack P c ≡ true → node P c.x c.y ≡ true → On c l

pub record Good (P : Picture) (ss : List (List Dart)) : Type 0 where
  pub segment : (s : List Dart) → In s ss → Segment P s
  pub cracked : (a : Dart) → In a (flat ss) → crack P a ≡ true
  pub once : Once (flat ss)
  pub closed : Closed P (flat ss)

on_path : (b c : Dart) (l : List Dart) → b ≡ c → On b l → On c l
on_path b c l e o = subst (λ b. On b l) e o

-- OFF A CLOSED LIST

module _ {P : Picture} (F : Framed P) (l : List Dart) (f : Closed P l) where
  meets_back : (a : Dart) → crack P a ≡ true → meets P a ≡ false → meets P (turned (following P a)) ≡ false
  unfolding turned following meets
  meets_back a c k = ap (λ b. node P b.x b.y) (turned_turned F (following P a) (following_crack F a c k)) ∙ k

  -- a closed list that holds the next step holds the step
  closed_back : (a : Dart) → crack P a ≡ true → meets P a ≡ false → On (following P a) l → On a l
  closed_back a c k o =
      let d = following_crack F a c k in
      on_back F a l c
      (on_path (following P (turned (following P a))) (turned a) l (following_back F a c k)
      (f (turned (following P a)) (turned_crack F (following P a) d) (on_turn F (following P a) l d o) (meets_back a c k)))

  -- a walk from an edge off a closed list stays off it
  stays_off_at : (x₀ y₀ : ℕ) (c a : Dart) (m : List Dart) → crack P a ≡ true → Steps P x₀ y₀ a m → (On a l → ⊥) → In c (a ∷ m) → On c l → ⊥
  stays_off_at x₀ y₀ c a m k w n (here e) o = n (on_path c a l e o)
  stays_off_at x₀ y₀ c a [] k w n (there i) o = not-nil i
  stays_off_at x₀ y₀ c a (b ∷ m) k w n (there i) o =
      let s = going_meets P x₀ y₀ a w.0 in
      stays_off_at x₀ y₀ c b m (ap (crack P) w.1 ∙ following_crack F a k s) w.2 (λ o. n (closed_back a k s (on_path b (following P a) l w.1 o))) i o

  stays_off : (x₀ y₀ : ℕ) (a : Dart) (m : List Dart) → crack P a ≡ true → Steps P x₀ y₀ a m → (On a l → ⊥) → (c : Dart) → In c (a ∷ m) → On c l → ⊥
  stays_off x₀ y₀ a m k w n c i o = stays_off_at x₀ y₀ c a m k w n i o

-- A WALK THAT STARTS AT A NODE OR MEETS NONE: it is closed, and a segment

walk_through : (P : Picture) (x₀ y₀ : ℕ) (a : Dart) (m : List Dart) → Steps P x₀ y₀ a m → Through P a m
unfolding following
walk_through P x₀ y₀ a [] w = tt
walk_through P x₀ y₀ a (b ∷ m) w = (going_meets P x₀ y₀ a w.0, ap (λ c. c.x) w.1, ap (λ c. c.y) w.1, walk_through P x₀ y₀ b m w.2)

abbrev FromNode : Picture → Dart → List Dart → Type 0
FromNode P a m = (node P a.x a.y ≡ true) ⊎ ((z : Dart) → In z (a ∷ m) → meets P z ≡ false)

module _ {P : Picture} (F : Framed P) (a : Dart) (ca : crack P a ≡ true) (m : List Dart) (w : Steps P a.x a.y a m) where
  of_walk : (c : Dart) → In c (a ∷ m) → crack P c ≡ true
  of_walk c i = walk_crack F a.x a.y a m ca w c i

  closed_forward : (c : Dart) → In c (a ∷ m) → meets P c ≡ false → On (following P c) (a ∷ m)
  closed_forward c i k =
      ⊎_elim
      (λ (e : ending P a.x a.y c ≡ true). inl (here (sym (walk_ring F a ca m w c i e k))))
      (λ (j : In (following P c) (a ∷ m)). inl j)
      (walk_next (following P) (ending P a.x a.y) a m w c i)

  -- the step before one, either way
  earlier : (d e : Dart) → In e (a ∷ m) → d ≡ following P e → meets P e ≡ false → On (following P (turned d)) (a ∷ m)
  earlier d e i q k =
      inr (in-cast (ap turned (ap (λ b. following P (turned b)) q ∙ following_back F e (of_walk e i) k) ∙ turned_turned F e (of_walk e i)) i)

  before_first : FromNode P a m → meets P (turned a) ≡ false → On (following P (turned a)) (a ∷ m)
  unfolding turned meets
  before_first (inl n) k = absurd (true≢false (sym n ∙ sym (ap (λ b. node P b.x b.y) (turned_turned F a ca)) ∙ k))
  before_first (inr f) k =
      let z = last_of a m in
      let i = in_last a m in
      earlier a z i (walk_ring F a ca m w z i (walk_last (following P) (ending P a.x a.y) a m w) (f z i)) (f z i)

  closed_backward : FromNode P a m → (d : Dart) → In d (a ∷ m) → meets P (turned d) ≡ false → On (following P (turned d)) (a ∷ m)
  closed_backward g d i k = go (walk_before (following P) (ending P a.x a.y) a m w d i)
    where
      go : Before (following P) (ending P a.x a.y) a m d → On (following P (turned d)) (a ∷ m)
      go (inl e) = on_path (following P (turned a)) (following P (turned d)) (a ∷ m) (ap (λ b. following P (turned b)) (sym e)) (before_first g (ap (λ b. meets P (turned b)) (sym e) ∙ k))
      go (inr r) = earlier d r.0 r.1 r.2 (going_meets P a.x a.y r.0 r.3)

  walk_closed : FromNode P a m → Closed P (a ∷ m)
  walk_closed g c k (inl i) n = closed_forward c i n
  walk_closed g c k (inr i) n =
      on_path (following P (turned (turned c))) (following P c) (a ∷ m) (ap (following P) (turned_turned F c k))
      (closed_backward g (turned c) i (ap (meets P) (turned_turned F c k) ∙ n))

  walk_ends : FromNode P a m → Open P a (last_of a m) ⊎ Ring P a (last_of a m)
  unfolding meets
  walk_ends (inl n) = inl (n, go (meets P z) refl)
    where
      z : Dart
      z = last_of a m

      go : (b : Bool) → meets P z ≡ b → b ≡ true
      go true e = refl
      go false e = let r = back_at P a.x a.y z (walk_last (following P) (ending P a.x a.y) a m w) e in sym e ∙ ap₂ (node P) r.0 r.1 ∙ n
  walk_ends (inr f) =
      let z = last_of a m in
      let k = f z (in_last a m) in
      let r = back_at P a.x a.y z (walk_last (following P) (ending P a.x a.y) a m w) k in
      inr (sym (ap₂ (node P) r.0 r.1) ∙ k, r.0, r.1)

-- ONE MORE WALK

module _ {P : Picture} (F : Framed P) {ss : List (List Dart)} (g : Good P ss)
    (a : Dart) (ca : crack P a ≡ true) (n : On a (flat ss) → ⊥) (m : List Dart) (w : Steps P a.x a.y a m) where
  off : (c : Dart) → In c (a ∷ m) → On c (flat ss) → ⊥
  off = stays_off F (flat ss) g.closed a.x a.y a m ca w n

  cross : (c : Dart) → In c (flat ss) → On c (a ∷ m) → ⊥
  cross c i (inl j) = off c j (inl i)
  cross c i (inr j) = off (turned c) j (on_turn F c (flat ss) (g.cracked c i) (inl i))

  -- it meets no node whose cracks are all walked
  no_node : Nodes P (flat ss) → (z : Dart) → In z (a ∷ m) → (b : Bool) → meets P z ≡ b → b ≡ false
  unfolding turned meets
  no_node f z i true e = absurd (off z i (on_back F z (flat ss) (of_walk F a ca m w z i) (f (turned z) (turned_crack F z (of_walk F a ca m w z i)) e)))
  no_node f z i false e = refl

  add_walk : (node P a.x a.y ≡ true) ⊎ Nodes P (flat ss) → Good P (ss ++ ((a ∷ m) ∷ []))
  add_walk s = record {
    segment = λ t i. ⊎_elim (g.segment t) (λ i. subst (Segment P) (sym (eq_of_singleton i)) (walk_through P a.x a.y a m w, walk_ends F a ca m w from)) (in-cases ss i);
    cracked = λ c i. ⊎_elim (g.cracked c) (of_walk F a ca m w c) (in-cases (flat ss) (subst (In c) (flat_snoc ss (a ∷ m)) i));
    once = subst Once (sym (flat_snoc ss (a ∷ m))) (once_append (flat ss) (a ∷ m) g.once (walk_once F a.x a.y a m [] (ca, refl, refl) w) cross);
    closed = subst (Closed P) (sym (flat_snoc ss (a ∷ m))) closed;
  }
    where
      from : FromNode P a m
      from = ⊎_map (λ e. e) (λ (f : Nodes P (flat ss)) z i. no_node f z i (meets P z) refl) s

      closed : Closed P (flat ss ++ (a ∷ m))
      closed c k o e =
          ⊎_elim
          (λ (o : On c (flat ss)). on_left (following P c) (flat ss) (a ∷ m) (g.closed c k o e))
          (λ (o : On c (a ∷ m)). on_right_lem (following P c) (flat ss) (a ∷ m) (walk_closed F a ca m w from c k o e))
          (on_cases c (flat ss) (a ∷ m) o)

-- TRACING

module _ {P : Picture} (F : Framed P) where
  -- a dart's visit adds nothing, and its edge, if a crack, was there; or it adds the walk from it
  visit_elim : (Q : List (List Dart) → Type 0) (ss : List (List Dart)) (a : Dart) → ((crack P a ≡ true → On a (flat ss)) → Q ss)
      → ((m : List Dart) → crack P a ≡ true → (On a (flat ss) → ⊥) → Steps P a.x a.y a m → Q (ss ++ ((a ∷ m) ∷ []))) → Q (visit P ss a)
  unfolding visit
  visit_elim Q ss a same more = go (crack P a) refl (on a (flat ss)) refl
    where
      go : (p : Bool) → crack P a ≡ p → (q : Bool) → on a (flat ss) ≡ q → Q (elim (p && not q) [ true ↦ ss ++ (walk P (fuel P) a.x a.y a ∷ []) | false ↦ ss ])
      go true p true q = same (λ _. on_true a (flat ss) q)
      go true p false q = let r = the_walk F a p in subst (λ s. Q (ss ++ (s ∷ []))) (sym r.1) (more r.0 p (on_false a (flat ss) q) r.2)
      go false p q r = same (λ c. absurd (false≢true (sym p ∙ c)))

  pub visit_good : (ss : List (List Dart)) (a : Dart) → Good P ss → (node P a.x a.y ≡ true) ⊎ Nodes P (flat ss) → Good P (visit P ss a)
  visit_good ss a g s = visit_elim (Good P) ss a (λ _. g) (λ m c n w. add_walk F g a c n m w s)

  pub visit_keeps : (ss : List (List Dart)) (a c : Dart) → On c (flat ss) → On c (flat (visit P ss a))
  visit_keeps ss a c o = visit_elim (λ rs. On c (flat rs)) ss a (λ _. o) (λ m _ _ _. subst (On c) (sym (flat_snoc ss (a ∷ m))) (on_left c (flat ss) (a ∷ m) o))

  pub visit_holds : (ss : List (List Dart)) (a : Dart) → crack P a ≡ true → On a (flat (visit P ss a))
  visit_holds ss a c = visit_elim (λ rs. On a (flat rs)) ss a (λ f. f c) (λ m _ _ _. subst (On a) (sym (flat_snoc ss (a ∷ m))) (on_right_lem a (flat ss) (a ∷ m) (inl (here refl))))

  pub trace_good : (ds : List Dart) (ss : List (List Dart)) → Good P ss → ((a : Dart) → In a ds → (node P a.x a.y ≡ true) ⊎ Nodes P (flat ss)) → Good P (trace P ss ds)
  unfolding trace
  trace_good [] ss g f = g
  trace_good (a ∷ ds) ss g f =
      trace_good ds (visit P ss a) (visit_good ss a g (f a (here refl)))
      (λ b i. ⊎_map (λ e. e) (λ (n : Nodes P (flat ss)) c k e. visit_keeps ss a c (n c k e)) (f b (there i)))

  pub trace_keeps : (ds : List Dart) (ss : List (List Dart)) (c : Dart) → On c (flat ss) → On c (flat (trace P ss ds))
  unfolding trace
  trace_keeps [] ss c o = o
  trace_keeps (a ∷ ds) ss c o = trace_keeps ds (visit P ss a) c (visit_keeps ss a c o)

  pub trace_holds : (ds : List Dart) (ss : List (List Dart)) (c : Dart) → In c ds → crack P c ≡ true → On c (flat (trace P ss ds))
  unfolding trace
  trace_holds [] ss c i k = absurd (not-nil i)
  trace_holds (a ∷ ds) ss c (here e) k = trace_keeps ds (visit P ss a) c (on_path a c (flat (visit P ss a)) (sym e) (visit_holds ss a (ap (crack P) (sym e) ∙ k)))
  trace_holds (a ∷ ds) ss c (there i) k = trace_holds ds (visit P ss a) c i k

  pub none_good : Good P []
  unfolding flat
  none_good = record { segment = λ s i. absurd (not-nil i); cracked = λ c i. absurd (not-nil i); once = tt; closed = λ c k o e. absurd (⊎_elim not-nil not-nil o) }

  -- THE PARTITION
  pub segments_good : Good P (segments P)
  unfolding segments
  segments_good =
      trace_good (out (corners P)) (trace P [] (out (nodes P)))
      (trace_good (out (nodes P)) [] none_good (λ a i. inl (out_node P a i)))
      (λ a i. inr (λ c k e. trace_holds (out (nodes P)) [] c (crack_out_node F c k e) k))

  pub describes : Describes P (segments P)
  unfolding segments
  describes = record {
    segment = segments_good.segment;
    cracked = segments_good.cracked;
    whole = λ a c. trace_holds (out (corners P)) (trace P [] (out (nodes P))) a (crack_out F a c) c;
    once = segments_good.once;
  }
