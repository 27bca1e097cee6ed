-- The words of the definitions' records stand for their segments.
use Prim.Native.Nat.{ℕ, suc, ◌+◌, ◌*◌, ◌-◌, ◌/◌, ◌%◌, ◌≤◌, ◌<◌}
use mathlib.Core.Path.{◌≡◌, refl, sym, ap, ap₂, subst, ◌∙◌}
use mathlib.Core.Bool.{Bool, true, false, cond, not, true≢false}
use mathlib.Core.Logic.{◌⊎◌, inl, inr}
use mathlib.Core.List.{List, [], ◌∷◌, Memᴰ as In}
use native.Mathlib.Omega.{arith}
use native.Mathlib.Nat.{mul-le-mul, mul_assoc}
use native.Mathlib.Decide.{ℕ_discrete}
use lib.Dec.{eqb}
use lib.ListN.{length, get_or}
use borrow.Author.Tests.{eq-eqb, ne_eqb}
use Rattle.rules.specs.Picture.{Picture, picture, code, back_of, Dart, dart, turned, left, crack, node, ahead_x, ahead_y}
use Rattle.rules.specs.declared.Dir.{Dir}
use Rattle.rules.specs.declared.Dir.TheVariants.{N, E, S, W}
use Rattle.rules.specs.Graph.{nodes, corners, meets}
use Rattle.rules.specs.Face.{steps, first_step, last_step, out_entry, region, is_open, turn, successor, next}
use Rattle.rules.specs.Records.{node_at, node_record, point_records, NONE}
use Rattle.rules.proofs.Lattice.Frame.{Framed}
use Rattle.rules.proofs.Lattice.Darts.{turned_turned, turned_crack, crack_to_x, crack_to_y}
use Rattle.rules.proofs.Ground.Lists.{keep_in, in_keep, keep_few}
use Rattle.rules.proofs.Lattice.Grid.{crack_corner, length_rows}
use Rattle.rules.proofs.References.Steps.{forward_steps}
use Rattle.rules.proofs.References.Ends.{Reference, reference, last_in, first_crack, last_crack, step_left, open_last, first_reversed, last_reversed, region_reversed}
use Rattle.rules.proofs.CutList.Records.{first_point, record_of, segment_word_lem, node_word_lem, Numbered, numbered, unnumbered, point_word}
use Rattle.rules.proofs.Tracing.Counts.{has_step, segment_count_lem, crack_count}
use Rattle.rules.specs.Describes.{Open, Ring, Describes}
use Rattle.lattice.specs.declared.Size.{Size}
use Rattle.lattice.specs.Size.{Map, Corner, pic}
use Rattle.lattice.specs.Dirs.{dir}
use Rattle.lattice.specs.Walker.{dart_of}
use Rattle.lattice.proofs.Laws.{product}
use Rattle.lattice.proofs.Ways.{by_dir, code_small}
use Rattle.lattice.proofs.Frame.{framed}
use Rattle.assemble.specs.Words.{word_in, region_in, open_in, heading_in, node_in, next_at, step_in, first_in}
use Rattle.assemble.specs.Drawn.{Drawn, Pointed, Written}
use Rattle.assemble.proofs.FirstSteps.{first_forward, first_back}
use Rattle.assemble.proofs.Points.{step_is, first_x, first_y, second_x, second_y, last_points}

-- a direction's number as `heading` reads it
pub read_number : (d : Dir) → dir (code d % 4) ≡ d
read_number d = by_dir (λ d. dir (code d % 4) ≡ d) refl refl refl refl d

pub out_word_lem : (ss : List (List Dart)) (x y : ℕ) (d : Dir) → get_or (node_record ss (x, y)) (2 + code d) 0 ≡ out_entry ss (dart x y d)
unfolding node_record
out_word_lem ss x y N = refl
out_word_lem ss x y E = refl
out_word_lem ss x y S = refl
out_word_lem ss x y W = refl

-- THE PARITY of a reference: what holds of 2 i and of 2 i + 1 holds of all
pub by_side : (Q : ℕ → Type 0) (r : ℕ) → Q (2 * (r / 2)) → Q (suc (2 * (r / 2))) → Q r
by_side Q r p q = go (ℕ_discrete (r % 2) 0)
  where
    go : Dec (r % 2 ≡ 0) → Q r
    go (yes e) = subst Q (let z : 2 * (r / 2) ≡ r = omega arith in z) p
    go (no n) = subst Q (let z : suc (2 * (r / 2)) ≡ r = omega arith in z) q

leads : (P : Picture) (a : Dart) → node_at (nodes P) 0 (turned (turned a)).x (turned (turned a)).y ≡ node_at (nodes P) 0 (ahead_x (turned a)) (ahead_y (turned a))
unfolding turned
leads P a = refl

pub heads : (a : Dart) → back_of a.d ≡ (turned a).d
unfolding turned
heads a = refl

module _ (segs : List ℕ) (r : ℕ) (d : Dir) where
  pub heads_forward : r % 2 ≡ 0 → word_in segs r (7 - r % 2) ≡ code d → heading_in segs r ≡ d
  unfolding heading_in
  heads_forward e w = rw (w, eq-eqb (r % 2) 0 e) (read_number d)

  pub heads_back : (r % 2 ≡ 0 → ⊥) → word_in segs r (7 - r % 2) ≡ code d → heading_in segs r ≡ back_of d
  unfolding heading_in
  heads_back n w = rw (w, ne_eqb (r % 2) 0 n) (ap back_of (read_number d))

module _ (s : Size) (ls : List ℕ) (m : Map s ls) (ss : List (List Dart)) (D : Describes (pic s ls) ss) (nodeStore segs points : List ℕ) (h : Written (pic s ls) ss nodeStore segs points) where
  abbrev P : Picture
  P = pic s ls

  abbrev F : Framed P
  F = framed s ls

  nodes_few : length (nodes P) ≤ 268468225
  unfolding nodes corners picture
  nodes_few =
      omega (arith, keep_few (λ c. node P c.0 c.1) (corners P), length_rows (suc s.width) (suc s.height) 0, product (suc s.height) (suc s.width) (omega arith) (omega arith))

  in_nodes : (a : Dart) → crack P a ≡ true → node P a.x a.y ≡ true → In (a.x, a.y) (nodes P)
  unfolding nodes
  in_nodes a c n = in_keep (λ c. node P c.0 c.1) (corners P) (a.x, a.y) n (crack_corner F a c)

  not_in_nodes : (x y : ℕ) → node P x y ≡ false → In (x, y) (nodes P) → ⊥
  unfolding nodes
  not_in_nodes x y n i = true≢false (sym (keep_in (λ c. node P c.0 c.1) (corners P) (x, y) i).1 ∙ n)

  -- the words of the segment i
  module _ (i : ℕ) (b : i < length ss) where
    abbrev a : Dart
    a = first_step ss (2 * i)

    abbrev z : Dart
    z = last_step ss (2 * i)

    at_seg : (k : ℕ) → k < 8 → get_or segs (8 * i + k) 0 ≡ get_or (record_of P (first_point ss i) (steps ss (2 * i))) k 0
    at_seg k q =
        h.segment_words_lem (8 * i + k) (omega arith)
        ∙ segment_word_lem P ss 0 i k (first_point ss i) (omega arith) b q
        ∙ ap (λ s. get_or (record_of P (first_point ss i) s) k 0) (sym (forward_steps ss i))

    word0 : get_or segs (8 * i + 0) 0 ≡ first_point ss i
    unfolding record_of
    word0 = at_seg 0 (omega arith)

    word1 : get_or segs (8 * i + 1) 0 ≡ suc (length (steps ss (2 * i)))
    unfolding record_of
    word1 = at_seg 1 (omega arith)

    word2 : get_or segs (8 * i + 2) 0 ≡ node_at (nodes P) 0 a.x a.y
    unfolding record_of first_step
    word2 = at_seg 2 (omega arith)

    word3 : get_or segs (8 * i + 3) 0 ≡ node_at (nodes P) 0 (ahead_x z) (ahead_y z)
    unfolding record_of last_step
    word3 = at_seg 3 (omega arith)

    word4 : get_or segs (8 * i + 4) 0 ≡ region P ss (2 * i)
    unfolding record_of first_step region
    word4 = at_seg 4 (omega arith)

    word5 : get_or segs (8 * i + 5) 0 ≡ region P ss (suc (2 * i))
    unfolding record_of first_step
    word5 = at_seg 5 (omega arith) ∙ sym (region_reversed F D i b)

    word6 : get_or segs (8 * i + 6) 0 ≡ code a.d
    unfolding record_of first_step
    word6 = at_seg 6 (omega arith)

    word7 : is_open P ss (2 * i) ≡ true → get_or segs (8 * i + 7) 0 ≡ code z.d
    unfolding record_of first_step last_step is_open
    word7 o = at_seg 7 (omega arith) ∙ ap (λ (b : Bool). cond b (code (last_step ss (2 * i)).d) 0) o

    -- both sides are open, or both rings
    alike : is_open P ss (suc (2 * i)) ≡ is_open P ss (2 * i)
    unfolding is_open turned meets
    alike = ap (λ (c : Dart). node P c.x c.y) (first_reversed F D i b) ∙ go (reference F D (2 * i) (omega arith)).ends
      where
        go : Open P a z ⊎ Ring P a z → node P (ahead_x z) (ahead_y z) ≡ node P a.x a.y
        go (inl e) = e.1 ∙ sym e.0
        go (inr e) = ap₂ (node P) e.1 e.2

    opens_forward : not (eqb (get_or segs (8 * i + 2) 0) NONE) ≡ is_open P ss (2 * i)
    unfolding is_open
    opens_forward = go (node P a.x a.y) refl
      where
        go : (o : Bool) → node P a.x a.y ≡ o → not (eqb (get_or segs (8 * i + 2) 0) NONE) ≡ node P a.x a.y
        go true o =
            let q = numbered (nodes P) 0 a.x a.y (in_nodes a (first_crack F D (2 * i) (omega arith)) o) in
            ap not (ne_eqb (get_or segs (8 * i + 2) 0) NONE (λ w. omega (arith, word2, q.1, q.2, nodes_few))) ∙ sym o
        go false o = ap not (eq-eqb (get_or segs (8 * i + 2) 0) NONE (word2 ∙ unnumbered (nodes P) 0 a.x a.y (not_in_nodes a.x a.y o))) ∙ sym o

  -- where an open reference ends
  module _ (r : ℕ) (b : r < 2 * length ss) (o : is_open P ss r ≡ true) where
    abbrev l : Dart
    l = last_step ss r

    abbrev X : ℕ
    X = ahead_x l

    abbrev Y : ℕ
    Y = ahead_y l

    at_node : Numbered (nodes P) 0 X Y
    unfolding nodes turned meets
    at_node = numbered (nodes P) 0 X Y (in_nodes (turned l) (turned_is_crack) (open_last F D r b o))
      where
        turned_is_crack : crack P (turned l) ≡ true
        turned_is_crack = turned_crack F l (last_crack F D r b)

    node_at_lem : (n k : ℕ) → n ≡ node_at (nodes P) 0 X Y → k < 6 → get_or nodeStore (6 * n + k) 0 ≡ get_or (node_record ss (X, Y)) k 0
    node_at_lem n k e q =
        let w = at_node in
        let z : n ≡ w.0 = omega (arith, w.2) in
        let u = w.1 in
        h.node_words_lem (6 * n + k) (omega arith) ∙ node_word_lem ss (nodes P) n k (omega arith) q ∙ ap (λ (c : ℕ × ℕ). get_or (node_record ss c) k 0) (ap (λ n. get_or (nodes P) n (0, 0)) z ∙ w.3)

    module _ (n : ℕ) (d : Dir) (g : ℕ) (en : n ≡ node_at (nodes P) 0 X Y) (ed : d ≡ l.d) (eg : g ≡ region P ss r) where
      node_x : node_in nodeStore n 0 ≡ X
      unfolding node_record
      node_x = node_at_lem n 0 en (omega arith)

      node_y : node_in nodeStore n 1 ≡ Y
      unfolding node_record
      node_y = node_at_lem n 1 en (omega arith)

      next_is : next_at P nodeStore n d g ≡ next P ss r
      unfolding next_at next turn
      next_is =
          let f : Dir = successor P X Y l.d (left P l) in
          let s : successor P (node_in nodeStore n 0) (node_in nodeStore n 1) d g ≡ f =
          rw (node_x, node_y, ed, eg) (ap (successor P X Y l.d) (sym (step_left F D l r b (last_in F D r b)))) in
          ap (λ (e : Dir). node_in nodeStore n (2 + code e)) s ∙ node_at_lem n (2 + code f) en (omega (arith, code_small f)) ∙ out_word_lem ss X Y f

      ends_is : Corner s (node_in nodeStore n 0) (node_in nodeStore n 1)
      unfolding picture
      ends_is = let p = crack_to_x F l (last_crack F D r b) in let q = crack_to_y F l (last_crack F D r b) in record { across = omega (arith, node_x); down = omega (arith, node_y) }

  -- THE FIRST STEP, from the points of the segment i
  module _ (i : ℕ) (b : i < length ss) where
    abbrev own : Reference P ss (2 * i)
    own = reference F D (2 * i) (omega arith)

    -- where its points are
    abbrev from : ℕ
    from = first_point ss i

    count : get_or segs (8 * i + 1) 0 ≡ suc (suc (length own.rest))
    count = word1 i b ∙ ap (λ (l : List Dart). suc (length l)) own.all

    at_point : (m k : ℕ) → m ≡ 2 * from + k → k < 2 * suc (suc (length own.rest)) → get_or points m 0 ≡ get_or (point_records (first_step ss (2 * i) ∷ own.rest)) k 0
    at_point m k e q =
        let l : get_or ss i [] ≡ first_step ss (2 * i) ∷ own.rest = sym (forward_steps ss i) ∙ own.all in
        let w = point_word k ss (has_step F D) i b (omega (arith, ap length l)) in
        rw e (h.point_words_lem (2 * from + k) w.0 ∙ w.1 ∙ ap (λ (s : List Dart). get_or (point_records s) k 0) l)

    forward_step : dart_of (step_in points from (from + 1)) ≡ first_step ss (2 * i)
    forward_step =
        let a = first_step ss (2 * i) in
        let l = own.rest in
        step_is F points from (from + 1) a (first_crack F D (2 * i) (omega arith))
        (at_point (2 * from) 0 (omega arith) (omega arith) ∙ first_x a l)
        (at_point (2 * from + 1) 1 (omega arith) (omega arith) ∙ first_y a l)
        (at_point (2 * (from + 1)) 2 (omega arith) (omega arith) ∙ second_x P a l own.through)
        (at_point (2 * (from + 1) + 1) 3 (omega arith) (omega arith) ∙ second_y P a l own.through)

    -- the points k of the last step
    at_end : (m k : ℕ) → m ≡ 2 * from + (2 * length own.rest + k) → k < 4 → get_or points m 0 ≡ get_or (point_records (last_step ss (2 * i) ∷ [])) k 0
    at_end m k e q =
        at_point m (2 * length own.rest + k) e (omega arith)
        ∙ last_points (first_step ss (2 * i)) own.rest k
        ∙ ap (λ (z : Dart). get_or (point_records (z ∷ [])) k 0) (sym own.last)

    backward_step : (n : ℕ) → n ≡ suc (suc (length own.rest)) → dart_of (step_in points (from + n - 1) (from + n - 1 - 1)) ≡ first_step ss (suc (2 * i))
    unfolding turned point_records
    backward_step n e =
        let z = last_step ss (2 * i) in
        let c = last_crack F D (2 * i) (omega arith) in
        let t = turned_turned F z c in
        step_is F points (from + n - 1) (from + n - 1 - 1) (turned z) (turned_crack F z c)
        (at_end (2 * (from + n - 1)) 2 (omega arith) (omega arith))
        (at_end (2 * (from + n - 1) + 1) 3 (omega arith) (omega arith))
        (at_end (2 * (from + n - 1 - 1)) 0 (omega arith) (omega arith) ∙ ap (λ (b : Dart). b.x) (sym t))
        (at_end (2 * (from + n - 1 - 1) + 1) 1 (omega arith) (omega arith) ∙ ap (λ (b : Dart). b.y) (sym t))
        ∙ sym (first_reversed F D i b)

  -- SIDE BY SIDE: 2 i and 2 i + 1

  abbrev Right : ℕ → Type 0
  Right r =
      r < 2 * length ss
      → (region_in segs r ≡ region P ss r)
      × (open_in segs r ≡ is_open P ss r)
      × (is_open P ss r ≡ true → (word_in segs r (3 - r % 2) ≡ node_at (nodes P) 0 (ahead_x (last_step ss r)) (ahead_y (last_step ss r))) × (heading_in segs r ≡ (last_step ss r).d))

  forward : (i : ℕ) → Right (2 * i)
  forward i b =
      let j : 2 * i / 2 ≡ i = omega arith in
      let o : 2 * i % 2 ≡ 0 = omega arith in
      let k : i < length ss = omega arith in (
        rw (j, o) (word4 i k),
        rw j (opens_forward i k),
        λ e. (rw (j, o) (word3 i k), heads_forward segs (2 * i) (last_step ss (2 * i)).d o (rw (o, j) (word7 i k e))),
      )

  backward : (i : ℕ) → Right (suc (2 * i))
  backward i b =
      let j : suc (2 * i) / 2 ≡ i = omega arith in
      let o : suc (2 * i) % 2 ≡ 1 = omega arith in
      let k : i < length ss = omega arith in
      let a = first_step ss (2 * i) in
      let v = last_reversed F D i k in
      let t = turned_turned F a (first_crack F D (2 * i) (omega arith)) in (
        rw (j, o) (word5 i k),
        rw j (opens_forward i k ∙ sym (alike i k)),
        λ e. (
          rw (j, o) (word2 i k ∙ ap (λ (c : Dart). node_at (nodes P) 0 c.x c.y) (sym t) ∙ leads P a ∙ ap (λ (c : Dart). node_at (nodes P) 0 (ahead_x c) (ahead_y c)) (sym v)),
          heads_back segs (suc (2 * i)) a.d (λ e. omega (arith, o)) (rw (o, j) (word6 i k)) ∙ heads a ∙ ap (λ (c : Dart). c.d) (sym v),
        ),
      )

  abbrev Begins : ℕ → Type 0
  Begins r = r < 2 * length ss → (2 ≤ word_in segs r 1) × (dart_of (first_in segs points r) ≡ first_step ss r)

  forward_begins : (i : ℕ) → Begins (2 * i)
  forward_begins i b =
      let j : 2 * i / 2 ≡ i = omega arith in
      let k : i < length ss = omega arith in (
        rw j (omega (arith, count i k)),
        ap dart_of (sym (first_forward segs points (2 * i) (first_point ss i) 0 (rw j (sym (word0 i k))) (omega arith))) ∙ forward_step i k,
      )

  backward_begins : (i : ℕ) → Begins (suc (2 * i))
  backward_begins i b =
      let j : suc (2 * i) / 2 ≡ i = omega arith in
      let k : i < length ss = omega arith in
      let n = suc (suc (length (own i k).rest)) in (
        rw j (omega (arith, count i k)),
        ap dart_of (sym (first_back segs points (suc (2 * i)) (first_point ss i) n (rw j (sym (word0 i k))) (sym (ap (λ j. get_or segs (8 * j + 1) 0) j ∙ count i k)) (λ e. omega arith)))
            ∙ backward_step i k n refl,
      )

  pub pointed : Pointed segs points ss
  pointed = record {
    two = λ r b. (by_side Begins r (forward_begins (r / 2)) (backward_begins (r / 2)) b).0;
    firsts = λ r b. (by_side Begins r (forward_begins (r / 2)) (backward_begins (r / 2)) b).1;
  }

  right_of_lem : (r : ℕ) → Right r
  right_of_lem r = by_side Right r (forward (r / 2)) (backward (r / 2))

  pub drawn : Drawn s ls nodeStore segs ss
  unfolding picture
  drawn = record {
    describes = D;
    few = omega (arith, segment_count_lem F D, crack_count F, mul-le-mul m.wide m.high, mul_assoc 2 s.width s.height);
    regions = λ r b. (right_of_lem r b).0;
    opens = λ r b. (right_of_lem r b).1;
    nexts = λ r b o. let q = right_of_lem r b in next_is r b o (word_in segs r (3 - r % 2)) (heading_in segs r) (region_in segs r) (q.2 o).0 (q.2 o).1 q.0;
    ends = λ r b o. let q = right_of_lem r b in ends_is r b o (word_in segs r (3 - r % 2)) (heading_in segs r) (region_in segs r) (q.2 o).0 (q.2 o).1 q.0;
  }
