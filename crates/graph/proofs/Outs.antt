-- The out entries that the segments write are the nodes' entries.
use Prim.Native.Nat.{ℕ, zero, suc, ◌+◌, ◌*◌, ◌/◌, ◌%◌, ◌≤◌, ◌<◌}
use mathlib.Core.Path.{◌≡◌, refl, sym, ap, ap₂, subst, ◌∙◌}
use mathlib.Core.Bool.{Bool, true, false, cond, ◌&&◌}
use mathlib.Core.Logic.{◌⊎◌, inl, inr}
use mathlib.Core.List.{List, [], ◌∷◌, Memᴰ as In}
use native.Mathlib.Omega.{arith}
use native.Mathlib.Decide.{ℕ_discrete}
use lib.Dec.{eqb}
use lib.ListN.{length, get_or, set, length-set}
use lib.Seq.{sets, get_or-set_same, get_or-set_other, ext_get_or}
use borrow.Author.Tests.{eqb-true, eq-eqb}
use Rattle.rules.specs.Lists.{keep, upto, Distinct}
use Rattle.rules.specs.Picture.{Picture, code, Dart, dart, turned, crack, node}
use Rattle.rules.specs.Graph.{meets, nodes}
use Rattle.rules.specs.Face.{no_dart, refs, first_step, last_step, is_open, out_entry}
use Rattle.rules.specs.Records.{NONE, node_at, node_record, node_words}
use Rattle.rules.proofs.Lattice.Frame.{Framed}
use Rattle.rules.proofs.Lattice.Darts.{dart_path, crack_x, crack_y}
use Rattle.rules.proofs.Ground.Lists.{in_at}
use Rattle.rules.proofs.References.Steps.{forward_steps}
use Rattle.rules.proofs.References.Ends.{reference, first_crack, open_last, first_reversed}
use Rattle.rules.proofs.References.OutEntries.{out_entry_lem, out_entry_only, out_entry_none}
use Rattle.rules.specs.Describes.{Open, Ring, Describes}
use Rattle.lattice.specs.Dirs.{dir}
use Rattle.lattice.proofs.Ways.{dir_code, code_dir, code_small}
use Rattle.graph.specs.Walk.{end_of}
use Rattle.graph.specs.Words.{entry_slot, entered, entries}
use Rattle.rules.proofs.CutList.Lengths.{length_nodes}
use Rattle.rules.proofs.CutList.Records.{Numbered, numbered, node_word_lem}
use Rattle.store.proofs.Writes.{set_sets}
use Rattle.graph.proofs.Numbering.{nodes_distinct, nodes_node, node_nodes}
use Rattle.graph.proofs.Stages.{length_entered, length_entries}

abbrev Corners : Type 0
Corners = List (ℕ × ℕ)

abbrev nth : Corners → ℕ → ℕ × ℕ
nth l k = get_or l k (0, 0)

-- THE NUMBER of the corner with a number

at_nth : (l : Corners) (i k : ℕ) → Distinct l → k < length l → node_at l i (nth l k).0 (nth l k).1 ≡ i + k
unfolding node_at
at_nth [] i k d p = absurd (omega arith)
at_nth (c ∷ l) i zero d p = rw (eq-eqb c.0 c.0 refl, eq-eqb c.1 c.1 refl, node_at) (omega arith)
at_nth (c ∷ l) i (suc k) d p = go (eqb c.0 (nth l k).0) refl (eqb c.1 (nth l k).1) refl (at_nth l (suc i) k d.1 (omega arith))
  where
    go : (u : Bool) → eqb c.0 (nth l k).0 ≡ u → (v : Bool) → eqb c.1 (nth l k).1 ≡ v → node_at l (suc i) (nth l k).0 (nth l k).1 ≡ suc i + k
        → elim (u && v) [ true ↦ i | false ↦ node_at l (suc i) (nth l k).0 (nth l k).1 ] ≡ i + suc k
    go true u true v e =
        let z : ◌≡◌ {A = ℕ × ℕ} (nth l k) c = λ j. (sym (eqb-true c.0 (nth l k).0 u) j, sym (eqb-true c.1 (nth l k).1 v) j) in
        absurd (d.0 (subst (λ (c : ℕ × ℕ). In c l) z (in_at l k (0, 0) (omega arith))))
    go true u false v e = e ∙ omega arith
    go false u v r e = e ∙ omega arith

-- WORDS THAT ARE SET to what they should be

set_keeps : (l : List ℕ) (k v j t : ℕ) → j < length l → (k ≡ j → v ≡ t) → get_or l j 0 ≡ t → get_or (set l k v) j 0 ≡ t
set_keeps l k v j t p f e = go (ℕ_discrete j k)
  where
    go : Dec (j ≡ k) → get_or (set l k v) j 0 ≡ t
    go (yes q) = rw q (get_or-set_same l k v 0 (omega arith) ∙ f (sym q))
    go (no n) = get_or-set_other l k j v 0 n ∙ e

set_hits : (l : List ℕ) (k v j t : ℕ) → j < length l → k ≡ j → v ≡ t → get_or (set l k v) j 0 ≡ t
set_hits l k v j t p e f = rw e (get_or-set_same l j v 0 p ∙ f)

set_front : (l w : List ℕ) (j v : ℕ) → j < length w → set (sets l 0 w) j v ≡ sets l 0 (set w j v)
set_front l w j v p = let e : 0 + j ≡ j = omega arith in rw e at (set_sets l 0 j v w p)

module _ (P : Picture) (j t : ℕ) where
  abbrev first : List Dart → Dart
  first s = get_or s 0 no_dart

  abbrev Starts : List Dart → Type 0
  Starts s = node P (first s).x (first s).y ≡ true

  -- what the segment s, number i, sets at j is t
  abbrev Agree : ℕ → List Dart → Type 0
  Agree i s = Starts s → (entry_slot P (first s) ≡ j → 2 * i ≡ t) × (entry_slot P (turned (end_of s)) ≡ j → 2 * i + 1 ≡ t)

  abbrev Hit : List Dart → Type 0
  Hit s = Starts s × ((entry_slot P (first s) ≡ j) ⊎ (entry_slot P (turned (end_of s)) ≡ j))

  entered_keeps : (l : List ℕ) (i : ℕ) (s : List Dart) → j < length l → Agree i s → get_or l j 0 ≡ t → get_or (entered P l i s) j 0 ≡ t
  unfolding entered
  entered_keeps l i s p a e = go (node P (first s).x (first s).y) refl
    where
      go : (b : Bool) → node P (first s).x (first s).y ≡ b → get_or (cond b (set (set l (entry_slot P (first s)) (2 * i)) (entry_slot P (turned (end_of s))) (2 * i + 1)) l) j 0 ≡ t
      go true h = set_keeps (set l (entry_slot P (first s)) (2 * i)) (entry_slot P (turned (end_of s))) (2 * i + 1) j t (simp length-set p) (a h).1 (set_keeps l (entry_slot P (first s)) (2 * i) j t p (a h).0 e)
      go false h = e

  entered_hits : (l : List ℕ) (i : ℕ) (s : List Dart) → j < length l → Agree i s → Hit s → get_or (entered P l i s) j 0 ≡ t
  unfolding entered
  entered_hits l i s p a h = rw h.0 (go h.1)
    where
      go : (entry_slot P (first s) ≡ j) ⊎ (entry_slot P (turned (end_of s)) ≡ j) → get_or (set (set l (entry_slot P (first s)) (2 * i)) (entry_slot P (turned (end_of s))) (2 * i + 1)) j 0 ≡ t
      go (inl e) = set_keeps (set l (entry_slot P (first s)) (2 * i)) (entry_slot P (turned (end_of s))) (2 * i + 1) j t (simp length-set p) (a h.0).1 (set_hits l (entry_slot P (first s)) (2 * i) j t p e ((a h.0).0 e))
      go (inr e) = set_hits (set l (entry_slot P (first s)) (2 * i)) (entry_slot P (turned (end_of s))) (2 * i + 1) j t (simp length-set p) e ((a h.0).1 e)

  -- of all segments from the number i on
  abbrev Agrees : ℕ → List (List Dart) → Type 0
  Agrees i ss = (m : ℕ) → m < length ss → Agree (i + m) (get_or ss m [])

  here_agree : (i : ℕ) (s : List Dart) (ss : List (List Dart)) → Agrees i (s ∷ ss) → Agree i s
  here_agree i s ss a = subst (λ (n : ℕ). Agree n s) (omega arith) (a 0 (omega arith))

  later_agree : (i : ℕ) (s : List Dart) (ss : List (List Dart)) → Agrees i (s ∷ ss) → Agrees (suc i) ss
  later_agree i s ss a m p = subst (λ (n : ℕ). Agree n (get_or ss m [])) (omega arith) (a (suc m) (omega arith))

  entries_keeps : (l : List ℕ) (i : ℕ) (ss : List (List Dart)) → j < length l → Agrees i ss → get_or l j 0 ≡ t → get_or (entries P l i ss) j 0 ≡ t
  unfolding entries
  entries_keeps l i [] p a e = e
  entries_keeps l i (s ∷ ss) p a e =
      entries_keeps (entered P l i s) (suc i) ss (omega (arith, length_entered P l i s)) (later_agree i s ss a) (entered_keeps l i s p (here_agree i s ss a) e)

  entries_hits : (l : List ℕ) (i : ℕ) (ss : List (List Dart)) (m : ℕ) → j < length l → Agrees i ss → m < length ss → Hit (get_or ss m []) → get_or (entries P l i ss) j 0 ≡ t
  unfolding entries
  entries_hits l i [] m p a k h = absurd (omega arith)
  entries_hits l i (s ∷ ss) zero p a k h =
      entries_keeps (entered P l i s) (suc i) ss (omega (arith, length_entered P l i s)) (later_agree i s ss a) (entered_hits l i s p (here_agree i s ss a) h)
  entries_hits l i (s ∷ ss) (suc m) p a k h =
      entries_hits (entered P l i s) (suc i) ss m (omega (arith, length_entered P l i s)) (later_agree i s ss a) (omega arith) h

-- THE ENTRIES

module _ {P : Picture} (F : Framed P) {ss : List (List Dart)} (D : Describes P ss) where
  abbrev seg : ℕ → List Dart
  seg n = get_or ss n []

  seg_first : (n : ℕ) → first_step ss (2 * n) ≡ get_or (seg n) 0 no_dart
  unfolding first_step
  seg_first n = ap (λ (s : List Dart). get_or s 0 no_dart) (forward_steps ss n)

  seg_last : (n : ℕ) → last_step ss (2 * n) ≡ end_of (seg n)
  unfolding last_step
  seg_last n = ap end_of (forward_steps ss n)

  seg_back : (n : ℕ) → n < length ss → first_step ss (suc (2 * n)) ≡ turned (end_of (seg n))
  seg_back n p = first_reversed F D n p ∙ ap turned (seg_last n)

  -- an open segment leads to a node
  ends_open : (n : ℕ) → n < length ss → node P (get_or (seg n) 0 no_dart).x (get_or (seg n) 0 no_dart).y ≡ true → node P (turned (end_of (seg n))).x (turned (end_of (seg n))).y ≡ true
  unfolding meets turned is_open
  ends_open n p e = ap (meets P) (sym (seg_last n)) ∙ open_last F D (2 * n) (omega arith) (ap (λ (b : Dart). node P b.x b.y) (seg_first n) ∙ e)

  -- and one that leads to a node is open
  opens_end : (n : ℕ) → n < length ss → node P (turned (end_of (seg n))).x (turned (end_of (seg n))).y ≡ true → node P (get_or (seg n) 0 no_dart).x (get_or (seg n) 0 no_dart).y ≡ true
  unfolding meets turned
  opens_end n p e = ap (λ (b : Dart). node P b.x b.y) (sym (seg_first n)) ∙ go (reference F D (2 * n) (omega arith)).ends
    where
      there_node : meets P (last_step ss (2 * n)) ≡ true
      there_node = ap (meets P) (seg_last n) ∙ e

      go : Open P (first_step ss (2 * n)) (last_step ss (2 * n)) ⊎ Ring P (first_step ss (2 * n)) (last_step ss (2 * n)) → node P (first_step ss (2 * n)).x (first_step ss (2 * n)).y ≡ true
      go (inl o) = o.0
      go (inr o) = ap₂ (node P) (sym o.1) (sym o.2) ∙ there_node

  -- the number of a reference's first corner, where that is a node
  module _ (r : ℕ) (k : r < 2 * length ss) (b : Dart) (f : first_step ss r ≡ b) (n : node P b.x b.y ≡ true) where
    is_crack : crack P b ≡ true
    is_crack = ap (crack P) (sym f) ∙ first_crack F D r k

    its_place : Numbered (nodes P) 0 b.x b.y
    its_place = numbered (nodes P) 0 b.x b.y (node_nodes P b.x b.y (crack_x F b is_crack) (crack_y F b is_crack) n)

    -- a slot says which dart it is of
    slot_dart : (i d : ℕ) → d < 4 → entry_slot P b ≡ 6 * i + (2 + d) → b ≡ dart (nth (nodes P) i).0 (nth (nodes P) i).1 (dir d)
    slot_dart i d p e =
        let q = its_place in
        let c = code_small b.d in
        let u : q.0 ≡ i = omega (arith, q.2) in
        let v : code b.d ≡ d = omega (arith, q.2) in
        let w : nth (nodes P) i ≡ (b.x, b.y) = ap (nth (nodes P)) (sym u) ∙ q.3 in
        dart_path b (dart (nth (nodes P) i).0 (nth (nodes P) i).1 (dir d)) (sym (ap (λ (c : ℕ × ℕ). c.0) w)) (sym (ap (λ (c : ℕ × ℕ). c.1) w)) (sym (dir_code b.d) ∙ ap dir v)

    slot_entry : (i d : ℕ) → d < 4 → entry_slot P b ≡ 6 * i + (2 + d) → r ≡ out_entry ss (dart (nth (nodes P) i).0 (nth (nodes P) i).1 (dir d))
    slot_entry i d p e = out_entry_only F D b is_crack n r k f ∙ ap (out_entry ss) (slot_dart i d p e)

    slot_not : (i m : ℕ) → m < 2 → entry_slot P b ≡ 6 * i + m → ⊥
    slot_not i m p e = let c = code_small b.d in omega arith

  -- each word of the nodes
  module _ (i : ℕ) (p : i < length (nodes P)) where
    abbrev at : ℕ × ℕ
    at = nth (nodes P) i

    low : (m : ℕ) → m < 6 → 6 * i + m < length (node_words [] (nodes P))
    low m q = omega (arith, length_nodes [] (nodes P))

    node_here : node P at.0 at.1 ≡ true
    node_here = nodes_node P at.0 at.1 (in_at (nodes P) i (0, 0) p)

    -- x and y
    plain : (m : ℕ) → m < 2 → get_or (node_record ss at) m 0 ≡ get_or (node_record [] at) m 0 → get_or (entries P (node_words [] (nodes P)) 0 ss) (6 * i + m) 0 ≡ get_or (node_record ss at) m 0
    plain m q e =
        entries_keeps P (6 * i + m) (get_or (node_record ss at) m 0) (node_words [] (nodes P)) 0 ss (low m (omega arith))
        (λ n k h. (
          λ z. absurd (slot_not (2 * n) (omega arith) (get_or (seg n) 0 no_dart) (seg_first n) h i m q z),
          λ z. absurd (slot_not (suc (2 * n)) (omega arith) (turned (end_of (seg n))) (seg_back n k) (ends_open n k h) i m q z),
        ))
        (node_word_lem [] (nodes P) i m p (omega arith) ∙ sym e)

    -- the entry in the direction d
    module _ (d : ℕ) (q : d < 4) where
      abbrev a : Dart
      a = dart at.0 at.1 (dir d)

      agrees : Agrees P (6 * i + (2 + d)) (out_entry ss a) 0 ss
      agrees n k h = (
        λ z. omega (arith, slot_entry (2 * n) (omega arith) (get_or (seg n) 0 no_dart) (seg_first n) h i d q z),
        λ z. omega (arith, slot_entry (suc (2 * n)) (omega arith) (turned (end_of (seg n))) (seg_back n k) (ends_open n k h) i d q z),
      )

      its_slot : (b : Dart) → b ≡ a → entry_slot P b ≡ 6 * i + (2 + d)
      its_slot b e = ap (entry_slot P) e ∙ rw (at_nth (nodes P) 0 i (nodes_distinct P) p, code_dir d q) (omega arith)

      hit : crack P a ≡ true → (n : ℕ) × (n < length ss) × Hit P (6 * i + (2 + d)) (out_entry ss a) (seg n)
      hit c = go (ℕ_discrete (r % 2) 0)
        where
          r : ℕ
          r = out_entry ss a

          o : (r < 2 * length ss) × (first_step ss r ≡ a)
          o = out_entry_lem F D a c node_here

          go : Dec (r % 2 ≡ 0) → (n : ℕ) × (n < length ss) × Hit P (6 * i + (2 + d)) (out_entry ss a) (seg n)
          go (yes e) =
              let n = r / 2 in
              let z : r ≡ 2 * n = omega arith in
              let u : get_or (seg n) 0 no_dart ≡ a = sym (seg_first n) ∙ ap (first_step ss) (sym z) ∙ o.1 in
              (n, omega (arith, o.0), (ap (λ (b : Dart). node P b.x b.y) u ∙ node_here, inl (its_slot (get_or (seg n) 0 no_dart) u)))
          go (no e) =
              let n = r / 2 in
              let z : r ≡ suc (2 * n) = omega arith in
              let k : n < length ss = omega (arith, o.0) in
              let u : turned (end_of (seg n)) ≡ a = sym (seg_back n k) ∙ ap (first_step ss) (sym z) ∙ o.1 in
              (n, k, (opens_end n k (ap (λ (b : Dart). node P b.x b.y) u ∙ node_here), inr (its_slot (turned (end_of (seg n))) u)))

      entry : get_or (node_record [] at) (2 + d) 0 ≡ NONE → get_or (entries P (node_words [] (nodes P)) 0 ss) (6 * i + (2 + d)) 0 ≡ out_entry ss a
      entry e = go (crack P a) refl
        where
          go : (b : Bool) → crack P a ≡ b → get_or (entries P (node_words [] (nodes P)) 0 ss) (6 * i + (2 + d)) 0 ≡ out_entry ss a
          go true c = let h = hit c in entries_hits P (6 * i + (2 + d)) (out_entry ss a) (node_words [] (nodes P)) 0 ss h.0 (low (2 + d) (omega arith)) agrees h.1 h.2
          go false c =
              entries_keeps P (6 * i + (2 + d)) (out_entry ss a) (node_words [] (nodes P)) 0 ss (low (2 + d) (omega arith)) agrees
              (node_word_lem [] (nodes P) i (2 + d) p (omega arith) ∙ e ∙ sym (out_entry_none F D a c))

    word : (m : ℕ) → m < 6 → get_or (entries P (node_words [] (nodes P)) 0 ss) (6 * i + m) 0 ≡ get_or (node_record ss at) m 0
    unfolding node_record out_entry refs upto keep
    word zero q = plain 0 (omega arith) refl
    word (suc zero) q = plain 1 (omega arith) refl
    word (suc (suc zero)) q = entry 0 (omega arith) refl
    word (suc (suc (suc zero))) q = entry 1 (omega arith) refl
    word (suc (suc (suc (suc zero)))) q = entry 2 (omega arith) refl
    word (suc (suc (suc (suc (suc zero))))) q = entry 3 (omega arith) refl
    word (suc (suc (suc (suc (suc (suc m)))))) q = absurd (omega arith)

  entries_words : entries P (node_words [] (nodes P)) 0 ss ≡ node_words ss (nodes P)
  entries_words =
      ext_get_or 0 (entries P (node_words [] (nodes P)) 0 ss) (node_words ss (nodes P))
      (length_entries P (node_words [] (nodes P)) 0 ss ∙ length_nodes [] (nodes P) ∙ sym (length_nodes ss (nodes P)))
      each
    where
      each : (j : ℕ) → j < length (entries P (node_words [] (nodes P)) 0 ss) → get_or (entries P (node_words [] (nodes P)) 0 ss) j 0 ≡ get_or (node_words ss (nodes P)) j 0
      each j q =
          let z : j ≡ 6 * (j / 6) + j % 6 = omega arith in
          let k : j / 6 < length (nodes P) = omega (arith, length_entries P (node_words [] (nodes P)) 0 ss, length_nodes [] (nodes P)) in
          let m : j % 6 < 6 = omega arith in
          rw z (word (j / 6) k (j % 6) m ∙ sym (node_word_lem ss (nodes P) (j / 6) (j % 6) k m))

  -- in a store that may be too short for them
  slot_low : (r : ℕ) → r < 2 * length ss → (b : Dart) → first_step ss r ≡ b → node P b.x b.y ≡ true → entry_slot P b < 6 * length (nodes P)
  slot_low r k b f n = let q = its_place r k b f n in let c = code_small b.d in omega (arith, q.1, q.2)

  entered_store : (l w : List ℕ) (n : ℕ) → n < length ss → length w ≡ 6 * length (nodes P) → entered P (sets l 0 w) n (seg n) ≡ sets l 0 (entered P w n (seg n))
  unfolding entered
  entered_store l w n k e = go (node P (get_or (seg n) 0 no_dart).x (get_or (seg n) 0 no_dart).y) refl
    where
      x : ℕ
      x = entry_slot P (get_or (seg n) 0 no_dart)

      y : ℕ
      y = entry_slot P (turned (end_of (seg n)))

      go : (b : Bool) → node P (get_or (seg n) 0 no_dart).x (get_or (seg n) 0 no_dart).y ≡ b
          → cond b (set (set (sets l 0 w) x (2 * n)) y (2 * n + 1)) (sets l 0 w) ≡ sets l 0 (cond b (set (set w x (2 * n)) y (2 * n + 1)) w)
      go true h =
          let p : x < length w = omega (arith, slot_low (2 * n) (omega arith) (get_or (seg n) 0 no_dart) (seg_first n) h) in
          let q : y < length (set w x (2 * n)) = omega (arith, length-set w x (2 * n), slot_low (suc (2 * n)) (omega arith) (turned (end_of (seg n))) (seg_back n k) (ends_open n k h)) in
          ap (λ (m : List ℕ). set m y (2 * n + 1)) (set_front l w x (2 * n) p) ∙ set_front l (set w x (2 * n)) y (2 * n + 1) q
      go false h = refl

  in_store : (l : List ℕ) (i : ℕ) (w : List ℕ) (ts : List (List Dart)) → length w ≡ 6 * length (nodes P) → ((n : ℕ) → n < length ts → get_or ts n [] ≡ seg (i + n)) → i + length ts ≤ length ss
      → entries P (sets l 0 w) i ts ≡ sets l 0 (entries P w i ts)
  unfolding entries
  in_store l i w [] e f k = refl
  in_store l i w (s ∷ ts) e f k =
      let z : i + 0 ≡ i = omega arith in
      let q : s ≡ seg i = f 0 (omega arith) ∙ ap seg z in
      ap (λ (m : List ℕ). entries P m (suc i) ts) (rw q (entered_store l w i (omega arith) e))
      ∙ in_store l (suc i) (entered P w i s) ts (length_entered P w i s ∙ e) (λ n p. f (suc n) (omega arith) ∙ ap seg (omega arith)) (omega arith)

  pub outs_written : (l : List ℕ) → entries P (sets l 0 (node_words [] (nodes P))) 0 ss ≡ sets l 0 (node_words ss (nodes P))
  outs_written l = in_store l 0 (node_words [] (nodes P)) ss (length_nodes [] (nodes P)) (λ n p. ap seg (omega arith)) (omega arith) ∙ ap (sets l 0) entries_words
