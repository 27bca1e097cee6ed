-- The lists of nodes and bends in the work words: none yet, one corner more, all of them.
use Prim.Native.Nat.{ℕ, suc, ◌+◌, ◌*◌, ◌≤◌, ◌<◌}
use mathlib.Core.Path.{◌≡◌, refl, sym, ap, ap₂, subst, ◌∙◌}
use mathlib.Core.Bool.{Bool, true, false, not, ◌&&◌}
use mathlib.Core.Logic.{◌⊎◌, inl, inr, ⊎_elim}
use mathlib.Core.List.Memᴰ.{append_cases as in-cases}
use mathlib.Core.List.Memᴰ.{eq_of_singleton}
use mathlib.Core.List.Memᴰ.{head as here}
use mathlib.Core.List.Memᴰ.{not-nil}
use mathlib.Core.List.{List, [], ◌∷◌, ◌++◌, map-append, append_assoc, append-nil, Memᴰ as In}
use native.Mathlib.Omega.{arith}
use native.Mathlib.Numerals.{add-one}
use native.Mathlib.Decide.{ℕ_discrete}
use lib.ListN.{length, get_or, set, length-set, length-append, length-map}
use lib.Seq.{sets, get_or-set_same, get_or-set_other}
use Rattle.rules.specs.Lists.{keep, flat, upto, Distinct}
use Rattle.rules.specs.Picture.{Picture, picture, one, dart, crack, node}
use Rattle.rules.specs.declared.Dir.TheVariants.{N, E, S, W}
use Rattle.rules.specs.Graph.{rows, corners, nodes}
use Rattle.rules.specs.Face.{refs, out_entry}
use Rattle.rules.specs.Records.{node_at, node_record, node_words}
use Rattle.rules.proofs.CutList.Lengths.{length_nodes}
use Rattle.rules.proofs.Ground.Lists.{distinct_apart, keep_yes, keep_no, keep_few, one_le, upto_in, upto_snoc, length_upto, at_upto, at_map, map_same}
use Rattle.rules.proofs.Lattice.Grid.{length_rows}
use Rattle.rules.proofs.Tracing.Bends.{bend, bend_plain}
use Rattle.store.specs.Words.{Kept}
use Rattle.store.proofs.Writes.{sets_more, kept_none, kept_then, kept_set}
use Rattle.lattice.specs.declared.Size.{Size}
use Rattle.lattice.specs.declared.Around.{Around}
use Rattle.lattice.specs.Size.{Corner, pic}
use Rattle.lattice.specs.Planes.{plane, place}
use Rattle.lattice.specs.Around.{around_of, mask_in, node_in}
use Rattle.lattice.proofs.Frame.{framed}
use Rattle.lattice.proofs.Planes.{place_low, place_one}
use Rattle.lattice.proofs.Ways.{crack_in_lem, node_in_lem}
use Rattle.graph.specs.declared.Found.{Found}
use Rattle.graph.specs.Words.{node_word}
use Rattle.graph.specs.Planes.{id_slot, node_slot, bend_slot, packed, unpacked, corners_at}
use Rattle.graph.specs.Todo.{Due}
use Rattle.graph.specs.Nodes.{listing, bends, Listed, Noded, Classified}
use Rattle.graph.proofs.Growing.{length_more, nodes_more}
use Rattle.graph.proofs.Numbering.{at_here, nodes_distinct, node_nodes, nodes_few}

-- CORNERS IN WORDS

unpack : (x y : ℕ) → x ≤ 16384 → unpacked (packed x y) ≡ (x, y)
unpack x y h = ap₂ (λ (a b : ℕ). (a, b)) (omega arith) (omega arith)

pub corners_same : (work work' : List ℕ) (at n : ℕ) → ((i : ℕ) → i < n → get_or work' (at + i) 0 ≡ get_or work (at + i) 0) → corners_at work' at n ≡ corners_at work at n
corners_same work work' at n f =
    map_same (λ i. unpacked (get_or work' (at + i) 0)) (λ i. unpacked (get_or work (at + i) 0)) (upto n 0) (λ i m. ap unpacked (f i (omega (arith, (upto_in n 0 i m).1))))

-- one more
corners_snoc : (work : List ℕ) (at n : ℕ) → corners_at work at (n + 1) ≡ corners_at work at n ++ (unpacked (get_or work (at + n) 0) ∷ [])
corners_snoc work at n =
    let z : 0 + n ≡ n = omega arith in
    rw (add-one n, upto_snoc n 0, z) (map-append (λ i. unpacked (get_or work (at + i) 0)) (upto n 0) (n ∷ []))

pub length_corners : (work : List ℕ) (at n : ℕ) → length (corners_at work at n) ≡ n
length_corners work at n = length-map (upto n 0) (λ i. unpacked (get_or work (at + i) 0)) ∙ length_upto n 0

-- by number
pub corner_nth : (work : List ℕ) (at n i : ℕ) → i < n → get_or (corners_at work at n) i (0, 0) ≡ unpacked (get_or work (at + i) 0)
corner_nth work at n i h =
    at_map (λ i. unpacked (get_or work (at + i) 0)) (upto n 0) i 0 (0, 0) (omega (arith, length_upto n 0))
    ∙ ap (λ (i : ℕ). unpacked (get_or work (at + i) 0)) (at_upto n 0 i 0 h ∙ omega arith)

-- BENDS, by their mask

module _ (P : Picture) (x y : ℕ) where
  mask_is : mask_in (around_of P x y) ≡ one (crack P (dart x y N)) + 2 * one (crack P (dart x y E)) + 4 * one (crack P (dart x y S)) + 8 * one (crack P (dart x y W))
  mask_is = rw (crack_in_lem P x y N, crack_in_lem P x y E, crack_in_lem P x y S, crack_in_lem P x y W)

  by_mask : (n e s w : Bool) → ((one n + 2 * one e + 4 * one s + 8 * one w ≡ 6) × (not n && (e && (s && not w)) ≡ true)) ⊎ ((one n + 2 * one e + 4 * one s + 8 * one w ≡ 6 → ⊥) × (not n && (e && (s && not w)) ≡ false))
  by_mask false true true false = inl (refl, refl)
  by_mask false true true true = inr (λ z. omega arith, refl)
  by_mask false true false w = inr (λ z. omega (arith, one_le w), refl)
  by_mask false false s w = inr (λ z. omega (arith, one_le s, one_le w), refl)
  by_mask true e s w = inr (λ z. omega (arith, one_le e, one_le s, one_le w), refl)

  pub is_bend : mask_in (around_of P x y) ≡ 6 → bend P (x, y) ≡ true
  unfolding bend
  is_bend m = ⊎_elim (λ h. h.1) (λ h. absurd (h.0 (sym mask_is ∙ m))) (by_mask (crack P (dart x y N)) (crack P (dart x y E)) (crack P (dart x y S)) (crack P (dart x y W)))

  pub no_bend : (mask_in (around_of P x y) ≡ 6 → ⊥) → bend P (x, y) ≡ false
  unfolding bend
  no_bend m = ⊎_elim (λ h. absurd (m (mask_is ∙ h.0))) (λ h. h.1) (by_mask (crack P (dart x y N)) (crack P (dart x y E)) (crack P (dart x y S)) (crack P (dart x y W)))

pub bends_few : (s : Size) (ls : List ℕ) → length (bends (pic s ls)) ≤ plane s.width s.height
unfolding corners picture
bends_few s ls = omega (arith, keep_few (bend (pic s ls)) (corners (pic s ls)), length_rows (suc s.width) (suc s.height) 0)

-- NONE YET

pub none_listed : (s : Size) (ls work : List ℕ) → 5 * plane s.width s.height ≤ length work
    → Listed s ls work (rows (suc s.width) (suc s.height) 0 ++ []) (listing work (record { nodes = 0; bends = 0 }))
unfolding nodes corners picture upto
none_listed s ls work p = record {
  done = [];
  whole = ap (keep (λ c. node (pic s ls) c.0 c.1)) (append-nil (rows (suc s.width) (suc s.height) 0));
  count = refl;
  ids = λ x y at i. absurd (not-nil i);
  corners = refl;
  bent = [];
  bent_whole = ap (keep (bend (pic s ls))) (append-nil (rows (suc s.width) (suc s.height) 0));
  bent_count = refl;
  bent_corners = refl;
  planes = p;
  kept = kept_none;
}

-- ONE CORNER MORE

module _ (s : Size) (ls work₀ : List ℕ) (rest : List (ℕ × ℕ)) (work : List ℕ) (f : Found) (x y : ℕ) (o : Listed s ls work₀ ((x, y) ∷ rest) (listing work f)) where
  abbrev w : ℕ
  w = s.width

  abbrev h : ℕ
  h = s.height

  abbrev is_node : ℕ × ℕ → Bool
  is_node c = node (pic s ls) c.0 c.1

  not_node : node (pic s ls) x y ≡ false → o.done ++ keep is_node rest ≡ nodes (pic s ls)
  not_node e = ap (λ (l : List (ℕ × ℕ)). o.done ++ l) (sym (keep_no is_node (x, y) rest e)) ∙ o.whole

  not_bend : bend (pic s ls) (x, y) ≡ false → o.bent ++ keep (bend (pic s ls)) rest ≡ bends (pic s ls)
  not_bend e = ap (λ (l : List (ℕ × ℕ)). o.bent ++ l) (sym (keep_no (bend (pic s ls)) (x, y) rest e)) ∙ o.bent_whole

  -- neither
  pub plain_corner : node (pic s ls) x y ≡ false → bend (pic s ls) (x, y) ≡ false → Listed s ls work₀ rest (listing work f)
  plain_corner en eb = record {
    done = o.done;
    whole = not_node en;
    count = o.count;
    ids = o.ids;
    corners = o.corners;
    bent = o.bent;
    bent_whole = not_bend eb;
    bent_count = o.bent_count;
    bent_corners = o.bent_corners;
    planes = o.planes;
    kept = o.kept;
  }

  -- A BEND

  module _ (b : bend (pic s ls) (x, y) ≡ true) where
    bend_split : o.bent ++ ((x, y) ∷ keep (bend (pic s ls)) rest) ≡ bends (pic s ls)
    bend_split = ap (λ (l : List (ℕ × ℕ)). o.bent ++ l) (sym (keep_yes (bend (pic s ls)) (x, y) rest b)) ∙ o.bent_whole

    pub bend_low : f.bends < plane w h
    bend_low = omega (arith, ap length bend_split, length-append o.bent ((x, y) ∷ keep (bend (pic s ls)) rest), bends_few s ls, o.bent_count)

    pub one_bend : x ≤ 16384 → Listed s ls work₀ rest (listing (set work (bend_slot w h f.bends) (packed x y)) (record { nodes = f.nodes; bends = f.bends + 1 }))
    one_bend hx =
        let low = bend_low in
        let work' = set work (bend_slot w h f.bends) (packed x y) in
        let other : (i : ℕ) → (i ≡ bend_slot w h f.bends → ⊥) → get_or work' i 0 ≡ get_or work i 0 = λ i n. get_or-set_other work (bend_slot w h f.bends) i (packed x y) 0 n in
        let here_it : get_or work' (4 * plane w h + f.bends) 0 ≡ packed x y = get_or-set_same work (bend_slot w h f.bends) (packed x y) 0 (omega (arith, o.planes)) in
        let nodes-low : f.nodes ≤ plane w h = omega (arith, o.count, ap length o.whole, length-append o.done (keep is_node ((x, y) ∷ rest)), nodes_few s ls) in
        record {
          done = o.done;
          whole = not_node (bend_plain (framed s ls) x y b);
          count = o.count;
          ids = λ x' y' at i. other (id_slot w h x' y') (λ q. omega (arith, place_low w h x' y' at.across at.down)) ∙ o.ids x' y' at i;
          corners = corners_same work work' (3 * plane w h) f.nodes (λ i l. other (node_slot w h i) (λ q. omega arith)) ∙ o.corners;
          bent = o.bent ++ ((x, y) ∷ []);
          bent_whole = append_assoc o.bent ((x, y) ∷ []) (keep (bend (pic s ls)) rest) ∙ bend_split;
          bent_count = omega (arith, length_more {A = ℕ × ℕ} o.bent (x, y), o.bent_count);
          bent_corners =
              corners_snoc work' (4 * plane w h) f.bends
              ∙ ap₂ (λ (l : List (ℕ × ℕ)) (c : ℕ × ℕ). l ++ (c ∷ []))
              (corners_same work work' (4 * plane w h) f.bends (λ i l. other (bend_slot w h i) (λ q. omega arith)) ∙ o.bent_corners)
              (ap unpacked here_it ∙ unpack x y hx);
          planes = omega (arith, length-set work (bend_slot w h f.bends) (packed x y), o.planes);
          kept = kept_then o.kept (kept_set work (bend_slot w h f.bends) (packed x y) (omega arith) (omega arith));
        }

  -- A NODE

  module _ (e : node (pic s ls) x y ≡ true) where
    split : o.done ++ ((x, y) ∷ keep is_node rest) ≡ nodes (pic s ls)
    split = ap (λ (l : List (ℕ × ℕ)). o.done ++ l) (sym (keep_yes is_node (x, y) rest e)) ∙ o.whole

    its_number : node_at (nodes (pic s ls)) 0 x y ≡ f.nodes
    its_number =
        let d = subst (Distinct {A = ℕ × ℕ}) (sym split) (nodes_distinct (pic s ls)) in
        ap (λ (l : List (ℕ × ℕ)). node_at l 0 x y) (sym split)
        ∙ at_here o.done (keep is_node rest) 0 x y (λ i. distinct_apart o.done ((x, y) ∷ keep is_node rest) d (x, y) i (here refl))
        ∙ omega (arith, o.count)

    pub node_low : f.nodes < plane w h
    node_low = omega (arith, ap length split, length-append o.done ((x, y) ∷ keep is_node rest), nodes_few s ls, o.count)

    module _ (hx : x ≤ 16384) (at : Corner s x y) where
      abbrev n : ℕ
      n = f.nodes

      abbrev work₁ : List ℕ
      work₁ = set work (id_slot w h x y) n

      abbrev work₂ : List ℕ
      work₂ = set work₁ (node_slot w h n) (packed x y)

      here_low : place w x y < plane w h
      here_low = place_low w h x y at.across at.down

      other : (i : ℕ) → (i ≡ id_slot w h x y → ⊥) → (i ≡ node_slot w h n → ⊥) → get_or work₂ i 0 ≡ get_or work i 0
      other i p q = get_or-set_other work₁ (node_slot w h n) i (packed x y) 0 q ∙ get_or-set_other work (id_slot w h x y) i n 0 p

      here_it : get_or work₂ (3 * plane w h + n) 0 ≡ packed x y
      here_it = let low = node_low in get_or-set_same work₁ (node_slot w h n) (packed x y) 0 (omega (arith, o.planes, length-set work (id_slot w h x y) n))

      id_of : (x' y' : ℕ) → Corner s x' y' → In (x', y') (o.done ++ ((x, y) ∷ [])) → get_or work₂ (id_slot w h x' y') 0 ≡ node_at (nodes (pic s ls)) 0 x' y'
      id_of x' y' at' i =
          let low = node_low in
          let there-low = place_low w h x' y' at'.across at'.down in
          get_or-set_other work₁ (node_slot w h n) (id_slot w h x' y') (packed x y) 0 (λ q. omega arith)
          ∙ elim (ℕ_discrete (id_slot w h x' y') (id_slot w h x y)) [
            | yes q ↦
                (let r = place_one w x' y' x y at'.across at.across (omega arith) in
                ap (λ (i : ℕ). get_or work₁ i 0) q
                ∙ get_or-set_same work (id_slot w h x y) n 0 (omega (arith, o.planes, here_low))
                ∙ sym its_number
                ∙ ap₂ (node_at (nodes (pic s ls)) 0) (sym r.0) (sym r.1))
            | no q ↦
                (get_or-set_other work (id_slot w h x y) (id_slot w h x' y') n 0 q
                ∙ ⊎_elim
                (λ (j : In {A = ℕ × ℕ} (x', y') o.done). o.ids x' y' at' j)
                (λ (j : In {A = ℕ × ℕ} (x', y') ((x, y) ∷ [])). absurd (q (ap (λ (c : ℕ × ℕ). id_slot w h c.0 c.1) (eq_of_singleton j))))
                (in-cases o.done i))
          ]

      pub one_node : bend (pic s ls) (x, y) ≡ false → Listed s ls work₀ rest (listing work₂ (record { nodes = n + 1; bends = f.bends }))
      one_node eb =
          let low = node_low in
          let bends-low : f.bends ≤ plane w h = omega (arith, o.bent_count, ap length o.bent_whole, length-append o.bent (keep (bend (pic s ls)) ((x, y) ∷ rest)), bends_few s ls) in
          record {
            done = o.done ++ ((x, y) ∷ []);
            whole = append_assoc o.done ((x, y) ∷ []) (keep is_node rest) ∙ split;
            count = omega (arith, length_more {A = ℕ × ℕ} o.done (x, y), o.count);
            ids = id_of;
            corners =
                corners_snoc work₂ (3 * plane w h) n
                ∙ ap₂ (λ (l : List (ℕ × ℕ)) (c : ℕ × ℕ). l ++ (c ∷ []))
                (corners_same work work₂ (3 * plane w h) n (λ i l. other (node_slot w h i) (λ q. omega (arith, here_low)) (λ q. omega arith)) ∙ o.corners)
                (ap unpacked here_it ∙ unpack x y hx);
            bent = o.bent;
            bent_whole = not_bend eb;
            bent_count = o.bent_count;
            bent_corners = corners_same work work₂ (4 * plane w h) f.bends (λ i l. other (bend_slot w h i) (λ q. omega (arith, here_low)) (λ q. omega arith)) ∙ o.bent_corners;
            planes = omega (arith, length-set work₁ (node_slot w h n) (packed x y), length-set work (id_slot w h x y) n, o.planes);
            kept =
                kept_then o.kept
                (kept_then (kept_set work (id_slot w h x y) n (omega arith) (omega (arith, here_low))) (kept_set work₁ (node_slot w h n) (packed x y) (omega arith) (omega arith)));
          }

-- so there is room for one more of each
module _ {s : Size} {ls : List ℕ} {a : Around} {work : List ℕ} {f : Found} {x y : ℕ} (e : a ≡ around_of (pic s ls) x y) (d : Due (Listed s ls) ((x, y) ∷ []) (listing work f)) where
  pub node_room : node_in a ≡ true → f.nodes < plane s.width s.height
  node_room b = node_low s ls d.o d.rest work f x y d.now (sym (node_in_lem (pic s ls) x y) ∙ ap node_in (sym e) ∙ b)

  pub bend_room : mask_in a ≡ 6 → f.bends < plane s.width s.height
  bend_room b = bend_low s ls d.o d.rest work f x y d.now (is_bend (pic s ls) x y (ap mask_in (sym e) ∙ b))

-- ALL

pub all_listed : (s : Size) (ls work work' : List ℕ) (f : Found) → Listed s ls work [] (listing work' f) → Classified s ls work work' f
unfolding keep picture
all_listed s ls work work' f o =
    let all : o.done ≡ nodes (pic s ls) = sym (append-nil o.done) ∙ o.whole in
    let bent : o.bent ≡ bends (pic s ls) = sym (append-nil o.bent) ∙ o.bent_whole in
    let n : f.nodes ≡ length (nodes (pic s ls)) = o.count ∙ ap length all in
    let b : f.bends ≡ length (bends (pic s ls)) = o.bent_count ∙ ap length bent in
    record {
      noded = record {
        ids = λ x y at e. o.ids x y at (subst (In (x, y)) (sym all) (node_nodes (pic s ls) x y at.across at.down e));
        corners = rw (← n) (o.corners ∙ all);
        bent_corners = rw (← b) (o.bent_corners ∙ bent);
        planes = o.planes;
      };
      tallied = record { nodes = n; bends = b };
      kept = o.kept;
    }

-- they stay where their words do
noded_same : {s : Size} {ls work work' : List ℕ} → length work' ≡ length work
    → ((i : ℕ) → 2 * plane s.width s.height ≤ i → i < 5 * plane s.width s.height → get_or work' i 0 ≡ get_or work i 0)
    → Noded s ls work → Noded s ls work'
noded_same {s} {ls} {work} {work'} l k o =
    let nodes-low = nodes_few s ls in
    let bends-low = bends_few s ls in
    record {
      ids = λ x y at e. k _ (omega arith) (omega (arith, place_low s.width s.height x y at.across at.down)) ∙ o.ids x y at e;
      corners = corners_same work work' (3 * plane s.width s.height) (length (nodes (pic s ls))) (λ i h. k _ (omega arith) (omega arith)) ∙ o.corners;
      bent_corners = corners_same work work' (4 * plane s.width s.height) (length (bends (pic s ls))) (λ i h. k _ (omega arith) (omega arith)) ∙ o.bent_corners;
      planes = omega (arith, o.planes);
    }

-- where only the marks change, and where only later planes do
pub noded_kept : {s : Size} {ls work work' : List ℕ} → Kept 0 (2 * plane s.width s.height) work work' → Noded s ls work → Noded s ls work'
noded_kept k o = noded_same k.long (λ i a b. k.others i (inr a)) o

pub noded_beyond : {s : Size} {ls work work' : List ℕ} {end : ℕ} → Kept (5 * plane s.width s.height) end work work' → Noded s ls work → Noded s ls work'
noded_beyond k o = noded_same k.long (λ i a b. k.others i (inl b)) o

-- THE NODES' RECORDS, without out entries

bare : (x y : ℕ) → node_record [] (x, y) ≡ node_word x y
unfolding node_record out_entry refs upto keep
bare x y = refl

pub records_none : (work : List ℕ) (at : ℕ) (nodes : List ℕ) → nodes ≡ sets nodes 0 (node_words [] (corners_at work at 0))
unfolding upto node_words flat
records_none work at _ = refl

module _ (work nodes₀ nodes nodes' : List ℕ) (at i x y : ℕ) (ex : x ≡ (unpacked (get_or work (at + i) 0)).0) (ey : y ≡ (unpacked (get_or work (at + i) 0)).1) where
  pub records_more : nodes ≡ sets nodes₀ 0 (node_words [] (corners_at work at i)) → nodes' ≡ sets nodes (6 * i) (node_word x y) → nodes' ≡ sets nodes₀ 0 (node_words [] (corners_at work at (i + 1)))
  records_more f g =
      let l = corners_at work at i in
      let more : corners_at work at (i + 1) ≡ l ++ ((x, y) ∷ []) = corners_snoc work at i ∙ ap₂ (λ (a b : ℕ). l ++ ((a, b) ∷ [])) (sym ex) (sym ey) in
      sets_more nodes₀ nodes nodes' (6 * i) (node_words [] l) (node_word x y) _ f
      (omega (arith, length_nodes [] l, length-map (upto i 0) (λ i. unpacked (get_or work (at + i) 0)), length_upto i 0))
      (ap (node_words []) more ∙ nodes_more [] l (x, y) ∙ ap (λ (r : List ℕ). node_words [] l ++ r) (bare x y)) g
