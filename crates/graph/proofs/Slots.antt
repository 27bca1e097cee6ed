-- The words of the planes: each corner and each edge has its own.
use Prim.Native.Nat.{ℕ, suc, pred, ◌+◌, ◌*◌, ◌≤◌, ◌<◌}
use mathlib.Core.Path.{◌≡◌, refl, sym, ap, ◌∙◌}
use mathlib.Core.Bool.{Bool, true, false, ◌||◌, false≢true, or_comm}
use mathlib.Core.Logic.{◌⊎◌, inl, inr, ⊎_elim}
use mathlib.Core.List.Memᴰ.{head as here}
use mathlib.Core.List.Memᴰ.{tail as there}
use mathlib.Core.List.{List, [], ◌∷◌, ◌++◌, Memᴰ as In}
use native.Mathlib.Omega.{arith}
use borrow.Author.Tests.{eq-eqb}
use lib.ListN.{length, get_or, set, length-set}
use lib.Seq.{get_or-set_same, get_or-set_other}
use Rattle.rules.specs.Picture.{picture, crack, Dart, dart, same_dart, turned, to_x, to_y, back_of}
use Rattle.rules.specs.declared.Dir.{Dir}
use Rattle.rules.specs.declared.Dir.TheVariants.{N, E, S, W}
use Rattle.rules.specs.Graph.{on}
use Rattle.rules.proofs.Lattice.Frame.{Framed}
use Rattle.rules.proofs.Lattice.Darts.{same_path, crack_x, crack_y}
use Rattle.lattice.specs.declared.Size.{Size}
use Rattle.lattice.specs.Size.{pic}
use Rattle.lattice.proofs.Planes.{place_low, place_one}
use Rattle.lattice.proofs.Frame.{north, east, south, west, framed}
use Rattle.lattice.specs.Planes.{plane, place}
use Rattle.graph.specs.Planes.{slot_at, slot, marked, mark_all, Inside}

-- PLACES: two corners with one number are one corner
module _ (w h : ℕ) where
  abbrev low : (x y : ℕ) → x ≤ w → y ≤ h → place w x y < plane w h
  low = place_low w h

  -- an edge's word is in the two planes
  pub slot_low : (a : Dart) → Inside w h a → slot w h a < 2 * plane w h
  unfolding slot_at
  slot_low a i = go a.x a.y a.d i.across i.down
    where
      go : (x y : ℕ) (d : Dir) → x ≤ w → y ≤ h → slot_at w h x y d < 2 * plane w h
      go x y N p q = omega (arith, low x (pred y) p (omega arith))
      go x y E p q = omega (arith, low x y p q)
      go x y S p q = omega (arith, low x y p q)
      go x y W p q = omega (arith, low (pred x) y (omega arith) q)

  -- the same edge the other way has the same word
  pub slot_turned : (a : Dart) → Inside w h a → slot w h (turned a) ≡ slot w h a
  unfolding turned slot_at to_x to_y
  slot_turned a i = go a.x a.y a.d i.north i.west
    where
      go : (x y : ℕ) (d : Dir) → (d ≡ N → 0 < y) → (d ≡ W → 0 < x) → slot_at w h (to_x x d) (to_y y d) (back_of d) ≡ slot_at w h x y d
      go x y N n m = refl
      go x y E n m = refl
      go x y S n m = refl
      go x y W n m = refl

  -- the same edge
  abbrev pub same : Dart → Dart → Bool
  same b a = same_dart b a || same_dart (turned b) a

  -- two edges with one word are one edge
  pub same_edge : (b a : Dart) → Inside w h b → Inside w h a → slot w h b ≡ slot w h a → same b a ≡ true
  unfolding same_dart turned to_x to_y slot_at
  same_edge b a i j e = go b.x b.y b.d a.x a.y a.d i j e
    where
      or_right : (p q : Bool) → q ≡ true → (p || q) ≡ true
      or_right true q h = refl
      or_right false q h = h

      in_left : (b a : Dart) → same_dart b a ≡ true → same b a ≡ true
      in_left b a h = rw h

      in_right : (b a : Dart) → same_dart (turned b) a ≡ true → same b a ≡ true
      in_right b a h = or_right (same_dart b a) (same_dart (turned b) a) h

      both : (x y x' y' : ℕ) (d : Dir) → (x ≡ x') → (y ≡ y') → same_dart (dart x y d) (dart x' y' d) ≡ true
      both x y x' y' N p q = rw (eq-eqb x x' p, eq-eqb y y' q)
      both x y x' y' E p q = rw (eq-eqb x x' p, eq-eqb y y' q)
      both x y x' y' S p q = rw (eq-eqb x x' p, eq-eqb y y' q)
      both x y x' y' W p q = rw (eq-eqb x x' p, eq-eqb y y' q)

      go : (x y : ℕ) (d : Dir) (x' y' : ℕ) (d' : Dir) → Inside w h (dart x y d) → Inside w h (dart x' y' d') → slot_at w h x y d ≡ slot_at w h x' y' d' → same (dart x y d) (dart x' y' d') ≡ true
      go x y N x' y' N i j e =
          let p : pred y * (w + 1) + x ≡ pred y' * (w + 1) + x' = omega arith in
          let q = place_one w x (pred y) x' (pred y') (omega arith) (omega arith) p in
          let n = i.north refl in let n' = j.north refl in
          in_left (dart x y N) (dart x' y' N) (both x y x' y' N (omega arith) (omega arith))
      go x y N x' y' E i j e = absurd (let z = i.across in let z' = j.across in omega (arith, low x' y' (omega arith) (omega arith)))
      go x y N x' y' S i j e =
          let p : pred y * (w + 1) + x ≡ y' * (w + 1) + x' = omega arith in
          let q = place_one w x (pred y) x' y' (omega arith) (omega arith) p in
          let n = i.north refl in
          in_right (dart x y N) (dart x' y' S) (both x (pred y) x' y' S (omega arith) (omega arith))
      go x y N x' y' W i j e = absurd (let z = i.across in let z' = j.across in omega (arith, low (pred x') y' (omega arith) (omega arith)))
      go x y E x' y' N i j e = absurd (let z = i.across in let z' = j.across in omega (arith, low x y (omega arith) (omega arith)))
      go x y E x' y' E i j e =
          let p : y * (w + 1) + x ≡ y' * (w + 1) + x' = omega arith in
          let q = place_one w x y x' y' (omega arith) (omega arith) p in
          in_left (dart x y E) (dart x' y' E) (both x y x' y' E (omega arith) (omega arith))
      go x y E x' y' S i j e = absurd (let z = i.across in let z' = j.across in omega (arith, low x y (omega arith) (omega arith)))
      go x y E x' y' W i j e =
          let p : y * (w + 1) + x ≡ y' * (w + 1) + pred x' = omega arith in
          let q = place_one w x y (pred x') y' (omega arith) (omega arith) p in
          let n' = j.west refl in
          in_right (dart x y E) (dart x' y' W) (both (suc x) y x' y' W (omega arith) (omega arith))
      go x y S x' y' N i j e =
          let p : y * (w + 1) + x ≡ pred y' * (w + 1) + x' = omega arith in
          let q = place_one w x y x' (pred y') (omega arith) (omega arith) p in
          let n' = j.north refl in
          in_right (dart x y S) (dart x' y' N) (both x (suc y) x' y' N (omega arith) (omega arith))
      go x y S x' y' E i j e = absurd (let z = i.across in let z' = j.across in omega (arith, low x' y' (omega arith) (omega arith)))
      go x y S x' y' S i j e =
          let p : y * (w + 1) + x ≡ y' * (w + 1) + x' = omega arith in
          let q = place_one w x y x' y' (omega arith) (omega arith) p in
          in_left (dart x y S) (dart x' y' S) (both x y x' y' S (omega arith) (omega arith))
      go x y S x' y' W i j e = absurd (let z = i.across in let z' = j.across in omega (arith, low (pred x') y' (omega arith) (omega arith)))
      go x y W x' y' N i j e = absurd (let z = i.across in let z' = j.across in omega (arith, low (pred x) y (omega arith) (omega arith)))
      go x y W x' y' E i j e =
          let p : y * (w + 1) + pred x ≡ y' * (w + 1) + x' = omega arith in
          let q = place_one w (pred x) y x' y' (omega arith) (omega arith) p in
          let n = i.west refl in
          in_right (dart x y W) (dart x' y' E) (both (pred x) y x' y' E (omega arith) (omega arith))
      go x y W x' y' S i j e = absurd (let z = i.across in let z' = j.across in omega (arith, low (pred x) y (omega arith) (omega arith)))
      go x y W x' y' W i j e =
          let p : y * (w + 1) + pred x ≡ y' * (w + 1) + pred x' = omega arith in
          let q = place_one w (pred x) y (pred x') y' (omega arith) (omega arith) p in
          let n = i.west refl in let n' = j.west refl in
          in_left (dart x y W) (dart x' y' W) (both x y x' y' W (omega arith) (omega arith))

or_true : (p q : Bool) → (p || q) ≡ true → (p ≡ true) ⊎ (q ≡ true)
or_true true q h = inl refl
or_true false q h = inr h

module _ (w h : ℕ) where
  edge_same : (b a : Dart) → Inside w h b → same w h b a ≡ true → slot w h b ≡ slot w h a
  edge_same b a i e = ⊎_elim
      (λ (p : same_dart b a ≡ true). ap (slot w h) (same_path b a p))
      (λ (p : same_dart (turned b) a ≡ true). sym (slot_turned w h b i) ∙ ap (slot w h) (same_path (turned b) a p))
      (or_true (same_dart b a) (same_dart (turned b) a) e)

  -- one mark more
  marked_set : (ws : List ℕ) (b a : Dart) → Inside w h b → Inside w h a → slot w h a < length ws → marked w h (set ws (slot w h a) 1) b ≡ (same w h b a || marked w h ws b)
  marked_set ws b a i j l = go (same w h b a) refl
    where
      go : (t : Bool) → same w h b a ≡ t → marked w h (set ws (slot w h a) 1) b ≡ (t || marked w h ws b)
      go true e = rw (edge_same b a i e, get_or-set_same ws (slot w h a) 1 0 l)
      go false e = rw (get_or-set_other ws (slot w h a) (slot w h b) 1 0 (λ q. false≢true (sym e ∙ same_edge w h b a i j q)))

  pub marked_all_lem : (ws : List ℕ) (l : List Dart) (b : Dart) → Inside w h b → ((c : Dart) → In c l → Inside w h c) → 2 * plane w h ≤ length ws → marked w h (mark_all w h ws l) b ≡ (on b l || marked w h ws b)
  unfolding on
  marked_all_lem ws [] b i all p = refl
  marked_all_lem ws (a ∷ l) b i all p =
      let j = all a (here refl) in
      let low = slot_low w h a j in
      marked_all_lem (set ws (slot w h a) 1) l b i (λ c m. all c (there m)) (simp length-set p)
      ∙ ap (λ (t : Bool). on b l || t) (marked_set ws b a i j (omega arith))
      ∙ go (same w h b a)
    where
      go : (t : Bool) → (on b l || (t || marked w h ws b)) ≡ ((elim t [ true ↦ true | false ↦ on b l ]) || marked w h ws b)
      go true = or_comm (on b l) true
      go false = refl

  -- the other words stay
  pub unmarked : (ws : List ℕ) (l : List Dart) → ((c : Dart) → In c l → Inside w h c) → (i : ℕ) → 2 * plane w h ≤ i → get_or (mark_all w h ws l) i 0 ≡ get_or ws i 0
  unmarked ws [] all i p = refl
  unmarked ws (a ∷ l) all i p =
      let low = slot_low w h a (all a (here refl)) in
      unmarked (set ws (slot w h a) 1) l (λ c m. all c (there m)) i p ∙ get_or-set_other ws (slot w h a) i 1 0 (omega arith)

-- a crack is an edge of the frame
pub crack_inside : (s : Size) (ls : List ℕ) (a : Dart) → crack (pic s ls) a ≡ true → Inside s.width s.height a
unfolding picture
crack_inside s ls a k = record {
  across = crack_x F a k;
  down = crack_y F a k;
  north = λ e. north F a.x a.y (at e);
  east = λ e. east F a.x a.y (at e);
  south = λ e. south F a.x a.y (at e);
  west = λ e. west F a.x a.y (at e);
}
  where
    F : Framed (pic s ls)
    F = framed s ls

    at : {d : Dir} → a.d ≡ d → crack (pic s ls) (dart a.x a.y d) ≡ true
    at e = rw (← e) k

-- steps one after the other
pub on_append : (b : Dart) (l m : List Dart) → on b (l ++ m) ≡ (on b l || on b m)
unfolding on
on_append b [] m = refl
on_append b (a ∷ l) m = go (same_dart b a || same_dart (turned b) a) (on_append b l m)
  where
    go : (t : Bool) → on b (l ++ m) ≡ (on b l || on b m) → (elim t [ true ↦ true | false ↦ on b (l ++ m) ]) ≡ ((elim t [ true ↦ true | false ↦ on b l ]) || on b m)
    go true e = refl
    go false e = e
