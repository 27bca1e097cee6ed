-- Contours found one by one, along the rows.
use Prim.Native.Nat.{ℕ, suc, ◌+◌, ◌≤◌, ◌<◌}
use mathlib.Core.Path.{◌≡◌, refl, ap, ◌∙◌, subst}
use mathlib.Core.Bool.{true}
use mathlib.Core.Logic.{◌⊎◌, inl, inr, ⊎_elim}
use mathlib.Core.List.Memᴰ.{append_cases as in-cases}
use mathlib.Core.List.Memᴰ.{append_left as in_left}
use mathlib.Core.List.Memᴰ.{append_right as in_right}
use mathlib.Core.List.Memᴰ.{not-nil}
use mathlib.Core.List.{List, [], ◌∷◌, ◌++◌, Memᴰ as In}
use native.Mathlib.Omega.{arith}
use native.Mathlib.Decide.{dec_lt}
use lib.ListN.{length, get_or, length-append}
use Rattle.rules.specs.Lists.{flat}
use Rattle.rules.specs.Picture.{Picture, picture, OUTSIDE, Dart, dart, crack}
use Rattle.rules.specs.declared.Dir.TheVariants.{E}
use Rattle.rules.proofs.Lattice.Darts.{crack_x, crack_y}
use Rattle.rules.proofs.Ground.Lists.{flat_snoc}
use Rattle.rules.proofs.Ground.Sums.{sum_append}
use Rattle.rules.proofs.Contours.Loops.{loop_of, loop_in_lem, loop_cycle, loop_cracks, loop_short, cycle_some, IsPainted, loops_low, one_more}
use Rattle.rules.proofs.Contours.Counts.{refs_of, refs_few, total_low, loops_count, loops_total}
use Rattle.rules.specs.Face.{turn}
use Rattle.store.specs.Words.{Kept}
use Rattle.store.proofs.Writes.{kept_none}
use Rattle.lattice.specs.declared.Size.{Size}
use Rattle.lattice.specs.Size.{Map, pic}
use Rattle.lattice.specs.Planes.{plane, place}
use Rattle.lattice.proofs.Planes.{fuel_low, place_low, place_one}
use Rattle.lattice.proofs.Frame.{framed, east}
use Rattle.face.specs.declared.contours.Found.{Found}
use Rattle.face.specs.Contours.{easts_marked, Before, Scan, Scanned, Blank, FoundAll}
use Rattle.face.proofs.contours.Marks.{length_east_marked_all, stays_all, marks_in, keeps_off}

before_next : (i j x y : ℕ) → Before i j (suc x) y → Before i j x y ⊎ ((i ≡ x) × (j ≡ y))
before_next i j x y (inl h) = inl (inl h)
before_next i j x y (inr h) = elim (dec_lt i x) [ yes k ↦ inl (inr (h.0, k)) | no k ↦ let l = h.1 in inr (omega arith, h.0) ]

module _ {s : Size} {ls : List ℕ} {at : ℕ} where
  pub scan_start : (work : List ℕ) → Blank s at work → Scan s ls at 0 0 work (record { contours = 0; references = 0 })
  unfolding flat
  scan_start work b = record {
    cs = [];
    loops = record { cycles = λ c i. absurd (not-nil i); once = tt; painted = λ a i. absurd (not-nil i) };
    room = b.room;
    marked = λ i j p q m. absurd (not-nil m);
    unmarked = λ i j p q m. b.blank (place s.width i j) (place_low s.width s.height i j p q);
    done = λ i j h p. absurd (none i j h);
    count = refl;
    total = refl;
  }
    where
      none : (i j : ℕ) → Before i j 0 0 → ⊥
      none i j (inl h) = omega arith
      none i j (inr h) = let k = h.1 in omega arith

  module _ {x y : ℕ} {work : List ℕ} {f : Found} (c : Scan s ls at x y work f) where
    -- what more is done
    scan_to : {x' y' : ℕ} → ((i j : ℕ) → Before i j x' y' → IsPainted (pic s ls) s.paints (dart i j E) → In (dart i j E) (flat c.cs)) → Scan s ls at x' y' work f
    scan_to d = record { cs = c.cs; loops = c.loops; room = c.room; marked = c.marked; unmarked = c.unmarked; done = d; count = c.count; total = c.total }

    -- the dart at (x, y) adds nothing
    pub skip : (IsPainted (pic s ls) s.paints (dart x y E) → In (dart x y E) (flat c.cs)) → Scanned s ls at (suc x) y work work f
    skip h = record { scan = scan_to (λ i j b p. go i j (before_next i j x y b) p); kept = kept_none }
      where
        go : (i j : ℕ) → Before i j x y ⊎ ((i ≡ x) × (j ≡ y)) → IsPainted (pic s ls) s.paints (dart i j E) → In (dart i j E) (flat c.cs)
        go i j (inl b) p = c.done i j b p
        go i j (inr e) p = rw (e.0, e.1) (h (rw (e.0, e.1) at p))

    pub skip_loops : (h : IsPainted (pic s ls) s.paints (dart x y E) → In (dart x y E) (flat c.cs)) → (skip h).scan.cs ≡ c.cs
    unfolding skip scan_to
    skip_loops h = refl

    -- at the end of a row
    pub row_over : x ≡ s.width → Scan s ls at 0 (suc y) work f
    unfolding picture
    row_over e = scan_to go
      where
        go : (i j : ℕ) → Before i j 0 (suc y) → IsPainted (pic s ls) s.paints (dart i j E) → In (dart i j E) (flat c.cs)
        go i j (inr h) p = let k = h.1 in absurd (omega arith)
        go i j (inl h) p = c.done i j (elim (dec_lt j y) [ yes k ↦ inl k | no k ↦ inr (omega arith, rw e (east (framed s ls) i j p.cracked)) ]) p

    pub row_loops : (e : x ≡ s.width) → (row_over e).cs ≡ c.cs
    unfolding row_over scan_to
    row_loops e = refl

    -- the counters have room
    pub few_contours : Map s ls → f.contours ≤ 1073872900
    few_contours m = omega (arith, c.count, loops_low (framed s ls) s.paints c.cs c.loops, fuel_low s ls m)

    pub few_references : Map s ls → f.references ≤ 1073872900
    few_references m = omega (arith, c.total, total_low (framed s ls) s.paints c.cs c.loops, fuel_low s ls m)

  -- at the end
  pub all_found : {work₀ work : List ℕ} {f : Found} {y : ℕ} → Scan s ls at 0 y work f → s.height < y → s.paints ≤ OUTSIDE → Kept at (at + plane s.width s.height) work₀ work → FoundAll s ls at work₀ work f
  unfolding picture
  all_found {work₀} {work} {f} {y} c h b k = record {
    count = λ ss D. c.count ∙ loops_count (framed s ls) s.paints c.cs c.loops all b D;
    total = λ ss D. c.total ∙ loops_total (framed s ls) s.paints c.cs c.loops all b D;
    kept = k;
  }
    where
      all : (i j : ℕ) → IsPainted (pic s ls) s.paints (dart i j E) → In (dart i j E) (flat c.cs)
      all i j p = c.done i j (inl (omega (arith, crack_y (framed s ls) (dart i j E) p.cracked))) p

pub start_loops : (s : Size) (ls : List ℕ) (at : ℕ) (work : List ℕ) (b : Blank s at work) → (scan_start {ls = ls} work b).cs ≡ []
unfolding scan_start
start_loops s ls at work b = refl

-- THE DART AT (x, y) HAS A LOOP OF ITS OWN

pub few_refs : (s : Size) (ls : List ℕ) → Map s ls → (a : Dart) → crack (pic s ls) a ≡ true → refs_of (pic s ls) (loop_of (pic s ls) a) ≤ 1073872900
few_refs s ls m a k =
    let F = framed s ls in
    omega (arith, refs_few (pic s ls) (loop_of (pic s ls) a) (cycle_some (turn (pic s ls)) (loop_of (pic s ls) a) (loop_cycle F a k)), loop_short F a k, fuel_low s ls m)

module _ {s : Size} {ls : List ℕ} {at x y : ℕ} {work work' : List ℕ} {f f' : Found} (c : Scan s ls at x y work f)
    (p : IsPainted (pic s ls) s.paints (dart x y E))
    (across : x ≤ s.width)
    (down : y ≤ s.height)
    (blank : get_or work (at + place s.width x y) 0 ≡ 0)
    (words : work' ≡ easts_marked at s.width work (loop_of (pic s ls) (dart x y E)))
    (one : f'.contours ≡ f.contours + 1)
    (more : f'.references ≡ f.references + refs_of (pic s ls) (loop_of (pic s ls) (dart x y E))) where
  abbrev P : Picture
  P = pic s ls

  abbrev a : Dart
  a = dart x y E

  abbrev l : List Dart
  l = loop_of P a

  -- the loops that are found then
  abbrev ds : List (List Dart)
  ds = c.cs ++ (l ∷ [])

  abbrev word : ℕ → ℕ → ℕ
  word i j = at + place s.width i j

  fresh : In a (flat c.cs) → ⊥
  fresh i = omega (arith, c.marked x y across down i, blank)

  east_in : (i j : ℕ) → In (dart i j E) l → (i ≤ s.width) × (j ≤ s.height)
  unfolding picture
  east_in i j m =
      let k = loop_cracks (framed s ls) a p.cracked (dart i j E) m in
      (crack_x (framed s ls) (dart i j E) k, crack_y (framed s ls) (dart i j E) k)

  old_in : (b : Dart) → In b (flat c.cs) → In b (flat ds)
  old_in b i = rw (flat_snoc c.cs l) (in_left l i)

  new_in : (b : Dart) → In b l → In b (flat ds)
  new_in b i = rw (flat_snoc c.cs l) (in_right (flat c.cs) i)

  inside : (i j : ℕ) → i ≤ s.width → j ≤ s.height → word i j < length work
  inside i j u v = let r = c.room in omega (arith, place_low s.width s.height i j u v)

  now_marked : (i j : ℕ) → i ≤ s.width → j ≤ s.height → In (dart i j E) (flat ds) → get_or work' (word i j) 0 ≡ 1
  now_marked i j u v m = rw words (⊎_elim
      (λ (m : In (dart i j E) (flat c.cs)). stays_all at s.width l work (word i j) (inside i j u v) (c.marked i j u v m))
      (λ (m : In (dart i j E) l). marks_in at s.width l work i j m (inside i j u v))
      (in-cases (flat c.cs) (rw (flat_snoc c.cs l) at m)))

  now_unmarked : (i j : ℕ) → i ≤ s.width → j ≤ s.height → (In (dart i j E) (flat ds) → ⊥) → get_or work' (word i j) 0 ≡ 0
  now_unmarked i j u v m = rw words (keeps_off at s.width l work (word i j) other ∙ c.unmarked i j u v (λ k. m (old_in (dart i j E) k)))
    where
      other : (i' j' : ℕ) → In (dart i' j' E) l → word i' j' ≡ word i j → ⊥
      other i' j' k q =
          let r = place_one s.width i' j' i j (east_in i' j' k).0 u (omega arith) in
          m (subst (λ (b : Dart). In b (flat ds)) (λ z. dart (r.0 z) (r.1 z) E) (new_in (dart i' j' E) k))

  now_done : (i j : ℕ) → Before i j (suc x) y → IsPainted P s.paints (dart i j E) → In (dart i j E) (flat ds)
  now_done i j b q = go (before_next i j x y b)
    where
      go : Before i j x y ⊎ ((i ≡ x) × (j ≡ y)) → In (dart i j E) (flat ds)
      go (inl b) = old_in (dart i j E) (c.done i j b q)
      go (inr e) = rw (e.0, e.1) (new_in a (loop_in_lem (framed s ls) a p.cracked))

  apart : (i : ℕ) → (i < at) ⊎ (at + plane s.width s.height ≤ i) → (i' j' : ℕ) → In (dart i' j' E) l → word i' j' ≡ i → ⊥
  apart i (inl h) i' j' k q = omega arith
  apart i (inr h) i' j' k q = let r = east_in i' j' k in omega (arith, place_low s.width s.height i' j' r.0 r.1)

  pub add : Scanned s ls at (suc x) y work work' f'
  add = record {
    scan = record {
      cs = ds;
      loops = one_more (framed s ls) s.paints c.cs c.loops a p fresh;
      room = let r = c.room in omega (arith, ap length words, length_east_marked_all at s.width work l);
      marked = now_marked;
      unmarked = now_unmarked;
      done = now_done;
      count = omega (arith, one, c.count, length-append c.cs (l ∷ []));
      total = omega (arith, more, c.total, sum_append (refs_of P) c.cs (l ∷ []));
    };
    kept = record {
      long = ap length words ∙ length_east_marked_all at s.width work l;
      others = λ i h. rw words (keeps_off at s.width l work i (apart i h));
    };
  }

  pub add_loops : add.scan.cs ≡ ds
  unfolding add
  add_loops = refl
