-- A step looked at: it is on a contour of a named island that is found, or on none, or it starts a new one.
use Prim.Native.Nat.{ℕ, suc, ◌+◌, ◌*◌, ◌<◌, ◌≤◌}
use mathlib.Core.Path.{◌≡◌, refl, sym, ap, ap₂, ◌∙◌, subst}
use mathlib.Core.Bool.{Bool, true, false, true≢false}
use mathlib.Core.Logic.{inr, ⊎_elim}
use mathlib.Core.List.Memᴰ.{append_cases as in-cases}
use mathlib.Core.List.Memᴰ.{append_left as in_left}
use mathlib.Core.List.Memᴰ.{append_right as in_right}
use mathlib.Core.List.Memᴰ.{cast as in-cast}
use mathlib.Core.List.Memᴰ.{eq_of_singleton}
use mathlib.Core.List.Memᴰ.{not-nil}
use mathlib.Core.List.{List, [], ◌∷◌, ◌++◌, map, map-append, Memᴰ as In}
use native.Mathlib.Omega.{arith}
use lib.ListN.{length, get_or, set, length-set, length-append, length-map}
use lib.Seq.{get_or-set_same, get_or-set_other}
use Rattle.rules.specs.Lists.{flat, among}
use Rattle.rules.specs.Picture.{Picture, picture, OUTSIDE, Dart, dart, left, crack}
use Rattle.rules.specs.declared.Dir.TheVariants.{E}
use Rattle.rules.specs.Face.{label_of, beside, island, turn}
use Rattle.rules.specs.Records.{NONE}
use Rattle.rules.proofs.Ground.Lists.{flat_snoc, among_in, not_among}
use Rattle.rules.proofs.Ground.Orbits.{Cycle}
use Rattle.rules.proofs.Lattice.Frame.{Framed}
use Rattle.rules.proofs.Lattice.Darts.{crack_x, crack_y}
use Rattle.rules.proofs.Contours.Loops.{loop_of, loop_cracks, Loops}
use Rattle.rules.proofs.Contours.Few.{loops_few}
use Rattle.rules.proofs.Islands.Beside.{beside_in, beside_label}
use Rattle.rules.proofs.Islands.Bounds.{island_label}
use Rattle.rules.proofs.Faces.FirstPixels.{First, first_of_lem}
use Rattle.benches.proofs.Scan.{EastSouth, Wanted, loops, Found, Next, nothing_new, new_contour}
use Rattle.store.specs.Words.{part, Kept}
use Rattle.store.proofs.Parts.{part_append, part_same}
use Rattle.store.proofs.Writes.{kept_then}
use Rattle.lattice.specs.declared.Around.{Around}
use Rattle.lattice.specs.declared.Size.{Size}
use Rattle.lattice.specs.declared.Walker.{Walker}
use Rattle.lattice.specs.Size.{Corner, pic}
use Rattle.lattice.specs.Planes.{plane}
use Rattle.lattice.specs.Around.{around_of, left_in, crack_in}
use Rattle.lattice.specs.Walker.{dart_of}
use Rattle.lattice.proofs.Ways.{left_in_lem, crack_in_lem}
use Rattle.lattice.proofs.Frame.{framed}
use Rattle.face.proofs.contours.Finding.{in_or}
use Rattle.assemble.specs.Words.{Flanked, pixel_in}
use Rattle.assemble.proofs.FirstSteps.{pixel_is}
use Rattle.assemble.proofs.Readings.{flanked}
use Rattle.listing.specs.Marks.{mark_in, marked_all}
use Rattle.listing.specs.Starts.{code_of}
use Rattle.listing.specs.Writing.{head_in}
use Rattle.listing.specs.Finding.{isle_at, Ready, Finding}
use Rattle.listing.proofs.Marking.{length_marks}
use Rattle.listing.proofs.Marked.{mark_low, mark_one, stays_all, marks_in, keeps_off}
use Rattle.listing.proofs.Rows.{row_over, none_first}

-- the labels beside a step, by those around its corner
module _ (P : Picture) (w : Walker) {a : Around} (looks : a ≡ around_of P w.x w.y) where
  pub left_of_lem : {l : ℕ} → l ≡ left_in a w.d → left P (dart_of w) ≡ l
  left_of_lem e = sym (e ∙ ap (λ (a : Around). left_in a w.d) looks ∙ left_in_lem P w.x w.y w.d)

  pub crack_of : {r : Bool} → r ≡ crack_in a w.d → crack P (dart_of w) ≡ r
  crack_of e = sym (e ∙ ap (λ (a : Around). crack_in a w.d) looks ∙ crack_in_lem P w.x w.y w.d)

-- loops that are found are loops of painted sides, so there are no more than corners
found_loops : {P : Picture} {paints : ℕ} {names : List ℕ} {b : Dart} {starts : List Dart} → Found P paints names b starts → Loops P paints (loops P starts)
found_loops {P} f = record {
  cycles = λ c i. let u = f.arranged.canonical c i in subst (Cycle (turn P)) (sym u.is) u.cycle;
  once = f.arranged.once;
  painted = λ a i. let w = f.wanted a i in record { cracked = w.cracked; painted = w.painted };
}

pub found_few : {P : Picture} (F : Framed P) {paints : ℕ} {names : List ℕ} {b : Dart} {starts : List Dart} → Found P paints names b starts → length starts ≤ suc P.h * suc P.w
found_few {P} F {paints} {starts = starts} f = omega (arith, loops_few F paints (loops P starts) (found_loops f), length-map starts (loop_of P))

module _ {s : Size} {ls names work₀ : List ℕ} (r : Ready s ls names work₀) where
  abbrev P : Picture
  P = pic s ls

  abbrev F : Framed P
  F = framed s ls

  abbrev C : ℕ
  C = plane s.width s.height

  pub corner_of_lem : (a : Dart) → crack P a ≡ true → Corner s a.x a.y
  unfolding picture
  corner_of_lem a c = record { across = crack_x F a c; down = crack_y F a c }

  pub found_room : {b : Dart} {starts : List Dart} → Found P s.paints names b starts → length starts ≤ C
  unfolding picture
  found_room f = omega (arith, found_few F f)

  -- BEFORE THE FIRST STEP
  pub nothing_yet : {work : List ℕ} → ((i : ℕ) → i < 2 * C → get_or work i 0 ≡ 0) → Kept 0 (3 * C) work₀ work → Finding s ls names work₀ (dart 0 0 E) 0 work
  unfolding flat
  nothing_yet z k = record {
    starts = [];
    found = record {
      arranged = record { canonical = λ c i. absurd (not-nil i); once = tt; order = tt };
      wanted = λ a i. absurd (not-nil i);
      before = λ a i. absurd (not-nil i);
      done = λ a e d w. absurd (none_first F a d e);
    };
    count = refl;
    sides = λ a i. absurd (not-nil i);
    marked = λ a d i. absurd (not-nil i);
    unmarked = λ a c d n. z (mark_in s a) (mark_low s a c d);
    listed = refl;
    kept = k;
  }

  -- THE ISLAND of a painted side
  module _ (w : Walker) (c : crack P (dart_of w) ≡ true) (l : left P (dart_of w) < s.paints) where
    abbrev a : Dart
    a = dart_of w

    inside : left P a ≡ OUTSIDE → ⊥
    inside e = omega (arith, r.paints)

    pub side_flanked : Flanked s w
    side_flanked = flanked s ls w r.map c inside

    pub isle_first : First P s.paints (island P a)
    isle_first = first_of_lem F s.paints (beside P a) (beside_in F a inside) (omega (arith, beside_label F a inside))

    pub isle_label : label_of P (island P a) ≡ left P a
    isle_label = island_label F a inside

    module _ {work : List ℕ} (k : Kept 0 (3 * C) work₀ work) where
      pub isle_is : isle_at s work w ≡ island P a
      unfolding picture
      isle_is =
          k.others (5 * C + pixel_in s w) (inr (omega arith)) ∙ ap (λ p. get_or work₀ (5 * C + p) 0) (pixel_is s ls w)
          ∙ r.numbers (beside P a) (beside_in F a inside) (λ e. inside (sym (beside_label F a inside) ∙ e))

      -- as the code reads its head
      pub head_read : {c p v : ℕ} → c ≡ C → p ≡ isle_at s work w → v ≡ get_or work (4 * c + p) 0 → v ≡ head_in s work (island P a)
      head_read e f g = g ∙ ap₂ (λ c p. get_or work (4 * c + p) 0) e (f ∙ isle_is)

      same_head : head_in s work (island P a) ≡ head_in s work₀ (island P a)
      same_head = k.others (4 * C + island P a) (inr (omega arith))

      pub head_chosen : In (left P a) names → head_in s work (island P a) ≡ 0
      head_chosen i = same_head ∙ r.chosen (island P a) isle_first (in-cast isle_label i)

      head_other : (In (left P a) names → ⊥) → head_in s work (island P a) ≡ NONE
      head_other n = same_head ∙ r.others (island P a) isle_first (λ i. n (in-cast (sym isle_label) i))

      pub head_named : (head_in s work (island P a) ≡ NONE → ⊥) → In (left P a) names
      head_named n = go (among (left P a) names) refl
        where
          go : (t : Bool) → among (left P a) names ≡ t → In (left P a) names
          go true e = among_in (left P a) names e
          go false e = absurd (n (head_other (not_among (left P a) names e)))

  -- THE STEP w
  module _ (w : Walker) {k : ℕ} {work : List ℕ} (f : Finding s ls names work₀ (dart_of w) k work) (b' : Dart) (n : Next P (dart_of w) b') where
    abbrev at : Dart
    at = dart_of w

    abbrev cs : List (List Dart)
    cs = loops P f.starts

    -- nothing new
    same_found : (EastSouth at.d → Wanted P s.paints names at → In at (flat cs)) → Finding s ls names work₀ b' k work
    same_found g = record {
      starts = f.starts;
      found = nothing_new F at f.starts f.found b' n g;
      count = f.count;
      sides = f.sides;
      marked = f.marked;
      unmarked = f.unmarked;
      listed = f.listed;
      kept = f.kept;
    }

    pub unpainted : s.paints ≤ left P at → Finding s ls names work₀ b' k work
    unpainted h = same_found (λ d v. absurd (let z = v.painted in omega arith))

    pub uncracked : crack P at ≡ false → Finding s ls names work₀ b' k work
    uncracked e = same_found (λ d v. absurd (true≢false (sym v.cracked ∙ e)))

    pub known : Corner s w.x w.y → (get_or work (mark_in s at) 0 ≡ 0 → ⊥) → Finding s ls names work₀ b' k work
    known c m = same_found (λ d v. elim (in_or at (flat cs)) [ yes i ↦ i | no i ↦ absurd (m (f.unmarked at c d i)) ])

    pub unnamed : crack P at ≡ true → left P at < s.paints → head_in s work (island P at) ≡ NONE → Finding s ls names work₀ b' k work
    unnamed c l e = same_found (λ d v. absurd (let z = head_chosen w c l f.kept v.named in omega (arith, z, e)))

    -- a new contour
    module _ (d : EastSouth at.d) (c : crack P at ≡ true) (l : left P at < s.paints) (m : get_or work (mark_in s at) 0 ≡ 0) (h : head_in s work (island P at) ≡ NONE → ⊥) where
      wanted : Wanted P s.paints names at
      wanted = record { cracked = c; painted = l; named = head_named w c l f.kept h }

      fresh : In at (flat cs) → ⊥
      fresh i = let z = f.marked at d i in omega (arith, z, m)

      found' : Found P s.paints names b' (f.starts ++ (at ∷ []))
      found' = new_contour F at f.starts f.found wanted fresh b' n

      pub one_more : k < C
      one_more = omega (arith, found_room found', length-append f.starts (at ∷ []), f.count)

      abbrev loop : List Dart
      loop = loop_of P at

      flat_more : flat (loops P (f.starts ++ (at ∷ []))) ≡ flat cs ++ loop
      flat_more = ap flat (map-append (loop_of P) f.starts (at ∷ [])) ∙ flat_snoc cs loop

      loop_low : (b : Dart) → EastSouth b.d → In b loop → mark_in s b < 2 * C
      loop_low b e i = mark_low s b (corner_of_lem b (loop_cracks F at c b i)) e

      module _ {work₁ work₂ : List ℕ} (e₁ : work₁ ≡ marked_all s work loop) (e₂ : work₂ ≡ set work₁ (2 * C + k) (code_of s at)) where
        long₁ : length work₁ ≡ length work
        long₁ = ap length e₁ ∙ length_marks s loop work

        long : length work₂ ≡ length work
        long = ap length e₂ ∙ length-set work₁ (2 * C + k) (code_of s at) ∙ long₁

        room : 8 * C ≤ length work
        room = omega (arith, r.room, f.kept.long)

        other : (i : ℕ) → (i ≡ 2 * C + k → ⊥) → get_or work₂ i 0 ≡ get_or (marked_all s work loop) i 0
        other i z = ap (λ (v : List ℕ). get_or v i 0) e₂ ∙ get_or-set_other work₁ (2 * C + k) i (code_of s at) 0 z ∙ ap (λ (v : List ℕ). get_or v i 0) e₁

        -- what is not a mark
        behind : (i : ℕ) → (i ≡ 2 * C + k → ⊥) → 2 * C ≤ i → get_or work₂ i 0 ≡ get_or work i 0
        behind i z u = other i z ∙ keeps_off s loop work i (λ b e j q. omega (arith, loop_low b e j, u, q))

        low_other : (i : ℕ) → i < 2 * C → i ≡ 2 * C + k → ⊥
        low_other i u z = omega arith

        marked' : (b : Dart) → EastSouth b.d → In b (flat (loops P (f.starts ++ (at ∷ [])))) → get_or work₂ (mark_in s b) 0 ≡ 1
        marked' b e i =
            let u = mark_low s b (corner_of_lem b (found'.wanted b i).cracked) e in
            let v : mark_in s b < length work = omega (arith, room) in
            other (mark_in s b) (low_other (mark_in s b) u)
            ∙ ⊎_elim (λ (j : In b (flat cs)). stays_all s loop work (mark_in s b) v (f.marked b e j)) (λ (j : In b loop). marks_in s loop work b e j v) (in-cases (flat cs) (subst (In b) flat_more i))

        unmarked' : (b : Dart) → Corner s b.x b.y → EastSouth b.d → (In b (flat (loops P (f.starts ++ (at ∷ [])))) → ⊥) → get_or work₂ (mark_in s b) 0 ≡ 0
        unmarked' b q e i =
            other (mark_in s b) (low_other (mark_in s b) (mark_low s b q e))
            ∙ keeps_off s loop work (mark_in s b) (λ a y j z. i (subst (In b) (sym flat_more) (in_right (flat cs) (in-cast (sym (mark_one s a b (corner_of_lem a (loop_cracks F at c a j)) q y e z)) j))))
            ∙ f.unmarked b q e (λ j. i (subst (In b) (sym flat_more) (in_left loop j)))

        listed' : part work₂ (2 * C) (k + 1) ≡ map (code_of s) (f.starts ++ (at ∷ []))
        listed' =
            part_append work₂ (2 * C) k 1
            ∙ ap₂ (λ (u v : List ℕ). u ++ v) (part_same work₂ work (2 * C) (2 * C) k (λ i z. behind (2 * C + i) (λ y. omega arith) (omega arith)) ∙ f.listed)
            (ap (λ v. v ∷ []) (ap (λ (v : List ℕ). get_or v (2 * C + k) 0) e₂ ∙ get_or-set_same work₁ (2 * C + k) (code_of s at) 0 (omega (arith, long₁, room, one_more))))
            ∙ sym (map-append (code_of s) f.starts (at ∷ []))

        kept' : Kept 0 (3 * C) work work₂
        kept' = record { long = long; others = λ i z. ⊎_elim (λ (u : i < 0). absurd (omega arith)) (λ (u : 3 * C ≤ i). behind i (λ y. omega (arith, one_more)) (omega arith)) z }

        pub added : Finding s ls names work₀ b' (k + 1) work₂
        added = record {
          starts = f.starts ++ (at ∷ []);
          found = found';
          count = omega (arith, f.count, length-append f.starts (at ∷ []));
          sides = λ a i. ⊎_elim (f.sides a) (λ (j : In a (at ∷ [])). subst (λ a. EastSouth a.d × Wanted P s.paints names a) (sym (eq_of_singleton j)) (d, wanted)) (in-cases f.starts i);
          marked = marked';
          unmarked = unmarked';
          listed = listed';
          kept = kept_then f.kept kept';
        }

  -- THE END OF A ROW
  pub row_done : {x y k : ℕ} {work : List ℕ} → x ≡ suc s.width → Finding s ls names work₀ (dart x y E) k work → Finding s ls names work₀ (dart 0 (y + 1) E) k work
  unfolding picture
  row_done {x} {y} {k} {work} e f =
      let z : suc y ≡ y + 1 = omega arith in
      let g : Finding s ls names work₀ (dart (suc s.width) y E) k work = subst (λ v. Finding s ls names work₀ (dart v y E) k work) e f in
      subst (λ v. Finding s ls names work₀ (dart 0 v E) k work) z
      (same_found (record { x = suc s.width; y = y; d = E }) g (dart 0 (suc y) E) (row_over F y) (λ d v. absurd (let l = crack_x F (dart (suc s.width) y E) v.cracked in omega arith)))
