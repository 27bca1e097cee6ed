-- What is found at a corner: nothing to add, or a loop of its own, whose sum goes to its face.
use Prim.Native.Nat.{ℕ, zero, suc, ◌+◌, ◌*◌, ◌<◌, ◌≤◌}
use mathlib.Core.Path.{◌≡◌, refl, sym, ap, ap₂, ◌∙◌, subst}
use mathlib.Core.Bool.{Bool, true, false, true≢false}
use mathlib.Core.Logic.{inl}
use mathlib.Core.List.Memᴰ.{head as here}
use mathlib.Core.List.Memᴰ.{not-nil}
use mathlib.Core.List.Memᴰ.{tail as there}
use mathlib.Core.List.{List, [], ◌∷◌, ◌++◌, Memᴰ as In}
use native.Mathlib.Omega.{arith}
use native.Mathlib.Decide.{ℕ_discrete}
use lib.Dec.{eqb}
use lib.IntN.{ℤ, pos, nat_abs, ◌+ℤ◌, +ℤ_idr}
use lib.ListN.{length, get_or, set, length-append, length-set}
use lib.Seq.{get_or-set_same, get_or-set_other}
use mir.Syntax.{w64}
use mir.Val.{to_z, of_z}
use mir.ValLaws.{to_z-of_z}
use borrow.Author.Tests.{eq-eqb, ne_eqb}
use Rattle.rules.specs.Lists.{flat, Distinct}
use Rattle.rules.specs.Picture.{Picture, picture, OUTSIDE, Dart, dart, left, crack}
use Rattle.rules.specs.declared.Dir.TheVariants.{E}
use Rattle.rules.specs.Face.{island, no_dart, beside}
use Rattle.rules.proofs.Ground.Lists.{in_at, in_flat}
use Rattle.rules.proofs.Lattice.Frame.{Framed}
use Rattle.rules.proofs.Lattice.Darts.{crack_y}
use Rattle.rules.proofs.Islands.Beside.{beside_in, beside_label}
use Rattle.rules.proofs.Contours.Loops.{loop_of, the_loop, loop_cracks, loop_short, IsPainted, sides_low}
use Rattle.rules.proofs.Contours.Counts.{refs_of}
use Rattle.rules.proofs.Faces.FirstPixels.{First, first_in_lem, in_firsts, firsts_distinct, first_of_lem}
use Rattle.lattice.specs.declared.Size.{Size}
use Rattle.lattice.specs.declared.Walker.{Walker}
use Rattle.lattice.specs.Size.{Map, Corner, pic}
use Rattle.lattice.specs.Planes.{plane, place}
use Rattle.lattice.proofs.Frame.{framed}
use Rattle.lattice.proofs.Planes.{fuel_low}
use Rattle.face.specs.declared.contours.Found.{Found}
use Rattle.face.specs.Contours.{Scanned}
use Rattle.face.proofs.contours.Scanning.{skip, skip_loops, add, add_loops}
use Rattle.face.proofs.contours.Finding.{in_or}
use Rattle.assemble.specs.Words.{Flanked, pixel_in}
use Rattle.assemble.proofs.FirstSteps.{pixel_is}
use Rattle.assemble.proofs.Readings.{flanked}
use Rattle.veneer.specs.declared.Round.{Round}
use Rattle.veneer.specs.Sums.{total, signed}
use Rattle.veneer.specs.Steps.{Rounded, share, firsts_of, Named, face_in, Fits, Measuring, Measures}
use Rattle.veneer.proofs.Integers.{total_append}
use Rattle.veneer.proofs.Signed.{sum_size, small_fits}
use Rattle.veneer.proofs.Summing.{total_size, signed_size}

-- the place of a member, and that there is only one
placed : {A : Type 0} (l : List A) (d a : A) → In a l → (k : ℕ) × (k < length l) × (get_or l k d ≡ a)
placed [] d a i = absurd (not-nil i)
placed (b ∷ l) d a (here e) = (0, omega arith, sym e)
placed (b ∷ l) d a (there i) = let r = placed l d a i in (suc r.0, omega (arith, r.1), r.2)

pub one_place : (l : List ℕ) → Distinct l → (i j : ℕ) → i < length l → j < length l → get_or l i 0 ≡ get_or l j 0 → i ≡ j
one_place [] d i j h k e = absurd (omega arith)
one_place (a ∷ l) d zero zero h k e = refl
one_place (a ∷ l) d zero (suc j) h k e = absurd (d.0 (subst (λ b. In b l) (sym e) (in_at l j 0 (omega arith))))
one_place (a ∷ l) d (suc i) zero h k e = absurd (d.0 (subst (λ b. In b l) e (in_at l i 0 (omega arith))))
one_place (a ∷ l) d (suc i) (suc j) h k e = ap suc (one_place l d.1 i j (omega arith) (omega arith) e)

-- the sums of loops stay small
totals_size : (f : List Dart → ℤ) (cs : List (List Dart)) → ((c : List Dart) → In c cs → nat_abs (f c) ≤ 16384 * length c) → nat_abs (total f cs) ≤ 16384 * length (flat cs)
unfolding flat
totals_size f [] h = omega arith
totals_size f (c ∷ cs) h = omega (arith, sum_size (f c) (total f cs), h c (here refl), totals_size f cs (λ d i. h d (there i)), length-append c (flat cs))

share_size : (P : Picture) (p : ℕ) (c : List Dart) → ((a : Dart) → In a c → nat_abs (signed a) ≤ 16384) → nat_abs (share P p c) ≤ 16384 * length c
share_size P p c h = go (eqb (island P (get_or c 0 no_dart)) p)
  where
    go : (b : Bool) → nat_abs (elim b as (λ x. ℤ) [ true ↦ total signed c | false ↦ pos 0 ]) ≤ 16384 * length c
    go true = total_size signed 16384 c h
    go false = omega arith

module _ {s : Size} {ls : List ℕ} {at x y : ℕ} {work : List ℕ} {numbers : List ℤ} {f : Found} (M : Map s ls) (o : Measuring s ls at x y work numbers f) where
  abbrev P : Picture
  P = pic s ls

  abbrev F : Framed P
  F = framed s ls

  abbrev C : ℕ
  C = plane s.width s.height

  abbrev fp : List ℕ
  fp = firsts_of s ls

  abbrev a : Dart
  a = dart x y E

  -- NOTHING TO ADD
  passing : (IsPainted P s.paints a → In a (flat o.scan.cs)) → Measures s ls at (suc x) y work numbers work numbers f
  passing h =
      let k = skip o.scan h in
      record {
        measuring = record {
          word = o.word;
          scan = k.scan;
          behind = o.behind;
          named = o.named;
          long = o.long;
          shares = λ k l. o.shares k l ∙ ap (total (share P (get_or fp k 0))) (sym (skip_loops o.scan h));
        };
        kept = k.kept;
        long = refl;
        past = λ k l. refl;
      }

  pub unpainted : s.paints ≤ left P a → Measures s ls at (suc x) y work numbers work numbers f
  unpainted h = passing (λ p. let k = p.painted in absurd (omega arith))

  pub uncracked : crack P a ≡ false → Measures s ls at (suc x) y work numbers work numbers f
  uncracked e = passing (λ p. absurd (true≢false (sym p.cracked ∙ e)))

  pub known : Corner s x y → (get_or work (at + place s.width x y) 0 ≡ 0 → ⊥) → Measures s ls at (suc x) y work numbers work numbers f
  known k n = passing (λ p. elim (in_or a (flat o.scan.cs)) [ yes j ↦ j | no j ↦ absurd (n (o.scan.unmarked x y k.across k.down j)) ])

  -- A LOOP OF ITS OWN
  module _ {l : ℕ} (cracked : crack P a ≡ true) (lefts : left P a ≡ l) (paint : l < s.paints) (k : Corner s x y) (blank : get_or work (at + place s.width x y) 0 ≡ 0)
      {work' : List ℕ} {r : Round} (d : Rounded s ls at (record { x = x; y = y; d = E }) work work' r) where
    abbrev w : Walker
    w = record { x = x; y = y; d = E }

    abbrev c : List Dart
    c = loop_of P a

    its : IsPainted P s.paints a
    its = record { cracked = cracked; painted = omega (arith, lefts, paint) }

    inside : left P a ≡ OUTSIDE → ⊥
    inside e = omega (arith, lefts, paint, o.word, e)

    pub beside_face : Flanked s w
    beside_face = flanked s ls w M cracked inside

    begins : get_or c 0 no_dart ≡ a
    begins = ap (λ (l : List Dart). get_or l 0 no_dart) (the_loop F a cracked).1

    first : First P s.paints (island P a)
    first = first_of_lem F s.paints (beside P a) (beside_in F a inside) (omega (arith, beside_label F a inside, lefts, paint))

    spot : (j : ℕ) × (j < length fp) × (get_or fp j 0 ≡ island P a)
    spot = placed fp 0 (island P a) (in_firsts P s.paints (island P a) first)

    grown : Scanned s ls at (suc x) y work work' (record { contours = f.contours + 1; references = f.references + refs_of P c })
    grown = add o.scan its k.across k.down blank d.looped.words refl refl

    same : (i : ℕ) → i < 7 * C → get_or work' i 0 ≡ get_or work i 0
    same i h = grown.kept.others i (inl (omega (arith, o.behind)))

    pixels_in : s.width * s.height ≤ C
    pixels_in = omega arith

    face_is : face_in s work' w ≡ spot.0
    unfolding picture
    face_is =
        let on = beside_in F a inside in
        let q = pixel_is s ls w in
        let e : get_or work' (5 * C + pixel_in s w) 0 ≡ island P a =
        same (5 * C + pixel_in s w) (omega (arith, on, q, pixels_in)) ∙ ap (λ q. get_or work (5 * C + q) 0) q
        ∙ o.named.isles (beside P a) on (omega (arith, beside_label F a inside, lefts, paint)) in
        ap (λ q. get_or work' (4 * C + q) 0) (e ∙ sym spot.2)
        ∙ same (4 * C + get_or fp spot.0 0) (omega (arith, spot.2, first.on, pixels_in)) ∙ o.named.heads spot.0 spot.1

    crack_low : (b : Dart) → crack P b ≡ true → nat_abs (signed b) ≤ 16384
    unfolding picture
    crack_low b h = omega (arith, signed_size b, crack_y F b h, M.high)

    low : nat_abs r.sum ≤ 16384 * length c
    low = omega (arith, ap nat_abs d.sum, total_size signed 16384 c (λ b j. crack_low b (loop_cracks F a cracked b j)))

    -- as it is handed over
    back : to_z w64 (of_z w64 r.sum) ≡ r.sum
    back = to_z-of_z w64 r.sum (small_fits r.sum (omega (arith, low, fuel_low s ls M, loop_short F a cracked)))

    pub room : Fits numbers (face_in s work' w) (to_z w64 (of_z w64 r.sum))
    room =
        let cs = o.scan.cs in
        let p = get_or fp spot.0 0 in
        let e : get_or numbers (face_in s work' w) (pos 0) ≡ total (share P p) cs = ap (λ j. get_or numbers j (pos 0)) face_is ∙ o.shares spot.0 spot.1 in
        let u = totals_size (share P p) cs (λ c i. share_size P p c (λ b j. crack_low b (o.scan.loops.painted b (in_flat cs c b i j)).cracked)) in
        omega (arith, ap nat_abs e, u, ap nat_abs back, low, fuel_low s ls M, sides_low F s.paints cs o.scan.loops, loop_short F a cracked)

    share_own : (p : ℕ) → island P a ≡ p → share P p c ≡ total signed c
    share_own p e = ap (λ (b : Bool). elim b as (λ x. ℤ) [ true ↦ total signed c | false ↦ pos 0 ]) (ap (λ b. eqb (island P b) p) begins ∙ eq-eqb (island P a) p e)

    share_none : (p : ℕ) → (island P a ≡ p → ⊥) → share P p c ≡ pos 0
    share_none p n = ap (λ (b : Bool). elim b as (λ x. ℤ) [ true ↦ total signed c | false ↦ pos 0 ]) (ap (λ b. eqb (island P b) p) begins ∙ ne_eqb (island P a) p n)

    one_more : (p : ℕ) → total (share P p) (o.scan.cs ++ (c ∷ [])) ≡ total (share P p) o.scan.cs +ℤ share P p c
    one_more p = total_append (share P p) o.scan.cs (c ∷ []) ∙ ap (λ n. total (share P p) o.scan.cs +ℤ n) (+ℤ_idr (share P p c))

    module _ {numbers' : List ℤ} (e : numbers' ≡ set numbers (face_in s work' w) (get_or numbers (face_in s work' w) (pos 0) +ℤ to_z w64 (of_z w64 r.sum)))
        {f' : Found} (one : f'.contours ≡ f.contours + 1) (more : f'.references ≡ f.references + refs_of P c) where
      abbrev j : ℕ
      j = spot.0

      abbrev v : ℤ
      v = get_or numbers j (pos 0) +ℤ total signed c

      now_set : numbers' ≡ set numbers j v
      now_set = e ∙ (λ i. set numbers (face_is i) (get_or numbers (face_is i) (pos 0) +ℤ (back ∙ d.sum) i))

      others : (k : ℕ) → (k ≡ j → ⊥) → get_or numbers' k (pos 0) ≡ get_or numbers k (pos 0)
      others k n = ap (λ (l : List ℤ). get_or l k (pos 0)) now_set ∙ get_or-set_other numbers j k v (pos 0) n

      hit : get_or numbers' j (pos 0) ≡ total (share P (get_or fp j 0)) (o.scan.cs ++ (c ∷ []))
      hit =
          ap (λ (l : List ℤ). get_or l j (pos 0)) now_set ∙ get_or-set_same numbers j v (pos 0) (omega (arith, spot.1, o.long))
          ∙ ap₂ (λ m n. m +ℤ n) (o.shares j spot.1) (sym (share_own (get_or fp j 0) (sym spot.2)))
          ∙ sym (one_more (get_or fp j 0))

      miss : (k : ℕ) → k < length fp → (k ≡ j → ⊥) → get_or numbers' k (pos 0) ≡ total (share P (get_or fp k 0)) (o.scan.cs ++ (c ∷ []))
      miss k h n =
          let p = get_or fp k 0 in
          others k n ∙ o.shares k h
          ∙ sym (one_more p ∙ ap (λ m. total (share P p) o.scan.cs +ℤ m) (share_none p (λ q. n (one_place fp (firsts_distinct P s.paints) k j h spot.1 (sym q ∙ sym spot.2)))) ∙ +ℤ_idr (total (share P p) o.scan.cs))

      now_share : (k : ℕ) → k < length fp → get_or numbers' k (pos 0) ≡ total (share P (get_or fp k 0)) (o.scan.cs ++ (c ∷ []))
      now_share k h = elim (ℕ_discrete k j) [
        | yes q ↦ subst (λ k. get_or numbers' k (pos 0) ≡ total (share P (get_or fp k 0)) (o.scan.cs ++ (c ∷ []))) (sym q) hit
        | no n ↦ miss k h n
      ]

      still_named : Named s ls work'
      unfolding picture
      still_named = record {
        isles = λ q h p. same (5 * C + q) (omega (arith, h, pixels_in)) ∙ o.named.isles q h p;
        heads = λ k h. same (4 * C + get_or fp k 0) (omega (arith, (first_in_lem P s.paints (get_or fp k 0) (in_at fp k 0 h)).on, pixels_in)) ∙ o.named.heads k h;
      }

      pub adding : Measures s ls at (suc x) y work numbers work' numbers' f'
      adding =
          let g = add o.scan its k.across k.down blank d.looped.words one more in
          record {
            measuring = record {
              word = o.word;
              scan = g.scan;
              behind = o.behind;
              named = still_named;
              long = omega (arith, o.long, ap length now_set, length-set numbers j v);
              shares = λ i h. now_share i h ∙ ap (total (share P (get_or fp i 0))) (sym (add_loops o.scan its k.across k.down blank d.looped.words one more));
            };
            kept = g.kept;
            long = ap length now_set ∙ length-set numbers j v;
            past = λ k h. others k (λ q. omega (arith, spot.1, h, q));
          }
