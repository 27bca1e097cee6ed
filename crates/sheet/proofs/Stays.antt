-- THE THEOREM of the sheet: where the call for a sheet answers 0, no travel and no cut of a run leaves the sheet.
use Prim.Native.Nat.{ℕ, zero, suc, ◌+◌, ◌≤◌}
use mathlib.Core.Bool.{Bool, true, false, ◌&&◌, ◌||◌, true≢false}
use mathlib.Core.Path.{◌≡◌, refl, sym, ap, ◌∙◌, subst}
use mathlib.Core.Logic.{◌⊎◌, inl, inr}
use mathlib.Core.List.Memᴰ.{append_cases as in-cases}
use mathlib.Core.List.Memᴰ.{head as here}
use mathlib.Core.List.Memᴰ.{not-nil}
use mathlib.Core.List.Memᴰ.{of_map}
use mathlib.Core.List.Memᴰ.{tail as there}
use mathlib.Core.List.{List, [], ◌∷◌, ◌++◌, map, Memᴰ as In}
use native.Mathlib.Nat.{suc-add, add_comm}
use native.Mathlib.Omega.{arith}
use lib.Dec.{T}
use lib.ListN.{length, get_or, replicate}
use lib.Ieee.{binary64, fits, of_bits}
use lib.Ieee.Fits.{and_i, and_l, and_r}
use lib.Ieee.Bits.{of_bits-fits}
use Rattle.rules.specs.Picture.{picture, Dart, crack}
use Rattle.rules.specs.Graph.{segments}
use Rattle.rules.specs.Calls.{Map, CutList, picture_of, cut_list, Check, first_hit, counted, map_checks, graph_checks, face_checks, early, answer, store_after, call, Outcome}
use Rattle.rules.proofs.Ground.Lists.{in_flat, flat_map_in}
use Rattle.rules.proofs.Lattice.Frame.{Framed, picture_framed}
use Rattle.rules.proofs.Tracing.Partition.{describes}
use Rattle.std.specs.Prelude.{Result, Ok, Err, IfOk}
use Rattle.calls.specs.declared.Counts.{Counts}
use Rattle.calls.specs.declared.Refused.{Refused}
use Rattle.calls.specs.Outcome.{outcome}
use Rattle.calls.proofs.Checks.{Positive, both_miss, map_positive}
use Rattle.calls.proofs.Outcomes.{Passed, passed}
use Rattle.calls.proofs.Settled.{number_is}
use Rattle.sheet.specs.Sheet.{sheet_with, unfit, unfit_sheet, across_of, down_of, Action, corners_of, cut_to, through, moves}
use Rattle.sheet.specs.Within.{doubles, within, on_sheet, Stays, NoMoveLeaves}
use Rattle.sheet.specs.Moving.{Said, did, at_end, start_of, tell_of, makes}
use Rattle.sheet.specs.Call.{sheet_checks, whole_on_sheet}
use Rattle.sheet.specs.declared.Sheet.{Sheet}
use Rattle.sheet.specs.declared.Mover.{Mover}
use Rattle.sheet.proofs.Moves.{way, way_cracked, corner_on_map, whole_moves}
use Rattle.sheet.proofs.Within.{along_within}

-- a sheet made of any two words of 64 bits
pub words_are_doubles : (a b : ℕ) → T (doubles (sheet_with (of_bits binary64 a) (of_bits binary64 b)))
words_are_doubles a b = and_i (fits binary64 (of_bits binary64 a)) (fits binary64 (of_bits binary64 b)) (of_bits-fits binary64 a) (of_bits-fits binary64 b)

neither : (a b : Bool) → a || b ≡ false → (a ≡ false) × (b ≡ false)
neither true b e = absurd (true≢false e)
neither false b e = (refl, e)

pub fit_wide : (t : Sheet) → unfit_sheet t ≡ false → unfit t.width ≡ false
unfolding unfit_sheet
fit_wide t e = (neither (unfit t.width) (unfit t.height) e).0

pub fit_high : (t : Sheet) → unfit_sheet t ≡ false → unfit t.height ≡ false
unfolding unfit_sheet
fit_high t e = (neither (unfit t.width) (unfit t.height) e).1

-- A SHEET THAT IS NOT REFUSED, under a map with sides of any 32-bit numbers
module _ (t : Sheet) (d : T (doubles t)) (e : unfit_sheet t ≡ false) (w h : ℕ) (W : w ≤ 4294967295) (H : h ≤ 4294967295) where
  wide_double : T (fits binary64 t.width)
  wide_double = and_l (fits binary64 t.width) (fits binary64 t.height) d

  high_double : T (fits binary64 t.height)
  high_double = and_r (fits binary64 t.width) (fits binary64 t.height) d

  -- a corner on the map lies on the sheet
  pub across_within : (x : ℕ) → x ≤ w → T (within (across_of t w x) t.width)
  across_within x k = along_within t.width wide_double (fit_wide t e) w W x k

  pub down_within : (y : ℕ) → y ≤ h → T (within (down_of t h y) t.height)
  down_within y k = along_within t.height high_double (fit_high t e) h H y k

  point_on : (c : ℕ × ℕ) → (c.0 ≤ w) × (c.1 ≤ h) → T (within (across_of t w c.0) t.width && within (down_of t h c.1) t.height)
  point_on c k =
      and_i (within (across_of t w c.0) t.width) (within (down_of t h c.1) t.height) (across_within c.0 k.0) (down_within c.1 k.1)

  cuts_on : (cs : List (ℕ × ℕ)) → ((c : ℕ × ℕ) → In c cs → (c.0 ≤ w) × (c.1 ≤ h)) → (a : Action) → In a (map (cut_to t w h) cs) → T (on_sheet t a)
  cuts_on [] k a i = absurd (not-nil i)
  cuts_on (c ∷ cs) k a (here z) = subst (λ (b : Action). T (on_sheet t b)) (sym z) (point_on c (k c (here refl)))
  cuts_on (c ∷ cs) k a (there i) = cuts_on cs (λ c i. k c (there i)) a i

  through_on : (cs : List (ℕ × ℕ)) → ((c : ℕ × ℕ) → In c cs → (c.0 ≤ w) × (c.1 ≤ h)) → (a : Action) → In a (through t w h cs) → T (on_sheet t a)
  unfolding through
  through_on [] k a i = absurd (not-nil i)
  through_on (c ∷ cs) k a (here z) = subst (λ (b : Action). T (on_sheet t b)) (sym z) (point_on c (k c (here refl)))
  through_on (c ∷ cs) k a (there i) = cuts_on cs (λ c i. k c (there i)) a i

  -- the moves of any segments whose corners lie on the map
  pub moves_on : (ss : List (List Dart)) → ((s : List Dart) → In s ss → (c : ℕ × ℕ) → In c (corners_of s) → (c.0 ≤ w) × (c.1 ≤ h))
      → (a : Action) → In a (moves t w h ss) → T (on_sheet t a)
  unfolding moves
  moves_on ss k a i = let r = flat_map_in (λ s. through t w h (corners_of s)) ss a i in through_on (corners_of r.0) (k r.0 r.1) a r.2

-- A RUN of more calls says what a shorter one says
longer : (segs points : List ℕ) (n k : ℕ) (m : Mover) (s : Said) → In s (makes segs points n m) → In s (makes segs points (n + k) m)
unfolding makes
longer segs points zero k m s i = absurd (not-nil i)
longer segs points (suc n) k m s (here z) = rw suc-add (here z)
longer segs points (suc n) k m s (there i) = rw suc-add (there (longer segs points n k (tell_of segs points m).1 s i))

did_stays : (t : Sheet) (l : List Action) → ((a : Action) → In a l → T (on_sheet t a)) → (s : Said) → In s (map did l) → Stays t s
did_stays t [] k s i = absurd (not-nil i)
did_stays t (a ∷ l) k s (here z) = subst (λ (r : Said). Stays t r) (sym z) (refl, and_i (on_sheet t a) true (k a (here refl)) tt)
did_stays t (a ∷ l) k s (there i) = did_stays t l (λ a i. k a (there i)) s i

end_stays : (t : Sheet) (calls : ℕ) (s : Said) → In s (replicate calls at_end) → Stays t s
end_stays t zero s i = absurd (not-nil i)
end_stays t (suc calls) s (here z) = subst (λ (r : Said). Stays t r) (sym z) (refl, tt)
end_stays t (suc calls) s (there i) = end_stays t calls s i

-- THE CALL answered 0
module _ (t : Sheet) (d : T (doubles t)) (m : Map) (work ns ss ps rs cs fs : List ℕ) where
  abbrev l : CutList
  l = cut_list m

  abbrev more : List Check
  more = graph_checks l ns ss ps ++ face_checks l rs cs fs

  abbrev number : ℕ
  number = first_hit (map_checks m work ++ (more ++ sheet_checks t))

  abbrev parts : List (List ℕ × List ℕ)
  parts = (l.nodes, ns) ∷ (l.segments, ss) ∷ (l.points, ps) ∷ (l.references, rs) ∷ (l.contours, cs) ∷ (l.faces, fs) ∷ []

  abbrev o : Outcome
  o = whole_on_sheet t m work ns ss ps rs cs fs

  number_of : o.answer.number ≡ number
  unfolding whole_on_sheet
  number_of = number_is m l work (more ++ sheet_checks t) parts

  positive : Positive more
  unfolding graph_checks face_checks
  positive = (omega arith, (omega arith, (omega arith, (omega arith, (omega arith, (omega arith, tt))))))

  sheet_misses : first_hit (sheet_checks t) ≡ 0 → unfit_sheet t ≡ false
  unfolding first_hit sheet_checks
  sheet_misses = go (unfit_sheet t)
    where
      go : (b : Bool) → ◌≡◌ {A = ℕ} (elim b [ true ↦ 16 | false ↦ 0 ]) 0 → b ≡ false
      go true z = absurd (omega arith)
      go false z = refl

  module _ (z : o.answer.number ≡ 0) where
    none : number ≡ 0
    none = sym number_of ∙ z

    fine : Passed m work
    fine = passed m work (both_miss (map_checks m work) (more ++ sheet_checks t) (map_positive m work) none).0

    sheet_fit : unfit_sheet t ≡ false
    sheet_fit = sheet_misses (both_miss more (sheet_checks t) positive (both_miss (map_checks m work) (more ++ sheet_checks t) (map_positive m work) none).1).1

    answered : o.answer ≡ counted 0 l
    unfolding whole_on_sheet call answer early
    answered = ap (λ (n : ℕ). answer n l) none

    abbrev left : ℕ → List ℕ
    left i = get_or o.stores i []

    segments_left : left 2 ≡ store_after 0 l.segments ss
    unfolding whole_on_sheet call
    segments_left = ap (λ (n : ℕ). store_after n l.segments ss) none

    points_left : left 3 ≡ store_after 0 l.points ps
    unfolding whole_on_sheet call
    points_left = ap (λ (n : ℕ). store_after n l.points ps) none

    abbrev drawn : List (List Dart)
    drawn = segments (picture_of m)

    abbrev framed : Framed (picture_of m)
    framed = picture_framed m.width m.height m.bound m.labels

    ways_on_map : (b : Bool) (s : List Dart) → In s (map (way b) drawn) → (c : ℕ × ℕ) → In c (corners_of s) → (c.0 ≤ m.width) × (c.1 ≤ m.height)
    unfolding picture
    ways_on_map b s i =
        let r = of_map (way b) drawn i in
        corner_on_map framed s
        (subst (λ (s : List Dart). (a : Dart) → In a s → crack (picture_of m) a ≡ true) r.2
        (way_cracked framed b r.0 (λ a j. (describes framed).cracked a (in_flat drawn r.0 a r.1 j))))

    -- EVERY MOVE of the list, its segments read forward or backwards
    pub list_on_sheet : (b : Bool) (a : Action) → In a (moves t m.width m.height (map (way b) drawn)) → T (on_sheet t a)
    list_on_sheet b a i =
        moves_on t d sheet_fit m.width m.height (wide_enough fine.wide) (wide_enough fine.high) (map (way b) drawn) (ways_on_map b) a i
      where
        wide_enough : {n : ℕ} → n ≤ 16384 → n ≤ 4294967295
        wide_enough k = omega arith

    -- NO MOVE LEAVES THE SHEET: over the stores as the call leaves them, with the count that it answers, whatever number of calls is made
    pub no_move_leaves : NoMoveLeaves t m.width m.height o.answer.segments (left 2) (left 3)
    no_move_leaves b calls s i =
        let made = moves t m.width m.height (map (way b) drawn) in
        let mover = start_of t m.width m.height (counted 0 l).segments b in
        let j : In s (makes (store_after 0 l.segments ss) (store_after 0 l.points ps) calls mover) = rw (segments_left, points_left, answered) at i in
        let k = longer (store_after 0 l.segments ss) (store_after 0 l.points ps) calls (length made) mover s j in
        let q = subst (λ (n : ℕ). In s (makes (store_after 0 l.segments ss) (store_after 0 l.points ps) n mover)) (add_comm calls (length made)) k in
        by (in-cases (map did made) (subst (λ (r : List Said). In s r) (whole_moves t m ss ps b calls) q))
      where
        by : In s (map did (moves t m.width m.height (map (way b) drawn))) ⊎ In s (replicate calls at_end) → Stays t s
        by (inl i) = did_stays t (moves t m.width m.height (map (way b) drawn)) (list_on_sheet b) s i
        by (inr i) = end_stays t calls s i

-- AS THE CALL SAYS IT: by its answer, and the stores that it leaves
pub with_moves : (t : Sheet) → fits binary64 t.width ≡ true → fits binary64 t.height ≡ true
    → (m : Map) (work ns ss ps rs cs fs : List ℕ) (r : Result Counts Refused) (work' ns' ss' ps' : List ℕ) (more : List (List ℕ))
    → outcome r (work' ∷ ns' ∷ ss' ∷ ps' ∷ more) ≡ whole_on_sheet t m work ns ss ps rs cs fs
    → IfOk r (λ c. NoMoveLeaves t m.width m.height c.segments ss' ps')
with_moves t p q m work ns ss ps rs cs fs (Ok c) work' ns' ss' ps' more e =
    let d : T (doubles t) = and_i (fits binary64 t.width) (fits binary64 t.height) (subst T (sym p) tt) (subst T (sym q) tt) in
    subst (λ (o : Outcome). NoMoveLeaves t m.width m.height o.answer.segments (get_or o.stores 2 []) (get_or o.stores 3 [])) (sym e)
    (no_move_leaves t d m work ns ss ps rs cs fs (sym (ap (λ (o : Outcome). o.answer.number) e)))
with_moves t p q m work ns ss ps rs cs fs (Err x) work' ns' ss' ps' more e = tt
