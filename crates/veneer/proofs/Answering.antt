-- The answer of the call, and the sums in their store.
use Prim.Native.Nat.{ℕ, ◌+◌, ◌*◌, ◌-◌, ◌<◌, ◌≤◌}
use mathlib.Core.Path.{◌≡◌, refl, sym, ap, ◌∙◌}
use mathlib.Core.Bool.{Bool, true, false}
use mathlib.Core.List.{List, [], ◌∷◌, ◌++◌, map, map-map}
use native.Mathlib.Omega.{arith}
use native.Mathlib.Decide.{dec_lt}
use lib.Dec.{ltb}
use lib.IntN.{ℤ, pos}
use lib.ListN.{length, get_or, drop, replicate, length-map, length-append, length-drop, get_or-append}
use lib.Seq.{sets, ext_get_or, get_or-append-add, get_or-drop}
use borrow.Author.Tests.{ltb-false, ne_eqb}
use Rattle.rules.specs.Picture.{Picture, OUTSIDE}
use Rattle.rules.specs.Graph.{segments}
use Rattle.rules.specs.Face.{islands, contours, face, faces}
use Rattle.rules.specs.Calls.{Map, Accepted, cut_list, Check, first_hit, call}
use Rattle.rules.proofs.Ground.Lists.{at_map}
use Rattle.rules.proofs.Ground.Pigeonhole.{rearranged_length}
use Rattle.rules.proofs.Tracing.Partition.{describes}
use Rattle.rules.proofs.Islands.Members.{pixels_of}
use Rattle.rules.proofs.Faces.FirstPixels.{firsts_all}
use Rattle.rules.proofs.Faces.Counts.{faces_count, contours_count, references_count}
use Rattle.store.specs.Words.{Kept}
use Rattle.store.proofs.Writes.{kept_then, kept_within}
use Rattle.lattice.specs.declared.Size.{Size}
use Rattle.lattice.specs.Size.{Map as LabelledMap, pic}
use Rattle.lattice.specs.Planes.{plane}
use Rattle.lattice.proofs.Frame.{framed}
use Rattle.lattice.proofs.Planes.{plane_is}
use Rattle.graph.specs.declared.Counts.{Counts}
use Rattle.face.specs.declared.Counts.{Counts as FaceCounts}
use Rattle.face.specs.declared.contours.Found.{Found}
use Rattle.face.specs.Islands.{Numbered, plan}
use Rattle.face.specs.Counts.{Counted}
use Rattle.std.specs.Prelude.{Result, Err}
use Rattle.rules.specs.declared.Refusal.{Refusal}
use Rattle.rules.specs.Refusals.{number_of, number_in}
use Rattle.calls.specs.declared.Counts.{Counts as AnswerCounts}
use Rattle.calls.specs.declared.Refused.{Refused}
use Rattle.calls.proofs.Refusals.{positive}
use Rattle.calls.specs.Outcome.{map_of, with_faces, unlooked, answered_by}
use Rattle.calls.specs.Steps.{GraphCounted, CountsGraph}
use Rattle.calls.proofs.Outcomes.{first, number_early}
use Rattle.calls.proofs.Settled.{number_is}
use Rattle.calls.proofs.Steps.{all_counted}
use Rattle.calls.proofs.Calls.{answered_number, call_refused, call_answered}
use Rattle.veneer.specs.Sums.{face_sum, sums, sums_after, veneer}
use Rattle.veneer.specs.Steps.{firsts_of, Pixels, MeasuresFaces, Answered, measured_as}
use Rattle.veneer.proofs.Pieces.{sums_pixels}

-- where 9 is not answered the store holds enough
roomy : (n m : ℕ) → first_hit (record { number = 9; hits = ltb n m } ∷ []) ≡ 0 → m ≤ n
unfolding first_hit
roomy n m e = go (ltb n m) refl e
  where
    go : (b : Bool) → ltb n m ≡ b → ◌≡◌ {A = ℕ} (elim b as (λ x. ℕ) [ true ↦ 9 | false ↦ 0 ]) 0 → m ≤ n
    go true q e = absurd (omega arith)
    go false q e = ltb-false n m q

-- where it is, or an earlier number, the sums are left alone
left_alone : (n : ℕ) (words store : List ℤ) → (n ≡ 0 → ⊥) → store ≡ sums_after n words store
unfolding sums_after
left_alone n words store h = rw (ne_eqb n 0 h, sums_after)

module _ (s : Size) (ls : List ℕ) where
  abbrev P : Picture
  P = pic s ls

  abbrev m : Map
  m = map_of s ls

  abbrev fp : List ℕ
  fp = firsts_of s ls

  sums_count : length (sums m) ≡ length fp
  unfolding sums faces
  sums_count = length-map (faces P (segments P) s.paints) (face_sum (segments P)) ∙ length-map fp (face P (segments P) (contours P (segments P) s.paints))

  firsts_count : length fp ≡ length (islands P s.paints)
  firsts_count = rearranged_length (firsts_all P s.paints)

  by_firsts : Accepted m → sums m ≡ map (λ p. pos (length (pixels_of P p))) fp
  unfolding faces face
  by_firsts k = sums_pixels m k ∙ map-map (λ f. pos (length (pixels_of P f.first))) (face P (segments P) (contours P (segments P) s.paints)) fp

  -- THE STORE
  module _ (k : Accepted m) {numbers numbers' : List ℤ} (r : Pixels s ls numbers numbers') (enough : length fp ≤ length numbers) where
    abbrev rest : List ℤ
    rest = drop (length (sums m)) numbers

    at_sum : (i : ℕ) → i < length fp → get_or (sums m) i (pos 0) ≡ pos (length (pixels_of P (get_or fp i 0)))
    at_sum i h = ap (λ (l : List ℤ). get_or l i (pos 0)) (by_firsts k) ∙ at_map (λ p. pos (length (pixels_of P p))) fp i 0 (pos 0) h

    same : (i : ℕ) → get_or numbers' i (pos 0) ≡ get_or (sums m ++ rest) i (pos 0)
    same i = elim (dec_lt i (length (sums m))) [
      | yes h ↦ r.pixels i (omega (arith, h, sums_count)) ∙ sym (get_or-append (sums m) rest (pos 0) i h ∙ at_sum i (omega (arith, h, sums_count)))
      | no h ↦
          let e : length (sums m) + (i - length (sums m)) ≡ i = omega (arith, h) in
          r.past i (omega (arith, h, sums_count))
          ∙ sym (ap (λ j. get_or (sums m ++ rest) j (pos 0)) (sym e) ∙ get_or-append-add (sums m) rest (i - length (sums m)) (pos 0)
          ∙ get_or-drop (length (sums m)) numbers (i - length (sums m)) (pos 0) ∙ ap (λ j. get_or numbers j (pos 0)) e)
    ]

    written : numbers' ≡ sums_after 0 (sums m) numbers
    unfolding sums_after
    written =
        ext_get_or (pos 0) numbers' (sums m ++ rest)
        (omega (arith, r.long, length-append (sums m) rest, length-drop (length (sums m)) numbers, sums_count, enough)) (λ i h. same i)

  -- THE ANSWER
  module _ (M : LabelledMap s ls) (b : s.paints ≤ OUTSIDE) {work work₁ : List ℕ} {r : ℕ} (i : Numbered (plan s) s.paints ls work r work₁) {c : Counts} (g : GraphCounted s ls work c)
      (numbers : List ℤ) (room : Result (Unit {0}) Refusal) (e : number_in room ≡ first_hit (record { number = 9; hits = ltb (length numbers) r } ∷ [])) where
    faces_are : r ≡ length (sums m)
    faces_are = i.painted ∙ sym firsts_count ∙ sym sums_count

    its_number : number_in room ≡ first_hit (record { number = 9; hits = ltb (length numbers) (length (sums m)) } ∷ [])
    its_number = e ∙ ap (λ j. first_hit (record { number = 9; hits = ltb (length numbers) j } ∷ [])) faces_are

    kept₁ : Kept 0 (8 * plane s.width s.height) work work₁
    kept₁ = kept_within (omega arith) (omega (arith, plane_is s.width s.height)) i.kept

    pub too_few : {work₂ : List ℕ} {f : FaceCounts} → (number_in room ≡ 0 → ⊥) → Counted s ls work₁ f work₂ → Answered s ls work numbers work₂ numbers (answered_by room (with_faces c f))
    too_few {work₂} {f} z k = record {
      room = room;
      counts = with_faces c f;
      answer = refl;
      number = its_number;
      counted_all = all_counted g (k.counts (segments P) (describes (framed s ls)));
      sums = left_alone (number_in room) (sums m) numbers z;
      kept = kept_then kept₁ (kept_within (omega arith) (omega arith) k.kept);
    }

    pub enough_room : number_in room ≡ 0 → length fp ≤ length numbers
    enough_room z = omega (arith, roomy (length numbers) r (sym e ∙ z), faces_are, sums_count)

    pub summed : {work₂ : List ℕ} {numbers₂ : List ℤ} {f : Found} → number_in room ≡ 0 → MeasuresFaces s ls work₁ numbers work₂ numbers₂ f
        → Answered s ls work numbers work₂ numbers₂ (answered_by room (with_faces c (record { references = f.references; contours = f.contours; faces = r })))
    summed {work₂} {numbers₂} {f} z k =
        let F = framed s ls in
        let D = describes F in
        record {
          room = room;
          counts = with_faces c (record { references = f.references; contours = f.contours; faces = r });
          answer = refl;
          number = its_number;
          counted_all = all_counted g (record {
            references = k.total (segments P) D ∙ sym (references_count F D b);
            contours = k.count (segments P) D ∙ sym (contours_count F D b);
            faces = i.painted ∙ sym (faces_count P (segments P) s.paints);
          });
          sums = written (record { wide = M.wide; tall = M.high; size = M.count; word = b }) k.pixels (enough_room z) ∙ ap (λ n. sums_after n (sums m) numbers) (sym z);
          kept = kept_then kept₁ k.kept;
        }

  -- THE CALL
  module _ (work : List ℕ) (numbers : List ℤ) where
    abbrev more : List Check
    more = record { number = 9; hits = ltb (length numbers) (length (sums m)) } ∷ []

    pub refused_call : (why : Refusal) → number_of why ≡ first m work → measured_as (Err (unlooked why)) work numbers ≡ veneer m work numbers
    unfolding veneer
    refused_call why e =
        let n : first m work ≡ 0 → ⊥ = λ z. let h = positive why in omega (arith, h, e, z) in
        let o = call_refused s ls work (cut_list m) more [] why e in
        let left = left_alone (call m (cut_list m) work more []).answer.number (sums m) numbers (λ z. n (sym (number_early m work more n) ∙ sym (number_is m (cut_list m) work more []) ∙ z)) in
        λ i. record { outcome = o i; sums = left i }

    pub answered_call : (r : Result AnswerCounts Refused) (work₁ work₂ work₃ : List ℕ) (numbers' : List ℤ) (c : Counts) → first m work ≡ 0 → CountsGraph s ls work work₁ c → Answered s ls work₁ numbers work₂ numbers' r
        → work₃ ≡ sets work₂ 0 (replicate (8 * plane s.width s.height) 0) → measured_as r work₃ numbers' ≡ veneer m work numbers
    unfolding veneer
    answered_call r work₁ work₂ work₃ numbers' c z g k f =
        let o = call_answered s ls work (cut_list m) more [] k.room k.counts work₂ work₃ [] z (omega arith, tt) k.number k.counted_all (kept_then g.1 k.kept) f refl in
        let stored = k.sums ∙ ap (λ n. sums_after n (sums m) numbers) (ap (λ a. a.number) (sym (answered_number k.room k.counts)) ∙ ap (λ o. o.answer.number) o) in
        rw k.answer (λ i. record { outcome = o i; sums = stored i })
