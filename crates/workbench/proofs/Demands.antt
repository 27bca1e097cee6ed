-- The demands for the call `assemble`: 15 exactly where the graph does not describe the map, every store settled, and no two pictures share a cut list.
use Prim.Native.Nat.{ℕ, zero, suc, pred, ◌+◌, ◌*◌, ◌<◌, ◌≤◌}
use mathlib.Core.Bool.{Bool, true, false}
use mathlib.Core.Path.{◌≡◌, refl, sym, ap, ap₂, ◌∙◌, subst₂}
use mathlib.Core.List.{List, [], ◌∷◌, ◌++◌, map}
use native.Mathlib.Omega.{arith}
use native.Mathlib.Decide.{ℕ_discrete}
use lib.ListN.{length, get_or, take, drop}
use lib.Seq.{take_at}
use Rattle.rules.specs.Lists.{flat, upto}
use Rattle.rules.specs.Picture.{Picture, picture, northwest, dart}
use Rattle.rules.specs.Face.{faces}
use Rattle.rules.specs.Records.{contours_of, contour_words, face_words, unplaced}
use Rattle.rules.specs.Calls.{Map, picture_of, Accepted, label_at, CutList, cuts, cut_list, Answer, counted, Check, first_hit, map_checks, short, face_checks, early, Outcome}
use Rattle.rules.proofs.Ground.Lists.{map_same, upto_in}
use Rattle.rules.proofs.Lattice.Frame.{Framed, picture_framed}
use Rattle.rules.proofs.Islands.Pixels.{label_is}
use Rattle.rules.proofs.CutList.Agree.{Alike, same_labels}
use Rattle.rules.proofs.CutList.Lengths.{length_contours, length_faces}
use Rattle.rules.proofs.CutList.Words.{same_faces}
use Rattle.assemble.specs.Words.{point_x, point_y, dir_to}
use Rattle.accept.specs.Given.{Given, first_point, point_count, step_count, step_from, steps_from, steps_in, segments_in}
use Rattle.accept.specs.Accepts.{Accepts}
use Rattle.accept.specs.Test.{accepts}
use Rattle.accept.proofs.Exact.{accepts_true, true_accepts}
use Rattle.accept.proofs.Described.{segmented, described}
use Rattle.calls.proofs.Checks.{hit_early, hit_late, both_miss, map_positive}
use Rattle.calls.proofs.Outcomes.{first, passed, early_number}
use Rattle.calls.proofs.Rows.{◌⇔◌}
use Rattle.calls.proofs.Settled.{Settled, written, cleared, number_is, settled}
use Rattle.workbench.specs.Bench.{given_list, strange, assemble}
use Rattle.workbench.proofs.Assembled.{given_room}

module _ (m : Map) (g : Given) (work rs cs fs : List ℕ) where
  abbrev P : Picture
  P = picture_of m

  abbrev F : Framed P
  F = picture_framed m.width m.height m.bound m.labels

  abbrev l : CutList
  l = given_list m g

  abbrev parts : List (List ℕ × List ℕ)
  parts = (l.references, rs) ∷ (l.contours, cs) ∷ (l.faces, fs) ∷ []

  abbrev more : List Check
  more = strange (accepts g P) ∷ face_checks (cut_list m) rs cs fs

  -- DEMAND 1: the number settles every count and every store
  pub every_assemble : Settled m (cut_list m) work parts (assemble m g work rs cs fs)
  unfolding assemble
  every_assemble = settled m (cut_list m) work more parts

  number : (assemble m g work rs cs fs).answer.number ≡ first_hit (map_checks m work ++ more)
  unfolding assemble
  number = number_is m (cut_list m) work more parts

  -- it is 15 exactly where 1 to 3 are not and the graph does not describe the map

  other_number : (b : Bool) → first_hit (strange b ∷ face_checks (cut_list m) rs cs fs) ≡ 15 → b ≡ false
  unfolding first_hit face_checks
  other_number false e = refl
  other_number true e =
      absurd (go (short 1 rs (cut_list m).references) (short 2 cs (cut_list m).contours) (short 5 fs (cut_list m).faces) e)
    where
      go : (p q r : Bool) → ◌≡◌ {A = ℕ} (elim p [ true ↦ 7 | false ↦ elim q [ true ↦ 8 | false ↦ elim r [ true ↦ 9 | false ↦ 0 ] ] ]) 15 → ⊥
      go true q r e = omega arith
      go false true r e = omega arith
      go false false true e = omega arith
      go false false false e = omega arith

  pub fifteen : ((assemble m g work rs cs fs).answer.number ≡ 15) ⇔ ((first m work ≡ 0) × (Accepts P g → ⊥))
  unfolding first_hit early
  fifteen = (to, from)
    where
      late : first m work ≡ 0 → first_hit (map_checks m work ++ more) ≡ first_hit more
      late z = hit_late (map_checks m work) more (map_positive m work) z

      to : (assemble m g work rs cs fs).answer.number ≡ 15 → (first m work ≡ 0) × (Accepts P g → ⊥)
      to e = elim (ℕ_discrete (first m work) 0) [
        | yes z ↦ (z, λ A. let c : ◌≡◌ {A = ℕ} 0 1 = cc (other_number (accepts g P) (sym (late z) ∙ sym number ∙ e), true_accepts g P F A) in omega arith)
        | no n ↦
            let k : first m work ≡ 15 = sym (hit_early (map_checks m work) more (map_positive m work) n) ∙ sym number ∙ e in
            let c : early 15 ≡ true = ap early (sym k) ∙ early_number m work n in absurd (let c : ◌≡◌ {A = ℕ} 0 1 = cc c in omega arith)
      ]

      refused : (b : Bool) → (b ≡ true → ⊥) → first_hit (strange b ∷ face_checks (cut_list m) rs cs fs) ≡ 15
      refused true h = absurd (h refl)
      refused false h = refl

      from : (first m work ≡ 0) × (Accepts P g → ⊥) → (assemble m g work rs cs fs).answer.number ≡ 15
      from q = number ∙ late q.0 ∙ refused (accepts g P) (λ e. q.1 (accepts_true g P F e))

-- DEMAND 3. Two calls that answer 0 over accepted graphs of maps of equal sides and paint count, with the same points of every segment and the same
-- faces, but for their first pixels, with their contours and references, were given maps that at each pixel carry the same painted label, or none.

-- a call that answered 0: what it was given, what it answered and left
pub record Benched (m : Map) : Type 0 where
  pub given : Given
  pub work : List ℕ
  pub references : List ℕ
  pub contours : List ℕ
  pub faces : List ℕ
  pub answer : Answer
  pub work' : List ℕ
  pub references' : List ℕ
  pub contours' : List ℕ
  pub faces' : List ℕ
  pub promise : record { answer = answer; stores = work' ∷ references' ∷ contours' ∷ faces' ∷ [] } ≡ assemble m given work references contours faces
  pub zero : answer.number ≡ 0
  -- the paint count is a word
  pub word : m.paints ≤ 4294967295

module _ {m : Map} (k : Benched m) where
  abbrev given : Given
  given = k.given

  none_hits : (first m k.work ≡ 0) × (first_hit (more m given k.work k.references k.contours k.faces) ≡ 0)
  none_hits =
      both_miss (map_checks m k.work) (more m given k.work k.references k.contours k.faces) (map_positive m k.work)
      (sym (number m given k.work k.references k.contours k.faces) ∙ ap (λ o. o.answer.number) (sym k.promise) ∙ k.zero)

  pub map_accepted : Accepted m
  map_accepted = let p = passed m k.work none_hits.0 in record { wide = p.wide; tall = p.high; size = p.labels; word = k.word }

  pub graph_accepted : Accepts (picture_of m) given
  unfolding first_hit
  graph_accepted = accepts_true given (picture_of m) (F m given [] [] [] []) (go (accepts given (picture_of m)) none_hits.1)
    where
      go : (b : Bool) → first_hit (strange b ∷ face_checks (cut_list m) k.references k.contours k.faces) ≡ 0 → b ≡ true
      go true e = refl
      go false e = absurd (omega arith)

  abbrev result : Outcome
  result = record { answer = k.answer; stores = k.work' ∷ k.references' ∷ k.contours' ∷ k.faces' ∷ [] }

  finished : result ≡ record { answer = counted 0 (cut_list m); stores = cleared m k.work ∷ written (parts m given k.work k.references k.contours k.faces) }
  finished =
      k.promise
      ∙ (every_assemble m given k.work k.references k.contours k.faces).fine (ap (λ o. o.answer.number) (sym k.promise) ∙ k.zero)

  -- the words of the three stores up to their counts
  front : (n : ℕ) (words store : List ℕ) {store' : List ℕ} → store' ≡ words ++ drop (length words) store → n ≡ length words → take n store' ≡ words
  front n words store e q = rw e (take_at words (drop (length words) store) n (sym q))

  pub references_left : take k.answer.references k.references' ≡ (given_list m given).references
  unfolding counted
  references_left =
      front k.answer.references (given_list m given).references k.references (ap (λ o. get_or o.stores 1 []) finished)
      (ap (λ o. o.answer.references) finished ∙ sym (given_room m k.word given graph_accepted).0)

  pub contours_left : take (2 * k.answer.contours) k.contours' ≡ (given_list m given).contours
  unfolding counted given_list cuts
  contours_left =
      front (2 * k.answer.contours) (given_list m given).contours k.contours (ap (λ o. get_or o.stores 2 []) finished)
      (omega (
        arith,
        ap (λ o. o.answer.contours) finished,
        (given_room m k.word given graph_accepted).1,
        length_contours 0 (contours_of (faces (picture_of m) (segments_in given) m.paints)),
      ))

  pub faces_left : take (5 * k.answer.faces) k.faces' ≡ (given_list m given).faces
  unfolding counted given_list cuts
  faces_left =
      front (5 * k.answer.faces) (given_list m given).faces k.faces (ap (λ o. get_or o.stores 3 []) finished)
      (omega (
        arith,
        ap (λ o. o.answer.faces) finished,
        (given_room m k.word given graph_accepted).2,
        length_faces (picture_of m).w 0 (faces (picture_of m) (segments_in given) m.paints),
      ))

-- the same points of every segment
pub record SamePoints (g h : Given) : Type 0 where
  pub many : g.segment_count ≡ h.segment_count
  pub counts : (i : ℕ) → i < g.segment_count → point_count g i ≡ point_count h i
  pub across : (i k : ℕ) → i < g.segment_count → k < point_count g i → point_x g.points (first_point g i + k) ≡ point_x h.points (first_point h i + k)
  pub down : (i k : ℕ) → i < g.segment_count → k < point_count g i → point_y g.points (first_point g i + k) ≡ point_y h.points (first_point h i + k)

steps_same : (p q : List ℕ) (n a b : ℕ) → ((k : ℕ) → k < n → step_from p (a + k) ≡ step_from q (b + k)) → steps_from p a n ≡ steps_from q b n
unfolding steps_from upto
steps_same p q zero a b h = refl
steps_same p q (suc n) a b h =
    ap₂ (λ c l. c ∷ l) (ap (step_from p) (let e : a ≡ a + 0 = omega arith in e) ∙ h 0 (omega arith) ∙ ap (step_from q) (let e : b + 0 ≡ b = omega arith in e))
    (steps_same p q n (suc a) (suc b) (λ k l. ap (step_from p) (let e : suc a + k ≡ a + suc k = omega arith in e) ∙ h (suc k) (omega arith) ∙ ap (step_from q) (let e : b + suc k ≡ suc b + k = omega arith in e)))

two_below : (n k : ℕ) → k < pred n → (k < n) × (k + 1 < n)
two_below n k h = (omega arith, omega arith)

module _ {g h : Given} (e : SamePoints g h) where
  step_same : (i k : ℕ) → i < g.segment_count → k < step_count g i → step_from g.points (first_point g i + k) ≡ step_from h.points (first_point h i + k)
  unfolding step_from
  step_same i k b l =
      let q = two_below (point_count g i) k l in
      let x = e.across i k b q.0 in
      let y = e.down i k b q.0 in
      let a : (f : ℕ) → f + k + 1 ≡ f + (k + 1) = λ f. omega arith in
      let u : point_x g.points (first_point g i + k + 1) ≡ point_x h.points (first_point h i + k + 1) = ap (point_x g.points) (a (first_point g i)) ∙ e.across i (k + 1) b q.1 ∙ ap (point_x h.points) (sym (a (first_point h i))) in
      let v : point_y g.points (first_point g i + k + 1) ≡ point_y h.points (first_point h i + k + 1) = ap (point_y g.points) (a (first_point g i)) ∙ e.down i (k + 1) b q.1 ∙ ap (point_y h.points) (sym (a (first_point h i))) in
      λ t. dart (x t) (y t) (dir_to (x t) (y t) (u t) (v t))

  segment_same : (i : ℕ) → i < g.segment_count → steps_in g i ≡ steps_in h i
  unfolding steps_in
  segment_same i b =
      steps_same g.points h.points (step_count g i) (first_point g i) (first_point h i) (λ k. step_same i k b)
      ∙ ap (λ n. steps_from h.points (first_point h i) n) (ap pred (e.counts i b))

  pub segments_same : segments_in g ≡ segments_in h
  unfolding segments_in
  segments_same =
      map_same (steps_in g) (steps_in h) (upto g.segment_count 0) (λ i j. segment_same i (omega (arith, (upto_in g.segment_count 0 i j).1)))
      ∙ ap (λ n. map (steps_in h) (upto n 0)) e.many

-- the words that the two leave, up to their counts, but for the faces' first pixels
pub record SameFaces {m n : Map} (k : Benched m) (j : Benched n) : Type 0 where
  pub references : take k.answer.references k.references' ≡ take j.answer.references j.references'
  pub contours : take (2 * k.answer.contours) k.contours' ≡ take (2 * j.answer.contours) j.contours'
  pub faces : unplaced (take (5 * k.answer.faces) k.faces') ≡ unplaced (take (5 * j.answer.faces) j.faces')

-- THE DEMAND
pub unshared : {m n : Map} (k : Benched m) (j : Benched n) → m.width ≡ n.width → m.height ≡ n.height → m.paints ≡ n.paints
    → SamePoints k.given j.given → SameFaces k j
    → (x y : ℕ) → x < m.width → y < m.height
    → Alike m.paints (label_at m x y) (label_at n x y)
unfolding given_list cuts picture northwest
unshared {m} {n} k j ew eh ep e s x y hx hy =
    let P = picture_of m in
    let Q = picture_of n in
    let ss = segments_in k.given in
    let ts = segments_in j.given in
    let fs = faces P ss m.paints in
    let gs = faces Q ts m.paints in
    let q : faces Q ts n.paints ≡ gs = ap (faces Q ts) (sym ep) in
    subst₂ (Alike m.paints)
    (label_is m.width m.height m.bound m.labels (map_accepted k).size x y hx hy)
    (label_is n.width n.height n.bound n.labels (map_accepted j).size x y (rw (← ew) hx) (rw (← eh) hy))
    (same_labels (picture_framed m.width m.height m.bound m.labels) (picture_framed n.width n.height n.bound n.labels)
    (described (segmented (graph_accepted k))) (described (segmented (graph_accepted j))) k.word (segments_same e)
    (same_faces P.w Q.w fs gs
    (sym (references_left k) ∙ s.references ∙ references_left j ∙ ap (λ fs. flat (contours_of fs)) q)
    (sym (contours_left k) ∙ s.contours ∙ contours_left j ∙ ap (λ fs. contour_words 0 (contours_of fs)) q)
    (ap unplaced (sym (faces_left k)) ∙ s.faces ∙ ap unplaced (faces_left j) ∙ ap (λ fs. unplaced (face_words Q.w 0 fs)) q)) x y)
