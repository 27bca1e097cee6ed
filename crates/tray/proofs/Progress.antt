-- What holds while a tray is laid: it begins, goes on with each map, and is over.
use Prim.Native.Nat.{ℕ, suc, ◌+◌, ◌*◌, ◌<◌, ◌≤◌}
use mathlib.Core.Path.{◌≡◌, refl, sym, ap, subst, ◌∙◌}
use mathlib.Core.List.{List, [], ◌∷◌, ◌++◌, map, append_assoc, append-nil}
use native.Mathlib.Omega.{arith}
use lib.ListN.{length, get_or, take, drop, length-append, length-drop}
use lib.Seq.{sets, sets-eq, take_at, drop_at, drop-cons, drop-drop, length-take-le, take-append_seam, drop-append_seam}
use borrow.Author.Tests.{lt-ltb, le-ltb}
use Rattle.rules.specs.Lists.{flat}
use Rattle.rules.specs.Calls.{Answer}
use Rattle.calls.specs.declared.Counts.{Counts}
use Rattle.calls.specs.declared.Refused.{Refused}
use Rattle.calls.specs.Outcome.{answer_of}
use Rattle.calls.specs.Mode.{size_in}
use Rattle.lattice.specs.declared.Size.{Size}
use Rattle.std.specs.Prelude.{Some, Result}
use Rattle.tray.specs.declared.Places.{Places}
use Rattle.tray.specs.Tray.{tiles, pixels, Six, Stores, same, both, work_of, stores_of, single, wrote, Run, run, words, laid, tray}
use Rattle.tray.specs.Steps.{LabelsWithin, afterwards, used, Starts, Inside, Tiled, LabelsPassed, Fits, RecordsPassed}
use Rattle.tray.proofs.Runs.{lengths, both_assoc, both_nil, both_split, behind, behind_one}
use Rattle.tray.proofs.Single.{Within, single_within}

-- THE LIST OF MAPS

pub tiles_count : (mode : ℕ) (maps : List ℕ) → (3 * length (tiles mode maps) ≤ length maps) × (length maps < 3 * length (tiles mode maps) + 3)
unfolding tiles
tiles_count mode [] = (omega arith, omega arith)
tiles_count mode (w ∷ []) = (omega arith, omega arith)
tiles_count mode (w ∷ h ∷ []) = (omega arith, omega arith)
tiles_count mode (w ∷ h ∷ p ∷ more) = let r = tiles_count mode more in (omega (arith, r.0), omega (arith, r.1))

pub tiles_short : (mode : ℕ) (l : List ℕ) → length l < 3 → tiles mode l ≡ []
unfolding tiles
tiles_short mode [] h = refl
tiles_short mode (a ∷ []) h = refl
tiles_short mode (a ∷ b ∷ []) h = refl
tiles_short mode (a ∷ b ∷ c ∷ l) h = absurd (omega arith)

abbrev pub tile_at : ℕ → List ℕ → ℕ → Size
tile_at mode maps k = size_in mode (get_or maps k 0) (get_or maps (k + 1) 0) (get_or maps (k + 2) 0)

pub tiles_next : (mode : ℕ) (maps : List ℕ) (k : ℕ) → k + 2 < length maps → tiles mode (drop k maps) ≡ tile_at mode maps k ∷ tiles mode (drop (k + 3) maps)
unfolding tiles
tiles_next mode maps k h =
    let one : k + 1 ≡ suc k = omega arith in
    let two : k + 2 ≡ suc (suc k) = omega arith in
    let three : k + 3 ≡ suc (suc (suc k)) = omega arith in
    ap (tiles mode)
    (drop-cons maps k 0 (omega arith)
    ∙ ap (λ (l : List ℕ). get_or maps k 0 ∷ l) (drop-cons maps (suc k) 0 (omega arith)
    ∙ ap (λ (l : List ℕ). get_or maps (suc k) 0 ∷ l) (drop-cons maps (suc (suc k)) 0 (omega arith))))
    ∙ (λ j. size_in mode (get_or maps k 0) (get_or maps (sym one j) 0) (get_or maps (sym two j) 0) ∷ tiles mode (drop (sym three j) maps))

-- ANSWERS

pub words_many : (done : List Answer) → length (flat (map words done)) ≡ 8 * length done
unfolding flat
words_many [] = refl
words_many (a ∷ done) = omega (arith, words_many done)

words_snoc : (done : List Answer) (a : Answer) → flat (map words (done ++ (a ∷ []))) ≡ flat (map words done) ++ words a
unfolding flat
words_snoc [] a = append-nil (words a)
words_snoc (b ∷ done) a = ap (λ (l : List ℕ). words b ++ l) (words_snoc done a) ∙ sym (append_assoc (words b) (flat (map words done)) (words a))

words_put : (done : List Answer) (a : Answer) (i : ℕ) (old : List ℕ) → length done ≡ i → 8 * i + 8 ≤ length old
    → sets (flat (map words done) ++ drop (8 * i) old) (8 * i) (words a) ≡ flat (map words (done ++ (a ∷ []))) ++ drop (8 * (i + 1)) old
words_put done a i old many room =
    let xs = flat (map words done) in
    let long : length xs ≡ 8 * i = words_many done ∙ ap (λ (k : ℕ). 8 * k) many in
    let next : 8 * i + 8 ≡ 8 * (i + 1) = omega arith in
    let behind-them : drop (8 * i + 8) (xs ++ drop (8 * i) old) ≡ drop (8 * (i + 1)) old =
    sym (drop-drop 8 (8 * i) (xs ++ drop (8 * i) old)) ∙ ap (drop 8) (drop_at xs (drop (8 * i) old) (8 * i) long) ∙ drop-drop 8 (8 * i) old ∙ ap (λ (k : ℕ). drop k old) next in
    sets-eq (words a) (xs ++ drop (8 * i) old) (8 * i) (omega (arith, length-append xs (drop (8 * i) old), length-drop (8 * i) old, long))
    ∙ (λ j. (take_at xs (drop (8 * i) old) (8 * i) long j ++ words a) ++ behind-them j)
    ∙ ap (λ (l : List ℕ). l ++ drop (8 * (i + 1)) old) (sym (words_snoc done a))

-- STORES

pub seam_front : (r l : Stores) → both take (lengths r) (both ◌++◌ r l) ≡ r
seam_front r l = λ i. record {
  nodes = take-append_seam r.nodes l.nodes i;
  segments = take-append_seam r.segments l.segments i;
  points = take-append_seam r.points l.points i;
  references = take-append_seam r.references l.references i;
  contours = take-append_seam r.contours l.contours i;
  faces = take-append_seam r.faces l.faces i;
}

pub seam_left : (r l : Stores) → both drop (lengths r) (both ◌++◌ r l) ≡ l
seam_left r l = λ i. record {
  nodes = drop-append_seam r.nodes l.nodes i;
  segments = drop-append_seam r.segments l.segments i;
  points = drop-append_seam r.points l.points i;
  references = drop-append_seam r.references l.references i;
  contours = drop-append_seam r.contours l.contours i;
  faces = drop-append_seam r.faces l.faces i;
}

more_words : (r x : List ℕ) (n : ℕ) → n ≤ length x → length r + n ≡ length (r ++ take n x)
more_words r x n h = omega (arith, length-append r (take n x), length-take-le n x h)

more_fit : (n : ℕ) (r x s : List ℕ) (m : ℕ) → n ≡ length r → s ≡ r ++ x → m ≤ length x → n + m ≤ length s
more_fit n r x s m e f h = omega (arith, ap {B = ℕ} (λ (k : List ℕ). length k) f, length-append r x)

more_records : (r x : Stores) (n : Six ℕ) → Within n x → both ◌+◌ (lengths r) n ≡ lengths (both ◌++◌ r (both take n x))
more_records r x n h = λ i. record {
  nodes = more_words r.nodes x.nodes n.nodes h.nodes i;
  segments = more_words r.segments x.segments n.segments h.segments i;
  points = more_words r.points x.points n.points h.points i;
  references = more_words r.references x.references n.references h.references i;
  contours = more_words r.contours x.contours n.contours h.contours i;
  faces = more_words r.faces x.faces n.faces h.faces i;
}

-- places behind the records of a map are words of 64 bits, as the lengths of the stores are
pub records_fit : (p q : Places) (a : Result Counts Refused) {s : Stores} → Within (both ◌+◌ (used p) (wrote (answer_of a))) s → used q ≡ used p
    → length s.nodes ≤ 18446744073709551615
    → length s.segments ≤ 18446744073709551615
    → length s.points ≤ 18446744073709551615
    → length s.references ≤ 18446744073709551615
    → length s.contours ≤ 18446744073709551615
    → length s.faces ≤ 18446744073709551615
    → Fits q a
records_fit p q a {s} w e n₁ n₂ n₃ n₄ n₅ n₆ = record {
  nodes = fit q.nodes p.nodes (wrote (answer_of a)).nodes (length s.nodes) (ap (λ (k : Six ℕ). k.nodes) e) w.nodes n₁;
  segments = fit q.segments p.segments (wrote (answer_of a)).segments (length s.segments) (ap (λ (k : Six ℕ). k.segments) e) w.segments n₂;
  points = fit q.points p.points (wrote (answer_of a)).points (length s.points) (ap (λ (k : Six ℕ). k.points) e) w.points n₃;
  references = fit q.references p.references (wrote (answer_of a)).references (length s.references) (ap (λ (k : Six ℕ). k.references) e) w.references n₄;
  contours = fit q.contours p.contours (wrote (answer_of a)).contours (length s.contours) (ap (λ (k : Six ℕ). k.contours) e) w.contours n₅;
  faces = fit q.faces p.faces (wrote (answer_of a)).faces (length s.faces) (ap (λ (k : Six ℕ). k.faces) e) w.faces n₆;
}
  where
    fit : (q p n l : ℕ) → q ≡ p → p + n ≤ l → l ≤ 18446744073709551615 → q + n ≤ 18446744073709551615
    fit q p n l e h k = omega arith

-- PROGRESS

module _ (mode : ℕ) (maps labels first-work : List ℕ) (first-stores : Stores) (old : List ℕ) where
  -- before map i: what the maps before it answered and wrote, and what is left for it and those behind it
  pub record Progress (i : ℕ) (p : Places) (work : List ℕ) (s : Stores) (answers : List ℕ) : Type 0 where
    pub done : List Answer
    pub records : Stores
    pub left : Stores
    pub start : ℕ
    pub many : length done ≡ i
    pub goes : behind done records (run (tiles mode (drop (3 * i) maps)) start labels work left) ≡ run (tiles mode maps) 0 labels first-work first-stores
    pub stands : s ≡ both ◌++◌ records left
    pub places : used p ≡ lengths records
    pub answered : answers ≡ flat (map words done) ++ drop (8 * i) old
    pub starts : Starts (length labels) p start
    pub within : LabelsWithin (length labels) p

  pub begins : Progress 0 (record { labels = Some 0; nodes = 0; segments = 0; points = 0; references = 0; contours = 0; faces = 0 }) first-work first-stores old
  unfolding flat
  begins = record {
    done = [];
    records = same [];
    left = first-stores;
    start = 0;
    many = refl;
    goes = refl;
    stands = refl;
    places = refl;
    answered = refl;
    starts = record { past = λ h. absurd (omega arith); here = λ _. refl };
    within = λ k e. let z : 0 ≡ k = cc in omega arith;
  }

  module _ {i : ℕ} {p : Places} {work : List ℕ} {s : Stores} {answers : List ℕ} (g : Progress i p work s answers) where
    left_is : both drop (used p) s ≡ g.left
    left_is = (λ j. both drop (g.places j) (g.stands j)) ∙ seam_left g.records g.left

    front_is : both take (used p) s ≡ g.records
    front_is = (λ j. both take (g.places j) (g.stands j)) ∙ seam_front g.records g.left

    -- the words used lie in the stores
    pub inside : Inside p s
    inside = record {
      nodes = fits p.nodes s.nodes g.records.nodes g.left.nodes (ap (λ (k : Six ℕ). k.nodes) g.places) (ap (λ (k : Stores). k.nodes) g.stands);
      segments = fits p.segments s.segments g.records.segments g.left.segments (ap (λ (k : Six ℕ). k.segments) g.places) (ap (λ (k : Stores). k.segments) g.stands);
      points = fits p.points s.points g.records.points g.left.points (ap (λ (k : Six ℕ). k.points) g.places) (ap (λ (k : Stores). k.points) g.stands);
      references = fits p.references s.references g.records.references g.left.references (ap (λ (k : Six ℕ). k.references) g.places) (ap (λ (k : Stores). k.references) g.stands);
      contours = fits p.contours s.contours g.records.contours g.left.contours (ap (λ (k : Six ℕ). k.contours) g.places) (ap (λ (k : Stores). k.contours) g.stands);
      faces = fits p.faces s.faces g.records.faces g.left.faces (ap (λ (k : Six ℕ). k.faces) g.places) (ap (λ (k : Stores). k.faces) g.stands);
    }
      where
        fits : (n : ℕ) (x r l : List ℕ) → n ≡ length r → x ≡ r ++ l → n ≤ length x
        fits n x r l e f = omega (arith, e, ap {B = ℕ} (λ (k : List ℕ). length k) f, length-append r l)

    -- a map is laid, and its words are put behind the others
    module _ (t : Size) (is : t ≡ tile_at mode maps (3 * i)) (more : 3 * i + 2 < length maps) (room : 8 * i + 8 ≤ length old)
        {work' : List ℕ} {s' : Stores} (a : Result Counts Refused)
        (laid-it : (start : ℕ) → Starts (length labels) p start → Tiled (single t start labels work (both drop (used p) s)) (both take (used p) s) work' s' a) where
      here : Tiled (single t g.start labels work g.left) g.records work' s' a
      here =
          subst (λ (f : Stores). Tiled (single t g.start labels work g.left) f work' s' a) front_is
          (subst (λ (l : Stores). Tiled (single t g.start labels work l) (both take (used p) s) work' s' a) left_is (laid-it g.start g.starts))

      holds : Within (wrote (answer_of a)) (stores_of (single t g.start labels work g.left))
      holds = subst (λ (b : Answer). Within (wrote b) (stores_of (single t g.start labels work g.left))) (sym here.answer) (single_within t g.start labels work g.left)

      -- and so do its records
      pub filled : Within (both ◌+◌ (used p) (wrote (answer_of a))) s'
      filled =
          let o = single t g.start labels work g.left in
          record {
            nodes = more_fit p.nodes g.records.nodes (stores_of o).nodes s'.nodes (wrote (answer_of a)).nodes (ap (λ (k : Six ℕ). k.nodes) g.places) (ap (λ (k : Stores). k.nodes) here.stores) holds.nodes;
            segments = more_fit p.segments g.records.segments (stores_of o).segments s'.segments (wrote (answer_of a)).segments (ap (λ (k : Six ℕ). k.segments) g.places) (ap (λ (k : Stores). k.segments) here.stores) holds.segments;
            points = more_fit p.points g.records.points (stores_of o).points s'.points (wrote (answer_of a)).points (ap (λ (k : Six ℕ). k.points) g.places) (ap (λ (k : Stores). k.points) here.stores) holds.points;
            references = more_fit p.references g.records.references (stores_of o).references s'.references (wrote (answer_of a)).references (ap (λ (k : Six ℕ). k.references) g.places) (ap (λ (k : Stores). k.references) here.stores) holds.references;
            contours = more_fit p.contours g.records.contours (stores_of o).contours s'.contours (wrote (answer_of a)).contours (ap (λ (k : Six ℕ). k.contours) g.places) (ap (λ (k : Stores). k.contours) here.stores) holds.contours;
            faces = more_fit p.faces g.records.faces (stores_of o).faces s'.faces (wrote (answer_of a)).faces (ap (λ (k : Six ℕ). k.faces) g.places) (ap (λ (k : Stores). k.faces) here.stores) holds.faces;
          }

      pub continues : {q q' : Places} → LabelsPassed p (pixels t) (length labels) q → RecordsPassed q a q' → {answers' : List ℕ} → answers' ≡ sets answers (8 * i) (words (answer_of a))
          → Progress (i + 1) q' work' s' answers'
      unfolding run
      continues {q} {q'} lp rp {answers'} put =
          let o = single t g.start labels work g.left in
          let n = wrote o.answer in
          let same_answer = here.answer in
          let threes : 3 * (i + 1) ≡ 3 * i + 3 = omega arith in
          let list : t ∷ tiles mode (drop (3 * i + 3) maps) ≡ tiles mode (drop (3 * i) maps) = (λ j. is j ∷ tiles mode (drop (3 * i + 3) maps)) ∙ sym (tiles_next mode maps (3 * i) more) in
          record {
            done = g.done ++ (o.answer ∷ []);
            records = both ◌++◌ g.records (both take n (stores_of o));
            left = both drop n (stores_of o);
            start = g.start + pixels t;
            many = omega (arith, length-append g.done (o.answer ∷ []), g.many);
            goes =
                (λ j. behind (g.done ++ (o.answer ∷ [])) (both ◌++◌ g.records (both take n (stores_of o))) (run (tiles mode (drop (threes j) maps)) (g.start + pixels t) labels (here.work j) (both drop n (stores_of o))))
                ∙ behind_one g.done g.records o (run (tiles mode (drop (3 * i + 3) maps)) (g.start + pixels t) labels (work_of o) (both drop n (stores_of o)))
                ∙ ap (λ (ts : List Size). behind g.done g.records (run ts g.start labels work g.left)) list
                ∙ g.goes;
            stands = here.stores ∙ ap (both ◌++◌ g.records) (sym (both_split n (stores_of o))) ∙ sym (both_assoc g.records (both take n (stores_of o)) (both drop n (stores_of o)));
            places =
                rp.sums ∙ ap (λ (k : Six ℕ). both ◌+◌ k (wrote (answer_of a))) (lp.others ∙ g.places)
                ∙ ap (λ (b : Answer). both ◌+◌ (lengths g.records) (wrote b)) same_answer
                ∙ more_records g.records (stores_of o) n (single_within t g.start labels work g.left);
            answered =
                put ∙ (λ j. sets (g.answered j) (8 * i) (words (same_answer j)))
                ∙ words_put g.done o.answer i old g.many room;
            starts =
                let there = lp.starts g.start g.starts in
                record { past = λ h. rp.labels ∙ there.past h; here = λ h. rp.labels ∙ there.here h };
            within = λ k e. lp.within k (sym rp.labels ∙ e);
          }

-- OVER

module _ (mode : ℕ) (maps labels work₀ : List ℕ) (s₀ : Stores) (old : List ℕ) where
  pub too_few : length old < 8 * length (tiles mode maps) → afterwards 18 work₀ s₀ old ≡ tray mode maps labels work₀ s₀ old
  unfolding tray
  too_few h = sym (rw (lt-ltb (length old) (8 * length (tiles mode maps)) h, tray))

  pub tray_laid : 8 * length (tiles mode maps) ≤ length old → tray mode maps labels work₀ s₀ old ≡ laid (run (tiles mode maps) 0 labels work₀ s₀) old
  unfolding tray
  tray_laid h = rw (le-ltb (length old) (8 * length (tiles mode maps)) h, tray)

  pub over : {i : ℕ} {p : Places} {work : List ℕ} {s : Stores} {answers : List ℕ} → Progress mode maps labels work₀ s₀ old i p work s answers → length maps < 3 * i + 3 → 8 * length (tiles mode maps) ≤ length old
      → afterwards 0 work s answers ≡ tray mode maps labels work₀ s₀ old
  unfolding run
  over {i} {p} {work} {s} {answers} g none room =
      let none_left : tiles mode (drop (3 * i) maps) ≡ [] = tiles_short mode (drop (3 * i) maps) (omega (arith, length-drop (3 * i) maps)) in
      let ran : run (tiles mode maps) 0 labels work₀ s₀ ≡ record { answers = g.done; records = g.records; work = work; left = g.left } =
      sym g.goes ∙ ap (λ (ts : List Size). behind g.done g.records (run ts g.start labels work g.left)) none_left
      ∙ (λ j. record { answers = append-nil g.done j; records = both_nil g.records j; work = work; left = g.left }) in
      sym (tray_laid room ∙ ap (λ (r : Run). laid r old) ran
      ∙ (λ j. record { number = 0; work = work; stores = sym g.stands j; answers = (ap (λ (k : ℕ). flat (map words g.done) ++ drop (8 * k) old) g.many ∙ sym g.answered) j }))
