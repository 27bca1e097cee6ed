-- The words of a cut list in the stores come to its file: records that stand one after the other, each where its numbers say.
use Prim.Native.Nat.{ℕ, suc, ◌+◌, ◌*◌, ◌/◌, ◌%◌, ◌<◌, ◌≤◌}
use mathlib.Core.Bool.{Bool, true, false}
use mathlib.Core.Path.{◌≡◌, refl, sym, ap, ap₂, ◌∙◌}
use mathlib.Core.List.Memᴰ.{head as here}
use mathlib.Core.List.Memᴰ.{tail as there}
use mathlib.Core.List.{List, [], ◌∷◌, ◌++◌, map, map-append, map-map, append_assoc, Memᴰ as In}
use native.Mathlib.Omega.{arith}
use lib.Dec.{ltb}
use borrow.Author.Tests.{ltb-false, eq-eqb}
use lib.ListN.{length, get_or, drop, take-append-drop, length-append}
use lib.Seq.{sets, get_or-append-add, take-append_seam}
use Rattle.rules.specs.Lists.{flat, upto}
use Rattle.rules.specs.Picture.{Picture, picture, Dart}
use Rattle.rules.specs.Graph.{segments}
use Rattle.rules.specs.Face.{Face, faces}
use Rattle.rules.specs.Calls.{Map, picture_of, counted, cuts, cut_list, first_hit, store_after}
use Rattle.rules.proofs.Lattice.Frame.{picture_framed}
use Rattle.rules.proofs.Tracing.Partition.{describes}
use Rattle.rules.proofs.Tracing.Counts.{has_step}
use Rattle.rules.proofs.CutList.Counts.{Counts, counts}
use Rattle.rules.proofs.Ground.Lists.{flat_append}
use Rattle.rules.specs.Records.{point_records, point_words, segment_words, contours_of, contour_words, face_words}
use Rattle.rules.proofs.CutList.Lengths.{length_records, length_contours}
use Rattle.store.specs.Words.{part}
use Rattle.store.proofs.Writes.{sets_front}
use Rattle.jobfile.proofs.FileLength.{length_by, file_length}
use Rattle.jobfile.specs.JobFile.{Entry, bytes_of, map_entry, segment_entry, contour_body, face_body, face_entry, file_entries, file_bytes, waste_free, file_of, file_checks}
use Rattle.jobs.specs.Writes.{size_of, file_in, Front, Counted, Stands}
use Rattle.jobs.specs.declared.write.Job.{Job}
use Rattle.jobs.specs.Stored.{Put, pieces, header_entry, stored_segment, stored_contour, stored_face, stored_file, size_by, file_number}

-- A LIST behind others

-- the words of a list that stands behind n others
pub part_behind : (pre l post : List ℕ) (n : ℕ) → length pre ≡ n → part (pre ++ (l ++ post)) n (length l) ≡ l
part_behind pre [] post n e = refl
part_behind pre (a ∷ l) post n e =
    let z : n ≡ length pre + 0 = omega arith in
    let f : (pre ++ (a ∷ [])) ++ (l ++ post) ≡ pre ++ (a ∷ (l ++ post)) = append_assoc pre (a ∷ []) (l ++ post) in
    ap₂ (λ x y. x ∷ y) (ap (λ i. get_or (pre ++ (a ∷ (l ++ post))) i 0) z ∙ get_or-append-add pre (a ∷ (l ++ post)) 0 0)
    (ap (λ w. part w (suc n) (length l)) (sym f) ∙ part_behind (pre ++ (a ∷ [])) l post (suc n) (omega (arith, length-append pre (a ∷ []))))

-- a word of it
pub word_behind : (pre l : List ℕ) (n i : ℕ) → length pre ≡ n → get_or (pre ++ l) (n + i) 0 ≡ get_or l i 0
word_behind pre l n i e = ap (λ k. get_or (pre ++ l) (k + i) 0) (sym e) ∙ get_or-append-add pre l i 0

-- and what stands there, with one piece moved before it
moved : (pre a b post : List ℕ) → pre ++ ((a ++ b) ++ post) ≡ (pre ++ a) ++ (b ++ post)
moved pre a b post = ap (λ l. pre ++ l) (append_assoc a b post) ∙ sym (append_assoc pre a (b ++ post))

-- SEGMENTS

module _ (P : Picture) where
  one_more : (i : ℕ) (s : List Dart) (ss : List (List Dart)) → segment_words P i (s ∷ ss) ≡ segment_words P i (s ∷ []) ++ segment_words P (i + suc (length s)) ss
  unfolding segment_words
  one_more i s ss = refl

  module _ (pre post : List ℕ) (k i : ℕ) (s : List Dart) (e : length pre ≡ 8 * k) where
    first_there : get_or (pre ++ (segment_words P i (s ∷ []) ++ post)) (8 * k) 0 ≡ i
    unfolding segment_words
    first_there = let z : 8 * k ≡ 8 * k + 0 = omega arith in ap (λ n. get_or (pre ++ (segment_words P i (s ∷ []) ++ post)) n 0) z ∙ word_behind pre (segment_words P i (s ∷ []) ++ post) (8 * k) 0 e

    count_there : get_or (pre ++ (segment_words P i (s ∷ []) ++ post)) (8 * k + 1) 0 ≡ suc (length s)
    unfolding segment_words
    count_there = word_behind pre (segment_words P i (s ∷ []) ++ post) (8 * k) 1 e

    eight : length (pre ++ segment_words P i (s ∷ [])) ≡ 8 * suc k
    unfolding segment_words
    eight = omega (arith, length-append pre (segment_words P i (s ∷ [])))

    segment_stands : (ps points : List ℕ) → 0 < length s → length ps ≡ 2 * i
        → stored_segment (pre ++ (segment_words P i (s ∷ []) ++ post)) (ps ++ (point_records s ++ points)) k ≡ segment_entry s
    unfolding stored_segment segment_entry
    segment_stands ps points f g =
        let n : 2 * suc (length s) ≡ length (point_records s) = omega (arith, length_records s f) in
        rw (first_there, count_there, n) (ap (λ l. (2, l)) (part_behind ps (point_records s) points (2 * i) g))

  segments_stand : (ss : List (List Dart)) → ((s : List Dart) → In s ss → 0 < length s)
      → (pre post ps points : List ℕ) (k i : ℕ) → length pre ≡ 8 * k → length ps ≡ 2 * i
      → map (stored_segment (pre ++ (segment_words P i ss ++ post)) (ps ++ (point_words ss ++ points))) (upto (length ss) k) ≡ map segment_entry ss
  unfolding upto point_words flat
  segments_stand [] f pre post ps points k i e g = refl
  segments_stand (s ∷ ss) f pre post ps points k i e g =
      let R = segment_words P i (s ∷ []) in
      let o = f s (here refl) in
      let a : pre ++ (segment_words P i (s ∷ ss) ++ post) ≡ (pre ++ R) ++ (segment_words P (i + suc (length s)) ss ++ post) =
      ap (λ l. pre ++ (l ++ post)) (one_more i s ss) ∙ moved pre R (segment_words P (i + suc (length s)) ss) post in
      let b : ps ++ (point_words (s ∷ ss) ++ points) ≡ (ps ++ point_records s) ++ (point_words ss ++ points) = moved ps (point_records s) (point_words ss) points in
      let h = segment_stands pre (segment_words P (i + suc (length s)) ss ++ post) k i s e ps (point_words ss ++ points) o g in
      let r = segments_stand ss (λ t m. f t (there m)) (pre ++ R) post (ps ++ point_records s) points (suc k) (i + suc (length s)) (eight pre post k i s e) (omega (arith, length-append ps (point_records s), length_records s o)) in
      ap₂ (λ x y. map (stored_segment x y) (upto (suc (length ss)) k)) a b
      ∙ ap₂ (λ x y. x ∷ y) (ap₂ (λ x y. stored_segment x y k) (append_assoc pre R (segment_words P (i + suc (length s)) ss ++ post)) (append_assoc ps (point_records s) (point_words ss ++ points)) ∙ h) r

-- CONTOURS

contour_stands : (pre post rpre rpost : List ℕ) (k i : ℕ) (c : List ℕ) → length pre ≡ 2 * k → length rpre ≡ i
    → stored_contour (pre ++ (i ∷ length c ∷ post)) (rpre ++ (c ++ rpost)) k ≡ contour_body c
unfolding stored_contour contour_body
contour_stands pre post rpre rpost k i c e g =
    let z : 2 * k ≡ 2 * k + 0 = omega arith in
    let a : get_or (pre ++ (i ∷ length c ∷ post)) (2 * k) 0 ≡ i = ap (λ n. get_or (pre ++ (i ∷ length c ∷ post)) n 0) z ∙ word_behind pre (i ∷ length c ∷ post) (2 * k) 0 e in
    let b : get_or (pre ++ (i ∷ length c ∷ post)) (2 * k + 1) 0 ≡ length c = word_behind pre (i ∷ length c ∷ post) (2 * k) 1 e in
    rw (a, b) (ap (λ l. length c ∷ l) (part_behind rpre c rpost i g))

contours_stand : (cl : List (List ℕ)) (pre post rpre rpost : List ℕ) (k i : ℕ) → length pre ≡ 2 * k → length rpre ≡ i
    → pieces (stored_contour (pre ++ (contour_words i cl ++ post)) (rpre ++ (flat cl ++ rpost))) (length cl) k ≡ flat (map contour_body cl)
unfolding pieces upto flat contour_words
contours_stand [] pre post rpre rpost k i e g = refl
contours_stand (c ∷ cl) pre post rpre rpost k i e g =
    let R = i ∷ length c ∷ [] in
    let a : pre ++ (contour_words i (c ∷ cl) ++ post) ≡ (pre ++ R) ++ (contour_words (i + length c) cl ++ post) = moved pre R (contour_words (i + length c) cl) post in
    let b : rpre ++ (flat (c ∷ cl) ++ rpost) ≡ (rpre ++ c) ++ (flat cl ++ rpost) = moved rpre c (flat cl) rpost in
    let h = contour_stands pre (contour_words (i + length c) cl ++ post) rpre (flat cl ++ rpost) k i c e g in
    let r = contours_stand cl (pre ++ R) post (rpre ++ c) rpost (suc k) (i + length c) (omega (arith, length-append pre R)) (omega (arith, length-append rpre c)) in
    ap₂ (λ x y. pieces (stored_contour x y) (suc (length cl)) k) a b
    ∙ ap₂ (λ x y. x ++ y) (ap₂ (λ x y. stored_contour x y k) (append_assoc pre R (contour_words (i + length c) cl ++ post)) (append_assoc rpre c (flat cl ++ rpost)) ∙ h) r

-- FACES

three : {A : Type 0} {p p' q q' r r' : List ℕ} → p ≡ p' → q ≡ q' → r ≡ r' → (g : List ℕ → List ℕ → List ℕ → A) → g p q r ≡ g p' q' r'
three a b c g = rw (a, b, c)

records_more : (w j : ℕ) (f : Face) (fs : List Face)
    → face_words w j (f ∷ fs) ≡ (f.region ∷ j ∷ length f.contours ∷ f.first % w ∷ f.first / w ∷ []) ++ face_words w (j + length f.contours) fs
unfolding face_words
records_more w j f fs = refl

contours_first : (f : Face) (fs : List Face) → contours_of (f ∷ fs) ≡ f.contours ++ contours_of fs
unfolding contours_of flat
contours_first f fs = refl

contours_both : (i : ℕ) (a b : List (List ℕ)) → contour_words i (a ++ b) ≡ contour_words i a ++ contour_words (i + length (flat a)) b
unfolding contour_words flat
contours_both i [] b = let z : i + 0 ≡ i = omega arith in rw z
contours_both i (c ∷ a) b =
    let z : i + length c + length (flat a) ≡ i + length (c ++ flat a) = omega (arith, length-append c (flat a)) in
    ap (λ l. i ∷ length c ∷ l) (contours_both (i + length c) a b ∙ ap (λ n. contour_words (i + length c) a ++ contour_words n b) z)

module _ (w : ℕ) where
  face_stands : (f : Face) (pre post cpre cpost rpre rpost : List ℕ) (k j i : ℕ) → length pre ≡ 5 * k → length cpre ≡ 2 * j → length rpre ≡ i
      → stored_face (pre ++ (f.region ∷ j ∷ length f.contours ∷ f.first % w ∷ f.first / w ∷ post))
      (cpre ++ (contour_words i f.contours ++ cpost)) (rpre ++ (flat f.contours ++ rpost)) k ≡ face_entry w f
  unfolding stored_face face_entry face_body
  face_stands f pre post cpre cpost rpre rpost k j i e g h =
      let R = f.region ∷ j ∷ length f.contours ∷ f.first % w ∷ f.first / w ∷ post in
      let z : 5 * k ≡ 5 * k + 0 = omega arith in
      let p : get_or (pre ++ R) (5 * k) 0 ≡ f.region = ap (λ n. get_or (pre ++ R) n 0) z ∙ word_behind pre R (5 * k) 0 e in
      let q : get_or (pre ++ R) (5 * k + 1) 0 ≡ j = word_behind pre R (5 * k) 1 e in
      let r : get_or (pre ++ R) (5 * k + 2) 0 ≡ length f.contours = word_behind pre R (5 * k) 2 e in
      let s : get_or (pre ++ R) (5 * k + 3) 0 ≡ f.first % w = word_behind pre R (5 * k) 3 e in
      let t : get_or (pre ++ R) (5 * k + 4) 0 ≡ f.first / w = word_behind pre R (5 * k) 4 e in
      rw (p, q, r, s, t)
      (ap (λ l. (3, f.region ∷ f.first % w ∷ f.first / w ∷ length f.contours ∷ l)) (contours_stand f.contours cpre cpost rpre rpost j i g h))

  faces_stand : (fs : List Face) (pre post cpre cpost rpre rpost : List ℕ) (k j i : ℕ) → length pre ≡ 5 * k → length cpre ≡ 2 * j → length rpre ≡ i
      → map (stored_face (pre ++ (face_words w j fs ++ post)) (cpre ++ (contour_words i (contours_of fs) ++ cpost)) (rpre ++ (flat (contours_of fs) ++ rpost))) (upto (length fs) k)
      ≡ map (face_entry w) fs
  unfolding upto
  faces_stand [] pre post cpre cpost rpre rpost k j i e g h = refl
  faces_stand (f ∷ fs) pre post cpre cpost rpre rpost k j i e g h =
      let R = f.region ∷ j ∷ length f.contours ∷ f.first % w ∷ f.first / w ∷ [] in
      let C = contour_words i f.contours in
      let i' = i + length (flat f.contours) in
      let j' = j + length f.contours in
      let F' = face_words w j' fs in
      let C' = contour_words i' (contours_of fs) in
      let a : pre ++ (face_words w j (f ∷ fs) ++ post) ≡ (pre ++ R) ++ (F' ++ post) = ap (λ l. pre ++ (l ++ post)) (records_more w j f fs) ∙ moved pre R F' post in
      let b : cpre ++ (contour_words i (contours_of (f ∷ fs)) ++ cpost) ≡ (cpre ++ C) ++ (C' ++ cpost) =
      ap (λ l. cpre ++ (l ++ cpost)) (ap (contour_words i) (contours_first f fs) ∙ contours_both i f.contours (contours_of fs)) ∙ moved cpre C C' cpost in
      let c : rpre ++ (flat (contours_of (f ∷ fs)) ++ rpost) ≡ (rpre ++ flat f.contours) ++ (flat (contours_of fs) ++ rpost) =
      ap (λ l. rpre ++ (l ++ rpost)) (ap flat (contours_first f fs) ∙ flat_append f.contours (contours_of fs)) ∙ moved rpre (flat f.contours) (flat (contours_of fs)) rpost in
      let x = face_stands f pre (F' ++ post) cpre (C' ++ cpost) rpre (flat (contours_of fs) ++ rpost) k j i e g h in
      let r = faces_stand fs (pre ++ R) post (cpre ++ C) cpost (rpre ++ flat f.contours) rpost (suc k) j' i' (omega (arith, length-append pre R))
      (omega (arith, length-append cpre C, length_contours i f.contours)) (omega (arith, length-append rpre (flat f.contours))) in
      three a b c (λ s t u. map (stored_face s t u) (upto (suc (length fs)) k))
      ∙ ap₂ (λ x y. x ∷ y)
      (three (append_assoc pre R (F' ++ post)) (append_assoc cpre C (C' ++ cpost)) (append_assoc rpre (flat f.contours) (flat (contours_of fs) ++ rpost)) (λ s t u. stored_face s t u k) ∙ x) r

-- THE FILE

pieces_bytes : (g : ℕ → Entry) (n : ℕ) → pieces (λ i. bytes_of (g i)) n 0 ≡ file_bytes (map g (upto n 0))
unfolding pieces file_bytes
pieces_bytes g n = ap flat (sym (map-map bytes_of g (upto n 0)))

bytes_both : (es gs : List Entry) → file_bytes (es ++ gs) ≡ file_bytes es ++ file_bytes gs
unfolding file_bytes
bytes_both es gs = ap flat (map-append bytes_of es gs) ∙ flat_append (map bytes_of es) (map bytes_of gs)

front : (e : Entry) (es : List Entry) → bytes_of e ++ file_bytes es ≡ file_bytes (e ∷ es)
unfolding file_bytes flat
front e es = refl

-- records at the front of the stores, whatever stands behind them
pub stored_file_lem : (m : Map) (P : Picture) (ss : List (List Dart)) (fs : List Face) → ((s : List Dart) → In s ss → 0 < length s) → (t u v x y : List ℕ)
    → stored_file m.width m.height m.paints (length ss) (length fs) (segment_words P 0 ss ++ t) (point_words ss ++ u) (flat (contours_of fs) ++ v) (contour_words 0 (contours_of fs) ++ x) (face_words m.width 0 fs ++ y)
    ≡ file_bytes (file_entries m ss fs)
unfolding stored_file file_entries header_entry map_entry
stored_file_lem m P ss fs f t u v x y =
    let a = segments_stand P ss f [] t [] u 0 0 refl refl in
    let b = faces_stand m.width fs [] y [] x [] v 0 0 0 refl refl refl in
    let e : Entry = (1, m.width ∷ m.height ∷ m.paints ∷ []) in
    ap₂ (λ p q. bytes_of e ++ (p ++ q)) (pieces_bytes _ (length ss) ∙ ap file_bytes a) (pieces_bytes _ (length fs) ∙ ap file_bytes b)
    ∙ (ap (λ l. bytes_of e ++ l) (sym (bytes_both (map segment_entry ss) (map (face_entry m.width) fs)))
    ∙ front e (map segment_entry ss ++ map (face_entry m.width) fs))

-- A MAP'S CUT LIST in the stores

-- neither 19 nor 13: there is room
room : (paints long size : ℕ) → first_hit (record { number = 19; hits = ltb 65535 paints } ∷ record { number = 13; hits = ltb long size } ∷ []) ≡ 0 → size ≤ long
unfolding first_hit
room paints long size z = go (ltb 65535 paints) (ltb long size) refl z
  where
    go : (t u : Bool) → ltb long size ≡ u → ◌≡◌ {A = ℕ} (elim t [ true ↦ 19 | false ↦ elim u [ true ↦ 13 | false ↦ 0 ] ]) 0 → size ≤ long
    go true u e z = absurd (omega arith)
    go false true e z = absurd (omega arith)
    go false false e z = ltb-false long size e

behind : (words store : List ℕ) → Front words store → store ≡ words ++ drop (length words) store
behind words store e = sym (take-append-drop (length words) store) ∙ ap (λ l. l ++ drop (length words) store) e

numbers : {w w' h h' p p' n n' k k' : ℕ} → w ≡ w' → h ≡ h' → p ≡ p' → n ≡ n' → k ≡ k' → (ss ps rs cs fs : List ℕ)
    → stored_file w h p n k ss ps rs cs fs ≡ stored_file w' h' p' n' k' ss ps rs cs fs
numbers a b c d e ss ps rs cs fs = rw (a, b, c, d, e)

stores : {ss ss' ps ps' rs rs' cs cs' fs fs' : List ℕ} (w h p n k : ℕ) → ss ≡ ss' → ps ≡ ps' → rs ≡ rs' → cs ≡ cs' → fs ≡ fs'
    → stored_file w h p n k ss ps rs cs fs ≡ stored_file w h p n k ss' ps' rs' cs' fs'
stores {ss} {ss'} {ps} {ps'} {rs} {rs'} {cs} {cs'} {fs} {fs'} w h p n k a b c d e =
    ap (λ l. stored_file w h p n k l ps rs cs fs) a
    ∙ (ap (λ l. stored_file w h p n k ss' l rs cs fs) b
    ∙ (ap (λ l. stored_file w h p n k ss' ps' l cs fs) c
    ∙ (ap (λ l. stored_file w h p n k ss' ps' rs' l fs) d
    ∙ ap (λ l. stored_file w h p n k ss' ps' rs' cs' l) e)))

-- the stores of a cut list, by its parts
list_file : (m : Map) → let P = picture_of (waste_free m) in
    ((s : List Dart) → In s (segments P) → 0 < length s) → (t u v x y : List ℕ)
    → stored_file m.width m.height m.paints (length (segments P)) (length (faces P (segments P) m.paints))
    ((cut_list (waste_free m)).segments ++ t) ((cut_list (waste_free m)).points ++ u) ((cut_list (waste_free m)).references ++ v) ((cut_list (waste_free m)).contours ++ x) ((cut_list (waste_free m)).faces ++ y)
    ≡ file_of m
unfolding cut_list cuts file_of picture
list_file m f t u v x y =
    let P = picture_of (waste_free m) in
    stored_file_lem m P (segments P) (faces P (segments P) m.paints) f t u v x y

module _ (m : Map) (j : Job) (c : Counted m j) where
  -- BEFORE ANY WRITE: the length, and 19 or 13 as the writer has them

  pub counted_size : size_of j ≡ length (file_of m)
  unfolding size_by length_by
  counted_size =
      let a = ap (λ l. get_or l 0 0) c.counts in
      let b = ap (λ l. get_or l 1 0) c.counts in
      let d = ap (λ l. get_or l 2 0) c.counts in
      let e = ap (λ l. get_or l 3 0) c.counts in
      let f = ap (λ l. get_or l 4 0) c.counts in
      omega (arith, file_length m)

  pub counted_number : (out : List ℕ) → file_number j.paints (length out) (size_of j) ≡ first_hit (file_checks m (file_of m) out)
  unfolding file_number file_checks
  counted_number out = ap₂ (λ p s. file_number p (length out) s) c.paints counted_size

  counted_by :
      let P = picture_of (waste_free m) in Counts P (segments P) (faces P (segments P) m.paints) (counted 0 (cut_list (waste_free m)))
  unfolding cut_list
  counted_by =
      let n = waste_free m in
      let P = picture_of n in
      let F = picture_framed n.width n.height n.bound n.labels in
      counts F (describes F) (faces P (segments P) m.paints) 0

  -- AFTERWARDS: the words of the stores come to the file

  module _ (ss ps rs cs fs : List ℕ) (st : Stands m ss ps rs cs fs) where
    pub stands_file : file_in j ss ps rs cs fs ≡ file_of m
    stands_file =
        let n = waste_free m in
        let P = picture_of n in
        let F = picture_framed n.width n.height n.bound n.labels in
        let sl = segments P in
        let fl = faces P sl m.paints in
        let k = counted_by in
        let a : j.segments ≡ length sl = ap (λ l. get_or l 0 0) c.counts ∙ k.segments in
        let b : j.faces ≡ length fl = ap (λ l. get_or l 4 0) c.counts ∙ k.faces in
        numbers c.width c.height c.paints a b ss ps rs cs fs
        ∙ (stores m.width m.height m.paints (length sl) (length fl) (behind _ ss st.segments) (behind _ ps st.points) (behind _ rs st.references) (behind _ cs st.contours) (behind _ fs st.faces)
        ∙ list_file m (has_step F (describes F)) _ _ _ _ _)

    -- where the number was 0, the file stands at the front of its store, the rest of which stays, and the place behind it is its length
    pub stands_put : (out out' : List ℕ) (r : ℕ) → file_number j.paints (length out) (size_of j) ≡ 0 → Put out 0 (file_in j ss ps rs cs fs) out' r
        → (out' ≡ store_after 0 (file_of m) out) × (r ≡ length (file_of m))
    unfolding store_after file_number
    stands_put out out' r z p =
        let h = room j.paints (length out) (size_of j) z in
        let l = counted_size in
        let e = ap length stands_file in
        (p.held ∙ (ap (sets out 0) stands_file ∙ sets_front out (file_of m) (omega arith)), p.place ∙ omega arith)

-- what a call that answered 0 left in a store
pub front_after : (n : ℕ) (words store : List ℕ) → n ≡ 0 → Front words (store_after n words store)
unfolding store_after
front_after n words store e = rw (eq-eqb n 0 e, store_after) (take-append_seam words (drop (length words) store))
