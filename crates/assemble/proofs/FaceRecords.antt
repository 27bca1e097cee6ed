-- Faces written one after the other, each with its contours.
use Prim.Native.Nat.{ℕ, suc, ◌+◌, ◌*◌, ◌-◌, ◌/◌, ◌%◌, ◌≤◌, ◌<◌}
use mathlib.Core.Path.{◌≡◌, refl, sym, ap, subst, ◌∙◌}
use mathlib.Core.List.{List, [], ◌∷◌, ◌++◌, map, map-append, append-nil}
use native.Mathlib.Omega.{arith}
use lib.ListN.{length, get_or, take, drop, length-append, length-map}
use lib.Seq.{sets, length-sets, take-suc, take_all, split_at, length-take-le}
use Rattle.rules.specs.Lists.{flat}
use Rattle.rules.specs.Face.{Face}
use Rattle.rules.specs.Records.{contours_of, contour_words, face_words, NONE}
use Rattle.rules.proofs.Ground.Lists.{flat_append, in_at, at_map}
use Rattle.rules.proofs.CutList.Lengths.{length_faces}
use Rattle.store.proofs.Writes.{sets_append}
use Rattle.store.proofs.Parts.{length_part, part_at}
use Rattle.assemble.specs.declared.Done.{Done}
use Rattle.assemble.specs.Trails.{Strung}
use Rattle.assemble.specs.Writing.{Fits, Wrote, Chain, WritesChain, Gathered, WroteFaces, FaceDue, WritesFace, nothing, Ordered, AllWritten}
use Rattle.assemble.proofs.Writing.{wrote_none, wrote_then, fits_front, fits_rest}

-- ONE FACE

contours_of_one : (f : Face) → contours_of (f ∷ []) ≡ f.contours
unfolding contours_of flat
contours_of_one f = append-nil f.contours

module _ {width : ℕ} {ls : List ℕ} {trail heads list : ℕ} {work : List ℕ} {f : ℕ} {done : Done} (u : FaceDue width ls trail heads list work f done) {p first : ℕ} (e : p ≡ get_or work (list + f) 0) (g : first ≡ get_or work (heads + p) 0) where
  its_string : (face : Face) → get_or work (list + f) 0 ≡ face.first → Gathered ls trail heads work face → Strung trail work first face.contours
  its_string face q h = subst (λ r. Strung trail work r face.contours) (sym (g ∙ ap (λ p. get_or work (heads + p) 0) (e ∙ q))) h.strung

  pub chain : Chain trail work first done
  chain = record { contours = u.face.contours; strung = its_string u.face u.first u.gathered; fits = u.fits; begins = u.begins.in_trail }

  module _ {refs cons refs' cons' : List ℕ} {done' : Done} (w : WritesChain trail work first done refs cons done' refs' cons') where
    wrote_of : (face : Face) → get_or work (list + f) 0 ≡ face.first → Gathered ls trail heads work face → Wrote face.contours done refs cons done' refs' cons'
    wrote_of face q h = w face.contours (its_string face q h)

    count_of : (face : Face) → get_or work (list + f) 0 ≡ face.first → Gathered ls trail heads work face → done'.contours ≡ done.contours + length face.contours
    count_of face q h = ap (λ (d : Done). d.contours) (wrote_of face q h).counts

    pub grows : done.contours ≤ done'.contours
    grows = omega (arith, count_of u.face u.first u.gathered)

    pub stays_low : done'.contours ≤ NONE
    stays_low = omega (arith, count_of u.face u.first u.gathered, u.fits.contours)

    pub face_written : {region n x y : ℕ} {faces faces' : List ℕ} → region ≡ get_or ls p 0 → n ≡ done'.contours - done.contours → x ≡ p % width → y ≡ p / width
        → faces' ≡ sets faces (5 * f) (region ∷ done.contours ∷ n ∷ x ∷ y ∷ [])
        → WritesFace width ls trail heads list work f done refs cons faces done' refs' cons' faces'
    unfolding face_words
    face_written {region} {n} {x} {y} {faces} r k i j q face a h =
        let own : region ≡ face.region = r ∙ ap (λ p. get_or ls p 0) (e ∙ a) ∙ sym h.region in
        let count : n ≡ length face.contours = omega (arith, count_of face a h) in
        record {
          wrote = rw (contours_of_one face) (wrote_of face a h);
          face_words_lem = q ∙ rw (own, count, i ∙ ap (λ p. p % width) (e ∙ a), j ∙ ap (λ p. p / width) (e ∙ a));
        }

-- ONE AFTER THE OTHER

contours_append : (fs gs : List Face) → contours_of (fs ++ gs) ≡ contours_of fs ++ contours_of gs
unfolding contours_of
contours_append fs gs = ap flat (map-append (λ f. f.contours) fs gs) ∙ flat_append (map (λ f. f.contours) fs) (map (λ f. f.contours) gs)

face_words_append : (width i : ℕ) (fs gs : List Face) → face_words width i (fs ++ gs) ≡ face_words width i fs ++ face_words width (i + length (contours_of fs)) gs
unfolding face_words contours_of flat
face_words_append width i [] gs = let z : i + 0 ≡ i = omega arith in rw z
face_words_append width i (f ∷ fs) gs =
    let z : i + length f.contours + length (contours_of fs) ≡ i + length (f.contours ++ contours_of fs) = omega (arith, length-append f.contours (contours_of fs)) in
    ap (λ (l : List ℕ). f.region ∷ i ∷ length f.contours ∷ (f.first % width) ∷ (f.first / width) ∷ l)
    (face_words_append width (i + length f.contours) fs gs ∙ ap (λ j. face_words width (i + length f.contours) fs ++ face_words width j gs) z)

faces_then : {width i j : ℕ} {fs gs : List Face} {done done' done'' : Done} {refs cons faces refs' cons' faces' refs'' cons'' faces'' : List ℕ} → j ≡ i + length fs
    → WroteFaces width i fs done refs cons faces done' refs' cons' faces' → WroteFaces width j gs done' refs' cons' faces' done'' refs'' cons'' faces''
    → WroteFaces width i (fs ++ gs) done refs cons faces done'' refs'' cons'' faces''
faces_then {width} {i} {j} {fs} {gs} {done} {done'} {done''} {refs} {cons} {faces} {refs'} {cons'} {faces'} e w v =
    let c : done'.contours ≡ done.contours + length (contours_of fs) = ap (λ (d : Done). d.contours) w.wrote.counts in
    let k : 5 * j ≡ 5 * i + length (face_words width done.contours fs) = omega (arith, length_faces width done.contours fs) in
    record {
      wrote = rw (contours_append fs gs) (wrote_then w.wrote v.wrote);
      face_words_lem = v.face_words_lem ∙ rw (w.face_words_lem, k, c) (sym (ap (sets faces (5 * i)) (face_words_append width done.contours fs gs)
          ∙ sets_append faces (5 * i) (face_words width done.contours fs) (face_words width (done.contours + length (contours_of fs)) gs)));
    }

-- ALL

no_face : Face
no_face = record { region = 0; first = 0; contours = [] }

pub none_written : (width : ℕ) (refs cons faces : List ℕ) → WroteFaces width 0 [] nothing refs cons faces nothing refs cons faces
unfolding contours_of face_words flat
none_written width refs cons faces = record { wrote = wrote_none nothing refs cons; face_words_lem = refl }

module _ {width : ℕ} {ls : List ℕ} {trail heads list m : ℕ} {work : List ℕ} {fs : List Face} (o : Ordered width ls trail heads list m work fs) where
  all_count : m ≡ length fs
  all_count = sym (length_part work list m) ∙ ap length o.firsts ∙ length-map fs (λ f. f.first)

  module _ {f : ℕ} (b : f < m) where
    here_first : get_or work (list + f) 0 ≡ (get_or fs f no_face).first
    here_first =
        sym (part_at work list m f b) ∙ ap (λ (l : List ℕ). get_or l f 0) o.firsts ∙ at_map (λ f. f.first) fs f no_face 0 (omega (arith, all_count))

    here_gathered : Gathered ls trail heads work (get_or fs f no_face)
    here_gathered = o.gathered (get_or fs f no_face) (in_at fs f no_face (omega (arith, all_count)))

    module _ {refs cons faces refs' cons' faces' : List ℕ} {done : Done} (w : WroteFaces width 0 (take f fs) nothing refs cons faces done refs' cons' faces') where
      pub due : FaceDue width ls trail heads list work f done
      unfolding contours_of flat
      due = record {
        face = get_or fs f no_face;
        first = here_first;
        gathered = here_gathered;
        fits =
            let rest = contours_of (drop (suc f) fs) in
            let all : contours_of fs ≡ contours_of (take f fs) ++ ((get_or fs f no_face).contours ++ rest) =
            ap contours_of (split_at fs f no_face (omega (arith, all_count))) ∙ contours_append (take f fs) (get_or fs f no_face ∷ drop (suc f) fs) in
            fits_front (get_or fs f no_face).contours rest
            (fits_rest (contours_of (take f fs)) ((get_or fs f no_face).contours ++ rest) (subst (λ (cs : List (List ℕ)). Fits cs nothing) all o.fits) w.wrote);
        low = omega (arith, o.low);
        wide = o.wide (omega arith);
        begins = o.begins;
      }

      pub one_more : {done' : Done} {refs'' cons'' faces'' : List ℕ} → WritesFace width ls trail heads list work f done refs' cons' faces' done' refs'' cons'' faces''
          → WroteFaces width 0 (take (suc f) fs) nothing refs cons faces done' refs'' cons'' faces''
      one_more v =
          rw (take-suc fs f no_face (omega (arith, all_count)))
          (faces_then (let z = length-take-le f fs (omega (arith, all_count)) in omega arith) w (v (get_or fs f no_face) here_first here_gathered))

  pub all_written : {f : ℕ} {refs cons faces refs' cons' faces' : List ℕ} {done : Done} → m ≤ f → WroteFaces width 0 (take f fs) nothing refs cons faces done refs' cons' faces'
      → AllWritten width fs refs cons faces done refs' cons' faces'
  all_written {f} {refs} {cons} {faces} {refs'} {cons'} {faces'} {done} h w =
      let v = subst (λ (gs : List Face). WroteFaces width 0 gs nothing refs cons faces done refs' cons' faces') (take_all f fs (omega (arith, all_count))) w in
      record {
        reference_words = v.wrote.references;
        contour_words_lem = v.wrote.contours;
        face_words_lem = v.face_words_lem;
        contours = omega (arith, ap (λ (d : Done). d.contours) v.wrote.counts);
        references = omega (arith, ap (λ (d : Done). d.references) v.wrote.counts);
      }

-- the stores are as long as before
module _ {width f : ℕ} {fs : List Face} {done done' : Done} {refs cons faces refs' cons' faces' : List ℕ} (w : WroteFaces width f fs done refs cons faces done' refs' cons' faces') where
  pub refs_length : length refs' ≡ length refs
  refs_length = ap length w.wrote.references ∙ length-sets refs done.references (flat (contours_of fs))

  pub cons_length : length cons' ≡ length cons
  cons_length = ap length w.wrote.contours ∙ length-sets cons (2 * done.contours) (contour_words done.references (contours_of fs))

  pub faces_length : length faces' ≡ length faces
  faces_length = ap length w.face_words_lem ∙ length-sets faces (5 * f) (face_words width done.contours fs)
