-- Contours and faces written one after the other.
use Prim.Native.Nat.{ℕ, ◌+◌, ◌*◌}
use mathlib.Core.Path.{◌≡◌, refl, sym, ap, ◌∙◌}
use mathlib.Core.List.{List, [], ◌∷◌, ◌++◌, append-nil}
use native.Mathlib.Omega.{arith}
use lib.ListN.{length, length-append}
use lib.Seq.{sets}
use Rattle.rules.specs.Lists.{flat}
use Rattle.rules.specs.Records.{contour_words}
use Rattle.rules.proofs.Ground.Lists.{flat_append}
use Rattle.store.proofs.Writes.{sets_append}
use Rattle.assemble.specs.declared.Done.{Done}
use Rattle.assemble.specs.Writing.{Fits, Wrote}

-- ONE CONTOUR

pub wrote_one : (c : List ℕ) (done : Done) (refs cons refs' cons' : List ℕ) (n : ℕ) → n ≡ length c → refs' ≡ sets refs done.references c
    → cons' ≡ sets cons (2 * done.contours) (done.references ∷ n ∷ [])
    → Wrote (c ∷ []) done refs cons (record { contours = done.contours + 1; references = done.references + n }) refs' cons'
unfolding flat contour_words
wrote_one c done refs cons refs' cons' n k e f = record {
  contours = f ∙ rw k;
  references = e ∙ ap (sets refs done.references) (sym (append-nil c));
  counts = rw (k, append-nil c);
}

-- ONE AFTER THE OTHER

contour_words_append : (i : ℕ) (cs ds : List (List ℕ)) → contour_words i (cs ++ ds) ≡ contour_words i cs ++ contour_words (i + length (flat cs)) ds
unfolding contour_words flat
contour_words_append i [] ds = let z : i + 0 ≡ i = omega arith in rw z
contour_words_append i (c ∷ cs) ds =
    let z : i + length c + length (flat cs) ≡ i + length (c ++ flat cs) = omega (arith, length-append c (flat cs)) in
    ap (λ (l : List ℕ). i ∷ length c ∷ l) (contour_words_append (i + length c) cs ds ∙ ap (λ j. contour_words (i + length c) cs ++ contour_words j ds) z)

contour_words_length : (i : ℕ) (cs : List (List ℕ)) → length (contour_words i cs) ≡ 2 * length cs
unfolding contour_words
contour_words_length i [] = refl
contour_words_length i (c ∷ cs) = omega (arith, contour_words_length (i + length c) cs)

done_path : (c d n m : ℕ) → c ≡ d → n ≡ m → ◌≡◌ {A = Done} (record { contours = c; references = n }) (record { contours = d; references = m })
done_path c d n m p q = λ i. record { contours = p i; references = q i }

pub wrote_none : (done : Done) (refs cons : List ℕ) → Wrote [] done refs cons done refs cons
unfolding flat contour_words
wrote_none done refs cons = record {
  contours = refl;
  references = refl;
  counts = done_path done.contours (done.contours + 0) done.references (done.references + 0) (omega arith) (omega arith);
}

pub wrote_then : {cs ds : List (List ℕ)} {done done' done'' : Done} {refs cons refs' cons' refs'' cons'' : List ℕ}
    → Wrote cs done refs cons done' refs' cons' → Wrote ds done' refs' cons' done'' refs'' cons'' → Wrote (cs ++ ds) done refs cons done'' refs'' cons''
wrote_then {cs} {ds} {done} {done'} {done''} {refs} {cons} {refs'} {cons'} w v =
    let c : done'.contours ≡ done.contours + length cs = ap (λ (d : Done). d.contours) w.counts in
    let r : done'.references ≡ done.references + length (flat cs) = ap (λ (d : Done). d.references) w.counts in
    let k : 2 * done'.contours ≡ 2 * done.contours + length (contour_words done.references cs) = omega (arith, contour_words_length done.references cs) in
    record {
      contours = v.contours ∙ rw (w.contours, k, r) (sym (ap (sets cons (2 * done.contours)) (contour_words_append done.references cs ds)
          ∙ sets_append cons (2 * done.contours) (contour_words done.references cs) (contour_words (done.references + length (flat cs)) ds)));
      references = v.references ∙ rw (w.references, r) (sym (ap (sets refs done.references) (flat_append cs ds) ∙ sets_append refs done.references (flat cs) (flat ds)));
      counts = v.counts
          ∙ done_path (done'.contours + length ds) (done.contours + length (cs ++ ds)) (done'.references + length (flat ds)) (done.references + length (flat (cs ++ ds)))
          (omega (arith, length-append cs ds)) (omega (arith, ap length (flat_append cs ds), length-append (flat cs) (flat ds)));
    }

-- HOW MUCH IS LEFT

module _ (cs ds : List (List ℕ)) {done : Done} (f : Fits (cs ++ ds) done) where
  both : length (cs ++ ds) ≡ length cs + length ds
  both = length-append cs ds

  flats : length (flat (cs ++ ds)) ≡ length (flat cs) + length (flat ds)
  flats = ap length (flat_append cs ds) ∙ length-append (flat cs) (flat ds)

  pub fits_front : Fits cs done
  fits_front = record { contours = omega (arith, f.contours, both); references = omega (arith, f.references, flats) }

  pub fits_rest : {done' : Done} {refs cons refs' cons' : List ℕ} → Wrote cs done refs cons done' refs' cons' → Fits ds done'
  fits_rest w =
      rw w.counts (record { contours = omega (arith, f.contours, both); references = omega (arith, f.references, flats) })
