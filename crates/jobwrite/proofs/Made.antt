-- What the writer's 0 says: the map is accepted and its paints are few, its file stands at the front of the file store, and it paints the map's
-- painted labels. And the writer has one outcome.
use Prim.Native.Nat.{ℕ, ◌≤◌}
use mathlib.Core.Bool.{Bool, true, false}
use mathlib.Core.Path.{◌≡◌, refl, sym, ap, ◌∙◌}
use mathlib.Core.List.{List, [], ◌∷◌, ◌++◌}
use native.Mathlib.Omega.{arith}
use lib.Dec.{ltb}
use lib.ListN.{length, get_or, drop}
use borrow.Author.Tests.{ltb-false}
use Rattle.std.specs.Prelude.{Result, Ok, Err}
use Rattle.rules.specs.Calls.{Map, cut_list, first_hit, map_checks, graph_checks, face_checks, store_after}
use Rattle.calls.specs.declared.Refused.{Refused}
use Rattle.calls.proofs.Checks.{both_miss, map_positive}
use Rattle.calls.proofs.Outcomes.{first, passed}
use Rattle.calls.proofs.Settled.{number_is}
use Rattle.calls.proofs.Demands.Answered.{one_outcome}
use Rattle.jobfile.specs.JobFile.{waste_free, painted_map, file_of, file_checks, Written, write}
use Rattle.jobfile.specs.Painted.{painted, MadeFrom}
use Rattle.jobfile.proofs.Round.{made_reads}
use Rattle.jobwrite.specs.declared.Written.{Written as WrittenCode}
use Rattle.jobwrite.specs.Written.{counts_in, length_in, written_as}
use Rattle.jobwrite.proofs.Stages.{late_number, both_zero, write_fine}

few_paints : (p : ℕ) (t : Bool) → first_hit (record { number = 19; hits = ltb 65535 p } ∷ record { number = 13; hits = t } ∷ []) ≡ 0 → p ≤ 65535
unfolding first_hit
few_paints p t z = ltb-false 65535 p (go (ltb 65535 p) z)
  where
    go : (b : Bool) → ◌≡◌ {A = ℕ} (elim b [ true ↦ 19 | false ↦ elim t [ true ↦ 13 | false ↦ 0 ] ]) 0 → b ≡ false
    go true z = absurd (omega arith)
    go false z = refl

module _ (m : Map) (word : m.paints ≤ 4294967295) (work ns ss ps rs cs fs file : List ℕ)
    (z : (write m work ns ss ps rs cs fs file).outcome.answer.number ≡ 0) where
  both : (first (waste_free m) work ≡ 0) × (late_number m work ns ss ps rs cs fs file ≡ 0)
  unfolding write
  both =
      let n = waste_free m in
      let l = cut_list n in
      let more = graph_checks l ns ss ps ++ (face_checks l rs cs fs ++ file_checks m (file_of m) file) in
      both_miss (map_checks n work) more (map_positive n work) (sym (number_is n l work more _) ∙ z)

  pub write_made : MadeFrom (file_of m) m
  unfolding file_checks
  write_made =
      let p = passed (waste_free m) work both.0 in
      record {
        accepted = record { wide = p.wide; tall = p.high; size = p.labels; word = word };
        few = few_paints m.paints _ (both_zero m work ns ss ps rs cs fs file both.1).1;
        bytes = refl;
      }

  -- the length, and the file store: the file, then what was there
  pub write_length : (write m work ns ss ps rs cs fs file).length ≡ length (file_of m)
  write_length = ap (λ w. w.length) (write_fine m work ns ss ps rs cs fs file both.0 both.1)

  pub write_file : get_or (write m work ns ss ps rs cs fs file).outcome.stores 7 [] ≡ file_of m ++ drop (length (file_of m)) file
  unfolding store_after
  write_file = ap (λ w. get_or w.outcome.stores 7 []) (write_fine m work ns ss ps rs cs fs file both.0 both.1)

  -- WRITTEN AND PAINTED: the painted labels
  pub write_painted : painted (file_of m) ≡ painted_map m
  write_painted = (made_reads (file_of m) m write_made).map

-- ONE OUTCOME: two results that meet the writer's promise on the same input are equal, answer, length and all stores
pub one_written : (w : Written) (r t : Result WrittenCode Refused) (ss ts : List (List ℕ)) → written_as r ss ≡ w → written_as t ts ≡ w → (r ≡ t) × (ss ≡ ts)
one_written w r t ss ts p q =
    let o = one_outcome w.outcome (counts_in r) (counts_in t) ss ts (ap (λ w. w.outcome) p) (ap (λ w. w.outcome) q) in
    (same r t o.0 (ap (λ w. w.length) (p ∙ sym q)), o.1)
  where
    same : (r t : Result WrittenCode Refused) → counts_in r ≡ counts_in t → length_in r ≡ length_in t → r ≡ t
    same (Ok w) (Ok v) e n = let c : w.counts ≡ v.counts = cc in λ i. Ok (record { counts = c i; length = n i })
    same (Ok w) (Err r) e n = cc
    same (Err r) (Ok w) e n = cc
    same (Err r) (Err q) e n = let c : r ≡ q = cc in ap Err c
