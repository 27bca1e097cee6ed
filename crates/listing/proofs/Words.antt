-- The words of steps and contours, as they are put one after the other.
use Prim.Native.Nat.{ℕ, suc, ◌+◌, ◌*◌}
use mathlib.Core.Path.{◌≡◌, sym, ap, ◌∙◌}
use mathlib.Core.List.{List, [], ◌∷◌, ◌++◌, map, map-append}
use native.Mathlib.Omega.{arith}
use lib.ListN.{length, set}
use lib.Seq.{sets}
use Rattle.rules.specs.Lists.{flat}
use Rattle.rules.specs.Picture.{Dart}
use Rattle.benches.specs.Listing.{step_words, loop_words}
use Rattle.rules.proofs.Ground.Lists.{flat_snoc}
use Rattle.benches.proofs.Lengths.{step_length}
use Rattle.store.proofs.Writes.{sets_append, set_earlier}
use Rattle.listing.specs.Writing.{Wrote}

-- THE STEPS so far, from behind the count on
abbrev pub steps_words : List Dart → List ℕ
steps_words l = flat (map step_words l)

pub steps_more : (l : List Dart) (a : Dart) → steps_words (l ++ (a ∷ [])) ≡ steps_words l ++ step_words a
steps_more l a = ap flat (map-append step_words l (a ∷ [])) ∙ flat_snoc (map step_words l) (step_words a)

pub steps_put : (out out₀ out' : List ℕ) (at n : ℕ) (done : List Dart) (a : Dart) → out ≡ sets out₀ (at + 1) (steps_words done) → n ≡ length done
    → out' ≡ sets out (at + 1 + 3 * n) (step_words a) → out' ≡ sets out₀ (at + 1) (steps_words (done ++ (a ∷ [])))
steps_put out out₀ out' at n done a e f g =
    let z : at + 1 + 3 * n ≡ at + 1 + length (steps_words done) = omega (arith, step_length done) in
    g ∙ rw (e, z, steps_more done a) (sym (sets_append out₀ (at + 1) (steps_words done) (step_words a)))

-- and the count before them
pub loop_put : (out out₀ out' : List ℕ) (at n : ℕ) (c : List Dart) → out ≡ sets out₀ (at + 1) (steps_words c) → n ≡ length c → out' ≡ set out at n → Wrote (loop_words c) at out₀ out' (at + 1 + 3 * n)
unfolding loop_words
loop_put out out₀ out' at n c e f g =
    let z : at + 1 ≡ suc at = omega arith in
    record {
      words = g ∙ rw (e, f, z) (set_earlier out₀ at (suc at) (length c) (steps_words c) (omega arith));
      end = omega (arith, step_length c);
    }
