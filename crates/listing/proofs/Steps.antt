-- A contour written so far: its steps from behind the count on, and at its end the count.
use Prim.Native.Nat.{ℕ, ◌+◌, ◌*◌, ◌≤◌}
use mathlib.Core.Path.{◌≡◌, refl, ap, ◌∙◌}
use mathlib.Core.List.{List, [], ◌∷◌, ◌++◌}
use native.Mathlib.Omega.{arith}
use lib.ListN.{length, set, length-append}
use lib.Seq.{sets, length-sets}
use Rattle.rules.specs.Picture.{Dart}
use Rattle.rules.specs.Lists.{flat}
use Rattle.benches.specs.Listing.{step_words}
use Rattle.lattice.specs.declared.Size.{Size}
use Rattle.lattice.specs.declared.Walker.{Walker}
use Rattle.lattice.specs.Walker.{dart_of}
use Rattle.face.specs.Contours.{Starts}
use Rattle.listing.specs.Writing.{Contour}
use Rattle.face.proofs.contours.Rounds.{Turned, Round, begin, few, going, gone}
use Rattle.listing.proofs.Words.{steps_words, steps_put, loop_put}

pub record Sofar (s : Size) (ls : List ℕ) (at : ℕ) (w : Walker) (region : ℕ) (out₀ out : List ℕ) (c : Walker) (n : ℕ) : Type 0 where
  pub done : List Dart
  pub round : Round s ls w region c done
  pub words : out ≡ sets out₀ (at + 1) (steps_words done)
  pub count : n ≡ length done

module _ {s : Size} {ls : List ℕ} {at : ℕ} {w : Walker} {region : ℕ} {out₀ : List ℕ} where
  pub nothing : Starts s ls w region → Sofar s ls at w region out₀ out₀ w 0
  unfolding flat
  nothing h = record { done = []; round = begin h; words = refl; count = refl }

  module _ {out : List ℕ} {c : Walker} {n : ℕ} (o : Sofar s ls at w region out₀ out c n) where
    pub low : n ≤ 1073872899
    low = omega (arith, o.count, few o.round)

    pub room : length out ≡ length out₀
    room = ap length o.words ∙ length-sets out₀ (at + 1) (steps_words o.done)

    module _ {c' : Walker} (t : Turned s ls region c c') {out' : List ℕ} (p : out' ≡ sets out (at + 1 + 3 * n) (step_words (dart_of c))) where
      more : out' ≡ sets out₀ (at + 1) (steps_words (o.done ++ (dart_of c ∷ [])))
      more = steps_put out out₀ out' at n o.done (dart_of c) o.words o.count p

      one_more : n + 1 ≡ length (o.done ++ (dart_of c ∷ []))
      one_more = omega (arith, o.count, length-append o.done (dart_of c ∷ []))

      pub goes_on : (c' ≡ w → ⊥) → Sofar s ls at w region out₀ out' c' (n + 1)
      goes_on e = record { done = o.done ++ (dart_of c ∷ []); round = going o.round t e; words = more; count = one_more }

      pub is_over_lem : c' ≡ w → {out'' : List ℕ} → out'' ≡ set out' at (n + 1) → Contour s ls at w out₀ out'' (at + 1 + 3 * (n + 1))
      is_over_lem e {out''} q = let g = gone o.round t e in rw g (loop_put out' out₀ out'' at (n + 1) (o.done ++ (dart_of c ∷ [])) more one_more q)
