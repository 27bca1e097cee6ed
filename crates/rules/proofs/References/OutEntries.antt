-- A node's out entries: the reference that leaves each way.
use Prim.Native.Nat.{ℕ, ◌*◌, ◌<◌}
use mathlib.Core.Bool.{Bool, true, false, true≢false}
use mathlib.Core.Path.{◌≡◌, sym, ap, ◌∙◌}
use mathlib.Core.List.Memᴰ.{cast as in-cast}
use mathlib.Core.List.{List, Memᴰ as In}
use lib.ListN.{length, get_or}
use Rattle.rules.specs.Lists.{keep}
use Rattle.rules.specs.Picture.{Picture, OUTSIDE, Dart, same_dart, crack, node}
use Rattle.rules.specs.Face.{refs, first_step, out_entry}
use Rattle.rules.proofs.Lattice.Frame.{Framed}
use Rattle.rules.proofs.Lattice.Darts.{same_path, same_refl}
use Rattle.rules.proofs.Ground.Lists.{in_first, keep_in, in_keep, keep_none}
use Rattle.rules.proofs.References.Steps.{in_refs, refs_in, step_of, step_of_one}
use Rattle.rules.proofs.References.Ends.{first_in_lem, first_crack, first_of_node}
use Rattle.rules.specs.Describes.{Describes}

module _ {P : Picture} (F : Framed P) {ss : List (List Dart)} (D : Describes P ss) where
  leaves : (a : Dart) (r : ℕ) → In r (keep (λ r. same_dart a (first_step ss r)) (refs ss)) → (r < 2 * length ss) × (first_step ss r ≡ a)
  leaves a r i =
      let p = keep_in (λ r. same_dart a (first_step ss r)) (refs ss) r i in
      (refs_in ss r p.0, sym (same_path a (first_step ss r) p.1))

  -- of a crack: the one reference whose first step it is
  pub out_entry_lem : (a : Dart) → crack P a ≡ true → node P a.x a.y ≡ true → (out_entry ss a < 2 * length ss) × (first_step ss (out_entry ss a) ≡ a)
  unfolding out_entry
  out_entry_lem a c n =
      let p = step_of F D a c in
      let f = first_of_node F D a p.0 p.1 p.2 n in
      let t : ℕ → Bool = λ r. same_dart a (first_step ss r) in
      leaves a (out_entry ss a) (in_first (keep t (refs ss)) OUTSIDE p.0 (in_keep t (refs ss) p.0 (ap (same_dart a) f ∙ same_refl a) (in_refs ss p.0 p.1)))

  pub out_entry_only : (a : Dart) → crack P a ≡ true → node P a.x a.y ≡ true → (r : ℕ) → r < 2 * length ss → first_step ss r ≡ a → r ≡ out_entry ss a
  out_entry_only a c n r k e =
      let p = out_entry_lem a c n in
      step_of_one F D a r (out_entry ss a) (in-cast (sym e) (first_in_lem F D r k)) (in-cast (sym p.1) (first_in_lem F D (out_entry ss a) p.0))

  -- of no crack: none
  pub out_entry_none : (a : Dart) → crack P a ≡ false → out_entry ss a ≡ OUTSIDE
  unfolding out_entry
  out_entry_none a c = ap (λ l. get_or l 0 OUTSIDE) (keep_none (λ r. same_dart a (first_step ss r)) (refs ss) none)
    where
      none : (r : ℕ) → In r (refs ss) → same_dart a (first_step ss r) ≡ true → ⊥
      none r i e = true≢false (sym (first_crack F D r (refs_in ss r i)) ∙ ap (crack P) (sym (same_path a (first_step ss r) e)) ∙ c)
