-- From step to step along the rows: east, then south, then east from the next corner, and at the end of a row on to the next.
use Prim.Native.Nat.{ℕ, suc, ◌+◌, ◌<◌, ◌≤◌}
use mathlib.Core.Path.{◌≡◌, refl, ap, subst}
use mathlib.Core.Bool.{true}
use mathlib.Core.Logic.{◌⊎◌, inl, inr}
use native.Mathlib.Omega.{arith}
use native.Mathlib.Decide.{dec_lt}
use Rattle.rules.specs.Picture.{Picture, code, Dart, dart, crack}
use Rattle.rules.specs.declared.Dir.TheVariants.{E, S}
use Rattle.rules.proofs.Lattice.Frame.{Framed}
use Rattle.rules.proofs.Lattice.Darts.{dart_path, crack_x, crack_y}
use Rattle.benches.proofs.Earlier.{NoLater, by_y, by_x, by_d, Earlier}
use Rattle.benches.proofs.Scan.{EastSouth, Next}

differs_x : (a b : Dart) → a.x < b.x → a ≡ b → ⊥
differs_x a b h e = let z : a.x ≡ b.x = ap (λ (d : Dart). d.x) e in omega arith

differs_y : (a b : Dart) → a.y < b.y → a ≡ b → ⊥
differs_y a b h e = let z : a.y ≡ b.y = ap (λ (d : Dart). d.y) e in omega arith

differs_d : (a b : Dart) → code a.d < code b.d → a ≡ b → ⊥
differs_d a b h e = let z : code a.d ≡ code b.d = ap (λ (d : Dart). code d.d) e in omega arith

pub to_south : (P : Picture) (x y : ℕ) → Next P (dart x y E) (dart x y S)
to_south P x y = record { later = (by_d refl refl (omega arith), differs_d (dart x y E) (dart x y S) (omega arith)); none = λ a c d l. go a d l.0 l.1 }
  where
    go : (a : Dart) → EastSouth a.d → NoLater a (dart x y S) → (a ≡ dart x y S → ⊥) → (a ≡ dart x y E) ⊎ Earlier a (dart x y E)
    go a d (by_y p) n = inr (by_y p, differs_y a (dart x y E) p)
    go a d (by_x p q) n = inr (by_x p q, differs_x a (dart x y E) q)
    go a (inl e) (by_d p q r) n = inl (dart_path a (dart x y E) q p e)
    go a (inr e) (by_d p q r) n = absurd (n (dart_path a (dart x y S) q p e))

to_east_lem : (P : Picture) (x y : ℕ) → Next P (dart x y S) (dart (suc x) y E)
to_east_lem P x y = record { later = (by_x refl (omega arith), differs_x (dart x y S) (dart (suc x) y E) (omega arith)); none = λ a c d l. go a d l.0 l.1 }
  where
    here : (a : Dart) → EastSouth a.d → a.y ≡ y → a.x ≡ x → (a ≡ dart x y S) ⊎ Earlier a (dart x y S)
    here a (inl e) p q = let z : code a.d ≡ 1 = ap code e in inr (by_d p q (omega arith), differs_d a (dart x y S) (omega arith))
    here a (inr e) p q = inl (dart_path a (dart x y S) q p e)

    go : (a : Dart) → EastSouth a.d → NoLater a (dart (suc x) y E) → (a ≡ dart (suc x) y E → ⊥) → (a ≡ dart x y S) ⊎ Earlier a (dart x y S)
    go a d (by_y p) n = inr (by_y p, differs_y a (dart x y S) p)
    go a d (by_x p q) n = elim (dec_lt a.x x) [ yes k ↦ inr (by_x p k, differs_x a (dart x y S) k) | no k ↦ here a d p (omega arith) ]
    go a (inl e) (by_d p q r) n = absurd (n (dart_path a (dart (suc x) y E) q p e))
    go a (inr e) (by_d p q r) n = let z : code a.d ≡ 2 = ap code e in absurd (omega arith)

pub to_next : (P : Picture) (x y : ℕ) → Next P (dart x y S) (dart (x + 1) y E)
to_next P x y = let z : suc x ≡ x + 1 = omega arith in subst (λ v. Next P (dart x y S) (dart v y E)) z (to_east_lem P x y)

module _ {P : Picture} (F : Framed P) where
  -- no crack starts behind the last corner of a row
  pub row_over : (y : ℕ) → Next P (dart (suc P.w) y E) (dart 0 (suc y) E)
  row_over y = record {
    later = (by_y (omega arith), differs_y (dart (suc P.w) y E) (dart 0 (suc y) E) (omega arith));
    none = λ a c d l. inr (go a d (crack_x F a c) l.0 l.1);
  }
    where
      go : (a : Dart) → EastSouth a.d → a.x ≤ P.w → NoLater a (dart 0 (suc y) E) → (a ≡ dart 0 (suc y) E → ⊥) → Earlier a (dart (suc P.w) y E)
      go a d k (by_y p) n = elim (dec_lt a.y y) [
        | yes l ↦ (by_y l, differs_y a (dart (suc P.w) y E) l)
        | no l ↦ (by_x (omega arith) (omega arith), differs_x a (dart (suc P.w) y E) (omega arith))
      ]
      go a d k (by_x p q) n = absurd (omega arith)
      go a (inl e) k (by_d p q r) n = absurd (n (dart_path a (dart 0 (suc y) E) q p e))
      go a (inr e) k (by_d p q r) n = let z : code a.d ≡ 2 = ap code e in absurd (omega arith)

  -- and none after the last row
  pub rows_over : (a : Dart) → crack P a ≡ true → EastSouth a.d → Earlier a (dart 0 (suc P.h) E)
  rows_over a c d = let k = crack_y F a c in (by_y (omega arith), differs_y a (dart 0 (suc P.h) E) (omega arith))

  -- before the first step there is none
  pub none_first : (a : Dart) → EastSouth a.d → Earlier a (dart 0 0 E) → ⊥
  none_first a d l = go d l.0
    where
      go : EastSouth a.d → NoLater a (dart 0 0 E) → ⊥
      go d (by_y p) = omega arith
      go d (by_x p q) = omega arith
      go (inl e) (by_d p q r) = l.1 (dart_path a (dart 0 0 E) q p e)
      go (inr e) (by_d p q r) = let z : code a.d ≡ 2 = ap code e in omega arith
