-- The step of a walk: from a crack that leads to no node, the one other crack of its corner.
use mathlib.Core.Bool.{Bool, true, false, true≢false, or_comm}
use mathlib.Core.Path.{◌≡◌, refl, sym, ap, ◌∙◌}
use Rattle.rules.specs.Picture.{Picture, same_dir, back_of, Dart, dart, turned, left, right, crack, ahead_y, ahead_x}
use Rattle.rules.specs.Graph.{following, meets}
use Rattle.rules.proofs.Lattice.Frame.{Framed}
use Rattle.rules.proofs.Lattice.Darts.{dart_path, uncrack_same, turned_turned, turned_left, turned_right, turned_crack}
use Rattle.rules.proofs.Lattice.Corners.{Way, way, between}
use Rattle.rules.proofs.Lattice.Directions.{same_dir_eq, same_dir_refl, same_dir_sym}

module _ {P : Picture} (F : Framed P) (a : Dart) (c : crack P a ≡ true) (k : meets P a ≡ false) where
  on_way : Way P (ahead_x a) (ahead_y a) a.d (following P a).d
  unfolding turned following meets
  on_way = way P (ahead_x a) (ahead_y a) a.d k (turned_crack F a c)

  pub following_crack : crack P (following P a) ≡ true
  unfolding following
  following_crack = on_way.there

  pub following_not_back : following P a ≡ turned a → ⊥
  unfolding turned following meets
  following_not_back e = true≢false (sym (same_dir_refl (back_of a.d)) ∙ ap (λ b. same_dir b.d (back_of a.d)) (sym e) ∙ on_way.other)

  -- the labels stay
  pub following_left : left P (following P a) ≡ left P a
  unfolding left right turned following
  following_left =
      between P (ahead_x a) (ahead_y a) (back_of a.d) (following P a).d on_way.other
      (λ f z. uncrack_same P (dart (ahead_x a) (ahead_y a) f) (on_way.rest f z))
      ∙ turned_right F a c

  pub following_right : right P (following P a) ≡ right P a
  unfolding left right turned following
  following_right =
      sym (between P (ahead_x a) (ahead_y a) (following P a).d (back_of a.d) (same_dir_sym (back_of a.d) (following P a).d ∙ on_way.other)
      (λ f z. uncrack_same P (dart (ahead_x a) (ahead_y a) f) (on_way.rest f (or_comm (same_dir f (back_of a.d)) (same_dir f (following P a).d) ∙ z))))
      ∙ turned_left F a c

  -- the step from the other side leads back
  pub following_back : following P (turned (following P a)) ≡ turned a
  unfolding turned following meets
  following_back =
      let t = turned_turned F (following P a) following_crack in
      let ex = ap (λ b. b.x) t in
      let ey = ap (λ b. b.y) t in
      rw (ex, ey) (ap (λ d. dart (ahead_x a) (ahead_y a) d) on_way.returns)

  -- the step is the only way on
  pub following_only : (b : Dart) → crack P b ≡ true → b.x ≡ ahead_x a → b.y ≡ ahead_y a → (b ≡ turned a → ⊥) → b ≡ following P a
  unfolding turned following meets
  following_only b cb ex ey n = go (same_dir b.d (back_of a.d)) refl (same_dir b.d (following P a).d) refl
    where
      go : (p : Bool) → same_dir b.d (back_of a.d) ≡ p → (q : Bool) → same_dir b.d (following P a).d ≡ q → b ≡ following P a
      go true p q r = absurd (n (dart_path b (turned a) ex ey (same_dir_eq b.d (back_of a.d) p)))
      go false p true r = dart_path b (following P a) ex ey (same_dir_eq b.d (following P a).d r)
      go false p false r = absurd (true≢false (sym cb ∙ ap (crack P) (dart_path b (dart (ahead_x a) (ahead_y a) b.d) ex ey refl) ∙ on_way.rest b.d (rw (p, r))))

-- so no two cracks have the same following one
pub following_injective : {P : Picture} (F : Framed P) (a b : Dart)
    → crack P a ≡ true → meets P a ≡ false → crack P b ≡ true → meets P b ≡ false → following P a ≡ following P b → a ≡ b
following_injective {P} F a b ca ka cb kb e =
    sym (turned_turned F a ca) ∙ ap turned (sym (following_back F a ca ka) ∙ ap (λ d. following P (turned d)) e ∙ following_back F b cb kb) ∙ turned_turned F b cb
