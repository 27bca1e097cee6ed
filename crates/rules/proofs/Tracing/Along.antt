-- Along one segment: its steps are cracks, none with its turned one, so each is the one way on from the one before, and the labels stay.
use mathlib.Core.Bool.{true, false}
use mathlib.Core.Path.{◌≡◌, refl, sym, ap, ◌∙◌}
use mathlib.Core.Logic.{◌⊎◌, inl, inr}
use mathlib.Core.List.Memᴰ.{head as here}
use mathlib.Core.List.Memᴰ.{not-nil}
use mathlib.Core.List.Memᴰ.{tail as there}
use mathlib.Core.List.{List, [], ◌∷◌, Memᴰ as In}
use Rattle.rules.specs.Lists.{flat, last_of}
use Rattle.rules.specs.Picture.{Picture, Dart, turned, left, right, crack}
use Rattle.rules.specs.Graph.{following, meets}
use Rattle.rules.specs.Face.{turn}
use Rattle.rules.proofs.Lattice.Frame.{Framed}
use Rattle.rules.proofs.Lattice.WayOn.{following_only, following_left, following_right}
use Rattle.rules.proofs.Contours.Turns.{turn_following}
use Rattle.rules.proofs.Ground.Lists.{in_flat}
use Rattle.rules.proofs.Ground.Orbits.{Linked}
use Rattle.rules.proofs.Lattice.Edges.{once_apart}
use Rattle.rules.specs.Describes.{Through, Describes}

pub record Plain (P : Picture) (l : List Dart) : Type 0 where
  pub cracks : (c : Dart) → In c l → crack P c ≡ true
  pub apart : (c : Dart) → In c l → In (turned c) l → ⊥

pub record Along (P : Picture) (a c : Dart) : Type 0 where
  pub lefts : left P c ≡ left P a
  pub rights : right P c ≡ right P a

module _ {P : Picture} (F : Framed P) where
  plain_tail : (a : Dart) (l : List Dart) → Plain P (a ∷ l) → Plain P l
  plain_tail a l p = record { cracks = λ c i. p.cracks c (there i); apart = λ c i j. p.apart c (there i) (there j) }

  goes_on : (a b : Dart) (l : List Dart) → Plain P (a ∷ b ∷ l) → Through P a (b ∷ l) → b ≡ following P a
  goes_on a b l p t =
      following_only F a (p.cracks a (here refl)) t.0 b (p.cracks b (there (here refl))) t.1 t.2 (λ q. p.apart a (here refl) (there (here (sym q))))

  pub through_follows : (a : Dart) (l : List Dart) → Plain P (a ∷ l) → Through P a l → Linked (following P) a l
  through_follows a [] p t = tt
  through_follows a (b ∷ l) p t = (goes_on a b l p t, through_follows b l (plain_tail a (b ∷ l) p) t.3)

  pub through_turns : (a : Dart) (l : List Dart) → Plain P (a ∷ l) → Through P a l → Linked (turn P) a l
  through_turns a [] p t = tt
  through_turns a (b ∷ l) p t = (goes_on a b l p t ∙ sym (turn_following F a (p.cracks a (here refl)) t.0), through_turns b l (plain_tail a (b ∷ l) p) t.3)

  through_along_at : (c a : Dart) (l : List Dart) → Plain P (a ∷ l) → Through P a l → In c (a ∷ l) → Along P a c
  through_along_at c a l p t (here e) = record { lefts = ap (left P) e; rights = ap (right P) e }
  through_along_at c a [] p t (there i) = absurd (not-nil i)
  through_along_at c a (b ∷ l) p t (there i) =
      let r = through_along_at c b l (plain_tail a (b ∷ l) p) t.3 i in
      let e = goes_on a b l p t in
      let k = p.cracks a (here refl) in
      record { lefts = r.lefts ∙ ap (left P) e ∙ following_left F a k t.0; rights = r.rights ∙ ap (right P) e ∙ following_right F a k t.0 }

  pub through_along : (a : Dart) (l : List Dart) → Plain P (a ∷ l) → Through P a l → (c : Dart) → In c (a ∷ l) → Along P a c
  through_along a l p t c i = through_along_at c a l p t i

  -- only the last step may lead to a node
  pub through_meets : (a : Dart) (l : List Dart) → Through P a l → (c : Dart) → In c (a ∷ l) → (c ≡ last_of a l) ⊎ (meets P c ≡ false)
  through_meets a [] t c (here e) = inl e
  through_meets a (b ∷ l) t c (here e) = inr (ap (meets P) e ∙ t.0)
  through_meets a [] t c (there i) = absurd (not-nil i)
  through_meets a (b ∷ l) t c (there i) = through_meets b l t.3 c i

  -- of a list of segments that describes the picture
  module _ {ss : List (List Dart)} (D : Describes P ss) where
    pub segment_plain : (s : List Dart) → In s ss → Plain P s
    segment_plain s i = record {
      cracks = λ c j. D.cracked c (in_flat ss s c i j);
      apart = λ c j k. once_apart F (flat ss) D.once c (D.cracked c (in_flat ss s c i j)) (in_flat ss s c i j) (in_flat ss s (turned c) i k);
    }

    -- left and right of the first step hold along the whole segment
    pub segment_along : (a : Dart) (l : List Dart) → In (a ∷ l) ss → (c : Dart) → In c (a ∷ l) → Along P a c
    segment_along a l i c j = through_along a l (segment_plain (a ∷ l) i) (D.segment (a ∷ l) i).0 c j
