-- What a list of segments must be to describe a picture (docs/RULES.md, #111): in any order, each in either direction, each ring from any of
-- its corners. The traced segments are one such list.
use Rattle.std.specs.Prelude.{true, false, ◌≡◌, ◌⊎◌}
use mathlib.Core.List.{List, [], ◌∷◌, Memᴰ as In}
use Rattle.rules.specs.Lists.{flat, last_of}
use Rattle.rules.specs.Picture.{Picture, Dart, ahead_x, ahead_y, turned, crack, node}
use Rattle.rules.specs.Graph.{meets}

-- the dart's edge is a step, either way
abbrev pub On : Dart → List Dart → Type 0
On a l = In a l ⊎ In (turned a) l

-- no edge twice
abbrev pub Once : List Dart → Type 0
Once [] = Unit {0}
Once (a ∷ l) = (On a l → ⊥) × Once l

module _ (P : Picture) where
  -- each step after a leaves the corner that the one before leads to, and that corner is no node
  abbrev pub Through : Dart → List Dart → Type 0
  Through a [] = Unit {0}
  Through a (b ∷ l) = (meets P a ≡ false) × (b.x ≡ ahead_x a) × (b.y ≡ ahead_y a) × Through b l

  -- by the first step and the last one: from a node to a node
  abbrev pub Open : Dart → Dart → Type 0
  Open a z = (node P a.x a.y ≡ true) × (meets P z ≡ true)

  -- or back to the first corner, which is no node
  abbrev pub Ring : Dart → Dart → Type 0
  Ring a z = (node P a.x a.y ≡ false) × (ahead_x z ≡ a.x) × (ahead_y z ≡ a.y)

  abbrev pub Segment : List Dart → Type 0
  Segment [] = ⊥
  Segment (a ∷ l) = Through a l × (Open a (last_of a l) ⊎ Ring a (last_of a l))

pub record Describes (P : Picture) (ss : List (List Dart)) : Type 0 where
  pub segment : (s : List Dart) → In s ss → Segment P s
  -- each step is a crack, each crack a step, either way, and no edge is a step twice
  pub cracked : (a : Dart) → In a (flat ss) → crack P a ≡ true
  pub whole : (a : Dart) → crack P a ≡ true → On a (flat ss)
  pub once : Once (flat ss)
