-- DEMAND 3. No two pictures share a cut list: two calls that answer 0 on maps of equal width, height and paint count, and leave the same points of
-- every segment and the same faces with their contours and references, first pixels aside, were given maps that at each pixel carry the same painted label, or none.
use Prim.Native.Nat.{ℕ, ◌<◌}
use mathlib.Core.Path.{◌≡◌, subst₂}
use Rattle.rules.specs.Calls.{Map, label_at}
use Rattle.rules.proofs.CutList.Agree.{Alike}
use Rattle.rules.proofs.CutList.Unshared.{SameCuts, SameWords, same_words, no_shared_cut_list}
use Rattle.calls.proofs.Called.{Called, left, accepted, left_is}

module _ {m n : Map} (k : Called m) (j : Called n) (ew : m.width ≡ n.width) (eh : m.height ≡ n.height) (ep : m.paints ≡ n.paints) where
  -- THE DEMAND: `SameCuts` compares the points of every segment, where its record says that they lie, all references and contours, and of each
  -- face its region, first contour and count
  pub unshared : SameCuts (left k) (left j) → (x y : ℕ) → x < m.width → y < m.height → Alike m.paints (label_at m x y) (label_at n x y)
  unshared s = no_shared_cut_list m n (accepted k) (accepted j) ew eh ep (subst₂ SameCuts (left_is k) (left_is j) s)

  -- the same by words: the points, and each segment's first point and point count
  pub unshared_words : SameWords (left k) (left j) → (x y : ℕ) → x < m.width → y < m.height → Alike m.paints (label_at m x y) (label_at n x y)
  unshared_words s = unshared (same_words (left k) (left j) s)
