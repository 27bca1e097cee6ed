-- Two maps of one size, as pictures: what holds off the map and at each pixel holds everywhere.
use Prim.Native.Nat.{ℕ, zero, suc, ◌+◌, ◌*◌, ◌<◌}
use mathlib.Core.Path.{◌≡◌, refl, sym, subst₂}
use mathlib.Core.List.{List}
use native.Mathlib.Omega.{arith}
use native.Mathlib.Decide.{dec_lt}
use lib.ListN.{length, get_or}
use Rattle.rules.specs.Picture.{picture, seen, northwest, OUTSIDE}
use Rattle.rules.proofs.Lattice.Frame.{Framed, picture_framed}
use Rattle.rules.proofs.Islands.Pixels.{label_is}

pub everywhere : (w h a b : ℕ) (ls ms : List ℕ) → length ls ≡ w * h → length ms ≡ w * h → (R : ℕ → ℕ → Type 0) → R OUTSIDE OUTSIDE → (x y : ℕ)
    → ((u v : ℕ) → x ≡ suc u → y ≡ suc v → u < w → v < h → R (seen a (get_or ls (v * w + u) 0)) (seen b (get_or ms (v * w + u) 0))) → R ((picture w h a ls).nw x y) ((picture w h b ms).nw x y)
unfolding picture northwest
everywhere w h a b ls ms e d R o zero y f = o
everywhere w h a b ls ms e d R o (suc x) zero f = o
everywhere w h a b ls ms e d R o (suc x) (suc y) f = go (dec_lt x w) (dec_lt y h)
  where
    F : Framed (picture w h a ls)
    F = picture_framed w h a ls

    G : Framed (picture w h b ms)
    G = picture_framed w h b ms

    go : Dec (x < w) → Dec (y < h) → R ((picture w h a ls).nw (suc x) (suc y)) ((picture w h b ms).nw (suc x) (suc y))
    go (yes hx) (yes hy) = subst₂ R (sym (label_is w h a ls e x y hx hy)) (sym (label_is w h b ms d x y hx hy)) (f x y refl refl hx hy)
    go (no n) k = subst₂ R (sym (F.east (suc x) (suc y) (omega arith))) (sym (G.east (suc x) (suc y) (omega arith))) o
    go (yes hx) (no n) = subst₂ R (sym (F.south (suc x) (suc y) (omega arith))) (sym (G.south (suc x) (suc y) (omega arith))) o
