-- A move in words: what each says, and that the words leave no choice.
use Prim.Native.Nat.{ℕ}
use mathlib.Core.Path.{◌≡◌, refl, sym, subst, ◌∙◌}
use mathlib.Core.List.{List, [], ◌∷◌}
use lib.Ieee.{Float}
use Rattle.sheet.specs.Moving.{Said, said, told, tell_of}
use Rattle.sheet.specs.declared.Mover.{Mover}
use Rattle.sheet.specs.declared.Step.{Step}
use Rattle.mosaic.specs.Moved.{code_of, point_after, MoveTold}

pub move_told : (segs points : List ℕ) (start : Mover) (s : Step) (old : List Float) (code : ℕ) (point : List Float) → told s ≡ tell_of segs points start
    → (code ≡ code_of (said s.made)) × (point ≡ point_after (said s.made) old)
    → MoveTold (tell_of segs points start) old code (s.mover.at.segment ∷ s.mover.at.place ∷ []) point
move_told segs points start s old code point e w =
    subst (λ (t : Said × Mover). MoveTold t old code (s.mover.at.segment ∷ s.mover.at.place ∷ []) point) e
    (record { number = w.0; place = refl; target = w.1 })

-- ONE OUTCOME: the number, the place and the point
pub one_move : {t : Said × Mover} {old : List Float} {c d : ℕ} {at at' : List ℕ} {p q : List Float}
    → MoveTold t old c at p → MoveTold t old d at' q → (c ≡ d) × (at ≡ at') × (p ≡ q)
one_move a b = (a.number ∙ sym b.number, a.place ∙ sym b.place, a.target ∙ sym b.target)
