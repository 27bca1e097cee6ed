-- Directions: the test for equal ones, and the way back.
use mathlib.Core.Bool.{true, not, false≢true, true≢false}
use mathlib.Core.Path.{◌≡◌, refl, sym, ap, ◌∙◌}
use borrow.Author.Tests.{not-true}
use Rattle.rules.specs.Picture.{code, same_dir, back_of}
use Rattle.rules.specs.declared.Dir.{Dir}
use Rattle.rules.specs.declared.Dir.TheVariants.{N, E, S, W}
use Rattle.rules.proofs.Ground.Booleans.{eqb_sym, of_every_dir}

pub same_dir_eq : (d e : Dir) → same_dir d e ≡ true → d ≡ e
same_dir_eq N N p = refl
same_dir_eq N E p = absurd (false≢true p)
same_dir_eq N S p = absurd (false≢true p)
same_dir_eq N W p = absurd (false≢true p)
same_dir_eq E N p = absurd (false≢true p)
same_dir_eq E E p = refl
same_dir_eq E S p = absurd (false≢true p)
same_dir_eq E W p = absurd (false≢true p)
same_dir_eq S N p = absurd (false≢true p)
same_dir_eq S E p = absurd (false≢true p)
same_dir_eq S S p = refl
same_dir_eq S W p = absurd (false≢true p)
same_dir_eq W N p = absurd (false≢true p)
same_dir_eq W E p = absurd (false≢true p)
same_dir_eq W S p = absurd (false≢true p)
same_dir_eq W W p = refl

pub same_dir_refl : (d : Dir) → same_dir d d ≡ true
same_dir_refl d = of_every_dir (λ d. same_dir d d) refl d

pub same_dir_sym : (d e : Dir) → same_dir d e ≡ same_dir e d
same_dir_sym d e = eqb_sym (code d) (code e)

pub back_other : (d : Dir) → d ≡ back_of d → ⊥
back_other d e = true≢false (sym (same_dir_refl d) ∙ ap (same_dir d) e ∙ not-true (same_dir d (back_of d)) (of_every_dir (λ d. not (same_dir d (back_of d))) refl d))
