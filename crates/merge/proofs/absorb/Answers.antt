-- `absorb` meets its contract.
use mathlib.Core.Path.{refl}
use Rattle.merge.specs.Stored.{taken}
use Rattle.merge.proofs.Words.{asks₂, asks₃, asks₄}
use Rattle.merge.proofs.absorb.Goals as goal

pub add-requires : goal.add-requires
add-requires c = rw (c.put-2.ensures, c.put.ensures, c.from.ensures, c.get.ensures, c.from-2.ensures, c.get-2.ensures) (let r = asks₂ _ _ _ c.requires in record { room = r.0; fits = r.1 })

pub add-requires-2 : goal.add-requires-2
add-requires-2 c = rw (c.add.ensures, c.put-2.ensures, c.put.ensures, c.from.ensures, c.get.ensures, c.from-2.ensures, c.get-2.ensures) (let r = asks₃ _ _ _ c.requires in record { room = r.0; fits = r.1 })

pub add-requires-3 : goal.add-requires-3
add-requires-3 c = rw (c.add-2.ensures, c.add.ensures, c.put-2.ensures, c.put.ensures, c.from.ensures, c.get.ensures, c.from-2.ensures, c.get-2.ensures) (let r = asks₄ _ _ _ c.requires in record { room = r.0; fits = r.1 })

pub returns : goal.returns
unfolding taken
returns c = rw (c.add-3.ensures, c.add-2.ensures, c.add.ensures, c.put-2.ensures, c.put.ensures, c.from.ensures, c.get.ensures, c.from-2.ensures, c.get-2.ensures) refl
