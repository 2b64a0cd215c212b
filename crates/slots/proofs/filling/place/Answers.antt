-- `slots::filling::place` meets its contract.
use mathlib.Core.Path.{refl}
use native.Mathlib.Omega.{arith}
use borrow.Author.Rules.{rules}
use Rattle.slots.proofs.FreePlaces.{free_in}
use Rattle.slots.proofs.filling.place.Goals as goal

pub offset_bounds-slots-at : goal.offset_bounds-slots-at
offset_bounds-slots-at c = let h = free_in _ _ _ _ c.free_place-at.ensures in let l = c.requires.1.sized in search rules

pub bounds-slots-at : goal.bounds-slots-at
bounds-slots-at c = let h = free_in _ _ _ _ c.free_place-at.ensures in let l = c.requires.1.sized in omega arith

pub returns : goal.returns
returns c = record { place = c.free_place-at.result; free = c.free_place-at.ensures; after = refl }
