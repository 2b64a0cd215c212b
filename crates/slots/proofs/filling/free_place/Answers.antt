-- `slots::filling::free_place` meets its contract: the first empty slot of a window that lies in the table, or else the first round it.
use native.Mathlib.Omega.{arith}
use borrow.Author.Rules.{rules}
use Rattle.slots.proofs.FreePlaces.{none_passed, home_in, free_onward, free_in_window}
use Rattle.slots.proofs.filling.free_place.Goals as goal

pub overflow_sub-size : goal.overflow_sub-size
overflow_sub-size c = let l = home_in _ _ _ _ c.modulo_size-home.ensures c.requires in omega arith

pub returns-then-first-lt-FREE_WINDOW : goal.returns-then-first-lt-FREE_WINDOW
returns-then-first-lt-FREE_WINDOW c =
    let e = c.modulo_size-home.ensures in
    free_in_window _ _ _ _ (omega arith) (none_passed c.args.slots.now c.args.size c.args.hash _ (omega arith)) (let l = c.if-size-home-ge-FREE_WINDOW.true in omega arith) _ c.first_empty-first.ensures c.if-first-lt-FREE_WINDOW.true

pub free_from-requires : goal.free_from-requires
free_from-requires c = (home_in _ _ _ _ c.modulo_size-home.ensures c.requires, c.requires)

pub returns : goal.returns
returns c = free_onward _ _ _ _ c.modulo_size-home.ensures _ c.free_from.ensures
