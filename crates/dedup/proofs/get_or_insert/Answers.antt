-- `dedup::get_or_insert` meets its contract: by where the search ends.
use mathlib.Core.Path.{sym}
use native.Mathlib.Omega.{arith}
use Rattle.dedup.proofs.Searching.{was_here, was_free, was_nowhere, reached_in}
use Rattle.slots.proofs.Held.{held}
use Rattle.dedup.proofs.Searching.{first_free}
use Rattle.slots.proofs.Inserting.{room}
use Rattle.dedup.proofs.KeyParts.{key_hashed, free_from_node}
use Rattle.dedup.proofs.Keys.{not_passed, found, absent}
use Rattle.dedup.proofs.Answers.{old_answer}
use borrow.Author.Rules.{rules}
use Rattle.dedup.proofs.get_or_insert.Goals as goal

pub search-requires : goal.search-requires
search-requires c = let p = c.requires in (record { doubled = p.1.doubled; sized = p.1.sized; formed = p.0.formed }, room _ _ _ _ p.1)

pub offset_bounds-slots-at : goal.offset_bounds-slots-at
offset_bounds-slots-at c = let h = reached_in _ _ _ _ _ _ (was_here _ _ _ _ _ _ _ c.in-Here.is c.search.ensures).reached in let l = c.requires.1.sized in search rules

pub bounds-slots-at : goal.bounds-slots-at
bounds-slots-at c = let h = reached_in _ _ _ _ _ _ (was_here _ _ _ _ _ _ _ c.in-Here.is c.search.ensures).reached in let l = c.requires.1.sized in omega arith

pub slot_id-requires : goal.slot_id-requires
slot_id-requires c = (held _ _ _ _ (was_here _ _ _ _ _ _ _ c.in-Here.is c.search.ensures).held).0

pub insert-requires : goal.insert-requires
insert-requires c =
    let p = c.requires in
    let f = was_free _ _ _ _ _ _ _ c.in-Free.is c.search.ensures in (
      record { nodes = p.0; table = p.1; formed = p.2; absent = absent _ _ _ _ _ (key_hashed c.args.key) p.0 p.1 _ f },
      free_from_node c.args.key _ _ _ (first_free _ _ _ _ _ _ f),
    )

pub returns-in-Here : goal.returns-in-Here
returns-in-Here c =
    let p = c.requires in
    rw c.slot_id.ensures (old_answer _ _ _ _ _ (found _ _ _ _ _ (key_hashed c.args.key) p.0 _ (was_here _ _ _ _ _ _ _ c.in-Here.is c.search.ensures)) p.0 p.1)

pub returns-in-Free : goal.returns-in-Free
returns-in-Free c = c.insert.ensures

pub returns-in-Nowhere : goal.returns-in-Nowhere
returns-in-Nowhere c = absurd (not_passed _ _ _ _ _ (room _ _ _ _ c.requires.1) (was_nowhere _ _ _ _ _ _ c.in-Nowhere.is c.search.ensures))
