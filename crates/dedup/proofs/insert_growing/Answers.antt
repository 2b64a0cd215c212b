-- `dedup::insert_growing` meets its contract: refused without slots for a doubled table, or added.
use native.Mathlib.Omega.{arith}
use Rattle.dedup.proofs.KeyParts.{key_places}
use Rattle.dedup.proofs.Answers.{refuse_slots, doubles, added_doubled}
use borrow.Author.Rules.{rules}
use Rattle.dedup.proofs.insert_growing.Goals as goal

pub returns-then-slots-size : goal.returns-then-slots-size
returns-then-slots-size c = let p = c.requires in refuse_slots _ _ _ _ p.new p.many p.fits p.load (let l = c.if-slots-size.true in omega arith)

pub store_parts-requires : goal.store_parts-requires
store_parts-requires c = c.requires.fits

pub rehash-requires : goal.rehash-requires
rehash-requires c =
    let p = c.requires in
    rw c.store_parts.ensures (doubles _ _ _ _ p.new p.many p.fits (key_places c.args.key) p.load c.if-slots-size.false)

pub returns : goal.returns
returns c =
    let p = c.requires in
    rw c.store_parts.ensures
    (added_doubled _ _ _ _ p.new p.many p.fits (key_places c.args.key) p.load c.if-slots-size.false _ (rw c.store_parts.ensures at c.rehash.ensures))
