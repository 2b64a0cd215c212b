-- `dedup::insert` meets its contract: one law for each answer.
use native.Mathlib.Omega.{arith}
use Rattle.slots.proofs.FreePlaces.{free_in}
use Rattle.dedup.proofs.KeyParts.{key_places, free_from_key}
use Rattle.dedup.proofs.Answers.{refuse_count, refuse_words, added}
use borrow.Author.Rules.{rules}
use Rattle.dedup.proofs.insert.Goals as goal

pub returns-then-id-ge-MOST_NODES : goal.returns-then-id-ge-MOST_NODES
returns-then-id-ge-MOST_NODES c = refuse_count _ _ _ _ c.requires.0 c.if-id-ge-MOST_NODES.true

pub returns-then-nodes-id : goal.returns-then-nodes-id
returns-then-nodes-id c = refuse_words _ _ _ _ c.requires.0 c.if-id-ge-MOST_NODES.false c.if-nodes-id.true

pub load_limit-requires : goal.load_limit-requires
load_limit-requires c = c.requires.0.table.doubled

pub offset_bounds-slots-free : goal.offset_bounds-slots-free
offset_bounds-slots-free c = let h = free_in _ _ _ _ c.requires.1 in let l = c.requires.0.table.sized in search rules

pub bounds-slots-free : goal.bounds-slots-free
bounds-slots-free c = let h = free_in _ _ _ _ c.requires.1 in let l = c.requires.0.table.sized in omega arith

pub store_parts-requires : goal.store_parts-requires
store_parts-requires c = c.if-nodes-id.false

pub returns-then-id-load_limit : goal.returns-then-id-load_limit
returns-then-id-load_limit c =
    rw c.store_parts.ensures
    (added _ _ _ _ c.requires.0 c.if-id-ge-MOST_NODES.false c.if-nodes-id.false (key_places c.args.key) (let e = c.load_limit.ensures in let l = c.if-id-load_limit.true in omega arith) _ (free_from_key c.args.key _ _ _ c.requires.1))

pub insert_growing-requires : goal.insert_growing-requires
insert_growing-requires c = record { new = c.requires.0; many = c.if-id-ge-MOST_NODES.false; fits = c.if-nodes-id.false; load = let e = c.load_limit.ensures in let l = c.if-id-load_limit.false in omega arith }

pub returns : goal.returns
returns c = c.insert_growing.ensures
