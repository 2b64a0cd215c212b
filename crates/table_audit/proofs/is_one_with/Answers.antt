-- `table_audit::is_one_with` meets its contract.
use Prim.Native.Nat.{suc}
use mathlib.Core.Path.{sym, ◌∙◌}
use native.Mathlib.Omega.{arith}
use Rattle.arena.specs.Node.{node_at}
use Rattle.slots.proofs.Held.{holds_known, holds_hash}
use Rattle.table_audit.proofs.OwnSlots.{formed_below}
use borrow.Author.Rules.{rules}
use Rattle.table_audit.proofs.is_one_with.Goals as goal

pub overflow_mul-other : goal.overflow_mul-other
overflow_mul-other c = let p = c.requires in let z = p.0 in let l = p.1 in let f = p.2.fits in let e = c.slot_id-other.ensures in search rules

pub overflow_add-other : goal.overflow_add-other
overflow_add-other c = let p = c.requires in let z = p.0 in let l = p.1 in let f = p.2.fits in let e = c.slot_id-other.ensures in search rules

pub offset_bounds-nodes-other : goal.offset_bounds-nodes-other
offset_bounds-nodes-other c = let p = c.requires in let z = p.0 in let l = p.1 in let f = p.2.fits in let e = c.slot_id-other.ensures in search rules

pub bounds-nodes-other : goal.bounds-nodes-other
bounds-nodes-other c = let p = c.requires in let z = p.0 in let l = p.1 in let f = p.2.fits in let e = c.slot_id-other.ensures in omega arith

pub returns-then-nodes-other : goal.returns-then-nodes-other
unfolding node_at
returns-then-nodes-other c =
    let a = c.args in
    holds_hash _ _ _ _ _ c.requires.0 c.slot_id-other.ensures (let p = c.requires in let z = p.0 in let l = p.1 in let f = p.2.fits in let e = c.slot_id-other.ensures in omega arith) (formed_below a.nodes.now a.id (suc a.id) (omega arith) c.requires.2) (c.requires.2.each a.id (omega arith)).hashed (λ e. c.if-nodes-other.true (e ∙ sym c.requires.3))

pub is_one-requires : goal.is_one-requires
is_one-requires c = let p = c.requires in let z = p.0 in let l = p.1 in let f = p.2.fits in let e = c.slot_id-other.ensures in (omega arith, omega arith)

pub returns : goal.returns
returns c = c.is_one.ensures ∙ holds_known _ _ _ _ _ c.requires.0 c.slot_id-other.ensures (let p = c.requires in let z = p.0 in let l = p.1 in let f = p.2.fits in let e = c.slot_id-other.ensures in omega arith)
