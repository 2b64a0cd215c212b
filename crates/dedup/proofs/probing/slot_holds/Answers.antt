-- `dedup::probing::slot_holds` meets its contract: the node that is compared is one with the key exactly if the slot's is.
use mathlib.Core.Path.{sym, ap, ◌∙◌}
use native.Mathlib.Omega.{arith}
use Rattle.arena.specs.Node.{node_at}
use Rattle.dedup.specs.Probe.{compared_id}
use Rattle.dedup.proofs.GreatestChild.{compared_one}
use Rattle.dedup.proofs.KeyParts.{key_hash, key_hashed}
use Rattle.slots.proofs.Held.{holds_beyond, holds_known, other_hash}
use borrow.Author.Rules.{rules}
use Rattle.dedup.proofs.probing.slot_holds.Goals as goal

pub returns-then-known-id : goal.returns-then-known-id
returns-then-known-id c = holds_beyond _ _ _ _ _ c.requires.0 c.slot_id-id.ensures c.if-known-id.true

pub overflow_mul-compared : goal.overflow_mul-compared
overflow_mul-compared c =
    let a = c.args in
    let same = compared_one a.nodes.now a.known a.key.parts.kind a.key.parts.payload a.key.parts.flags a.key.parts.children.now c.requires.1 c.slot_id-id.result c.compared_id-compared.result c.if-known-id.false (c.compared_id-compared.ensures ∙ ap (compared_id c.slot_id-id.result) c.requires.2) in
    let fits = c.requires.1.fits in
    let low = same.0 in
    search rules

pub overflow_add-compared : goal.overflow_add-compared
overflow_add-compared c =
    let a = c.args in
    let same = compared_one a.nodes.now a.known a.key.parts.kind a.key.parts.payload a.key.parts.flags a.key.parts.children.now c.requires.1 c.slot_id-id.result c.compared_id-compared.result c.if-known-id.false (c.compared_id-compared.ensures ∙ ap (compared_id c.slot_id-id.result) c.requires.2) in
    let fits = c.requires.1.fits in
    let low = same.0 in
    search rules

pub offset_bounds-nodes-compared : goal.offset_bounds-nodes-compared
offset_bounds-nodes-compared c =
    let a = c.args in
    let same = compared_one a.nodes.now a.known a.key.parts.kind a.key.parts.payload a.key.parts.flags a.key.parts.children.now c.requires.1 c.slot_id-id.result c.compared_id-compared.result c.if-known-id.false (c.compared_id-compared.ensures ∙ ap (compared_id c.slot_id-id.result) c.requires.2) in
    let fits = c.requires.1.fits in
    let low = same.0 in
    search rules

pub bounds-nodes-compared : goal.bounds-nodes-compared
bounds-nodes-compared c =
    let a = c.args in
    let same = compared_one a.nodes.now a.known a.key.parts.kind a.key.parts.payload a.key.parts.flags a.key.parts.children.now c.requires.1 c.slot_id-id.result c.compared_id-compared.result c.if-known-id.false (c.compared_id-compared.ensures ∙ ap (compared_id c.slot_id-id.result) c.requires.2) in
    let fits = c.requires.1.fits in
    let low = same.0 in
    omega arith

pub returns-then-nodes-compared : goal.returns-then-nodes-compared
unfolding node_at
returns-then-nodes-compared c =
    let a = c.args in
    let same = compared_one a.nodes.now a.known a.key.parts.kind a.key.parts.payload a.key.parts.flags a.key.parts.children.now c.requires.1 c.slot_id-id.result c.compared_id-compared.result c.if-known-id.false (c.compared_id-compared.ensures ∙ ap (compared_id c.slot_id-id.result) c.requires.2) in
    let other = other_hash a.nodes.now a.known _ c.compared_id-compared.result same.0 c.requires.1 (key_hashed a.key) (λ e. c.if-nodes-compared.true (e ∙ sym (key_hash a.key))) in
    other ∙ same.1 ∙ holds_known _ _ _ _ _ c.requires.0 c.slot_id-id.ensures c.if-known-id.false

pub has_parts-requires : goal.has_parts-requires
has_parts-requires c =
    let a = c.args in
    let same = compared_one a.nodes.now a.known a.key.parts.kind a.key.parts.payload a.key.parts.flags a.key.parts.children.now c.requires.1 c.slot_id-id.result c.compared_id-compared.result c.if-known-id.false (c.compared_id-compared.ensures ∙ ap (compared_id c.slot_id-id.result) c.requires.2) in
    let fits = c.requires.1.fits in
    let low = same.0 in
    (omega arith, c.requires.1.each _ low)

pub returns : goal.returns
returns c =
    let a = c.args in
    let same = compared_one a.nodes.now a.known a.key.parts.kind a.key.parts.payload a.key.parts.flags a.key.parts.children.now c.requires.1 c.slot_id-id.result c.compared_id-compared.result c.if-known-id.false (c.compared_id-compared.ensures ∙ ap (compared_id c.slot_id-id.result) c.requires.2) in
    c.has_parts.ensures ∙ same.1 ∙ holds_known _ _ _ _ _ c.requires.0 c.slot_id-id.ensures c.if-known-id.false
