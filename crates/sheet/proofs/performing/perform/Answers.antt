use mathlib.Core.Path.{◌≡◌, sym}
use lib.ListN.{length}
use lib.Seq.{length-take-le}
use native.Mathlib.Omega.{arith}
use Rattle.store.specs.Memory.{memory}
use Rattle.sheet.specs.Running.{operands_read}
use Rattle.sheet.proofs.Calls.{read_fits, body_whole}
use borrow.Author.Rules.{rules}
use Rattle.sheet.proofs.performing.perform.Goals as goal

pub request_of-request-requires : goal.request_of-request-requires
request_of-request-requires c = (c.requires.1, c.requires.2, c.requires.3.nodes.formed.many)

pub operand_ids-children-requires : goal.operand_ids-children-requires
operand_ids-children-requires c =
    let a = c.args in
    let q = c.request_of-request.ensures a.sheet.now c.requires.0 in
    (c.read_of-read.ensures.1, read_fits a.sheet.now _ _ _ q.within c.read_of-read.ensures.0, c.requires.1, c.requires.2, c.requires.3.nodes.formed.many)

pub slice_bounds-over-end : goal.slice_bounds-over-end
slice_bounds-over-end c = let l : length c.operand_ids-children.result ≡ operands_read = search rules in let w = c.read_of-read.ensures.1 in sym (length-take-le _ _ (omega arith))

pub perform_sound-requires : goal.perform_sound-requires
perform_sound-requires c = c.requires.3

pub returns : goal.returns
returns c =
    let a = c.args in
    body_whole (memory a.nodes.now a.slots.now a.arena) a.ids.now a.done a.sheet.now a.body _ (c.request_of-request.ensures a.sheet.now c.requires.0) _ c.read_of-read.ensures.0 _ c.operand_ids-children.ensures c.perform_sound.result.answer _ (rw c.over.ensures at c.perform_sound.ensures)
