-- The table has the ids passed, and slots past it stay.
use Rattle.std.proofs.Common.{◌≡◌, refl, ap, ◌∙◌, List, ℕ, drop, arith}
use Rattle.slots.proofs.Inserting.{room}
use Rattle.slots.proofs.Renewing.{empty, empty_past, table_more, past_more}
use Rattle.slots.proofs.filling.rehash.Goals as goal

pub clear-requires : goal.clear-requires
clear-requires c = c.requires.1.sized

pub loop-id-init : goal.loop-id-init
loop-id-init c = record { table = rw c.clear.ensures (empty _ _ _ c.requires.1.doubled c.requires.1.sized); past = refl; long = refl }

pub node_hash_at-requires : goal.node_hash_at-requires
node_hash_at-requires c = let f = c.requires.0.fits in let l = c.loop-id-test.true in omega arith

pub place-requires : goal.place-requires
place-requires c = let m = c.requires.0.many in let l = c.loop-id-test.true in (omega arith, room _ _ _ _ c.loop-id.invariant.table)

pub loop-id-preserved : goal.loop-id-preserved
loop-id-preserved c =
    let f = c.requires.1.load in
    let i = c.loop-id.invariant in
    let e = c.node_hash_at.ensures in
    let l = c.loop-id-test.true in
    record {
      table = table_more _ _ _ _ _ _ i.table e (omega arith) c.place.ensures;
      past = past_more _ _ _ _ _ _ i.table e (omega arith) c.place.ensures ∙ i.past;
      long = c.place.auto.slots ∙ i.long;
    }

pub shape_of-slots : goal.shape_of-slots
shape_of-slots c = c.loop-id.invariant.long ∙ c.clear.auto.slots

pub returns : goal.returns
returns c =
    let all : c.loop-id.id ≡ c.args.count = omega arith in
    record {
      table = rw (← all) c.loop-id.invariant.table;
      past = c.loop-id.invariant.past ∙ ap (λ (l : List ℕ). drop c.args.size l) c.clear.ensures ∙ empty_past c.args.size c.args.slots.now;
    }
