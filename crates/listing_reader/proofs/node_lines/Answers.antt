-- `listing_reader::node_lines` meets its contract. The loop's invariant: the bytes begin with the lines of the nodes written, and words past them are as they were.
use native.Mathlib.Omega.{arith}
use Rattle.listing_reader.proofs.Listings.{lines_none, lines_next, lines_over, line_missing, too_many, wrong_line, no_place}
use Rattle.listing_reader.proofs.node_lines.Goals as goal

pub loop-at-init : goal.loop-at-init
loop-at-init c = lines_none _ c.requires

pub overflow_add-result : goal.overflow_add-result
overflow_add-result c = omega arith

pub returns-then-count-eq-MOST_NODES : goal.returns-then-count-eq-MOST_NODES
returns-then-count-eq-MOST_NODES c = too_many c.loop-at.invariant c.loop-at-test.true c.if-count-eq-MOST_NODES.true

pub overflow_add-result-in_default : goal.overflow_add-result-in_default
overflow_add-result-in_default c = let m = c.loop-at.invariant.begins.formed.many in omega arith

pub returns-in_default : goal.returns-in_default
returns-in_default c = wrong_line c.loop-at.invariant c.loop-at-test.true c.node_line.ensures c.in_default.is

pub returns-then-nodes-count : goal.returns-then-nodes-count
returns-then-nodes-count c = no_place c.loop-at.invariant c.loop-at-test.true c.in-Some.ensures c.if-count-eq-MOST_NODES.false c.if-nodes-count.true

pub store_node-requires : goal.store_node-requires
store_node-requires c = let m = c.if-nodes-count.false in omega arith

pub overflow_add-count : goal.overflow_add-count
overflow_add-count c = let m = c.loop-at.invariant.begins.formed.many in omega arith

pub loop-at-smaller : goal.loop-at-smaller
loop-at-smaller c = let m = c.loop-at.invariant.begins.formed.many in let n = c.if-count-eq-MOST_NODES.false in omega arith

pub loop-at-preserved : goal.loop-at-preserved
loop-at-preserved c = lines_next c.loop-at.invariant c.in-Some.ensures c.if-count-eq-MOST_NODES.false c.if-nodes-count.false c.store_node.ensures

pub overflow_add-result-then-not-is_answer_listed : goal.overflow_add-result-then-not-is_answer_listed
overflow_add-result-then-not-is_answer_listed c = let m = c.loop-at.invariant.begins.formed.many in omega arith

pub returns-then-not-is_answer_listed : goal.returns-then-not-is_answer_listed
returns-then-not-is_answer_listed c = line_missing c.loop-at.invariant c.loop-at-test.false c.is_answer_listed.ensures c.if-not-is_answer_listed.true

pub returns : goal.returns
returns c = lines_over c.loop-at.invariant c.loop-at-test.false c.is_answer_listed.ensures c.if-not-is_answer_listed.false
