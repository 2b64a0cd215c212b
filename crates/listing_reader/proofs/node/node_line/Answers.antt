-- `listing_reader::node::node_line` meets its contract.
use mathlib.Core.Path.{refl}
use Rattle.listing_reader.proofs.NodeTexts.{no_heading_line, other_id, other_flags, other_children, other_kind, other_places, line_found}
use borrow.Author.Rules.{rules}
use Rattle.listing_reader.proofs.node.node_line.Goals as goal

pub returns-in_err-start : goal.returns-in_err-start
returns-in_err-start c = rw c.from_residual.ensures (no_heading_line c.in_err-start.ensures refl)

pub returns-then-start-wanted : goal.returns-then-start-wanted
returns-then-start-wanted c = other_id c.in_ok-start.ensures refl c.if-start-wanted.true

pub returns-then-start-ge-FLAGS_END : goal.returns-then-start-ge-FLAGS_END
returns-then-start-ge-FLAGS_END c = other_flags c.in_ok-start.ensures refl c.if-start-ge-FLAGS_END.true

pub returns-in_err-rest : goal.returns-in_err-rest
returns-in_err-rest c = rw c.from_residual-in_err-rest.ensures (other_children c.in_ok-start.ensures refl c.in_err-rest.ensures refl)

pub returns-then-not-is_listed : goal.returns-then-not-is_listed
returns-then-not-is_listed c = other_kind c.in_ok-start.ensures refl c.in_ok-rest.ensures c.is_listed.ensures c.if-not-is_listed.true

pub lower_children-requires : goal.lower_children-requires
lower_children-requires c = (search rules, (c.in_ok-rest.ensures.placed _ refl).few)

pub returns-then-not-lower_children : goal.returns-then-not-lower_children
returns-then-not-lower_children c = other_places c.in_ok-start.ensures refl c.in_ok-rest.ensures c.if-start-wanted.false c.lower_children.ensures c.if-not-lower_children.true

pub new-requires : goal.new-requires
new-requires c = (c.in_ok-rest.ensures.placed _ refl).few

pub returns : goal.returns
returns c = line_found c.in_ok-start.ensures refl c.in_ok-rest.ensures c.if-start-wanted.false c.if-start-ge-FLAGS_END.false c.is_listed.ensures c.if-not-is_listed.false c.lower_children.ensures c.if-not-lower_children.false c.new.ensures refl
