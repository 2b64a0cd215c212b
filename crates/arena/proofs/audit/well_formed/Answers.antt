-- `arena::audit::well_formed` meets its contract, part by part.
use Prim.Native.Nat.{◌+◌, ◌*◌}
use mathlib.Core.Path.{refl, sym, ap, ◌∙◌, subst}
use native.Mathlib.Omega.{arith}
use borrow.Author.Tests.{not-true, not-false}
use Rattle.hash.specs.Fnv.{node_hash_of}
use Rattle.std.proofs.lemmas.List.{map-id}
use Rattle.arena.specs.Layout.{node_words, most_children, children_word}
use Rattle.arena.specs.Node.{node_at, node_hash}
use Rattle.child_places.specs.Places.{LowerChildren}
use Rattle.definitions.proofs.Deciding.{says_no}
use Rattle.arena.proofs.Words.{part_length, part_words, part_taken}
use Rattle.arena.proofs.Forming.{not_listed, only_weighed}
use Rattle.kinds.proofs.Listing as L
use borrow.Author.Rules.{rules}
use Rattle.arena.proofs.audit.well_formed.Goals as goal

pub returns-then-not-is_listed : goal.returns-then-not-is_listed
unfolding node_at
returns-then-not-is_listed c = not_listed _ _ (sym c.is_listed.ensures ∙ c.if-not-is_listed.true)

pub returns-then-nodes-at-ge-FLAGS_END : goal.returns-then-nodes-at-ge-FLAGS_END
unfolding node_at
returns-then-nodes-at-ge-FLAGS_END c = says_no (λ f. let m = f.marks in omega (arith, c.if-nodes-at-ge-FLAGS_END.true))

pub lower_children-requires : goal.lower_children-requires
lower_children-requires c =
    let from = c.args.id * node_words + children_word in
    (part_length c.args.nodes.now from most_children (from + most_children) refl (omega (arith, c.requires)), L.listed_few _ _ _ (sym c.is_listed.ensures ∙ c.if-not-is_listed.false))

pub returns-then-not-lower_children : goal.returns-then-not-lower_children
unfolding node_at
returns-then-not-lower_children c =
    let places = part_words c.args.nodes.now (c.args.id * node_words + children_word) most_children _ refl (omega (arith, c.requires)) in
    says_no (λ f. c.lower_children.ensures.no c.if-not-lower_children.true (subst (LowerChildren c.args.id _) (sym places) f.places))

pub overflow_add-to : goal.overflow_add-to
overflow_add-to c = omega (arith, c.requires, L.listed_few _ _ _ (sym c.is_listed.ensures ∙ c.if-not-is_listed.false))

pub slice_bounds-node_hash-end : goal.slice_bounds-node_hash-end
slice_bounds-node_hash-end c = omega (arith, c.requires, L.listed_few _ _ _ (sym c.is_listed.ensures ∙ c.if-not-is_listed.false))

pub returns-then-nodes-at : goal.returns-then-nodes-at
unfolding node_at node_hash
returns-then-nodes-at c =
    let few = L.listed_few _ _ _ (sym c.is_listed.ensures ∙ c.if-not-is_listed.false) in
    let used = part_taken c.args.nodes.now (c.args.id * node_words + children_word) most_children _ _ few refl (omega (arith, c.requires)) in
    says_no (λ f. c.if-nodes-at.true (f.hashed ∙ ap (node_hash_of _ _) (sym used) ∙ sym (rw map-id at c.node_hash.ensures)))

pub returns : goal.returns
unfolding node_at node_hash
returns c =
    let listed = sym c.is_listed.ensures ∙ c.if-not-is_listed.false in
    let from = c.args.id * node_words + children_word in
    let used = part_taken c.args.nodes.now from most_children _ _ (L.listed_few _ _ _ listed) refl (omega (arith, c.requires)) in
    let places = part_words c.args.nodes.now from most_children _ refl (omega (arith, c.requires)) in
    only_weighed _ _ listed c.if-nodes-at-ge-FLAGS_END.false (subst (LowerChildren c.args.id _) places (c.lower_children.ensures.yes c.if-not-lower_children.false)) (c.if-nodes-at.false ∙ (rw map-id at c.node_hash.ensures) ∙ ap (node_hash_of _ _) used) _ c.coefficient_of.ensures
