-- What is read of a sound store's nodes.
use Prim.Native.Nat.{ℕ, ◌<◌, ◌≤◌}
use mathlib.Core.Path.{◌≡◌, sym, ap, ◌∙◌, subst}
use mathlib.Core.Bool.{true, ◌&&◌, not, false≢true}
use mathlib.Core.List.{List}
use lib.ListN.{length, get_or}
use lib.Dec.{leb, eqb}
use native.Mathlib.Omega.{arith}
use borrow.Author.Tests.{leb-true, eq-eqb}
use Rattle.definitions.specs.Limits.{most_children, most_operands, most_nodes}
use Rattle.definitions.specs.Node.{at, add_kind}
use Rattle.definitions.proofs.Deciding.{both}
use Rattle.arena.specs.declared.DagArena.{DagArena}
use Rattle.kinds.specs.Kind.{operator_arity}
use Rattle.store.specs.View.{nodes_in, Sound, listed}
use Rattle.store.specs.Lookup.{Lookup}
use Rattle.store.proofs.Viewing.{plain_length}
use Rattle.store.proofs.Reading as R
use Rattle.chains.specs.Terms.{children_in, Readable}
use Rattle.chains.proofs.Below.{lower_of}
use Rattle.chains.proofs.Chains.{Layered}

-- "Add and Mul one to four" children
add_filled : (kind payload arity : ℕ) → listed kind payload arity ≡ true → kind ≡ add_kind → 0 < arity
unfolding listed operator_arity
add_filled kind payload arity h e =
    let t = both (eqb payload 0) (leb 1 arity && leb arity most_operands) (subst (λ (k : ℕ). listed k payload arity ≡ true) e h) in
    leb-true 1 arity (both (leb 1 arity) (leb arity most_operands) t.1).0

pub readable : (words slots : List ℕ) (s : DagArena) → Sound words slots s → Readable words s.count
readable words slots s h = record { lookup = R.lookup_of words slots s h; filled = λ i l e. add_filled _ _ _ (R.listed_at words slots s h i l) e }

module _ (words : List ℕ) (count : ℕ) (r : Readable words count) where
  pub layered : Layered (nodes_in words count)
  layered = record {
    low = λ i h. lower_of i (children_in words count i) (R.child_low words count i (r.lookup i (below i h)));
    filled = λ i h e. r.filled i (below i h) e;
  }
    where
      below : (i : ℕ) → i < length (nodes_in words count) → i < count
      below i h = omega (arith, plain_length words count)

  pub few_children : (i : ℕ) → i < count → length (children_in words count i) ≤ most_children
  few_children i h = R.few words count i (r.lookup i h)

  pub child_lower : (i place child : ℕ) → i < count → child ≡ get_or (children_in words count i) place 0 → place < length (children_in words count i) → child < i
  child_lower i place child h e l = omega (arith, R.child_low words count i (r.lookup i h) place l)

  pub child_below : (i place child : ℕ) → i < count → child ≡ get_or (children_in words count i) place 0 → place < length (children_in words count i) → child < count
  child_below i place child h e l = omega (arith, R.child_low words count i (r.lookup i h) place l)

-- the store has at most 65,536 nodes, so that 32 bits hold an id and each child of it
module _ (words : List ℕ) (count id : ℕ) (k : Lookup words count id) where
  pub id_limited : id < most_nodes
  id_limited = omega (arith, k.below, k.nodes.formed.many)

  pub child_limited : (place child : ℕ) → place < length (children_in words count id) → child ≡ get_or (children_in words count id) place 0 → child < most_nodes
  child_limited place child h e = omega (arith, id_limited, R.child_low words count id k place h)

-- the test of one of a node's children
pub term_so : (words : List ℕ) (count id place child kind : ℕ) → child ≡ get_or (children_in words count id) place 0 → kind ≡ (at (nodes_in words count) child).kind → not (eqb kind add_kind) ≡ true
    → (at (nodes_in words count) (get_or (children_in words count id) place 0)).kind ≡ add_kind → ⊥
term_so words count id place child kind is_child is_kind other add =
    false≢true (sym (ap not (eq-eqb kind add_kind (is_kind ∙ ap (λ (i : ℕ). (at (nodes_in words count) i).kind) is_child ∙ add))) ∙ other)
