-- Whether a slot holds a key's node.
use Prim.Native.Nat.{ℕ, zero, suc, ◌-◌, ◌≤◌, ◌<◌}
use mathlib.Core.Path.{◌≡◌, refl, sym, ap, ◌∙◌}
use mathlib.Core.Bool.{true, false, ◌&&◌, false≢true}
use mathlib.Core.List.{List}
use lib.Dec.{ltb}
use native.Mathlib.Omega.{arith}
use borrow.Author.Tests.{lt-ltb, le-ltb, ltb-true}
use Rattle.arena.specs.declared.node.DagNode.{DagNode}
use Rattle.arena.specs.Node.{node_at, one, node_hash}
use Rattle.arena.specs.Nodes.{AllWellFormed}
use Rattle.definitions.proofs.Deciding.{both}
use Rattle.arena.proofs.OneNode.{not_one, one_is, one_hash}
use Rattle.slots.specs.Held.{holds}

module _ (w : List ℕ) (known : ℕ) (key : DagNode) where
  pub holds_is : (slot : ℕ) → 0 < slot → holds w known key slot ≡ (ltb (slot - 1) known && one (node_at w (slot - 1)) key)
  unfolding holds
  holds_is zero l = absurd (omega arith)
  holds_is (suc id) l = let e : id ≡ suc id - 1 = omega arith in ap (λ (x : ℕ). ltb x known && one (node_at w x) key) e

  -- an id that is not known
  pub holds_beyond : (slot id : ℕ) → 0 < slot → id ≡ slot - 1 → known ≤ id → false ≡ holds w known key slot
  holds_beyond slot id l e m = sym (holds_is slot l ∙ (rw (le-ltb (slot - 1) known (omega arith)) refl))

  pub holds_known : (slot id : ℕ) → 0 < slot → id ≡ slot - 1 → id < known → one (node_at w id) key ≡ holds w known key slot
  holds_known slot id l e m = rw e (sym (holds_is slot l ∙ (rw (lt-ltb (slot - 1) known (omega arith)) refl)))

  -- another hash is another node
  pub other_hash : (id : ℕ) → id < known → AllWellFormed w known → key.hash ≡ node_hash key → ((node_at w id).hash ≡ key.hash → ⊥) → false ≡ one (node_at w id) key
  other_hash id m f h n = not_one (node_at w id) key (λ o. n ((f.each id m).hashed ∙ one_hash (node_at w id) key (one_is (node_at w id) key o) ∙ sym h))

  pub holds_hash : (slot id : ℕ) → 0 < slot → id ≡ slot - 1 → id < known → AllWellFormed w known → key.hash ≡ node_hash key → ((node_at w id).hash ≡ key.hash → ⊥) → false ≡ holds w known key slot
  holds_hash slot id l e m f h n = other_hash id m f h n ∙ holds_known slot id l e m

  -- a slot that holds the key is in use, by a known id
  pub held : (slot : ℕ) → holds w known key slot ≡ true → (0 < slot) × (slot - 1 < known) × (one (node_at w (slot - 1)) key ≡ true)
  unfolding holds
  held zero h = absurd (false≢true h)
  held (suc id) h =
      let t = both (ltb id known) (one (node_at w id) key) h in
      let e : id ≡ suc id - 1 = omega arith in
      let l = ltb-true id known t.0 in
      (omega arith, omega arith, ap (λ (x : ℕ). one (node_at w x) key) (sym e) ∙ t.1)
