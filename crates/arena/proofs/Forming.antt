-- The audit of a node, part by part.
use Prim.Native.Nat.{ℕ, ◌<◌}
use mathlib.Core.Path.{◌≡◌, sym, ◌∙◌}
use mathlib.Core.Bool.{true, false, false≢true}
use lib.Dec.{eqb}
use Rattle.arena.specs.declared.node.DagNode.{DagNode}
use Rattle.definitions.specs.Says.{Says}
use Rattle.kinds.specs.Kind.{listed}
use Rattle.child_places.specs.Places.{LowerChildren}
use Rattle.arena.specs.Node.{flags_end, node_hash, coefficient}
use Rattle.arena.specs.Nodes.{WellFormed}
use Rattle.definitions.proofs.Deciding.{says_no, says_map, says_eq}

module _ (id : ℕ) (n : DagNode) where
  pub not_listed : listed n.kind n.payload n.arity ≡ false → Says false (WellFormed id n)
  not_listed e = says_no (λ f. false≢true (sym e ∙ f.kinds))

  -- what is left once all but the coefficient is tested
  pub only_weighed : listed n.kind n.payload n.arity ≡ true → n.flags < flags_end → LowerChildren id n.arity n.children → n.hash ≡ node_hash n → (c : ℕ) → c ≡ coefficient n.kind n.payload → Says (eqb n.coefficient c) (WellFormed id n)
  only_weighed k l p h c e = says_map _ (λ q. record { kinds = k; places = p; marks = l; hashed = h; weighed = q ∙ e }) (λ f. f.weighed ∙ sym e) (says_eq n.coefficient c)
