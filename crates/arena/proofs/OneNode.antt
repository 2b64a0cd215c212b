-- When two nodes are one: the test as facts, and back.
use Prim.Native.Nat.{ℕ, ◌%◌, ◌<◌}
use mathlib.Core.Path.{◌≡◌, refl, sym, ap, ◌∙◌}
use mathlib.Core.Bool.{Bool, true, false, false≢true, ◌&&◌}
use Rattle.std.specs.Bool.{Decides}
use Rattle.std.specs.Cmp.Lexicographic.{pointwise}
use mathlib.Core.List.{List, [], ◌∷◌}
use lib.ListN.{get_or, length}
use lib.Seq.{ext_get_or}
use lib.Dec.{eqb}
use borrow.Author.Tests.{eq-eqb, eqb-true}
use Rattle.arena.specs.declared.node.DagNode.{DagNode}
use Rattle.definitions.specs.Node.{same_children}
use Rattle.arena.specs.Node.{one, node_hash, new_node, canonical}
use Rattle.definitions.proofs.Deciding.{both, is_false, same_test}

pub children_eq : (a b : List ℕ) → same_children a b ≡ true → a ≡ b
children_eq [] [] h = refl
children_eq [] (y ∷ b) h = absurd (false≢true h)
children_eq (x ∷ a) [] h = absurd (false≢true h)
children_eq (x ∷ a) (y ∷ b) h = let t = both (eqb x y) (same_children a b) h in let e = eqb-true x y t.0 in let f = children_eq a b t.1 in rw (e, f) refl

pub children_refl : (a : List ℕ) → same_children a a ≡ true
children_refl [] = refl
children_refl (x ∷ a) = rw (eq-eqb x x refl) (children_refl a)

-- as `==` on slices compares them
pub same_pointwise : (a b : List ℕ) → pointwise eqb a b ≡ same_children a b
same_pointwise [] [] = refl
same_pointwise [] (y ∷ b) = refl
same_pointwise (x ∷ a) [] = refl
same_pointwise (x ∷ a) (y ∷ b) = ap (λ (t : Bool). eqb x y && t) (same_pointwise a b)

pub children_decides : (a b : List ℕ) → Decides (same_children a b) (a ≡ b)
children_decides a b = (children_eq a b, λ h. rw h (children_refl b))

pub record One (a b : DagNode) : Type 0 where
  pub kind : a.kind ≡ b.kind
  pub payload : a.payload ≡ b.payload
  pub flags : a.flags % canonical ≡ b.flags % canonical
  pub arity : a.arity ≡ b.arity
  pub children : a.children ≡ b.children

module _ (a b : DagNode) where
  -- with all but the children equal
  pub one_children : a.kind ≡ b.kind → a.payload ≡ b.payload → a.flags % canonical ≡ b.flags % canonical → a.arity ≡ b.arity → same_children a.children b.children ≡ one a b
  unfolding one
  one_children e f g h = rw (eq-eqb _ _ e, eq-eqb _ _ f, eq-eqb _ _ g, eq-eqb _ _ h) refl

  pub one_of : one a b ≡ true → One a b
  unfolding one
  one_of h =
      let h0 = both (eqb a.kind b.kind) _ h in
      let h1 = both (eqb a.payload b.payload) _ h0.1 in
      let h2 = both (eqb (a.flags % canonical) (b.flags % canonical)) _ h1.1 in
      let h3 = both (eqb a.arity b.arity) (same_children a.children b.children) h2.1 in
      record { kind = eqb-true _ _ h0.0; payload = eqb-true _ _ h1.0; flags = eqb-true _ _ h2.0; arity = eqb-true _ _ h3.0; children = children_eq _ _ h3.1 }

  pub one_is : One a b → one a b ≡ true
  one_is o = sym (one_children o.kind o.payload o.flags o.arity) ∙ (rw o.children (children_refl b.children))

  -- a part in which they differ
  pub not_one : (One a b → ⊥) → false ≡ one a b
  not_one n = sym (is_false _ (λ h. n (one_of h)))

  -- one node has one hash
  pub one_hash : one a b ≡ true → node_hash a ≡ node_hash b
  unfolding node_hash
  one_hash h = let o = one_of h in rw (o.kind, o.payload, o.arity, o.children) refl

pub one_refl : (a : DagNode) → one a a ≡ true
one_refl a = one_is a a (record { kind = refl; payload = refl; flags = refl; arity = refl; children = refl })

pub one_sym : (a b : DagNode) → one a b ≡ true → one b a ≡ true
one_sym a b h = let o = one_of a b h in one_is b a (record { kind = sym o.kind; payload = sym o.payload; flags = sym o.flags; arity = sym o.arity; children = sym o.children })

pub one_trans : (a b c : DagNode) → one a b ≡ true → one b c ≡ true → one a c ≡ true
one_trans a b c h k =
    let o = one_of a b h in
    let p = one_of b c k in
    one_is a c (record { kind = o.kind ∙ p.kind; payload = o.payload ∙ p.payload; flags = o.flags ∙ p.flags; arity = o.arity ∙ p.arity; children = o.children ∙ p.children })

-- a node that is one with another is one with what the other is one with
pub one_same : (x a b : DagNode) → one a b ≡ true → one x a ≡ one x b
one_same x a b h = same_test (one x a) (one x b) (λ e. one_trans x a b e h) (λ e. one_trans x b a e (one_sym a b h))

-- a node is compared by its parts alone
pub one_parts : (x n : DagNode) → one x (new_node n.kind n.payload n.flags n.arity n.children) ≡ one x n
unfolding one new_node
one_parts x n = refl
