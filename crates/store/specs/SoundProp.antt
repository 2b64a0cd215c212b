-- Soundness has one proof at most.
use Rattle.std.specs.Prelude.{ℕ, ◌≡◌, ◌*◌, ◌^◌, List}
use Rattle.std.specs.Coded.{le_prop, coded_list, coded_ℕ, Coded-set}
use Rattle.std.proofs.Math.Nat.{ℕ_set}
use Rattle.std.proofs.Math.Bool.{Bool-set}
use Rattle.std.proofs.Math.Path.{PathP, to_path_p, sym, ◌∙◌}
use Rattle.std.proofs.Math.Pow.{pow-lt}
use Rattle.std.proofs.Common.{arith, inl, inr}
use Rattle.std.proofs.lemmas.Bool.{cases_order}
use Rattle.arena.specs.declared.DagArena.{DagArena}
use Rattle.arena.specs.declared.node.DagNode.{DagNode}
use Rattle.child_places.specs.Places.{LowerChildren}
use Rattle.arena.specs.Nodes.{WellFormed, AllWellFormed, Nodes}
use Rattle.slots.specs.Table.{TableSize, Table}
use Rattle.store.specs.Sound.{Sound}

-- two numbers of doublings with one size are one number
same_doublings : (a b : ℕ) → 64 * 2 ^ a ≡ 64 * 2 ^ b → a ≡ b
same_doublings a b e = elim (cases_order a b) [ inl e ↦ e | inr (inl l) ↦ absurd (let h = pow-lt l in omega arith) | inr (inr l) ↦ absurd (let h = pow-lt l in omega arith) ]

TableSize-prop : (size : ℕ) → IsProp (TableSize size)
TableSize-prop size x y = λ i. record { doublings = p i; is = q i }
  where
    p : x.doublings ≡ y.doublings
    p = same_doublings _ _ (sym x.is ∙ y.is)

    q : PathP (λ j. size ≡ 64 * 2 ^ p j) x.is y.is
    q = to_path_p (λ j. size ≡ 64 * 2 ^ p j) {a = x.is} {b = y.is} (ℕ_set _ _ _ _)

LowerChildren-prop : (id arity : ℕ) (children : List ℕ) → IsProp (LowerChildren id arity children)
LowerChildren-prop id arity children x y = λ i. record { lower = λ j h. le_prop (x.lower j h) (y.lower j h) i; unused = λ j h. ℕ_set _ _ (x.unused j h) (y.unused j h) i }

WellFormed-prop : (id : ℕ) (n : DagNode) → IsProp (WellFormed id n)
WellFormed-prop id n x y = λ i. record { kinds = Bool-set _ _ x.kinds y.kinds i; places = LowerChildren-prop _ _ _ x.places y.places i; marks = le_prop x.marks y.marks i; hashed = ℕ_set _ _ x.hashed y.hashed i; weighed = ℕ_set _ _ x.weighed y.weighed i }

AllWellFormed-prop : (words : List ℕ) (count : ℕ) → IsProp (AllWellFormed words count)
AllWellFormed-prop words count x y = λ i. record { many = le_prop x.many y.many i; fits = le_prop x.fits y.fits i; each = λ j h. WellFormed-prop _ _ (x.each j h) (y.each j h) i }

Nodes-prop : (words : List ℕ) (count : ℕ) → IsProp (Nodes words count)
Nodes-prop words count x y = λ i. record { formed = AllWellFormed-prop _ _ x.formed y.formed i; apart = λ j k h g e. ℕ_set _ _ (x.apart j k h g e) (y.apart j k h g e) i }

Table-prop : (hash : ℕ → ℕ) (count : ℕ) (slots : List ℕ) (size : ℕ) → IsProp (Table hash count slots size)
Table-prop hash count slots size x y = λ i. record { doubled = TableSize-prop _ x.doubled y.doubled i; sized = le_prop x.sized y.sized i; load = le_prop x.load y.load i; filled = Coded-set (coded_list coded_ℕ) _ _ x.filled y.filled i }

pub Sound-prop : (words slots : List ℕ) (arena : DagArena) → IsProp (Sound words slots arena)
Sound-prop words slots arena x y = λ i. record { nodes = Nodes-prop _ _ x.nodes y.nodes i; table = Table-prop _ _ _ _ x.table y.table i }
