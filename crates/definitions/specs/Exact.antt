-- The exact kind of formulas: no Div or Pow, finite constants, and W * 2 ^ P at most 2 ^ 53 at every node.
use Rattle.std.specs.Prelude.{ℕ, ◌+◌, ◌*◌, ◌^◌, ◌≤◌, max, Bool, true, false, ◌||◌, cond, List, [], ◌∷◌, T, eqb, Float}
use Rattle.std.specs.Float.{nan, inf, fin, binary64}
use Rattle.std.specs.Float.Ieee.{of_bits, up, down}
use Rattle.definitions.specs.Node.{constant_kind, add_kind, sub_kind, mul_kind, div_kind, pow_kind, neg_kind}
use Rattle.definitions.specs.Patterns.{finite}
use Rattle.definitions.specs.Formula.{Tree, tree, Forest, nil, cons}
use Rattle.definitions.specs.Value.{fraction_bits}

-- P is `bits`; W, which need not be whole, is top / 2 ^ under
pub record Bound : Type 0 where
  pub bits : ℕ
  pub top : ℕ
  pub under : ℕ

abbrev pub bound_by : ℕ → ℕ → ℕ → Bound
bound_by b t u = record { bits = b; top = t; under = u }

-- "else 0" and "else 1"
abbrev pub unit_bound : Bound
unit_bound = bound_by 0 1 0

-- a constant: P is "the least s from 0 up making c * 2 ^ s whole", W is max(1, |c|); see fraction_bits of Value.antt
abbrev pub constant_bound : Float → Bound
constant_bound nan = unit_bound
constant_bound (inf s) = unit_bound
constant_bound (fin s m e) = bound_by (fraction_bits e) (max (down e) (m * up e)) (fraction_bits e)

-- Add, Sub: the greatest P and the sum of W
abbrev pub add_bound : Bound → Bound → Bound
add_bound a b = bound_by (max a.bits b.bits) (a.top * 2 ^ b.under + b.top * 2 ^ a.under) (a.under + b.under)

-- Mul: the sum of P and the product of W
abbrev pub mul_bound : Bound → Bound → Bound
mul_bound a b = bound_by (a.bits + b.bits) (a.top * b.top) (a.under + b.under)

abbrev pub sum_bound : List Bound → Bound
sum_bound [] = bound_by 0 0 0
sum_bound (a ∷ l) = add_bound a (sum_bound l)

abbrev pub product_bound : List Bound → Bound
product_bound [] = unit_bound
product_bound (a ∷ l) = mul_bound a (product_bound l)

-- Neg: the same
abbrev pub first_bound : List Bound → Bound
first_bound [] = unit_bound
first_bound (a ∷ l) = a

abbrev pub node_bound : ℕ → ℕ → List Bound → Bound
node_bound k p bs =
    cond (eqb k constant_kind) (constant_bound (of_bits binary64 p))
    (cond (eqb k add_kind || eqb k sub_kind) (sum_bound bs)
    (cond (eqb k mul_kind) (product_bound bs)
    (cond (eqb k neg_kind) (first_bound bs) unit_bound)))

unfoldable mutual
  pub bound : Tree → Bound
  bound (tree k p f c) = node_bound k p (bounds c)

  pub bounds : Forest → List Bound
  bounds nil = []
  bounds (cons t c) = bound t ∷ bounds c

-- W * 2 ^ P is at most 2 ^ 53
abbrev pub Within : Bound → Type 0
Within b = b.top * 2 ^ b.bits ≤ 2 ^ 53 * 2 ^ b.under

-- "no Div or Pow reachable, constants finite"
abbrev pub exact_kind : ℕ → ℕ → Bool
exact_kind k p = cond (eqb k div_kind || eqb k pow_kind) false (cond (eqb k constant_kind) (finite (of_bits binary64 p)) true)

-- every reachable node
unfoldable mutual
  unfolding bound

  pub Exact : Tree → Type 0
  Exact (tree k p f c) = Within (node_bound k p (bounds c)) × T (exact_kind k p) × ExactAll c

  pub ExactAll : Forest → Type 0
  ExactAll nil = Unit {0}
  ExactAll (cons t c) = Exact t × ExactAll c
