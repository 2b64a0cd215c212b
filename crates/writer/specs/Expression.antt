-- The expression of a node, if it has one: what a text that reads to it says, with the names as they are.
use Rattle.std.specs.Prelude.{◌≡◌, ℕ, Bool, true, false, cond, List, [], ◌∷◌, ◌==◌, slice_index_or}
use Rattle.std.proofs.Math.Option.{Option, none, some}
use Rattle.text_language.specs.Grammar.{sums, products, Expr, constant, variable, negated, linked, raised}
use Rattle.text_language.specs.Program.{Join, plus, minus, times, over, raise}
use Rattle.definitions.specs.Node.{Node, variable_kind, constant_kind, add_kind, sub_kind, mul_kind, div_kind, pow_kind, neg_kind, both_flags}
use Rattle.definitions.specs.Formula.{Tree, tree, Forest, nil, cons, formula}
use Rattle.expression_text.specs.Proper.{is_name, number_bits}

-- the kind and the constructors' flags of a sign
abbrev pub join_kind : Join → ℕ
join_kind plus = add_kind
join_kind minus = sub_kind
join_kind times = mul_kind
join_kind over = div_kind
join_kind raise = pow_kind

abbrev pub join_flags : Join → ℕ
join_flags plus = both_flags
join_flags minus = 0
join_flags times = both_flags
join_flags over = 0
join_flags raise = 0

abbrev pub join_exprs : Join → Expr → Expr → Expr
join_exprs plus a b = linked sums false a b
join_exprs minus a b = linked sums true a b
join_exprs times a b = linked products false a b
join_exprs over a b = linked products true a b
join_exprs raise a b = raised a b

-- ---- a node's expression from those of its operands: none if an operand has none, or if there are too many or too few

abbrev pub leaf_only : List (Option Expr) → Expr → Option Expr
leaf_only [] e = some e
leaf_only (x ∷ xs) e = none

abbrev pub unary : List (Option Expr) → Option Expr
unary [] = none
unary (none ∷ xs) = none
unary (some a ∷ []) = some (negated a)
unary (some a ∷ (x ∷ xs)) = none

abbrev pub pair_of : Join → Option Expr → Option Expr → Option Expr
pair_of o none y = none
pair_of o (some a) none = none
pair_of o (some a) (some b) = some (join_exprs o a b)

abbrev pub binary : Join → List (Option Expr) → Option Expr
binary o [] = none
binary o (x ∷ []) = none
binary o (x ∷ (y ∷ [])) = pair_of o x y
binary o (x ∷ (y ∷ (z ∷ zs))) = none

-- only where a test holds
abbrev pub provided : Bool → Option Expr → Option Expr
provided b o = cond b o none

-- "with the constructors' flags"
abbrev pub flagged : ℕ → ℕ → Option Expr → Option Expr
flagged f g o = provided (f == g) o

abbrev pub symbol_name : List (List ℕ) → ℕ → List ℕ
symbol_name names p = slice_index_or names p []

-- "variables, constants, Neg and two-operand operators but Mod"
unfoldable pub over_operands : List (List ℕ) → ℕ → ℕ → ℕ → List (Option Expr) → Option Expr
unfolding is_name number_bits
over_operands names k p f xs =
    cond (k == variable_kind) (flagged f 0 (provided (is_name (symbol_name names p)) (leaf_only xs (variable (symbol_name names p))))) (
    cond (k == constant_kind) (flagged f 0 (provided (number_bits p) (leaf_only xs (constant p)))) (
    cond (k == neg_kind) (flagged f 0 (unary xs)) (
    cond (k == add_kind) (flagged f both_flags (binary plus xs)) (
    cond (k == sub_kind) (flagged f 0 (binary minus xs)) (
    cond (k == mul_kind) (flagged f both_flags (binary times xs)) (
    cond (k == div_kind) (flagged f 0 (binary over xs)) (
    cond (k == pow_kind) (flagged f 0 (binary raise xs)) none)))))))

-- the expression of a formula
unfoldable mutual
  pub expression_in : List (List ℕ) → Tree → Option Expr
  expression_in names (tree k p f c) = over_operands names k p f (expressions_in names c)

  pub expressions_in : List (List ℕ) → Forest → List (Option Expr)
  expressions_in names nil = []
  expressions_in names (cons t ts) = expression_in names t ∷ expressions_in names ts

-- the expression of an id
unfoldable pub expression_of : List (List ℕ) → List Node → ℕ → Option Expr
unfolding expression_in formula
expression_of names ns i = expression_in names (formula ns i)

abbrev pub is_some : Option Expr → Bool
is_some none = false
is_some (some e) = true

-- the expression, or any where there is none
abbrev pub or_any : Option Expr → Expr
or_any none = constant 0
or_any (some e) = e

-- a node whose kind, flags and number of children texts have, its operands aside
pub data Standing (names : List (List ℕ)) (n : Node) : Type 0 where
  a_name : n.kind ≡ variable_kind → n.flags ≡ 0 → n.children ≡ [] → is_name (symbol_name names n.payload) ≡ true → Standing names n
  a_number : n.kind ≡ constant_kind → n.flags ≡ 0 → n.children ≡ [] → number_bits n.payload ≡ true → Standing names n
  a_minus : (a : ℕ) → n.kind ≡ neg_kind → n.flags ≡ 0 → n.children ≡ a ∷ [] → Standing names n
  a_pair : (o : Join) (a b : ℕ) → n.kind ≡ join_kind o → n.flags ≡ join_flags o → n.children ≡ a ∷ (b ∷ []) → Standing names n
