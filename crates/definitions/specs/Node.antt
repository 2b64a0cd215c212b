-- A node, its kinds, and when two nodes are one: "one node, one id".
use Rattle.std.specs.Prelude.{ℕ, ◌+◌, Bool, true, false, ◌&&◌, ◌||◌, cond, List, [], ◌∷◌, get_or, leb, ltb, eqb}
use lib.Ieee.{binary64, nan_bits}
use Rattle.definitions.specs.Limits.{most_children, most_operands}

-- ---- kinds: 0 variable, 1 constant, 2 to 8 operator Add, Sub, Mul, Div, Pow, Mod, Neg, 16 function, 32 control
abbrev pub variable_kind : ℕ
variable_kind = 0

abbrev pub constant_kind : ℕ
constant_kind = 1

abbrev pub add_kind : ℕ
add_kind = 2

abbrev pub sub_kind : ℕ
sub_kind = 3

abbrev pub mul_kind : ℕ
mul_kind = 4

abbrev pub div_kind : ℕ
div_kind = 5

abbrev pub pow_kind : ℕ
pow_kind = 6

abbrev pub mod_kind : ℕ
mod_kind = 7

abbrev pub neg_kind : ℕ
neg_kind = 8

abbrev pub function_kind : ℕ
function_kind = 16

abbrev pub control_kind : ℕ
control_kind = 32

-- payload of a control: 0 Select, 1 IfElse, 2 ForLoop
abbrev pub select_control : ℕ
select_control = 0

abbrev pub if_else_control : ℕ
if_else_control = 1

abbrev pub for_loop_control : ℕ
for_loop_control = 2

-- operator codes of calls and sheets: "0 Add to 6 Neg"
abbrev pub last_operator : ℕ
last_operator = 6

-- ---- flags: 1 commutative, 2 associative, 4 canonical

-- commutative and associative, the highest that a call may give
abbrev pub both_flags : ℕ
both_flags = 3

abbrev pub canonical_flag : ℕ
canonical_flag = 4

-- ---- nodes

-- What a node is told by. Its hash, coefficient and child count follow from these; the mark, flag 4 canonical, stands apart from flags 1
-- (commutative) and 2 (associative), since it does not enter the equality of nodes.
pub record Node : Type 0 where
  pub kind : ℕ
  pub payload : ℕ
  pub flags : ℕ
  pub canonical : Bool
  pub children : List ℕ

-- an unmarked node
abbrev pub node : ℕ → ℕ → ℕ → List ℕ → Node
node k p f c = record { kind = k; payload = p; flags = f; canonical = false; children = c }

-- what is read past the end of a list of nodes
abbrev pub blank : Node
blank = node 0 0 0 []

-- the node of an id: "ids count from 0"
abbrev pub at : List Node → ℕ → Node
at ns i = get_or ns i blank

abbrev pub same_children : List ℕ → List ℕ → Bool
same_children [] [] = true
same_children [] (b ∷ bs) = false
same_children (a ∷ al) [] = false
same_children (a ∷ al) (b ∷ bs) = eqb a b && same_children al bs

-- "Two nodes are one if kind, payload, children and flags without 4 agree."
abbrev pub same : Node → Node → Bool
same m n = eqb m.kind n.kind && (eqb m.payload n.payload && (eqb m.flags n.flags && same_children m.children n.children))

-- "a constant whose bits are a NaN": of any pattern, quiet or signalling, of either sign. Without the sign's bit a NaN's bits are
-- above the infinity's, 7FF0000000000000 (`nan_bits_above` of the kit's lib.Ieee.Bits).
abbrev pub nan_constant : ℕ → ℕ → Bool
nan_constant k p = eqb k constant_kind && nan_bits binary64 p

-- ---- numbers of children

-- "Add and Mul one to four, Neg one, other operators two"
abbrev pub operator_children : ℕ → ℕ → Bool
operator_children k n = cond (eqb k add_kind || eqb k mul_kind) (leb 1 n && leb n most_operands) (cond (eqb k neg_kind) (eqb n 1) (eqb n 2))

-- "Select and IfElse three, ForLoop four"
abbrev pub control_children : ℕ → ℕ → Bool
control_children p n = cond (eqb p for_loop_control) (eqb n 4) (eqb n 3)

-- whether a node of a kind and payload may have so many children; variables and constants have none, a function none to 16
unfoldable pub child_count_listed : ℕ → ℕ → ℕ → Bool
child_count_listed k p n =
    cond (leb add_kind k && leb k neg_kind) (operator_children k n)
    (cond (eqb k function_kind) (leb n most_children)
    (cond (eqb k control_kind) (control_children p n) (eqb n 0)))
