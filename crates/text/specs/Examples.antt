-- Readings of a typed formula, computed.
use Rattle.std.specs.Prelude.{ℕ, ◌≡◌, refl, true, false, List, [], ◌∷◌, ◌++◌}
use Rattle.definitions.specs.Node.{Node, node, variable_kind, constant_kind, add_kind, sub_kind, mul_kind, pow_kind, both_flags}
use Rattle.definitions.specs.Names.{same_name}
use Rattle.definitions.specs.Refusals.{no_name_place, no_node_place}
use Rattle.definitions.specs.Making.{LentLists, controller, made, stopped, make}
use Rattle.text_language.specs.Grammar.{sums, products, Expr, constant, variable, linked, raised}

abbrev two : ℕ
two = 0x4000000000000000

abbrev three : ℕ
three = 0x4008000000000000

abbrev flow : List ℕ
flow = 102 ∷ 108 ∷ 111 ∷ 119 ∷ []

abbrev t1 : List ℕ
t1 = 116 ∷ 49 ∷ []

-- 2*(flow + 3) - t1^2
abbrev dose : Expr
dose =
    linked sums true (linked products false (constant two) (linked sums false (variable flow) (constant three)))
    (raised (variable t1) (constant two))

-- on an empty store: names in the order of their places, each just before its node; the second 2 is found
abbrev lent : ℕ → ℕ → LentLists
lent nodes entries = record { store = record { nodes = nodes; slots = 1024 }; names = entries }

abbrev first_nodes : List Node
first_nodes =
    node constant_kind two 0 [] ∷ node variable_kind 0 0 [] ∷ node constant_kind three 0 []
    ∷ node add_kind 0 both_flags (1 ∷ 2 ∷ []) ∷ node mul_kind 0 both_flags (0 ∷ 3 ∷ []) ∷ []

dose_made : make (lent 512 8) dose (controller [] [])
    ≡ made 7 (controller (flow ∷ t1 ∷ [])
    (first_nodes ++ node variable_kind 1 0 [] ∷ node pow_kind 0 0 (5 ∷ 0 ∷ []) ∷ node sub_kind 0 0 (4 ∷ 6 ∷ []) ∷ []))
unfolding make same_name
dose_made = refl

-- 24 at the second name keeps the first name and its nodes; 21 at a name's node keeps the name
dose_no_name : make (lent 512 1) dose (controller [] []) ≡ stopped no_name_place (controller (flow ∷ []) first_nodes)
unfolding make same_name
dose_no_name = refl

dose_no_node : make (lent 1 8) dose (controller [] []) ≡ stopped no_node_place (controller (flow ∷ []) (node constant_kind two 0 [] ∷ []))
unfolding make same_name
dose_no_node = refl

-- a known name passes a full list
dose_known : make (lent 1 1) (variable flow) (controller (flow ∷ []) []) ≡ made 0 (controller (flow ∷ []) (node variable_kind 0 0 [] ∷ []))
unfolding make same_name
dose_known = refl
