-- The answer to every sheet and every call is a result or one of the numbered refusals. Which refusals each call may answer, in the order in
-- which they are checked, 20 aside: "Order: 20, 1, then per record 3, 2, 5, 6, 4, 7, 23, 21, 22; a call alone is checked as its record would
-- be, 20 first, and 8 stands in 7's place; for names 20, 9, 24", and 10 "right after 5".
use Rattle.std.specs.Prelude.{ℕ, Bool, false, ◌||◌, List, [], ◌∷◌, eqb, T}
use Rattle.definitions.specs.Refusals.{bad_operand, bad_code, bad_child_count, bad_threshold, bad_setting, bad_name_length, no_node_place, no_slot_place, too_many_terms, no_name_place, bad_text, not_a_number, outside_language, nested_too_deep}
use Rattle.definitions.specs.Machine.{Store, variable, constant, add, sub, mul, div, pow, modulo, neg, operator, function, select, if_else, for_loop, control}
use Rattle.definitions.specs.Names.{NameCall, intern_name, lookup_name, name_of}
use Rattle.definitions.specs.Controller.{LentLists, Controller, ControllerCall, building, simplifying, pruning, pruning_by_setting, naming, reading, ControllerAnswer, stored, simplified, pruned, numbered, unknown, named, refused, controller_call}

-- whether a number is one of a list
abbrev pub among : ℕ → List ℕ → Bool
among number [] = false
among number (k ∷ ks) = eqb number k || among number ks

-- "a result or one of" these refusals
abbrev pub ResultOr : List ℕ → ControllerAnswer → Type 0
ResultOr numbers (stored id) = Unit {0}
ResultOr numbers (simplified id spent steps) = Unit {0}
ResultOr numbers (pruned id kept dropped) = Unit {0}
ResultOr numbers (numbered number) = Unit {0}
ResultOr numbers unknown = Unit {0}
ResultOr numbers (named name) = Unit {0}
ResultOr numbers (refused number) = T (among number numbers)

-- every node that is built may find no place
abbrev pub place_refusals : List ℕ
place_refusals = no_node_place ∷ no_slot_place ∷ []

-- a call with a code or flags may meet 5, one with a constant's bits 10, one with any number of operands 6, one with operands 4
abbrev pub store_refusals : Store → List ℕ
store_refusals (variable s) = place_refusals
store_refusals (constant b) = not_a_number ∷ place_refusals
store_refusals (add a b) = bad_operand ∷ place_refusals
store_refusals (sub a b) = bad_operand ∷ place_refusals
store_refusals (mul a b) = bad_operand ∷ place_refusals
store_refusals (div a b) = bad_operand ∷ place_refusals
store_refusals (pow a b) = bad_operand ∷ place_refusals
store_refusals (modulo a b) = bad_operand ∷ place_refusals
store_refusals (neg a) = bad_operand ∷ place_refusals
store_refusals (operator o f c) = bad_code ∷ bad_child_count ∷ bad_operand ∷ place_refusals
store_refusals (function f c) = bad_child_count ∷ bad_operand ∷ place_refusals
store_refusals (select a b c) = bad_operand ∷ place_refusals
store_refusals (if_else a b c) = bad_operand ∷ place_refusals
store_refusals (for_loop a b c d) = bad_operand ∷ place_refusals
store_refusals (control o c) = bad_code ∷ bad_child_count ∷ bad_operand ∷ place_refusals

-- a name that is looked up needs no place, and a number that no name has is no refusal
abbrev pub name_refusals : NameCall → List ℕ
name_refusals (intern_name name) = bad_name_length ∷ no_name_place ∷ []
name_refusals (lookup_name name) = bad_name_length ∷ []
name_refusals (name_of number) = []

-- of a reading: "in the order 20, 1, 11, 12, 10", and then "Stopped by 24, 21 or 22"
abbrev pub listed_refusals : ControllerCall → List ℕ
listed_refusals (building c) = store_refusals c
listed_refusals (simplifying mode id depth budget) = bad_code ∷ bad_operand ∷ place_refusals
listed_refusals (pruning id threshold) = bad_operand ∷ bad_threshold ∷ too_many_terms ∷ place_refusals
listed_refusals (pruning_by_setting id setting) = bad_operand ∷ bad_setting ∷ too_many_terms ∷ place_refusals
listed_refusals (naming c) = name_refusals c
listed_refusals (reading text) = bad_text ∷ outside_language ∷ nested_too_deep ∷ not_a_number ∷ no_name_place ∷ place_refusals

-- every call on every state of the plain machine
abbrev pub AnswersListed : Type 0
AnswersListed = (l : LentLists) (s : Controller) (c : ControllerCall) → ResultOr (listed_refusals c) (controller_call l s c).answer
