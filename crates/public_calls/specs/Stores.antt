-- Of a store call the equation alone gives the whole contract.
use Rattle.std.specs.Prelude.{ℕ, ◌^◌, ◌<◌, ◌≡◌}
use Rattle.definitions.specs.Machine as M
use Rattle.definitions.specs.Machine.{Store, variable, constant, add, sub, mul, div, pow, modulo, neg, operator, function, select, if_else, for_loop, control}
use Rattle.store.specs.Memory.{Memory, model, left, left_by, Leaves}

-- "symbols and function numbers below 2^32": what the code's parameters hold
abbrev pub InWidths : Store → Type 0
InWidths (variable symbol) = symbol < 2 ^ 32
InWidths (constant bits) = Unit {0}
InWidths (add a b) = Unit {0}
InWidths (sub a b) = Unit {0}
InWidths (mul a b) = Unit {0}
InWidths (div a b) = Unit {0}
InWidths (pow a b) = Unit {0}
InWidths (modulo a b) = Unit {0}
InWidths (neg a) = Unit {0}
InWidths (operator code flags operands) = Unit {0}
InWidths (function number operands) = number < 2 ^ 32
InWidths (select a b c) = Unit {0}
InWidths (if_else a b c) = Unit {0}
InWidths (for_loop a b c d) = Unit {0}
InWidths (control code operands) = Unit {0}

-- that the memory is sound again and as large, that no node is taken away, and when a refusal changes nothing
abbrev pub EquationGivesLeaves : Type 0
EquationGivesLeaves = (c : Store) (m m' : Memory) (a : M.Answer) → InWidths c
    → ((d : Dec (model.Sound m)) → left a m' ≡ left_by (M.store c) m d) → Dec (model.Sound m) → Leaves (M.store c) m a m'
