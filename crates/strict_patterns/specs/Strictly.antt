-- What a strict identity is made of.
use Rattle.std.specs.Prelude.{ℕ, List}
use Rattle.std.proofs.Math.Option.{Option}
use Rattle.definitions.specs.Node.{Node, at}
use Rattle.definitions.specs.Intern.{Lent, Built, built}
use Rattle.definitions.specs.Patterns.{or_else, when}
use Rattle.definitions.specs.Strict.{is_constant_of}

-- an operand, where the other is the constant of these bits
abbrev pub neutral : ℕ → ℕ → ℕ → Lent → List Node → Option Built
neutral bits operand constant l ns = when (is_constant_of bits (at ns constant)) (built ns operand)

abbrev pub either_neutral : ℕ → ℕ → ℕ → Lent → List Node → Option Built
either_neutral bits one other l ns = or_else (neutral bits one other l ns) (neutral bits other one l ns)
