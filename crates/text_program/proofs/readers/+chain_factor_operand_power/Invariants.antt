use Rattle.std.proofs.Common.{◌+◌, ◌-◌, ◌*◌, length}
use Rattle.text_program.specs.Readers.{chain_of}
use Rattle.text_program.proofs.Steps.{Walking, operand_rank}
use Rattle.text_program.proofs.readers.+chain_factor_operand_power.Given as goal

-- Each call starts further on in the text, or at the same place in a level further down.
abbrev pub decreases-factor : goal.decreases-factor
decreases-factor l = 6 * (length l.text.now - l.at) + 1

abbrev pub decreases-power : goal.decreases-power
decreases-power l = 6 * (length l.text.now - l.at) + 2

abbrev pub decreases-operand : goal.decreases-operand
decreases-operand l = 6 * (length l.text.now - l.at) + operand_rank l.of

abbrev pub decreases-chain : goal.decreases-chain
decreases-chain l = 6 * (length l.text.now - l.at) + operand_rank l.kind + 1

-- The chain is read so far, and its program has so many words.
abbrev pub invariant-chain-loop-kind : goal.invariant-chain-loop-kind
invariant-chain-loop-kind l = Walking l.text l.at l.left (chain_of l.kind) l.fn.program l.fn.size l.read.next l.program l.read.size

abbrev pub decreases-chain-loop-kind : goal.decreases-chain-loop-kind
decreases-chain-loop-kind l = length l.text - l.read.next
