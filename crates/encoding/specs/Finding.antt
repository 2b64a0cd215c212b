-- What finding the first call of some words says.
use Rattle.std.specs.Prelude.{ℕ, ◌+◌, ◌≤◌, ◌≡◌, List, length, drop, Option, None, Some}
use Rattle.std.proofs.Math.Option.{none, some}
use Rattle.definitions.specs.Controller.{ControllerCall}
use Rattle.encoding.specs.Encoding.{header_words, first_call}
use Rattle.encoding.specs.Headers.{header_call}
use Rattle.encoding.specs.declared.finding.NextCall.{NextCall}

-- the words begin with a whole call with a known code, which is that of the header over the operands; behind it stands the rest
pub record WholeCall (words : List ℕ) (found : NextCall) : Type 0 where
  pub call : ControllerCall
  pub is : header_call found.header found.operands.now ≡ some call
  pub first : first_call words ≡ some (call, found.rest.now)
  pub whole : header_words + length found.operands.now ≤ length words
  pub behind : found.rest.now ≡ drop (header_words + length found.operands.now) words

abbrev pub FindsCall : List ℕ → Option NextCall → Type 0
FindsCall words None = first_call words ≡ none
FindsCall words (Some found) = WholeCall words found
