-- What a header stands for, as a call of the code.
use Rattle.std.specs.Prelude.{ℕ, ◌≡◌, List, get_or}
use Rattle.std.proofs.Math.Option.{Option, some}
use Rattle.definitions.specs.Machine as M
use Rattle.definitions.specs.Controller.{ControllerCall, asked}
use Rattle.store_calls.specs.declared.Call.{Call}
use Rattle.store_calls.specs.Calls.{call_of, SameCall}
use Rattle.encoding.specs.declared.headers.Header.{Header}
use Rattle.encoding.specs.Codes.{code_of}
use Rattle.encoding.specs.Encoding.{call_of_code}

-- the call of a header over operands
abbrev pub header_call : Header → List ℕ → Option ControllerCall
header_call h operands =
    call_of_code (code_of h.code) (get_or h.numbers 0 0) (get_or h.numbers 1 0) (get_or h.numbers 2 0) (get_or h.numbers 3 0) operands

-- there is a call of the store, and the code's call is the same
pub record DecodesTo (call : Option ControllerCall) (c : Call) : Type 0 where
  pub plain : M.Call
  pub is : call ≡ some (asked plain)
  pub same : SameCall (call_of c) plain
