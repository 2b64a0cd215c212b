-- What a reply is in the plain machine's terms, and what running one encoded call says.
use Rattle.std.specs.Prelude.{ℕ, ◌≡◌, List, replicate, Some, None}
use Rattle.std.specs.Prelude as Std
use Rattle.std.proofs.Math.Option.{Option, none, some}
use Rattle.definitions.specs.Machine as M
use Rattle.definitions.specs.Names.{NameCall, longest_name}
use Rattle.definitions.specs.Controller.{ControllerCall, ControllerAnswer, from_store, from_names, asked}
use Rattle.store.specs.Memory.{Memory, Leaves}
use Rattle.store_calls.specs.declared.answers.Performed.{Performed}
use Rattle.store_calls.specs.Calls as Calls
use Rattle.names.specs.Calls.{answer_of, NameListCalled, bytes_beside, LengthFits}
use Rattle.calls.specs.declared.handing.Reply.{Reply}
use Rattle.calls.specs.declared.handing.Reply.TheVariants as Reply
use Rattle.calls.specs.declared.handing.CallResult.{CallResult}
use Rattle.calls.specs.declared.naming.NameCallResult.{NameCallResult}
use Rattle.text.specs.Memory.{ControllerMemory}
use Rattle.calls.specs.Memory.{CallLeaves}

-- the plain answer of the last call, with the bytes of a name beside it; none where no call was run
abbrev pub last_reply_of : Std.Option Reply → List ℕ → Option ControllerAnswer
last_reply_of None name = none
last_reply_of (Some (Reply.Store a)) name = some (from_store (Calls.answer_of a))
last_reply_of (Some (Reply.Names a)) name = some (from_names (answer_of a name))

-- the bytes beside a reply: those of a name that it gives the length of, and then 0s
abbrev pub NameBeside : Std.Option Reply → List ℕ → Type 0
NameBeside None name = name ≡ replicate longest_name 0
NameBeside (Some (Reply.Store a)) name = name ≡ replicate longest_name 0
NameBeside (Some (Reply.Names a)) name = (name ≡ bytes_beside (answer_of a name)) × LengthFits a

-- there is a call of the store, and it meets the contract of the public call that it stands for
pub record RunsStoreCall (call : Option ControllerCall) (m : Memory) (r : Performed) (m' : Memory) : Type 0 where
  pub ran : M.Call
  pub is : call ≡ some (asked ran)
  pub leaves : Leaves ran m (Calls.answer_of r.answer) m'

-- a name call meets the contract of the public call that it stands for
pub record RunsNameCall (call : NameCall) (bytes : List ℕ) (count : ℕ) (r : NameCallResult) (bytes' : List ℕ) : Type 0 where
  pub called : NameListCalled bytes count call (answer_of r.answer r.bytes) bytes' r.count
  pub name : NameBeside (Some (Reply.Names r.answer)) r.bytes

-- there is a call, and it leaves what the public call that it stands for does
pub record RunsCall (call : Option ControllerCall) (m : ControllerMemory) (r : CallResult) (m' : ControllerMemory) : Type 0 where
  pub ran : ControllerCall
  pub is : call ≡ some ran
  pub answer : ControllerAnswer
  pub reply : last_reply_of r.reply r.name ≡ some answer
  pub name : NameBeside r.reply r.name
  pub left : CallLeaves ran m answer m'
