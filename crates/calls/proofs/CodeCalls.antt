-- What an encoded call leaves is what its header says.
use Prim.Native.Nat.{ℕ, ◌<◌}
use mathlib.Core.Path.{◌≡◌, refl, sym, ap, ◌∙◌, subst}
use mathlib.Core.Option.{Option, some}
use Rattle.std.specs.Prelude.{Some, None}
use Rattle.std.specs.Prelude as Std
use mathlib.Core.List.{List}
use lib.ListN.{replicate}
use native.Mathlib.Omega.{arith}
use Rattle.arena.specs.declared.DagArena.{DagArena}
use Rattle.definitions.specs.Names.{NameCall, longest_name}
use Rattle.definitions.specs.Controller.{ControllerCall, naming, reading, from_store, from_names, asked}
use Rattle.store.specs.Memory.{Memory, memory, model, Leaves}
use Rattle.store_calls.specs.declared.Call.{Call}
use Rattle.store_calls.specs.declared.answers.Answer.{Answer}
use Rattle.store_calls.specs.declared.answers.Performed.{Performed}
use Rattle.store_calls.specs.Calls as Calls
use Rattle.store_calls.specs.Calls.{call_of}
use Rattle.store_calls.proofs.Same.{leaves_as}
use Rattle.names.specs.Calls.{answer_of}
use Rattle.names.specs.Memory.{name_memory, name_model}
use Rattle.text.specs.declared.making.ReadOutcome.{ReadOutcome}
use Rattle.text.specs.Reading.{ReadsText}
use Rattle.text.specs.Calling as Text
use Rattle.calls.specs.declared.handing.CallResult.{CallResult}
use Rattle.calls.specs.declared.handing.Reply.{Reply}
use Rattle.calls.specs.declared.handing.Reply.TheVariants as Reply
use Rattle.calls.specs.declared.naming.NameCallResult.{NameCallResult}
use Rattle.text.specs.Memory.{ControllerMemory, controller_memory}
use Rattle.definitions.specs.Beside.{beside}
use Rattle.calls.specs.Memory.{CallLeaves, by_store, by_names, by_text}
use Rattle.calls.specs.Calling.{last_reply_of, NameBeside, RunsStoreCall, RunsNameCall, RunsCall}
use Rattle.encoding.specs.declared.headers.Header.{Header}
use Rattle.encoding.specs.declared.codes.CallCode.{CallCode}
use Rattle.encoding.specs.declared.codes.CallCode.TheVariants.{Variable, Constant, Add, Sub, Mul, Div, Pow, Modulo, Neg, Operator, Function, Select, IfElse, ForLoop, Control, Simplify, Prune, PruneBySetting, SimplifyStrictly, Intern, Lookup, NameOf, Read}
use Rattle.encoding.specs.Codes.{code_of}
use Rattle.encoding.specs.Encoding.{first_naming, bytes_of}
use Rattle.encoding.specs.Headers.{header_call, DecodesTo}

-- the code's call performed
pub runs : (call : Option ControllerCall) (c : Call) (m m' : Memory) (r : Performed) → DecodesTo call c → Leaves (call_of c) m (Calls.answer_of r.answer) m' → RunsStoreCall call m r m'
runs call c m m' r d h = record { ran = d.plain; is = d.is; leaves = leaves_as m (call_of c) d.plain (d.same m) (Calls.answer_of r.answer) m' h }

-- a code that is neither a name call's nor a reading's is a store call's
pub of_the_store : (code : CallCode) → (code ≡ Intern → ⊥) → (code ≡ Lookup → ⊥) → (code ≡ NameOf → ⊥) → (code ≡ Read → ⊥) → code_of code < first_naming
of_the_store Variable i l n r = omega arith
of_the_store Constant i l n r = omega arith
of_the_store Add i l n r = omega arith
of_the_store Sub i l n r = omega arith
of_the_store Mul i l n r = omega arith
of_the_store Div i l n r = omega arith
of_the_store Pow i l n r = omega arith
of_the_store Modulo i l n r = omega arith
of_the_store Neg i l n r = omega arith
of_the_store Operator i l n r = omega arith
of_the_store Function i l n r = omega arith
of_the_store Select i l n r = omega arith
of_the_store IfElse i l n r = omega arith
of_the_store ForLoop i l n r = omega arith
of_the_store Control i l n r = omega arith
of_the_store Simplify i l n r = omega arith
of_the_store Prune i l n r = omega arith
of_the_store PruneBySetting i l n r = omega arith
of_the_store SimplifyStrictly i l n r = omega arith
of_the_store Intern i l n r = absurd (i refl)
of_the_store Lookup i l n r = absurd (l refl)
of_the_store NameOf i l n r = absurd (n refl)
of_the_store Read i l n r = absurd (r refl)

-- the call of a header whose code is known
pub header_is : (header : Header) (operands : List ℕ) (code : CallCode) → header.code ≡ code → header_call header operands ≡ header_call (record { code = code; numbers = header.numbers }) operands
header_is header operands code e = ap (λ (c : CallCode). header_call (record { code = c; numbers = header.numbers }) operands) e

-- beside the reply of a store call stand 0s
pub store_beside : (reply : Std.Option Reply) (r : Answer) (name : List ℕ) → reply ≡ Some (Reply.Store r) → name ≡ replicate longest_name 0 → NameBeside reply name
store_beside reply r name e h = subst (λ x. NameBeside x name) (sym e) h

pub nothing_beside : (reply : Std.Option Reply) (name : List ℕ) → reply ≡ None → name ≡ replicate longest_name 0 → NameBeside reply name
nothing_beside reply name e h = subst (λ x. NameBeside x name) (sym e) h

-- the same of the whole memory: what is not lent to a call stays
pub runs_store : (call : Option ControllerCall) (m : Memory) (words slots bytes : List ℕ) (count : ℕ) (r : Performed) (h : CallResult)
    → RunsStoreCall call m r (memory words slots r.arena) → h.reply ≡ Some (Reply.Store r.answer) → h.name ≡ replicate longest_name 0 → h.arena ≡ r.arena → h.names ≡ count
    → RunsCall call (beside model name_model m (name_memory bytes count)) h (controller_memory words slots h.arena bytes h.names)
runs_store call m words slots bytes count r h f same zeros kept many = record {
  ran = asked f.ran;
  is = f.is;
  answer = from_store (Calls.answer_of r.answer);
  reply = ap (λ x. last_reply_of x h.name) same;
  name = store_beside h.reply r.answer h.name same zeros;
  left = subst (λ (n : ℕ). CallLeaves (asked f.ran) (beside model name_model m (name_memory bytes count)) (from_store (Calls.answer_of r.answer)) (controller_memory words slots h.arena bytes n)) (sym many)
      (by_store (subst (λ y. Leaves f.ran m (Calls.answer_of r.answer) (memory words slots y)) (sym kept) f.leaves));
}

pub runs_naming : (call : Option ControllerCall) (ran : NameCall) (m : Memory) (words slots bytes bytes' : List ℕ) (arena : DagArena) (count : ℕ) (r : NameCallResult) (h : CallResult)
    → call ≡ some (naming ran) → m ≡ memory words slots arena → RunsNameCall ran bytes count r bytes'
    → h.reply ≡ Some (Reply.Names r.answer) → h.name ≡ r.bytes → h.arena ≡ arena → h.names ≡ r.count
    → RunsCall call (beside model name_model m (name_memory bytes count)) h (controller_memory words slots h.arena bytes' h.names)
runs_naming call ran m words slots bytes bytes' arena count r h is at f same named kept many = record {
  ran = naming ran;
  is = is;
  answer = from_names (answer_of r.answer r.bytes);
  reply = λ i. last_reply_of (same i) (named i);
  name = subst (λ x. NameBeside x h.name) (sym same) (subst (NameBeside (Some (Reply.Names r.answer))) (sym named) f.name);
  left = subst (λ s. CallLeaves (naming ran) (beside model name_model m (name_memory bytes count)) (from_names (answer_of r.answer r.bytes)) (beside model name_model s (name_memory bytes' h.names)))
      (at ∙ ap (memory words slots) (sym kept))
      (subst (λ (n : ℕ). CallLeaves (naming ran) (beside model name_model m (name_memory bytes count)) (from_names (answer_of r.answer r.bytes)) (beside model name_model m (name_memory bytes' n))) (sym many) (by_names f.called));
}

-- a reading, by what it was lent
pub runs_reading : (call : Option ControllerCall) (operands : List ℕ) (d : ControllerMemory) (words slots bytes : List ℕ) (r : ReadOutcome) (h : CallResult)
    → call ≡ some (reading (bytes_of operands)) → ReadsText (bytes_of operands) d r.answer (controller_memory words slots r.arena bytes r.names)
    → last_reply_of h.reply h.name ≡ some (Text.answered r.answer) → NameBeside h.reply h.name → h.arena ≡ r.arena → h.names ≡ r.names
    → RunsCall call d h (controller_memory words slots h.arena bytes h.names)
runs_reading call operands d words slots bytes r h is t same name kept many = record {
  ran = reading (bytes_of operands);
  is = is;
  answer = Text.answered r.answer;
  reply = same;
  name = name;
  left = subst (λ x. CallLeaves (reading (bytes_of operands)) d (Text.answered r.answer) (controller_memory words slots x bytes h.names)) (sym kept)
      (subst (λ (n : ℕ). CallLeaves (reading (bytes_of operands)) d (Text.answered r.answer) (controller_memory words slots r.arena bytes n)) (sym many) (by_text t));
}
