-- From the contract of a reading to what it says in numbers.
use Prim.Native.Nat.{ℕ, zero, suc}
use mathlib.Core.Path.{◌≡◌, refl, sym, ap, ◌∙◌, subst}
use mathlib.Core.List.{List}
use native.Mathlib.Omega.{arith}
use Rattle.arena.specs.declared.DagArena.{DagArena}
use Rattle.definitions.specs.Machine as M
use Rattle.definitions.specs.Making.{Controller, Made}
use Rattle.definitions.specs.Controller as Controller
use Rattle.definitions.specs.Controller.{from_made}
use Rattle.definitions.specs.Promise.{StopsReading, no_name, no_node, no_slots}
use Rattle.definitions.proofs.ReadingStops.{reading_stops}
use Rattle.store.specs.declared.NodeAnswer.{NodeAnswer}
use Rattle.store.specs.declared.NodeAnswer.TheVariants.{Id, Refused}
use Rattle.store.specs.Memory.{answer_of}
use Rattle.text_language.specs.Reading.{Refuses, empty, long, outside, deep, nan}
use Rattle.text.specs.Memory.{ControllerMemory, controller_memory, controller_of, lent_of, BothSound}
use Rattle.text.specs.Making.{outcome}
use Rattle.text.specs.Reading.{ReadsText, ReadingCases, unsound, refused, read}
use Rattle.text.proofs.Cases.{equation_gives_case}
use Rattle.outputs.specs.Calls.{arena_of, OutputsStay, LeftBehind}
use Rattle.curvalique.specs.TextCalls.{id_unless_refused}

-- an id, or a refusal with a number from 1 on
abbrev Numbered : NodeAnswer → Type 0
Numbered (Id i) = Unit {0}
Numbered (Refused number) = number ≡ 0 → ⊥

text_numbered : {s : List ℕ} {k : ℕ} → Refuses s k → k ≡ 0 → ⊥
text_numbered (empty e) z = omega arith
text_numbered (long e) z = omega arith
text_numbered (outside e n) z = omega arith
text_numbered (deep e t l) z = omega arith
text_numbered (nan e t l n) z = omega arith

stop_numbered : {k : ℕ} → StopsReading k → k ≡ 0 → ⊥
stop_numbered no_name z = omega arith
stop_numbered no_node z = omega arith
stop_numbered no_slots z = omega arith

-- an answer that is the plain machine's, which stops by these numbers alone
made_numbered : (a : NodeAnswer) (s : Controller) (plain : Made) → outcome a s ≡ plain
    → ((number : ℕ) → (from_made plain).answer ≡ Controller.refused number → StopsReading number) → Numbered a
made_numbered (Id i) s plain e stops = tt
made_numbered (Refused number) s plain e stops = stop_numbered (stops number (sym (ap (λ (x : Made). (from_made x).answer) e)))

case_numbered : {s : List ℕ} {d d' : ControllerMemory} {a : NodeAnswer} → ReadingCases s d a d' → Numbered a
case_numbered (unsound n) = λ z. omega arith
case_numbered (refused h r) = text_numbered r
case_numbered {s} {d} {d'} {a} (read {e} h t m) =
    made_numbered a (controller_of d') _ m.is (λ number. reading_stops (lent_of d) s e (controller_of d) number t)

numbered_stable : (a : NodeAnswer) → ((Numbered a → ⊥) → ⊥) → Numbered a
numbered_stable (Id i) h = tt
numbered_stable (Refused number) h = λ z. h (λ f. f z)

reads_numbered : (s : List ℕ) (d d' : ControllerMemory) (a : NodeAnswer) → ReadsText s d a d' → Numbered a
reads_numbered s d d' a r =
    let by : Dec (BothSound d) → Numbered a = λ x. case_numbered (equation_gives_case s d d' a r x) in
    numbered_stable a (λ none. none (by (no (λ h. none (by (yes h))))))

-- what stands behind the pointer is the answer's id
abbrev stored_id : M.Answer → ℕ
stored_id (M.stored i) = i
stored_id (M.simplified i spent steps) = i
stored_id (M.pruned i kept dropped) = i
stored_id (M.refused number) = 0

same_answer : (a : NodeAnswer) (r id : ℕ) (before after : List ℕ) → Numbered a → LeftBehind (answer_of a) r (M.stored id) before after
    → (id_unless_refused r id ≡ a) × OutputsStay r before after
same_answer (Id i) r id before after n l =
    let z = l.number in
    (ap (λ (k : ℕ). id_unless_refused k id) z ∙ ap Id (ap stored_id (l.answered refl)), λ p. absurd (omega arith))
same_answer (Refused zero) r id before after n l = absurd (n refl)
same_answer (Refused (suc number)) r id before after n l = (ap (λ (k : ℕ). id_unless_refused k id) l.number, λ p. l.refused refl)

-- a reading in numbers
pub read_in_numbers : (s : List ℕ) (d : ControllerMemory) (words slots : List ℕ) (arena : DagArena) (entries : List ℕ) (names count size : ℕ) (a : NodeAnswer) (r id : ℕ) (before after : List ℕ)
    → ReadsText s d a (controller_memory words slots arena entries names) → arena_of count size ≡ arena → LeftBehind (answer_of a) r (M.stored id) before after
    → ReadsText s d (id_unless_refused r id) (controller_memory words slots (arena_of count size) entries names) × OutputsStay r before after
read_in_numbers s d words slots arena entries names count size a r id before after h e l =
    let same = same_answer a r id before after (reads_numbered s d (controller_memory words slots arena entries names) a h) l in (
      subst (λ (x : DagArena). ReadsText s d (id_unless_refused r id) (controller_memory words slots x entries names)) (sym e)
          (subst (λ (x : NodeAnswer). ReadsText s d x (controller_memory words slots arena entries names)) (sym same.0) h),
      same.1,
    )
