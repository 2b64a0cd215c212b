-- What a name call on a lent list answers and leaves: one equation, by the plain registry, or 20.
use Rattle.std.specs.Prelude.{ℕ, ◌-◌, ◌*◌, ◌≤◌, ◌<◌, ◌≡◌, List, ◌++◌, length, take, drop, replicate, Option, Some, None}
use Rattle.definitions.specs.Refusals.{not_sound}
use Rattle.definitions.specs.Names.{NameCall, name_of, NameAnswer, numbered, unknown, named, refused, NameResult, name_call, shortest_name, longest_name, entry_bytes}
use Rattle.names.specs.declared.NameReply.{NameReply}
use Rattle.names.specs.declared.NameReply.TheVariants.{Numbered, Unknown, Named, Refused}
use Rattle.names.specs.declared.NameBytes.{NameBytes}
use Rattle.name_entries.specs.Entry.{entry_at}
use Rattle.name_entries.specs.Sound.{SoundNames, names_of, lent_entries}
use Rattle.names.specs.Memory.{NameMemory, name_memory, name_model, names_after, NamesLeft, names_left}

-- what an answer says, with the bytes beside it
abbrev pub answer_of : NameReply → List ℕ → NameAnswer
answer_of (Numbered n) out = numbered n
answer_of Unknown out = unknown
answer_of (Named n) out = named (take n out)
answer_of (Refused r) out = refused r

-- "Names of 1 to 32 bytes"
pub record Allowed (size : ℕ) : Type 0 where
  pub shortest : shortest_name ≤ size
  pub longest : size ≤ longest_name

-- the first entry that is the key, or none of them
pub record FoundAt (bytes : List ℕ) (count : ℕ) (key : List ℕ) (i : ℕ) : Type 0 where
  pub below : i < count
  pub same : entry_at bytes i ≡ key
  pub first : (j : ℕ) → j < i → entry_at bytes j ≡ key → ⊥

abbrev pub FindsEntry : List ℕ → ℕ → List ℕ → Option ℕ → Type 0
FindsEntry bytes count key (Some i) = FoundAt bytes count key i
FindsEntry bytes count key None = (j : ℕ) → j < count → entry_at bytes j ≡ key → ⊥

-- what the plain registry does with a call on the names of a list
abbrev pub plainly : List ℕ → ℕ → NameCall → NameResult
plainly bytes count call = name_call (lent_entries bytes) (names_of bytes count) call

-- What a name call leaves: 20 and the same memory where the list is not sound, else the plain registry's answer and the memory that its
-- names give.
abbrev pub names_left_by : (c : NameCall) (m : NameMemory) → Dec (name_model.Sound m) → NamesLeft
names_left_by c m (yes h) = names_left (plainly m.bytes m.count c).answer (names_after m (plainly m.bytes m.count c).names)
names_left_by c m (no n) = names_left (refused not_sound) m

-- What each name call says of the bytes and the count before it, its answer, and the bytes and the count after it: one equation.
pub record NameListCalled (bytes : List ℕ) (count : ℕ) (call : NameCall) (answer : NameAnswer) (bytes' : List ℕ) (count' : ℕ) : Type 0 where
  pub equation : (d : Dec (SoundNames bytes count)) → names_left answer (name_memory bytes' count') ≡ names_left_by call (name_memory bytes count) d

-- the 32 bytes beside an answer: a name's bytes, and then 0s
abbrev pub bytes_beside : NameAnswer → List ℕ
bytes_beside (numbered n) = replicate longest_name 0
bytes_beside unknown = replicate longest_name 0
bytes_beside (named name) = name ++ replicate (longest_name - length name) 0
bytes_beside (refused r) = replicate longest_name 0

-- a name's length is at most that of the bytes beside it
abbrev pub LengthFits : NameReply → Type 0
LengthFits (Numbered n) = Unit {0}
LengthFits Unknown = Unit {0}
LengthFits (Named n) = n ≤ longest_name
LengthFits (Refused r) = Unit {0}

-- an answer of the plain registry as the code gives it: a name by its length, with the bytes beside it
abbrev pub given_as : NameAnswer → NameReply
given_as (numbered n) = Numbered n
given_as unknown = Unknown
given_as (named name) = Named (length name)
given_as (refused r) = Refused r

abbrev pub name_bytes_of : NameAnswer → NameBytes
name_bytes_of a = record { answer = given_as a; bytes = bytes_beside a }

-- a call for a name, which is lent no byte to write: one equation for its answer and the bytes beside it
pub record NameCalled (bytes : List ℕ) (count number : ℕ) (r : NameBytes) : Type 0 where
  pub equation : (d : Dec (SoundNames bytes count)) → r ≡ name_bytes_of (names_left_by (name_of number) (name_memory bytes count) d).answer

-- ---- clause by clause, which follows

-- a list that is not sound is refused with 20. A call on a sound one answers as the plain registry does, and leaves a sound list of its
-- names. Bytes past the used entries stay, and a refusal changes no byte.
pub record CallClauses (bytes : List ℕ) (count : ℕ) (call : NameCall) (answer : NameAnswer) (bytes' : List ℕ) (count' : ℕ) : Type 0 where
  pub unsound : (SoundNames bytes count → ⊥) → answer ≡ refused not_sound
  pub answered : SoundNames bytes count → answer ≡ (plainly bytes count call).answer
  pub names : SoundNames bytes count → names_of bytes' count' ≡ (plainly bytes count call).names
  pub sound : SoundNames bytes count → SoundNames bytes' count'
  pub same_lent : lent_entries bytes' ≡ lent_entries bytes
  pub past : drop (count' * entry_bytes) bytes' ≡ drop (count' * entry_bytes) bytes
  pub refusal : (r : ℕ) → answer ≡ refused r → (bytes' ≡ bytes) × (count' ≡ count)

-- a call for a name leaves the list, and 32 bytes stand beside its answer
pub record NameClauses (bytes : List ℕ) (count number : ℕ) (r : NameBytes) : Type 0 where
  pub called : NameListCalled bytes count (name_of number) (answer_of r.answer r.bytes) bytes count
  pub beside : r.bytes ≡ bytes_beside (answer_of r.answer r.bytes)
  pub fits : LengthFits r.answer

-- each call's equation gives its clauses, and they give the equation
abbrev pub EquationGivesClauses : Type 0
EquationGivesClauses = (bytes : List ℕ) (count : ℕ) (c : NameCall) (a : NameAnswer) (bytes' : List ℕ) (count' : ℕ)
    → NameListCalled bytes count c a bytes' count' → CallClauses bytes count c a bytes' count'

abbrev pub ClausesGiveEquation : Type 0
ClausesGiveEquation = (bytes : List ℕ) (count : ℕ) (c : NameCall) (a : NameAnswer) (bytes' : List ℕ) (count' : ℕ)
    → CallClauses bytes count c a bytes' count' → NameListCalled bytes count c a bytes' count'

abbrev pub NameEquationGivesClauses : Type 0
NameEquationGivesClauses = (bytes : List ℕ) (count number : ℕ) (r : NameBytes)
    → NameCalled bytes count number r → NameClauses bytes count number r

-- one name call on one memory, sound or not, has one answer and leaves one memory
abbrev pub NamesOneWay : Type 0
NamesOneWay = (c : NameCall) (m m' m'' : NameMemory) (a b : NameAnswer) → NameListCalled m.bytes m.count c a m'.bytes m'.count
    → NameListCalled m.bytes m.count c b m''.bytes m''.count → (a ≡ b) × (m' ≡ m'')
