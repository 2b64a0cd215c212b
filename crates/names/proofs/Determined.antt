-- A sound list's bytes are those of its names' entries: what name calls leave is one list of bytes.
use Prim.Native.Nat.{ℕ, zero, suc, ◌+◌, ◌*◌, ◌≤◌}
use mathlib.Core.Path.{◌≡◌, refl, sym, ap, ap₂, ◌∙◌}
use mathlib.Core.Bool.{cond}
use mathlib.Core.List.{List, [], ◌∷◌, ◌++◌, append_assoc, append-nil, List-discrete}
use lib.ListN.{length, get_or, take, drop, take-append-drop}
use lib.Seq.{take-add}
use lib.Dec.{eqb}
use native.Mathlib.Decide.{ℕ_discrete}
use native.Mathlib.Omega.{arith}
use Rattle.definitions.specs.Refusals.{not_sound}
use Rattle.definitions.specs.Names.{NameCall, NameAnswer, numbered, unknown, named, refused, entry_bytes}
use Rattle.name_entries.specs.Entry.{entry_at, entry_of}
use Rattle.name_entries.specs.Sound.{SoundNames, names_of, name_at}
use Rattle.names.specs.Calls.{names_left_by, NameListCalled, CallClauses, ClausesGiveEquation, NamesOneWay}
use Rattle.names.specs.Memory.{NameMemory, name_memory, names_bytes, names_after, NamesLeft, names_left}
use Rattle.name_entries.proofs.Entries.{entry_length, sound_entry}
use Rattle.names.proofs.Listing.{names_length}

-- ---- a sound list's bytes

bytes_append : (names : List (List ℕ)) (name : List ℕ) → names_bytes (names ++ name ∷ []) ≡ names_bytes names ++ entry_of name
unfolding names_bytes
bytes_append [] name = append-nil (entry_of name)
bytes_append (n ∷ names) name = ap (λ (l : List ℕ). entry_of n ++ l) (bytes_append names name) ∙ sym (append_assoc (entry_of n) (names_bytes names) (entry_of name))

-- the bytes in use
module _ (bytes : List ℕ) (count : ℕ) (s : SoundNames bytes count) where
  used : (n : ℕ) → n ≤ count → take (n * entry_bytes) bytes ≡ names_bytes (names_of bytes n)
  unfolding names_bytes names_of
  used zero l = refl
  used (suc n) l =
      let m = s.lent in
      let more : suc n * entry_bytes ≡ n * entry_bytes + entry_bytes = omega arith in
      ap (λ (k : ℕ). take k bytes) more
      ∙ take-add (n * entry_bytes) entry_bytes bytes
      ∙ ap₂ (λ (a b : List ℕ). a ++ b) (used n (omega arith)) (sym (sound_entry (entry_at bytes n) (entry_length bytes n (omega arith)) (s.entries n (omega arith))))
      ∙ sym (bytes_append (names_of bytes n) (name_at bytes n))

  bytes_are : bytes ≡ names_bytes (names_of bytes count) ++ drop (count * entry_bytes) bytes
  bytes_are = sym (take-append-drop (count * entry_bytes) bytes) ∙ ap (λ (l : List ℕ). l ++ drop (count * entry_bytes) bytes) (used count (omega arith))

-- a sound memory is the one that its names give over any with its bytes past those in use
pub names_are : (m m' : NameMemory) → SoundNames m'.bytes m'.count → drop (m'.count * entry_bytes) m'.bytes ≡ drop (m'.count * entry_bytes) m.bytes
    → m' ≡ names_after m (names_of m'.bytes m'.count)
names_are m m' s past =
    let names = names_of m'.bytes m'.count in
    let count : m'.count ≡ length names = sym (names_length m'.bytes m'.count) in
    let bytes : m'.bytes ≡ names_bytes names ++ drop (length names * entry_bytes) m.bytes
    = bytes_are m'.bytes m'.count s ∙ ap (λ (rest : List ℕ). names_bytes names ++ rest) (past ∙ ap (λ (n : ℕ). drop (n * entry_bytes) m.bytes) count) in
    λ i. name_memory (bytes i) (count i)

-- ---- the equation

module _ (bytes : List ℕ) (count : ℕ) (c : NameCall) (a : NameAnswer) (bytes' : List ℕ) (count' : ℕ) (k : CallClauses bytes count c a bytes' count') where
  left_by : (d : Dec (SoundNames bytes count)) → names_left a (name_memory bytes' count') ≡ names_left_by c (name_memory bytes count) d
  left_by (yes h) = ap₂ names_left (k.answered h) (names_are (name_memory bytes count) (name_memory bytes' count') (k.sound h) k.past ∙ ap (names_after (name_memory bytes count)) (k.names h))
  left_by (no n) =
      let answer = k.unsound n in
      let same = k.refusal not_sound answer in
      λ i. names_left (answer i) (name_memory (same.0 i) (same.1 i))

pub clauses_give_equation : ClausesGiveEquation
clauses_give_equation bytes count c a bytes' count' k = record { equation = left_by bytes count c a bytes' count' k }

-- ---- one way, sound or not

-- what holds of a sound list and of any other holds, if it can be decided
pub either : {P A : Type 0} (a b : A) → Dec (a ≡ b) → (P → a ≡ b) → ((P → ⊥) → a ≡ b) → a ≡ b
either a b (yes e) f g = e
either a b (no n) f g = g (λ p. n (f p))

-- an answer as a list of numbers, and back
answer_numbers : NameAnswer → List ℕ
answer_numbers (numbered n) = 0 ∷ n ∷ []
answer_numbers unknown = 1 ∷ []
answer_numbers (named name) = 2 ∷ name
answer_numbers (refused r) = 3 ∷ r ∷ []

answer_from : List ℕ → NameAnswer
answer_from [] = unknown
answer_from (k ∷ l) = cond (eqb k 0) (numbered (get_or l 0 0)) (cond (eqb k 1) unknown (cond (eqb k 2) (named l) (refused (get_or l 0 0))))

back : (a : NameAnswer) → answer_from (answer_numbers a) ≡ a
unfolding answer_from answer_numbers
back (numbered n) = refl
back unknown = refl
back (named name) = refl
back (refused r) = refl

module _ (c : NameCall) (m m' m'' : NameMemory) (a b : NameAnswer) (k : NameListCalled m.bytes m.count c a m'.bytes m'.count) (l : NameListCalled m.bytes m.count c b m''.bytes m''.count) where
  same : Dec (SoundNames m.bytes m.count) → names_left a m' ≡ names_left b m''
  same d = k.equation d ∙ sym (l.equation d)

  -- a list of numbers that is read off both
  both : (read : NamesLeft → List ℕ) → read (names_left a m') ≡ read (names_left b m'')
  both read = either (read (names_left a m')) (read (names_left b m'')) (List-discrete ℕ_discrete _ _) (λ h. ap read (same (yes h))) (λ n. ap read (same (no n)))

  one_way : (a ≡ b) × (m' ≡ m'')
  one_way =
      let answers = both (λ x. answer_numbers x.answer) in
      let bytes = both (λ x. x.memory.bytes) in
      let counts = ap (λ (l : List ℕ). get_or l 0 0) (both (λ x. x.memory.count ∷ [])) in
      (sym (back a) ∙ ap answer_from answers ∙ back b, λ i. name_memory (bytes i) (counts i))

pub names_one_way : NamesOneWay
names_one_way c m m' m'' a b k l = one_way c m m' m'' a b k l
