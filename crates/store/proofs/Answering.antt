-- Interning's answers, as a store that holds its lists gives them.
use Rattle.std.proofs.Common.{ℕ, ◌≡◌, ◌≤◌, arith, List, Result}
use Rattle.refusal.specs.declared.Refusal.{Refusal}
use Rattle.refusal.specs.declared.Refusal.TheVariants.{BadInput, BadRecord, TooManyRecords, BadOperand, BadCode, BadChildCount, BadThreshold, BadSetting, BadNameLength, NotANumber, OutsideLanguage, NestedTooDeep, NoText, TextTooLong, NotSound, NoNodePlace, NoSlotPlace, TooManyTerms, NoNamePlace}
use Rattle.refusal.specs.Number.{number_of}
use Rattle.definitions.specs.Node as N
use Rattle.store.specs.Interning.{Interns}
use Rattle.store.specs.Sound.{Sound}
use Rattle.store.specs.Memory.{Memory}
use Rattle.store.specs.Held.{FitsParts, plain_parts, node_answer, built_in}
use Rattle.store.specs.Number.{answer_in}
use Rattle.store.specs.Number as S
use Rattle.arena.specs.declared.key.Parts.{Parts}
use Rattle.arena.specs.Key.{node_of_parts}
use Rattle.store.proofs.NewNodes.{new_formed, new_plain, new_places}
use Rattle.store.proofs.Refining.{seen}
use Rattle.store.proofs.Numbers.{interns_number}
use Rattle.dedup.specs.Intern.{Inserts, Interned}
use Rattle.std.proofs.Common.{length}

pub number_low : (r : Refusal) → number_of r ≤ 24
number_low BadInput = omega arith
number_low BadRecord = omega arith
number_low TooManyRecords = omega arith
number_low BadOperand = omega arith
number_low BadCode = omega arith
number_low BadChildCount = omega arith
number_low BadThreshold = omega arith
number_low BadSetting = omega arith
number_low BadNameLength = omega arith
number_low NotANumber = omega arith
number_low OutsideLanguage = omega arith
number_low NestedTooDeep = omega arith
number_low NoText = omega arith
number_low TextTooLong = omega arith
number_low NotSound = omega arith
number_low NoNodePlace = omega arith
number_low NoSlotPlace = omega arith
number_low TooManyTerms = omega arith
number_low NoNamePlace = omega arith

-- the table's answer for parts, as the store's
pub interned : (m : Memory) (p : Parts) → FitsParts m.arena.count p → Sound m.words m.slots m.arena
    → (t : Interned) (w' slots' : List ℕ) → Inserts m.words m.slots m.arena (node_of_parts p) t w' slots'
    → length w' ≡ length m.words → length slots' ≡ length m.slots → (a : Result ℕ Refusal) → t.answer ≡ a
    → Interns m.words m.slots m.arena (plain_parts p) w' slots' (record { answer = node_answer a; arena = t.arena })
interned m p f h t w' slots' i lw ls a e =
    rw (← new_plain _ _ _ _ _ f) (seen _ _ _ _ (new_places _ _ _ _ _ f) (new_formed _ _ _ _ _ f) h t w' slots' i lw ls a e)

-- an answer by its number
pub numbered : (m : Memory) (n : N.Node) (r : Result ℕ Refusal) (m' : Memory) → Interns m.words m.slots m.arena n m'.words m'.slots (built_in r m') → (number : ℕ) → number ≡ S.number_of (node_answer r)
    → Interns m.words m.slots m.arena n m'.words m'.slots (record { answer = answer_in number; arena = m'.arena })
numbered m n r m' i number e = rw e (interns_number _ _ _ _ _ _ _ _ i)
