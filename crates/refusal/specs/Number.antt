-- the number of each reason for a refusal
use Rattle.std.specs.Prelude.{ℕ, ◌≡◌, ◌⊎◌, Result, Ok, Err}
use Rattle.refusal.specs.declared.Refusal.{Refusal}
use Rattle.refusal.specs.declared.Refusal.TheVariants.{BadInput, BadRecord, TooManyRecords, BadOperand, BadCode, BadChildCount, BadThreshold, BadSetting, BadNameLength, NotANumber, OutsideLanguage, NestedTooDeep, NoText, TextTooLong, NotSound, NoNodePlace, NoSlotPlace, TooManyTerms, NoNamePlace}

abbrev pub number_of : Refusal → ℕ
number_of BadInput = 1
number_of BadRecord = 2
number_of TooManyRecords = 3
number_of BadOperand = 4
number_of BadCode = 5
number_of BadChildCount = 6
number_of BadThreshold = 7
number_of BadSetting = 8
number_of BadNameLength = 9
number_of NotANumber = 10
number_of OutsideLanguage = 11
number_of NestedTooDeep = 12
number_of NoText = 13
number_of TextTooLong = 14
number_of NotSound = 20
number_of NoNodePlace = 21
number_of NoSlotPlace = 22
number_of TooManyTerms = 23
number_of NoNamePlace = 24

-- an answer with the number of its refusal
abbrev pub by_number : {A : Type 0} → Result A Refusal → Result A ℕ
by_number (Ok x) = Ok x
by_number (Err refusal) = Err (number_of refusal)

-- the numbers of the two refusals of a new node: no place for it, or too few slots
abbrev pub NumbersPlace : ℕ → Type 0
NumbersPlace number = (number ≡ 21) ⊎ (number ≡ 22)
