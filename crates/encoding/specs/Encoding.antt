-- A list of calls as 32-bit words: a header of six words (code, a, b, high, low, number of operands), then the operands.
use Rattle.std.specs.Prelude.{ℕ, zero, suc, ◌+◌, ◌-◌, ◌*◌, ◌/◌, ◌%◌, ◌<◌, ◌≡◌, Bool, cond, List, [], ◌∷◌, ◌++◌, map, length, get_or, take, drop, leb, eqb}
use Rattle.std.proofs.Math.Option.{Option, none, some}
use Rattle.definitions.specs.Machine.{Store, variable, constant, add, sub, mul, div, pow, modulo, neg, operator, function, select, if_else, for_loop, control}
use Rattle.definitions.specs.Names.{NameCall, intern_name, lookup_name, name_of}
use Rattle.definitions.specs.Walk.{standard, strict}
use Rattle.definitions.specs.Controller.{ControllerCall, building, simplifying, pruning, pruning_by_setting, naming, reading}
use Rattle.definitions.specs.Promise.{All}

abbrev pub header_words : ℕ
header_words = 6

-- how many values a word of 32 bits has
abbrev pub word_values : ℕ
word_values = 4294967296

-- a number of 64 bits by its halves
abbrev pub wide : ℕ → ℕ → ℕ
wide high low = high * word_values + low

-- an operand's lowest byte: the operands of a name call are the bytes of a name, those of a reading the bytes of a text
abbrev pub lowest_byte : ℕ → ℕ
lowest_byte word = word % 256

abbrev pub bytes_of : List ℕ → List ℕ
bytes_of operands = map lowest_byte operands

-- the first code of a call over a list of operands, the first of a simplify or prune (strict walks too), the first of a name call, that of
-- a reading, and the last
abbrev pub first_with_operands : ℕ
first_with_operands = 9

abbrev pub first_rewriting : ℕ
first_rewriting = 15

abbrev pub first_naming : ℕ
first_naming = 19

abbrev pub first_reading : ℕ
first_reading = 22

abbrev pub last_code : ℕ
last_code = 22

-- the call of a code: 0 to 14 the store calls in the order of their list, 15 simplify, 16 prune, 17 prune by setting, 18 a strict
-- simplify, 19 a name interned, 20 a name looked up, 21 the name of a number, 22 a text read
unfoldable pub call_of_code : ℕ → ℕ → ℕ → ℕ → ℕ → List ℕ → Option ControllerCall
call_of_code code a b high low operands =
    cond (eqb code 0) (some (building (variable a)))
    (cond (eqb code 1) (some (building (constant (wide high low))))
    (cond (eqb code 2) (some (building (add a b)))
    (cond (eqb code 3) (some (building (sub a b)))
    (cond (eqb code 4) (some (building (mul a b)))
    (cond (eqb code 5) (some (building (div a b)))
    (cond (eqb code 6) (some (building (pow a b)))
    (cond (eqb code 7) (some (building (modulo a b)))
    (cond (eqb code 8) (some (building (neg a)))
    (cond (eqb code 9) (some (building (operator a b operands)))
    (cond (eqb code 10) (some (building (function a operands)))
    (cond (eqb code 11) (some (building (select a b high)))
    (cond (eqb code 12) (some (building (if_else a b high)))
    (cond (eqb code 13) (some (building (for_loop a b high low)))
    (cond (eqb code 14) (some (building (control a operands)))
    (cond (eqb code 15) (some (simplifying standard a b (wide high low)))
    (cond (eqb code 16) (some (pruning a (wide high low)))
    (cond (eqb code 17) (some (pruning_by_setting a b))
    (cond (eqb code 18) (some (simplifying strict a b (wide high low)))
    (cond (eqb code 19) (some (naming (intern_name (bytes_of operands))))
    (cond (eqb code 20) (some (naming (lookup_name (bytes_of operands))))
    (cond (eqb code 21) (some (naming (name_of a)))
    (cond (eqb code 22) (some (reading (bytes_of operands))) none))))))))))))))))))))))

-- whether a code has a call
abbrev pub known : ℕ → Bool
known code = leb code last_code

-- a call and the words after it
abbrev pub with_rest : Option ControllerCall → List ℕ → Option (ControllerCall × List ℕ)
with_rest none ws = none
with_rest (some c) ws = some (c, ws)

-- the first call of the words and the words after it; none where no whole call with a known code stands
unfoldable pub first_call : List ℕ → Option (ControllerCall × List ℕ)
unfolding call_of_code
first_call ws =
    let n = get_or ws 5 0 in
    cond (leb header_words (length ws))
    (cond (leb n (length ws - header_words))
    (with_rest (call_of_code (get_or ws 0 0) (get_or ws 1 0) (get_or ws 2 0) (get_or ws 3 0) (get_or ws 4 0) (take n (drop header_words ws)))
    (drop (header_words + n) ws))
    none)
    none

-- calls, and the words past the last of them
pub record Decoded : Type 0 where
  pub calls : List ControllerCall
  pub unread : List ℕ

abbrev pub decoded : List ControllerCall → List ℕ → Decoded
decoded cs ws = record { calls = cs; unread = ws }

abbrev pub with_first : ControllerCall → Decoded → Decoded
with_first c d = decoded (c ∷ d.calls) d.unread

-- the calls of the words, as far as whole calls with known codes stand; each takes a word at least
unfoldable pub decode_from : ℕ → List ℕ → Decoded
unfolding first_call
decode_from zero ws = decoded [] ws
decode_from (suc f) ws = elim (first_call ws) [ none ↦ decoded [] ws | some cr ↦ with_first cr.0 (decode_from f cr.1) ]

unfoldable pub decode : List ℕ → List ControllerCall
unfolding decode_from
decode ws = (decode_from (length ws) ws).calls

-- the words past those calls: they begin with no whole call with a known code
unfoldable pub unread : List ℕ → List ℕ
unfolding decode_from
unread ws = (decode_from (length ws) ws).unread

-- how many words those calls take
unfoldable pub read_words : List ℕ → ℕ
unfolding unread
read_words ws = length ws - length (unread ws)

-- ---- words for every list of calls

abbrev pub words_of : ℕ → ℕ → ℕ → ℕ → ℕ → List ℕ → List ℕ
words_of code a b high low operands = code ∷ a ∷ b ∷ high ∷ low ∷ length operands ∷ operands

abbrev pub encode_store : Store → List ℕ
encode_store (variable s) = words_of 0 s 0 0 0 []
encode_store (constant n) = words_of 1 0 0 (n / word_values) (n % word_values) []
encode_store (add a b) = words_of 2 a b 0 0 []
encode_store (sub a b) = words_of 3 a b 0 0 []
encode_store (mul a b) = words_of 4 a b 0 0 []
encode_store (div a b) = words_of 5 a b 0 0 []
encode_store (pow a b) = words_of 6 a b 0 0 []
encode_store (modulo a b) = words_of 7 a b 0 0 []
encode_store (neg a) = words_of 8 a 0 0 0 []
encode_store (operator o f c) = words_of 9 o f 0 0 c
encode_store (function f c) = words_of 10 f 0 0 0 c
encode_store (select a b c) = words_of 11 a b c 0 []
encode_store (if_else a b c) = words_of 12 a b c 0 []
encode_store (for_loop a b c d) = words_of 13 a b c d []
encode_store (control o c) = words_of 14 o 0 0 0 c

abbrev pub encode_name : NameCall → List ℕ
encode_name (intern_name name) = words_of 19 0 0 0 0 name
encode_name (lookup_name name) = words_of 20 0 0 0 0 name
encode_name (name_of number) = words_of 21 number 0 0 0 []

abbrev pub encode_call : ControllerCall → List ℕ
encode_call (building c) = encode_store c
encode_call (simplifying standard i depth n) = words_of 15 i depth (n / word_values) (n % word_values) []
encode_call (simplifying strict i depth n) = words_of 18 i depth (n / word_values) (n % word_values) []
encode_call (pruning i n) = words_of 16 i 0 (n / word_values) (n % word_values) []
encode_call (pruning_by_setting i n) = words_of 17 i n 0 0 []
encode_call (naming c) = encode_name c
encode_call (reading text) = words_of 22 0 0 0 0 text

abbrev pub encode : List ControllerCall → List ℕ
encode [] = []
encode (c ∷ cs) = encode_call c ++ encode cs

-- a word of 32 bits, and a number of 64
abbrev pub Word : ℕ → Type 0
Word n = n < word_values

abbrev pub WideWord : ℕ → Type 0
WideWord n = n < word_values * word_values

abbrev pub OperandsWithin : List ℕ → Type 0
OperandsWithin c = Word (length c) × All Word c

-- the arguments of a call within the widths that its parameters have
abbrev pub StoreWithin : Store → Type 0
StoreWithin (variable s) = Word s
StoreWithin (constant n) = WideWord n
StoreWithin (add a b) = Word a × Word b
StoreWithin (sub a b) = Word a × Word b
StoreWithin (mul a b) = Word a × Word b
StoreWithin (div a b) = Word a × Word b
StoreWithin (pow a b) = Word a × Word b
StoreWithin (modulo a b) = Word a × Word b
StoreWithin (neg a) = Word a
StoreWithin (operator o f c) = Word o × Word f × OperandsWithin c
StoreWithin (function f c) = Word f × OperandsWithin c
StoreWithin (select a b c) = Word a × Word b × Word c
StoreWithin (if_else a b c) = Word a × Word b × Word c
StoreWithin (for_loop a b c d) = Word a × Word b × Word c × Word d
StoreWithin (control o c) = Word o × OperandsWithin c

-- the bytes of a name
abbrev pub Byte : ℕ → Type 0
Byte n = n < 256

abbrev pub NameWithin : NameCall → Type 0
NameWithin (intern_name name) = Word (length name) × All Byte name
NameWithin (lookup_name name) = Word (length name) × All Byte name
NameWithin (name_of number) = Word number

abbrev pub CallWithin : ControllerCall → Type 0
CallWithin (building c) = StoreWithin c
CallWithin (simplifying m i depth n) = Word i × Word depth × WideWord n
CallWithin (pruning i n) = Word i × WideWord n
CallWithin (pruning_by_setting i n) = Word i × Word n
CallWithin (naming c) = NameWithin c
CallWithin (reading text) = Word (length text) × All Byte text

-- Every list of calls within the widths is what some words of 32 bits decode to, with no word left over.
pub record Encodes (cs : List ControllerCall) : Type 0 where
  pub words : All Word (encode cs)
  pub decodes : decode (encode cs) ≡ cs
  pub all_read : read_words (encode cs) ≡ length (encode cs)
