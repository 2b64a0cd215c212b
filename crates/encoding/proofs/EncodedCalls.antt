-- Every list of calls has words that decode to it; within the widths of the arguments they are words of 32 bits.
use Prim.Native.Nat.{ℕ, ◌+◌, ◌-◌, ◌*◌, ◌/◌, ◌%◌}
use mathlib.Core.Path.{◌≡◌, refl, sym, ap, ◌∙◌}
use mathlib.Core.Bool.{true, cond}
use mathlib.Core.Option.{none, some}
use mathlib.Core.List.{List, [], ◌∷◌, ◌++◌}
use lib.ListN.{length, take, drop, length-append}
use lib.Seq.{take_at, drop_at, drop-drop}
use lib.Dec.{leb}
use native.Mathlib.Omega.{arith}
use borrow.Author.Tests.{le-leb}
use Rattle.definitions.specs.Machine.{variable, constant, add, sub, mul, div, pow, modulo, neg, operator, function, select, if_else, for_loop, control}
use Rattle.definitions.specs.Names.{intern_name, lookup_name, name_of}
use Rattle.definitions.specs.Walk.{standard, strict}
use Rattle.definitions.specs.Controller.{ControllerCall, building, simplifying, pruning, pruning_by_setting, naming, reading}
use Rattle.definitions.specs.Promise.{All}
use Rattle.encoding.specs.Encoding.{with_rest, header_words, word_values, call_of_code, first_call, decode, unread, read_words, bytes_of, words_of, encode_call, encode, Word, WideWord, OperandsWithin, Byte, CallWithin, Encodes}
use Rattle.encoding.proofs.Decoding.{decode_none, decode_some, unread_none, unread_some, none_in_nothing}

-- ---- the first call of a call's words and more

module _ (code a b high low : ℕ) (operands rest : List ℕ) where
  abbrev ws : List ℕ
  ws = words_of code a b high low operands ++ rest

  first_words : first_call (words_of code a b high low operands ++ rest) ≡ with_rest (call_of_code code a b high low operands) rest
  unfolding first_call
  first_words =
      let long : leb header_words (length ws) ≡ true = le-leb header_words (length ws) (omega arith) in
      let fits : leb (length operands) (length ws - header_words) ≡ true = le-leb (length operands) (length ws - header_words) (omega (arith, length-append operands rest)) in
      let taken : take (length operands) (drop header_words ws) ≡ operands = take_at operands rest (length operands) refl in
      let left : drop (header_words + length operands) ws ≡ rest = sym (drop-drop (length operands) header_words ws) ∙ drop_at operands rest (length operands) refl in
      λ i. cond (long i) (cond (fits i) (with_rest (call_of_code code a b high low (taken i)) (left i)) none) none

halves : (n : ℕ) → n / word_values * word_values + n % word_values ≡ n
halves n = omega arith

-- a byte is its own lowest
own_bytes : (name : List ℕ) → All Byte name → bytes_of name ≡ name
own_bytes [] h = refl
own_bytes (b ∷ name) (h, t) = let e : b % 256 ≡ b = omega arith in let f = own_bytes name t in λ i. e i ∷ f i

first_call_lem : (c : ControllerCall) (rest : List ℕ) → CallWithin c → first_call (encode_call c ++ rest) ≡ some (c, rest)
unfolding call_of_code
first_call_lem (building (variable s)) rest w = first_words 0 s 0 0 0 [] rest
first_call_lem (building (constant n)) rest w = first_words 1 0 0 (n / word_values) (n % word_values) [] rest ∙ ap (λ (k : ℕ). some (building (constant k), rest)) (halves n)
first_call_lem (building (add a b)) rest w = first_words 2 a b 0 0 [] rest
first_call_lem (building (sub a b)) rest w = first_words 3 a b 0 0 [] rest
first_call_lem (building (mul a b)) rest w = first_words 4 a b 0 0 [] rest
first_call_lem (building (div a b)) rest w = first_words 5 a b 0 0 [] rest
first_call_lem (building (pow a b)) rest w = first_words 6 a b 0 0 [] rest
first_call_lem (building (modulo a b)) rest w = first_words 7 a b 0 0 [] rest
first_call_lem (building (neg a)) rest w = first_words 8 a 0 0 0 [] rest
first_call_lem (building (operator o f c)) rest w = first_words 9 o f 0 0 c rest
first_call_lem (building (function f c)) rest w = first_words 10 f 0 0 0 c rest
first_call_lem (building (select a b c)) rest w = first_words 11 a b c 0 [] rest
first_call_lem (building (if_else a b c)) rest w = first_words 12 a b c 0 [] rest
first_call_lem (building (for_loop a b c d)) rest w = first_words 13 a b c d [] rest
first_call_lem (building (control o c)) rest w = first_words 14 o 0 0 0 c rest
first_call_lem (simplifying standard i depth n) rest w = first_words 15 i depth (n / word_values) (n % word_values) [] rest ∙ ap (λ (k : ℕ). some (simplifying standard i depth k, rest)) (halves n)
first_call_lem (simplifying strict i depth n) rest w = first_words 18 i depth (n / word_values) (n % word_values) [] rest ∙ ap (λ (k : ℕ). some (simplifying strict i depth k, rest)) (halves n)
first_call_lem (pruning i n) rest w = first_words 16 i 0 (n / word_values) (n % word_values) [] rest ∙ ap (λ (k : ℕ). some (pruning i k, rest)) (halves n)
first_call_lem (pruning_by_setting i n) rest w = first_words 17 i n 0 0 [] rest
first_call_lem (naming (intern_name name)) rest w = first_words 19 0 0 0 0 name rest ∙ ap (λ (b : List ℕ). some (naming (intern_name b), rest)) (own_bytes name w.1)
first_call_lem (naming (lookup_name name)) rest w = first_words 20 0 0 0 0 name rest ∙ ap (λ (b : List ℕ). some (naming (lookup_name b), rest)) (own_bytes name w.1)
first_call_lem (naming (name_of number)) rest w = first_words 21 number 0 0 0 [] rest
first_call_lem (reading text) rest w = first_words 22 0 0 0 0 text rest ∙ ap (λ (b : List ℕ). some (reading b, rest)) (own_bytes text w.1)

decodes : (cs : List ControllerCall) → All CallWithin cs → decode (encode cs) ≡ cs
decodes [] w = decode_none [] none_in_nothing
decodes (c ∷ cs) (w, t) = decode_some (encode (c ∷ cs)) c (encode cs) (first_call_lem c (encode cs) w) ∙ ap (λ (l : List ControllerCall). c ∷ l) (decodes cs t)

nothing_unread : (cs : List ControllerCall) → All CallWithin cs → unread (encode cs) ≡ []
nothing_unread [] w = unread_none [] none_in_nothing
nothing_unread (c ∷ cs) (w, t) = unread_some (encode (c ∷ cs)) c (encode cs) (first_call_lem c (encode cs) w) ∙ nothing_unread cs t

all_read : (cs : List ControllerCall) → All CallWithin cs → read_words (encode cs) ≡ length (encode cs)
unfolding read_words
all_read cs w = let none_left : length (unread (encode cs)) ≡ 0 = ap length (nothing_unread cs w) in omega arith

-- ---- words of 32 bits

all_append : (xs ys : List ℕ) → All Word xs → All Word ys → All Word (xs ++ ys)
all_append [] ys p q = q
all_append (x ∷ xs) ys (h, p) q = (h, all_append xs ys p q)

header : (code a b high low : ℕ) (operands : List ℕ) → Word code → Word a → Word b → Word high → Word low → OperandsWithin operands → All Word (words_of code a b high low operands)
header code a b high low operands h0 h1 h2 h3 h4 h = (h0, (h1, (h2, (h3, (h4, h)))))

zero_word : Word 0
zero_word = omega arith

no_operands : OperandsWithin []
no_operands = (zero_word, tt)

high_word : (n : ℕ) → WideWord n → Word (n / word_values)
high_word n h = omega arith

low_word : (n : ℕ) → Word (n % word_values)
low_word n = omega arith

byte_words : (name : List ℕ) → All Byte name → All Word name
byte_words [] h = tt
byte_words (b ∷ name) (h, t) = (omega arith, byte_words name t)

call_words : (c : ControllerCall) → CallWithin c → All Word (encode_call c)
call_words (building (variable s)) h = header 0 s 0 0 0 [] zero_word h zero_word zero_word zero_word no_operands
call_words (building (constant n)) h = header 1 0 0 (n / word_values) (n % word_values) [] (omega arith) zero_word zero_word (high_word n h) (low_word n) no_operands
call_words (building (add a b)) (p, q) = header 2 a b 0 0 [] (omega arith) p q zero_word zero_word no_operands
call_words (building (sub a b)) (p, q) = header 3 a b 0 0 [] (omega arith) p q zero_word zero_word no_operands
call_words (building (mul a b)) (p, q) = header 4 a b 0 0 [] (omega arith) p q zero_word zero_word no_operands
call_words (building (div a b)) (p, q) = header 5 a b 0 0 [] (omega arith) p q zero_word zero_word no_operands
call_words (building (pow a b)) (p, q) = header 6 a b 0 0 [] (omega arith) p q zero_word zero_word no_operands
call_words (building (modulo a b)) (p, q) = header 7 a b 0 0 [] (omega arith) p q zero_word zero_word no_operands
call_words (building (neg a)) h = header 8 a 0 0 0 [] (omega arith) h zero_word zero_word zero_word no_operands
call_words (building (operator o f c)) (p, q, r) = header 9 o f 0 0 c (omega arith) p q zero_word zero_word r
call_words (building (function f c)) (p, r) = header 10 f 0 0 0 c (omega arith) p zero_word zero_word zero_word r
call_words (building (select a b c)) (p, q, r) = header 11 a b c 0 [] (omega arith) p q r zero_word no_operands
call_words (building (if_else a b c)) (p, q, r) = header 12 a b c 0 [] (omega arith) p q r zero_word no_operands
call_words (building (for_loop a b c d)) (p, q, r, s) = header 13 a b c d [] (omega arith) p q r s no_operands
call_words (building (control o c)) (p, r) = header 14 o 0 0 0 c (omega arith) p zero_word zero_word zero_word r
call_words (simplifying standard i depth n) (p, q, r) = header 15 i depth (n / word_values) (n % word_values) [] (omega arith) p q (high_word n r) (low_word n) no_operands
call_words (simplifying strict i depth n) (p, q, r) = header 18 i depth (n / word_values) (n % word_values) [] (omega arith) p q (high_word n r) (low_word n) no_operands
call_words (pruning i n) (p, r) = header 16 i 0 (n / word_values) (n % word_values) [] (omega arith) p zero_word (high_word n r) (low_word n) no_operands
call_words (pruning_by_setting i n) (p, q) = header 17 i n 0 0 [] (omega arith) p q zero_word zero_word no_operands
call_words (naming (intern_name name)) (p, q) = header 19 0 0 0 0 name (omega arith) zero_word zero_word zero_word zero_word (p, byte_words name q)
call_words (naming (lookup_name name)) (p, q) = header 20 0 0 0 0 name (omega arith) zero_word zero_word zero_word zero_word (p, byte_words name q)
call_words (naming (name_of number)) h = header 21 number 0 0 0 [] (omega arith) h zero_word zero_word zero_word no_operands
call_words (reading text) (p, q) = header 22 0 0 0 0 text (omega arith) zero_word zero_word zero_word zero_word (p, byte_words text q)

all_words : (cs : List ControllerCall) → All CallWithin cs → All Word (encode cs)
all_words [] h = tt
all_words (c ∷ cs) (h, t) = all_append (encode_call c) (encode cs) (call_words c h) (all_words cs t)

pub every_list : (cs : List ControllerCall) → All CallWithin cs → Encodes cs
every_list cs w = record { words = all_words cs w; decodes = decodes cs w; all_read = all_read cs w }
