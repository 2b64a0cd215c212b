-- Sheets: bytes to answers and nodes.
use Rattle.std.specs.Prelude.{ℕ, zero, suc, ◌+◌, ◌*◌, Bool, true, false, ◌&&◌, ◌||◌, not, cond, List, [], ◌∷◌, ◌++◌, map, length, get_or, take, drop, leb, ltb, eqb}
use Rattle.std.proofs.Math.Option.{Option, none, some}
use Rattle.definitions.specs.Limits.{most_sheet_bytes, most_records}
use Rattle.definitions.specs.Refusals.{bad_sheet, bad_record, too_many_records}
use Rattle.definitions.specs.Intern.{Lent}
use Rattle.definitions.specs.Walk.{Mode, standard, strict}
use Rattle.definitions.specs.Machine.{Store, variable, constant, add, sub, mul, div, pow, modulo, neg, operator, function, select, if_else, for_loop, control, Call, store, simplify, prune, prune_by_setting, Answer, stored, simplified, pruned, refused, State, After, call}

-- ---- a record's body as a call on record numbers

-- "All big-endian"
abbrev pub big_endian_from : ℕ → List ℕ → ℕ
big_endian_from n [] = n
big_endian_from n (b ∷ bs) = big_endian_from (n * 256 + b) bs

abbrev pub big_endian : List ℕ → ℕ
big_endian bs = big_endian_from 0 bs

abbrev pub with_operand : ℕ → Option (List ℕ) → Option (List ℕ)
with_operand o none = none
with_operand o (some os) = some (o ∷ os)

-- "operands are indices (2 bytes) of earlier records"; "a half operand is a wrong length"
unfoldable pub operands : List ℕ → Option (List ℕ)
operands [] = some []
operands (a ∷ []) = none
operands (a ∷ b ∷ r) = with_operand (big_endian (a ∷ b ∷ [])) (operands r)

abbrev pub with_operands : (List ℕ → Call) → Option (List ℕ) → Option Call
with_operands f none = none
with_operands f (some os) = some (f os)

abbrev pub sized : ℕ → List ℕ → Call → Option Call
sized n bytes c = cond (eqb (length bytes) n) (some c) none

-- the body after its first byte: 01 symbol(4)
abbrev pub variable_body : List ℕ → Option Call
variable_body bs = sized 4 bs (store (variable (big_endian bs)))

-- 02 bits(8)
abbrev pub constant_body : List ℕ → Option Call
constant_body bs = sized 8 bs (store (constant (big_endian bs)))

-- 03 operator(1), flags(1), operands
unfoldable pub operator_body : List ℕ → Option Call
unfolding operands
operator_body [] = none
operator_body (o ∷ []) = none
operator_body (o ∷ f ∷ r) = with_operands (λ os. store (operator o f os)) (operands r)

-- 04 function(4), operands
unfoldable pub function_body : List ℕ → Option Call
unfolding operands
function_body bs = cond (ltb (length bs) 4) none (with_operands (λ os. store (function (big_endian (take 4 bs)) os)) (operands (drop 4 bs)))

-- 05 control(1), operands
unfoldable pub control_body : List ℕ → Option Call
unfolding operands
control_body [] = none
control_body (o ∷ r) = with_operands (λ os. store (control o os)) (operands r)

-- 06 operand, depth(1), budget(4); a strict walk's "sheet body is 08, laid out as 06"
abbrev pub simplify_body : Mode → List ℕ → Option Call
simplify_body m bs = sized 7 bs (simplify m (big_endian (take 2 bs)) (get_or bs 2 0) (big_endian (drop 3 bs)))

-- 07 operand, threshold bits(8)
abbrev pub prune_body : List ℕ → Option Call
prune_body bs = sized 10 bs (prune (big_endian (take 2 bs)) (big_endian (drop 2 bs)))

-- "Body by first byte"; none for an unknown one, an empty body or a wrong length
unfoldable pub body : List ℕ → Option Call
unfolding operator_body function_body control_body
body [] = none
body (k ∷ r) =
    cond (eqb k 1) (variable_body r)
    (cond (eqb k 2) (constant_body r)
    (cond (eqb k 3) (operator_body r)
    (cond (eqb k 4) (function_body r)
    (cond (eqb k 5) (control_body r)
    (cond (eqb k 6) (simplify_body standard r)
    (cond (eqb k 7) (prune_body r)
    (cond (eqb k 8) (simplify_body strict r) none)))))))

-- ---- the call on ids

abbrev pub store_on : (ℕ → ℕ) → Store → Store
store_on f (variable s) = variable s
store_on f (constant b) = constant b
store_on f (add a b) = add (f a) (f b)
store_on f (sub a b) = sub (f a) (f b)
store_on f (mul a b) = mul (f a) (f b)
store_on f (div a b) = div (f a) (f b)
store_on f (pow a b) = pow (f a) (f b)
store_on f (modulo a b) = modulo (f a) (f b)
store_on f (neg a) = neg (f a)
store_on f (operator o g c) = operator o g (map f c)
store_on f (function n c) = function n (map f c)
store_on f (select a b c) = select (f a) (f b) (f c)
store_on f (if_else a b c) = if_else (f a) (f b) (f c)
store_on f (for_loop a b c d) = for_loop (f a) (f b) (f c) (f d)
store_on f (control o c) = control o (map f c)

abbrev pub call_on : (ℕ → ℕ) → Call → Call
call_on f (store c) = store (store_on f c)
call_on f (simplify m i depth budget) = simplify m (f i) depth budget
call_on f (prune i t) = prune (f i) t
call_on f (prune_by_setting i n) = prune_by_setting (f i) n

-- the id that a record answered
abbrev pub answer_id : Answer → ℕ
answer_id (stored i) = i
answer_id (simplified i spent steps) = i
answer_id (pruned i kept dropped) = i
answer_id (refused r) = 0

-- the id of an operand; one that is no earlier record gets the count, an id that no node has, so that the call meets 4 in its place
abbrev pub operand_id : ℕ → List Answer → ℕ → ℕ
operand_id count al o = cond (ltb o (length al)) (answer_id (get_or al o (refused 0))) count

-- ---- the whole sheet

-- the answers of the records done, the refusal (number and record) that cut it short, and the state it leaves
pub record Ran : Type 0 where
  pub answers : List Answer
  pub refusal : Option (ℕ × ℕ)
  pub left : State

abbrev pub ran : List Answer → Option (ℕ × ℕ) → State → Ran
ran al r s = record { answers = al; refusal = r; left = s }

-- "length (2 bytes), body": the body and the bytes after it, or none past the end
abbrev pub cut : List ℕ → Option (List ℕ × List ℕ)
cut [] = none
cut (a ∷ []) = none
cut (a ∷ b ∷ r) = let n = big_endian (a ∷ b ∷ []) in cond (leb n (length r)) (some (take n r, drop n r)) none

-- a call and what follows it
abbrev pub with_rest : Option Call → List ℕ → Option (Call × List ℕ)
with_rest none rest = none
with_rest (some c) rest = some (c, rest)

abbrev pub record_call : Option (List ℕ × List ℕ) → Option (Call × List ℕ)
record_call none = none
record_call (some br) = with_rest (body br.0) br.1

abbrev pub refusal_of : Answer → Option ℕ
refusal_of (stored i) = none
refusal_of (simplified i spent steps) = none
refusal_of (pruned i kept dropped) = none
refusal_of (refused r) = some r

-- The records from a byte on, after those that gave `al`; at most `more` of them. Per record 3, 2, then the call's own refusals.
unfoldable pub records : ℕ → Lent → List Answer → State → List ℕ → Ran
unfolding body call
records zero l al s [] = ran al none s
records zero l al s (b ∷ bs) = ran al (some (too_many_records, length al)) s
records (suc more) l al s [] = ran al none s
records (suc more) l al s (b ∷ bs) =
    elim (record_call (cut (b ∷ bs))) [
      | none ↦ ran al (some (bad_record, length al)) s
      | some cr ↦
          let a = call l s (call_on (operand_id (length s.nodes) al) cr.0) in
          elim (refusal_of a.answer) [
            | none ↦ records more l (al ++ a.answer ∷ []) a.left cr.1
            | some r ↦ ran al (some (r, length al)) a.left
          ]
    ]

-- 1: "sheet empty, over 16,384 bytes, or first byte not 1"; "Byte 01, then records"
unfoldable pub sheet : Lent → State → List ℕ → Ran
unfolding records
sheet l s [] = ran [] (some (bad_sheet, 0)) s
sheet l s (v ∷ bs) = cond (eqb v 1 && leb (length (v ∷ bs)) most_sheet_bytes) (records most_records l [] s bs) (ran [] (some (bad_sheet, 0)) s)
