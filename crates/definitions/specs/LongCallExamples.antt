-- Cases of longer calls, each computed: "Functions may have up to 16 children, others as before".
use Rattle.std.specs.Prelude.{ℕ, zero, suc, ◌≡◌, refl, false, List, [], ◌∷◌, ◌++◌, map}
use Rattle.definitions.specs.Walk.{standard}
use Rattle.definitions.specs.Machine.{variable, constant, add, operator, function, control, Call, store, simplify, Answer, stored, simplified, refused, empty, answers}
use Rattle.definitions.specs.Sheet.{sheet}
use Rattle.definitions.specs.Listing.{listing}
use Rattle.definitions.specs.Examples.{lent}

-- so many ids from one on
abbrev ids : ℕ → ℕ → List ℕ
ids zero i = []
ids (suc n) i = i ∷ ids n (suc i)

-- so many variables, and what a fresh store answers to them
abbrev variables : ℕ → ℕ → List Call
variables zero s = []
variables (suc n) s = store (variable s) ∷ variables n (suc s)

abbrev new_ids : ℕ → ℕ → List Answer
new_ids zero i = []
new_ids (suc n) i = stored i ∷ new_ids n (suc i)

-- functions of 11, of 16 and of 17; an Add and a Mul of four and of five, a Select of five
pub long_calls_stored :
    answers lent empty
    (variables 17 0
    ++ store (function 3 (ids 11 0)) ∷ store (function 3 (ids 16 0)) ∷ store (function 3 (ids 17 0))
    ∷ store (operator 0 3 (ids 4 0)) ∷ store (operator 0 3 (ids 5 0)) ∷ store (operator 2 3 (ids 4 0)) ∷ store (operator 2 3 (ids 5 0))
    ∷ store (control 0 (ids 5 0)) ∷ [])
    ≡ new_ids 17 0 ++ stored 17 ∷ stored 18 ∷ refused 6 ∷ stored 19 ∷ refused 6 ∷ stored 20 ∷ refused 6 ∷ refused 6 ∷ []
unfolding answers
long_calls_stored = refl

-- two functions that differ in their last child alone, the 12th or the 16th, are two nodes
pub last_child_tells :
    answers lent empty
    (variables 17 0
    ++ store (function 3 (ids 12 0)) ∷ store (function 3 (ids 11 0 ++ 16 ∷ [])) ∷ store (function 3 (ids 16 0)) ∷ store (function 3 (ids 15 0 ++ 16 ∷ []))
    ∷ store (function 3 (ids 12 0)) ∷ store (function 3 (ids 16 0)) ∷ [])
    ≡ new_ids 17 0 ++ stored 17 ∷ stored 18 ∷ stored 19 ∷ stored 20 ∷ stored 17 ∷ stored 19 ∷ []
unfolding answers
last_child_tells = refl

-- 16 variables, x + 0.0, and a function over the first ones and that sum at last: a walk makes it anew over x
abbrev last_rewritten : ℕ → List Call
last_rewritten n =
    variables 16 0 ++ store (constant 0) ∷ store (add 0 16) ∷ store (function 3 (ids n 0 ++ 17 ∷ [])) ∷ simplify standard 18 255 100
    ∷ store (function 3 (ids n 0 ++ 0 ∷ [])) ∷ []

pub long_calls_walked : map (answers lent empty) (last_rewritten 10 ∷ last_rewritten 15 ∷ [])
    ≡ (new_ids 19 0 ++ simplified 19 false 15 ∷ stored 19 ∷ []) ∷ (new_ids 19 0 ++ simplified 19 false 20 ∷ stored 19 ∷ []) ∷ []
unfolding answers
long_calls_walked = refl

-- a sheet of a variable and a function over it, so many times
abbrev operand_bytes : ℕ → List ℕ
operand_bytes zero = []
operand_bytes (suc n) = 0 ∷ 0 ∷ operand_bytes n

abbrev call_sheet : ℕ → ℕ → List ℕ
call_sheet bytes n = 0x01 ∷ 0x00 ∷ 0x05 ∷ 0x01 ∷ 0x00 ∷ 0x00 ∷ 0x00 ∷ 0x07 ∷ 0x00 ∷ bytes ∷ 0x04 ∷ 0x00 ∷ 0x00 ∷ 0x00 ∷ 0x03 ∷ operand_bytes n

-- so many children 0 in a line
abbrev zeros : ℕ → List ℕ
zeros zero = []
zeros (suc n) = 32 ∷ 48 ∷ zeros n

-- "0 0 0000000000000007 0", and "1 16 0000000000000003 0" before the children
abbrev variable_line : List ℕ
variable_line = 48 ∷ 32 ∷ 48 ∷ 32 ∷ 48 ∷ 48 ∷ 48 ∷ 48 ∷ 48 ∷ 48 ∷ 48 ∷ 48 ∷ 48 ∷ 48 ∷ 48 ∷ 48 ∷ 48 ∷ 48 ∷ 48 ∷ 55 ∷ 32 ∷ 48 ∷ 10 ∷ []

abbrev function_line : ℕ → List ℕ
function_line n = 49 ∷ 32 ∷ 49 ∷ 54 ∷ 32 ∷ 48 ∷ 48 ∷ 48 ∷ 48 ∷ 48 ∷ 48 ∷ 48 ∷ 48 ∷ 48 ∷ 48 ∷ 48 ∷ 48 ∷ 48 ∷ 48 ∷ 48 ∷ 51 ∷ 32 ∷ 48 ∷ zeros n ++ 10 ∷ []

-- "ok 1"
abbrev ok_line : List ℕ
ok_line = 111 ∷ 107 ∷ 32 ∷ 49 ∷ 10 ∷ []

pub long_calls_listed : map (λ (bytes : List ℕ). listing (sheet lent empty bytes)) (call_sheet 27 11 ∷ call_sheet 37 16 ∷ [])
    ≡ (ok_line ++ variable_line ++ function_line 11) ∷ (ok_line ++ variable_line ++ function_line 16) ∷ []
unfolding sheet listing
long_calls_listed = refl

-- "refused 6 at 1"
pub seventeen_refused : listing (sheet lent empty (call_sheet 39 17)) ≡ 114 ∷ 101 ∷ 102 ∷ 117 ∷ 115 ∷ 101 ∷ 100 ∷ 32 ∷ 54 ∷ 32 ∷ 97 ∷ 116 ∷ 32 ∷ 49 ∷ 10 ∷ variable_line
unfolding sheet listing
seventeen_refused = refl
