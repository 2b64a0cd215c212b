-- The request's examples, settled together, with cases of its later parts: calls, answers and nodes, each computed.
use Rattle.std.specs.Prelude.{ℕ, zero, suc, ◌≡◌, refl, Bool, true, false, List, [], ◌∷◌, ◌++◌, map, take}
use Rattle.std.specs.Float.{binary64}
use Rattle.std.specs.Float.Ieee.{of_bits}
use Rattle.definitions.specs.Node.{Node, node, variable_kind, constant_kind, add_kind, mul_kind}
use Rattle.definitions.specs.Intern.{Lent, table_size}
use Rattle.definitions.specs.Walk.{standard, marked}
use Rattle.definitions.specs.Exact.{constant_bound}
use Rattle.definitions.specs.Sheet.{sheet}
use Rattle.definitions.specs.Listing.{listing}
use Rattle.definitions.specs.Machine as Machine
use Rattle.definitions.specs.Machine.{Store, variable, constant, add, sub, mul, div, operator, Call, store, prune, Answer, stored, simplified, pruned, refused, State, state, empty, answers, run}

-- a walk that is not strict
abbrev simplify : ℕ → ℕ → ℕ → Call
simplify i depth budget = Machine.simplify standard i depth budget

-- the listing program's store
abbrev pub lent : Lent
lent = record { nodes = 512; slots = 1024 }

-- a store whose table cannot double
abbrev few_slots : Lent
few_slots = record { nodes = 512; slots = 64 }

-- binary64 bits
abbrev plus_zero : ℕ
plus_zero = 0

abbrev minus_zero : ℕ
minus_zero = 0x8000000000000000

abbrev pub half : ℕ
half = 0x3FE0000000000000

abbrev pub one : ℕ
one = 0x3FF0000000000000

abbrev pub two : ℕ
two = 0x4000000000000000

abbrev three : ℕ
three = 0x4008000000000000

abbrev five : ℕ
five = 0x4014000000000000

abbrev pub hundredth : ℕ
hundredth = 0x3F847AE147AE147B

abbrev two_hundredths : ℕ
two_hundredths = 0x3F947AE147AE147B

abbrev twentieth : ℕ
twentieth = 0x3FA999999999999A

abbrev pub tenth : ℕ
tenth = 0x3FB999999999999A

abbrev fifth : ℕ
fifth = 0x3FC999999999999A

abbrev infinity : ℕ
infinity = 0x7FF0000000000000

abbrev minus_infinity : ℕ
minus_infinity = 0xFFF0000000000000

abbrev quiet_nan : ℕ
quiet_nan = 0x7FF8000000000000

abbrev signalling_nan : ℕ
signalling_nan = 0x7FF0000000000001

abbrev minus_nan : ℕ
minus_nan = 0xFFF8000000000000

abbrev greatest_nan : ℕ
greatest_nan = 0xFFFFFFFFFFFFFFFF

abbrev minus_one : ℕ
minus_one = 0xBFF0000000000000

abbrev x : Call
x = store (variable 7)

abbrev number : ℕ → Call
number b = store (constant b)

abbrev plus : ℕ → ℕ → Call
plus a b = store (add a b)

abbrev times : ℕ → ℕ → Call
times a b = store (mul a b)

-- n variables with symbols from s on
abbrev variables : ℕ → ℕ → List Call
variables zero s = []
variables (suc n) s = store (variable s) ∷ variables n (suc s)

-- the answers to n stores of new nodes, from the id i on
abbrev new_ids : ℕ → ℕ → List Answer
new_ids zero i = []
new_ids (suc n) i = stored i ∷ new_ids n (suc i)

-- calls, and what a fresh store answers to them where so much is lent
pub record Example : Type 0 where
  pub given : Lent
  pub calls : List Call
  pub expected : List Answer

abbrev example_on : Lent → List Call → List Answer → Example
example_on l cs al = record { given = l; calls = cs; expected = al }

-- on the listing program's store
abbrev example : List Call → List Answer → Example
example cs al = example_on lent cs al

-- "Settle together as one proved list"
abbrev pub examples : List Example
examples =
    -- the listing
    example (x ∷ number plus_zero ∷ plus 0 1 ∷ simplify 2 255 100 ∷ []) (stored 0 ∷ stored 1 ∷ stored 2 ∷ simplified 0 false 3 ∷ [])
    -- its budget 2 (spent) and 3
    ∷ example (x ∷ number plus_zero ∷ plus 0 1 ∷ simplify 2 255 2 ∷ []) (stored 0 ∷ stored 1 ∷ stored 2 ∷ simplified 2 true 2 ∷ [])
    ∷ example (x ∷ number plus_zero ∷ plus 0 1 ∷ simplify 2 255 3 ∷ []) (stored 0 ∷ stored 1 ∷ stored 2 ∷ simplified 0 false 3 ∷ [])
    -- 44 and 45 nodes: "44 nodes in 64, the 45th brings 128", and 22 where 128 are not lent
    ∷ example_on few_slots (variables 45 0) (new_ids 44 0 ++ refused 22 ∷ [])
    ∷ example (variables 45 0) (new_ids 45 0)
    -- 0.0/-0.0
    ∷ example (number plus_zero ∷ number minus_zero ∷ number plus_zero ∷ []) (stored 0 ∷ stored 1 ∷ stored 0 ∷ [])
    -- both Adds
    ∷ example (x ∷ plus 0 0 ∷ store (operator 0 0 (0 ∷ 0 ∷ [])) ∷ store (operator 0 3 (0 ∷ 0 ∷ [])) ∷ []) (stored 0 ∷ stored 1 ∷ stored 2 ∷ stored 1 ∷ [])
    -- zero times a variable unchanged
    ∷ example (x ∷ number plus_zero ∷ times 1 0 ∷ simplify 2 255 100 ∷ []) (stored 0 ∷ stored 1 ∷ stored 2 ∷ simplified 2 false 3 ∷ [])
    -- (x+1)+2 gives x+3
    ∷ example (x ∷ number one ∷ number two ∷ plus 0 1 ∷ plus 3 2 ∷ simplify 4 255 100 ∷ number three ∷ plus 0 5 ∷ [])
    (stored 0 ∷ stored 1 ∷ stored 2 ∷ stored 3 ∷ stored 4 ∷ simplified 6 false 6 ∷ stored 5 ∷ stored 6 ∷ [])
    -- 2+(x+1) stays
    ∷ example (x ∷ number one ∷ number two ∷ plus 0 1 ∷ plus 2 3 ∷ simplify 4 255 100 ∷ []) (stored 0 ∷ stored 1 ∷ stored 2 ∷ stored 3 ∷ stored 4 ∷ simplified 4 false 6 ∷ [])
    -- (2*x)*0.5 gives 1.0*x, again gives x
    ∷ example (x ∷ number two ∷ number half ∷ times 1 0 ∷ times 3 2 ∷ simplify 4 255 100 ∷ number one ∷ times 5 0 ∷ simplify 6 255 100 ∷ [])
    (stored 0 ∷ stored 1 ∷ stored 2 ∷ stored 3 ∷ stored 4 ∷ simplified 6 false 6 ∷ stored 5 ∷ stored 6 ∷ simplified 0 false 3 ∷ [])
    -- x-x
    ∷ example (x ∷ store (sub 0 0) ∷ simplify 1 255 100 ∷ number plus_zero ∷ []) (stored 0 ∷ stored 1 ∷ simplified 2 false 3 ∷ stored 2 ∷ [])
    -- threshold 0.1 over x, 0.05, 0.2 keeps two
    ∷ example (x ∷ number twentieth ∷ number fifth ∷ plus 0 1 ∷ plus 3 2 ∷ prune 4 tenth ∷ plus 0 2 ∷ [])
    (stored 0 ∷ stored 1 ∷ stored 2 ∷ stored 3 ∷ stored 4 ∷ pruned 5 2 1 ∷ stored 5 ∷ [])
    -- 0.01+0.02 gives 0.0
    ∷ example (number hundredth ∷ number two_hundredths ∷ plus 0 1 ∷ prune 2 tenth ∷ number plus_zero ∷ []) (stored 0 ∷ stored 1 ∷ stored 2 ∷ pruned 3 0 2 ∷ stored 3 ∷ [])
    -- root 0.01 stays
    ∷ example (number hundredth ∷ prune 0 tenth ∷ []) (stored 0 ∷ pruned 0 1 0 ∷ [])
    -- five kept, (a+b)+(c+(d+e)): the nodes of that sum are there
    ∷ example (variables 5 1 ++ plus 0 1 ∷ plus 5 2 ∷ plus 6 3 ∷ plus 7 4 ∷ prune 8 tenth ∷ plus 3 4 ∷ plus 2 9 ∷ plus 5 10 ∷ [])
    (stored 0 ∷ stored 1 ∷ stored 2 ∷ stored 3 ∷ stored 4 ∷ stored 5 ∷ stored 6 ∷ stored 7 ∷ stored 8 ∷ pruned 11 5 0 ∷ stored 9 ∷ stored 10 ∷ stored 11 ∷ [])
    -- four kept of one Add: the left half has the lower ids
    ∷ example (variables 4 1 ++ store (operator 0 3 (0 ∷ 1 ∷ 2 ∷ 3 ∷ [])) ∷ prune 4 tenth ∷ plus 0 1 ∷ plus 2 3 ∷ plus 5 6 ∷ [])
    (stored 0 ∷ stored 1 ∷ stored 2 ∷ stored 3 ∷ stored 4 ∷ pruned 7 4 0 ∷ stored 5 ∷ stored 6 ∷ stored 7 ∷ [])
    -- pruned again, two kept: (x+0.5)+0.01 at 0.1 leaves x+0.5, and so it does again; at 1.0 both that and the original become x
    ∷ example (x ∷ number half ∷ number hundredth ∷ plus 0 1 ∷ plus 3 2 ∷ prune 4 tenth ∷ prune 3 tenth ∷ prune 3 one ∷ prune 4 one ∷ [])
    (stored 0 ∷ stored 1 ∷ stored 2 ∷ stored 3 ∷ stored 4 ∷ pruned 3 2 1 ∷ pruned 3 2 0 ∷ pruned 0 1 1 ∷ pruned 0 1 2 ∷ [])
    -- "With one term of a chain kept this fails for a constant between t and u": 0.5+0.01 at 0.1 leaves 0.5, which stays at 1.0, where the
    -- original becomes 0.0
    ∷ example (number half ∷ number hundredth ∷ plus 0 1 ∷ prune 2 tenth ∷ prune 0 one ∷ prune 2 one ∷ number plus_zero ∷ [])
    (stored 0 ∷ stored 1 ∷ stored 2 ∷ pruned 0 1 1 ∷ pruned 0 1 0 ∷ pruned 3 0 2 ∷ stored 3 ∷ [])
    -- and for a term that is no constant, with t at most 1.0 and u above it: x+0.01 at 0.1, then at 2.0
    ∷ example (x ∷ number hundredth ∷ plus 0 1 ∷ prune 2 tenth ∷ prune 0 two ∷ prune 2 two ∷ number plus_zero ∷ [])
    (stored 0 ∷ stored 1 ∷ stored 2 ∷ pruned 0 1 1 ∷ pruned 0 1 0 ∷ pruned 3 0 2 ∷ stored 3 ∷ [])
    ∷ []

pub examples_hold : map (λ (e : Example). answers e.given empty e.calls) examples ≡ map (λ (e : Example). e.expected) examples
unfolding answers
examples_hold = refl

-- a shared term counts each time it is met: x + x keeps two terms, and of 0.01 + 0.01 two are dropped
pub shared_terms :
    map (λ (cs : List Call). answers lent empty cs)
    ((x ∷ plus 0 0 ∷ prune 1 tenth ∷ []) ∷ (number hundredth ∷ plus 0 0 ∷ prune 1 tenth ∷ number plus_zero ∷ []) ∷ [])
    ≡ (stored 0 ∷ stored 1 ∷ pruned 1 2 0 ∷ []) ∷ (stored 0 ∷ stored 1 ∷ pruned 2 0 2 ∷ stored 2 ∷ []) ∷ []
unfolding answers
shared_terms = refl

-- the nodes of the listing
pub listing_nodes : (run lent empty (x ∷ number plus_zero ∷ plus 0 1 ∷ simplify 2 255 100 ∷ [])).nodes
    ≡ marked standard (node variable_kind 7 0 []) ∷ node constant_kind plus_zero 0 [] ∷ node add_kind 0 3 (0 ∷ 1 ∷ []) ∷ []
unfolding run
listing_nodes = refl

-- a sheet and the bytes that the listing program prints for it
abbrev pub sheet_bytes : List ℕ
sheet_bytes =
    0x01
    ∷ 0x00 ∷ 0x05 ∷ 0x01 ∷ 0x00 ∷ 0x00 ∷ 0x00 ∷ 0x07
    ∷ 0x00 ∷ 0x09 ∷ 0x02 ∷ 0x00 ∷ 0x00 ∷ 0x00 ∷ 0x00 ∷ 0x00 ∷ 0x00 ∷ 0x00 ∷ 0x00
    ∷ 0x00 ∷ 0x07 ∷ 0x03 ∷ 0x00 ∷ 0x03 ∷ 0x00 ∷ 0x00 ∷ 0x00 ∷ 0x01
    ∷ 0x00 ∷ 0x08 ∷ 0x06 ∷ 0x00 ∷ 0x02 ∷ 0xFF ∷ 0x00 ∷ 0x00 ∷ 0x00 ∷ 0x64
    ∷ []

-- "ok 0", "0 0 0000000000000007 4", "1 1 0000000000000000 0", "2 2 0000000000000000 3 0 1"
pub sheet_listing : listing (sheet lent empty sheet_bytes)
    ≡ 111 ∷ 107 ∷ 32 ∷ 48 ∷ 10
    ∷ 48 ∷ 32 ∷ 48 ∷ 32 ∷ 48 ∷ 48 ∷ 48 ∷ 48 ∷ 48 ∷ 48 ∷ 48 ∷ 48 ∷ 48 ∷ 48 ∷ 48 ∷ 48 ∷ 48 ∷ 48 ∷ 48 ∷ 55 ∷ 32 ∷ 52 ∷ 10
    ∷ 49 ∷ 32 ∷ 49 ∷ 32 ∷ 48 ∷ 48 ∷ 48 ∷ 48 ∷ 48 ∷ 48 ∷ 48 ∷ 48 ∷ 48 ∷ 48 ∷ 48 ∷ 48 ∷ 48 ∷ 48 ∷ 48 ∷ 48 ∷ 32 ∷ 48 ∷ 10
    ∷ 50 ∷ 32 ∷ 50 ∷ 32 ∷ 48 ∷ 48 ∷ 48 ∷ 48 ∷ 48 ∷ 48 ∷ 48 ∷ 48 ∷ 48 ∷ 48 ∷ 48 ∷ 48 ∷ 48 ∷ 48 ∷ 48 ∷ 48 ∷ 32 ∷ 51 ∷ 32 ∷ 48 ∷ 32 ∷ 49 ∷ 10
    ∷ []
unfolding sheet listing
sheet_listing = refl

-- the table sizes of 44 and 45 nodes
pub table_sizes : map table_size (44 ∷ 45 ∷ []) ≡ 64 ∷ 128 ∷ []
unfolding table_size
table_sizes = refl

-- the listing's sheet with budget 2: `spent 2`, and no node marked
pub spent_listing : listing (sheet lent empty (take 37 sheet_bytes ++ 2 ∷ []))
    ≡ 115 ∷ 112 ∷ 101 ∷ 110 ∷ 116 ∷ 32 ∷ 50 ∷ 10
    ∷ 48 ∷ 32 ∷ 48 ∷ 32 ∷ 48 ∷ 48 ∷ 48 ∷ 48 ∷ 48 ∷ 48 ∷ 48 ∷ 48 ∷ 48 ∷ 48 ∷ 48 ∷ 48 ∷ 48 ∷ 48 ∷ 48 ∷ 55 ∷ 32 ∷ 48 ∷ 10
    ∷ 49 ∷ 32 ∷ 49 ∷ 32 ∷ 48 ∷ 48 ∷ 48 ∷ 48 ∷ 48 ∷ 48 ∷ 48 ∷ 48 ∷ 48 ∷ 48 ∷ 48 ∷ 48 ∷ 48 ∷ 48 ∷ 48 ∷ 48 ∷ 32 ∷ 48 ∷ 10
    ∷ 50 ∷ 32 ∷ 50 ∷ 32 ∷ 48 ∷ 48 ∷ 48 ∷ 48 ∷ 48 ∷ 48 ∷ 48 ∷ 48 ∷ 48 ∷ 48 ∷ 48 ∷ 48 ∷ 48 ∷ 48 ∷ 48 ∷ 48 ∷ 32 ∷ 51 ∷ 32 ∷ 48 ∷ 32 ∷ 49 ∷ 10
    ∷ []
unfolding sheet listing
spent_listing = refl

-- where an identity fires before folding: two constants, an operator over them, simplified; then the expected constant, which the simplify
-- answered
abbrev binary : ℕ → ℕ → ℕ → ℕ → List Call
binary code a b expected = number a ∷ number b ∷ store (operator code 0 (0 ∷ 1 ∷ [])) ∷ simplify 2 255 100 ∷ number expected ∷ []

abbrev answered_by : ℕ → List Answer
answered_by i = stored 0 ∷ stored 1 ∷ stored 2 ∷ simplified i false 3 ∷ stored i ∷ []

abbrev identity_cases : List (List Call)
identity_cases =
    -- 0.0 + -0.0 gives -0.0, and -0.0 + 1 gives 1: zero tests accept -0.0
    binary 0 plus_zero minus_zero minus_zero
    ∷ binary 0 minus_zero one one
    -- 0 * -1 gives 0.0, and so does -0.0 * 1
    ∷ binary 2 plus_zero minus_one plus_zero
    ∷ binary 2 minus_zero one plus_zero
    -- 0 / -1 gives 0.0, and so does -0.0 / 5
    ∷ binary 3 plus_zero minus_one plus_zero
    ∷ binary 3 minus_zero five plus_zero
    ∷ []

pub identity_cases_lem : map (λ (cs : List Call). answers lent empty cs) identity_cases ≡ map answered_by (1 ∷ 1 ∷ 0 ∷ 3 ∷ 0 ∷ 3 ∷ [])
unfolding answers
identity_cases_lem = refl

-- "A fold to NaN is now declined and the node is rebuilt plainly": the simplify answers its root, and the next new node has the
-- next id, so that nothing was interned
abbrev declined_fold : ℕ → ℕ → ℕ → List Call
declined_fold code a b = number a ∷ number b ∷ store (operator code 0 (0 ∷ 1 ∷ [])) ∷ simplify 2 255 100 ∷ number five ∷ []

-- inf + -inf, -inf + inf, 0 * inf, -inf * -0.0, inf / -inf
pub declined_folds :
    map (λ (cs : List Call). answers lent empty cs)
    (declined_fold 0 infinity minus_infinity ∷ declined_fold 0 minus_infinity infinity ∷ declined_fold 2 plus_zero infinity
    ∷ declined_fold 2 minus_infinity minus_zero ∷ declined_fold 3 infinity minus_infinity ∷ [])
    ≡ let stays = stored 0 ∷ stored 1 ∷ stored 2 ∷ simplified 2 false 3 ∷ stored 3 ∷ [] in stays ∷ stays ∷ stays ∷ stays ∷ stays ∷ []
unfolding answers
declined_folds = refl

-- "merging then does not fire": (inf * x) * 0, 0 * (x * inf), (x + inf) + -inf; and (inf * 0) * 0, where the second constant of the product
-- is not tried after the first
pub declined_merges :
    map (λ (cs : List Call). answers lent empty cs)
    ((x ∷ number infinity ∷ number plus_zero ∷ times 1 0 ∷ times 3 2 ∷ simplify 4 255 100 ∷ number five ∷ [])
    ∷ (x ∷ number infinity ∷ number plus_zero ∷ times 0 1 ∷ times 2 3 ∷ simplify 4 255 100 ∷ number five ∷ [])
    ∷ (x ∷ number infinity ∷ number minus_infinity ∷ plus 0 1 ∷ plus 3 2 ∷ simplify 4 255 100 ∷ number five ∷ [])
    ∷ (x ∷ number infinity ∷ number plus_zero ∷ times 1 2 ∷ times 3 2 ∷ simplify 4 255 100 ∷ number five ∷ [])
    ∷ [])
    ≡ let stays = stored 0 ∷ stored 1 ∷ stored 2 ∷ stored 3 ∷ stored 4 ∷ simplified 4 false 6 ∷ stored 5 ∷ [] in stays ∷ stays ∷ stays ∷ stays ∷ []
unfolding answers
declined_merges = refl

-- "10, a constant whose bits are a NaN", quiet or signalling, of either sign; the infinities are numbers. Where no place is left it is 10
-- too.
pub nan_refused :
    map (λ (e : Example). answers e.given empty e.calls)
    (example (number quiet_nan ∷ number signalling_nan ∷ number minus_nan ∷ number greatest_nan ∷ number infinity ∷ number minus_infinity ∷ []) []
    ∷ example_on (record { nodes = 1; slots = 64 }) (x ∷ number quiet_nan ∷ number one ∷ []) [] ∷ [])
    ≡ (refused 10 ∷ refused 10 ∷ refused 10 ∷ refused 10 ∷ stored 0 ∷ stored 1 ∷ []) ∷ (stored 0 ∷ refused 10 ∷ refused 21 ∷ []) ∷ []
unfolding answers
nan_refused = refl

-- a sheet of a variable and such a constant: "refused 10 at 1", and the variable's line
pub nan_sheet : listing (sheet lent empty (take 8 sheet_bytes ++ 0x00 ∷ 0x09 ∷ 0x02 ∷ 0xFF ∷ 0xF0 ∷ 0x00 ∷ 0x00 ∷ 0x00 ∷ 0x00 ∷ 0x00 ∷ 0x01 ∷ []))
    ≡ 114 ∷ 101 ∷ 102 ∷ 117 ∷ 115 ∷ 101 ∷ 100 ∷ 32 ∷ 49 ∷ 48 ∷ 32 ∷ 97 ∷ 116 ∷ 32 ∷ 49 ∷ 10
    ∷ 48 ∷ 32 ∷ 48 ∷ 32 ∷ 48 ∷ 48 ∷ 48 ∷ 48 ∷ 48 ∷ 48 ∷ 48 ∷ 48 ∷ 48 ∷ 48 ∷ 48 ∷ 48 ∷ 48 ∷ 48 ∷ 48 ∷ 55 ∷ 32 ∷ 48 ∷ 10
    ∷ []
unfolding sheet listing
nan_sheet = refl

-- -0.0 - (-0.0) gives -0.0, and inf - inf of one id 0.0; 0 / 0 gives 0.0, and inf / inf of one id 1.0
pub one_id_cases :
    map (λ (cs : List Call). answers lent empty cs)
    ((number minus_zero ∷ store (sub 0 0) ∷ simplify 1 255 100 ∷ [])
    ∷ (number infinity ∷ store (sub 0 0) ∷ simplify 1 255 100 ∷ number plus_zero ∷ [])
    ∷ (number plus_zero ∷ store (div 0 0) ∷ simplify 1 255 100 ∷ [])
    ∷ (number infinity ∷ store (div 0 0) ∷ simplify 1 255 100 ∷ number one ∷ [])
    ∷ [])
    ≡ (stored 0 ∷ stored 1 ∷ simplified 0 false 3 ∷ [])
    ∷ (stored 0 ∷ stored 1 ∷ simplified 2 false 3 ∷ stored 2 ∷ [])
    ∷ (stored 0 ∷ stored 1 ∷ simplified 0 false 3 ∷ [])
    ∷ (stored 0 ∷ stored 1 ∷ simplified 2 false 3 ∷ stored 2 ∷ [])
    ∷ []
unfolding answers
one_id_cases = refl

-- P of 0.0, -0.0, 1.0, 3.0, 1/1024 and 3/1024
pub fraction_bits : map (λ (b : ℕ). (constant_bound (of_bits binary64 b)).bits) (plus_zero ∷ minus_zero ∷ one ∷ three ∷ 0x3F50000000000000 ∷ 0x3F68000000000000 ∷ []) ≡ 0 ∷ 0 ∷ 0 ∷ 0 ∷ 10 ∷ 10 ∷ []
unfolding of_bits
fraction_bits = refl
