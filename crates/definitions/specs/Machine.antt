-- The plain machine: a list of nodes, empty at first, fed with calls and their arguments alone, without hashes or slots.
use Rattle.std.specs.Prelude.{ℕ, ◌+◌, ◌-◌, Bool, true, false, ◌&&◌, cond, List, [], ◌∷◌, length, leb, ltb, eqb, Float}
use Rattle.std.specs.Float.{binary64}
use Rattle.std.specs.Float.Ieee.{of_bits, nan_bits}
use Rattle.definitions.specs.Limits.{most_depth, most_terms, first_table_size}
use Rattle.definitions.specs.Refusals.{bad_operand, bad_code, not_a_number, bad_child_count, too_many_terms}
use Rattle.definitions.specs.Node.{Node, node, at, variable_kind, constant_kind, add_kind, sub_kind, mul_kind, div_kind, pow_kind, mod_kind, neg_kind, function_kind, control_kind, select_control, if_else_control, for_loop_control, last_operator, both_flags, nan_constant, child_count_listed}
use Rattle.definitions.specs.Intern.{Lent, Built, built, stopped, intern}
use Rattle.definitions.specs.Walk.{Mode, Walked, finished, spent, halted, walk_root}
use Rattle.definitions.specs.Prune.{chain, keeps, filter, sum_of_kept}
use Rattle.definitions.specs.Threshold.{Threshold, bits, untouched, refusing, given}
use Rattle.definitions.specs.Settings.{setting}

-- ---- calls

-- the builder's calls, with any arguments
pub data Store : Type 0 where
  variable : ℕ → Store
  constant : ℕ → Store
  add : ℕ → ℕ → Store
  sub : ℕ → ℕ → Store
  mul : ℕ → ℕ → Store
  div : ℕ → ℕ → Store
  pow : ℕ → ℕ → Store
  modulo : ℕ → ℕ → Store
  neg : ℕ → Store
  operator : ℕ → ℕ → List ℕ → Store
  function : ℕ → List ℕ → Store
  select : ℕ → ℕ → ℕ → Store
  if_else : ℕ → ℕ → ℕ → Store
  for_loop : ℕ → ℕ → ℕ → ℕ → Store
  control : ℕ → List ℕ → Store

-- simplify: the walk's mode, id, depth limit, budget. prune: id, threshold bits. prune_by_setting: id, setting.
pub data Call : Type 0 where
  store : Store → Call
  simplify : Mode → ℕ → ℕ → ℕ → Call
  prune : ℕ → ℕ → Call
  prune_by_setting : ℕ → ℕ → Call

-- an id; an id, whether the budget ran out, and the steps; an id, the terms kept and dropped; or a refusal's number
pub data Answer : Type 0 where
  stored : ℕ → Answer
  simplified : ℕ → Bool → ℕ → Answer
  pruned : ℕ → ℕ → ℕ → Answer
  refused : ℕ → Answer

-- an answer and the nodes after it
pub record Outcome : Type 0 where
  pub answer : Answer
  pub nodes : List Node

abbrev pub outcome : Answer → List Node → Outcome
outcome a ns = record { answer = a; nodes = ns }

-- ---- store calls

-- the node that a call wants, and whether its operator, flags or control value is listed
pub record Request : Type 0 where
  pub listed : Bool
  pub node : Node

abbrev pub request : Bool → Node → Request
request b n = record { listed = b; node = n }

-- "`add` and `mul` give flags 3, other constructors 0; `operator` takes flags 0 to 3"; operator codes are 0 Add to 6 Neg
abbrev pub requested : Store → Request
requested (variable s) = request true (node variable_kind s 0 [])
requested (constant b) = request true (node constant_kind b 0 [])
requested (add a b) = request true (node add_kind 0 both_flags (a ∷ b ∷ []))
requested (sub a b) = request true (node sub_kind 0 0 (a ∷ b ∷ []))
requested (mul a b) = request true (node mul_kind 0 both_flags (a ∷ b ∷ []))
requested (div a b) = request true (node div_kind 0 0 (a ∷ b ∷ []))
requested (pow a b) = request true (node pow_kind 0 0 (a ∷ b ∷ []))
requested (modulo a b) = request true (node mod_kind 0 0 (a ∷ b ∷ []))
requested (neg a) = request true (node neg_kind 0 0 (a ∷ []))
requested (operator o f c) = request (leb o last_operator && leb f both_flags) (node (add_kind + o) 0 f c)
requested (function f c) = request true (node function_kind f 0 c)
requested (select a b c) = request true (node control_kind select_control 0 (a ∷ b ∷ c ∷ []))
requested (if_else a b c) = request true (node control_kind if_else_control 0 (a ∷ b ∷ c ∷ []))
requested (for_loop a b c d) = request true (node control_kind for_loop_control 0 (a ∷ b ∷ c ∷ d ∷ []))
requested (control o c) = request (leb o for_loop_control) (node control_kind o 0 c)

abbrev pub all_below : ℕ → List ℕ → Bool
all_below n [] = true
all_below n (a ∷ al) = ltb a n && all_below n al

abbrev pub stored_as : Built → Outcome
stored_as (built ns i) = outcome (stored i) ns
stored_as (stopped ns r) = outcome (refused r) ns

-- refusals 5, 10 "right after 5", 6, 4, then 21 and 22 from interning
unfoldable pub store_call : Lent → List Node → Request → Outcome
unfolding nan_bits child_count_listed intern
store_call l ns r =
    let n = r.node in
    cond r.listed
    (cond (nan_constant n.kind n.payload) (outcome (refused not_a_number) ns)
    (cond (child_count_listed n.kind n.payload (length n.children))
    (cond (all_below (length ns) n.children) (stored_as (intern l ns n)) (outcome (refused bad_operand) ns))
    (outcome (refused bad_child_count) ns)))
    (outcome (refused bad_code) ns)

-- ---- simplify

-- a spent walk answers its root
abbrev pub walked_as : ℕ → Walked → Outcome
walked_as root (finished ns i k) = outcome (simplified i false k) ns
walked_as root (spent ns k) = outcome (simplified root true k) ns
walked_as root (halted ns r) = outcome (refused r) ns

-- refusals 5 and 4, then 21 and 22 from the walk
unfoldable pub simplify_call : Mode → Lent → List Node → ℕ → ℕ → ℕ → Outcome
unfolding walk_root
simplify_call m l ns i depth budget =
    cond (leb depth most_depth)
    (cond (ltb i (length ns)) (walked_as i (walk_root m l depth budget ns i)) (outcome (refused bad_operand) ns))
    (outcome (refused bad_code) ns)

-- ---- prune

abbrev pub pruned_as : ℕ → ℕ → Built → Outcome
pruned_as kept dropped (built ns i) = outcome (pruned i kept dropped) ns
pruned_as kept dropped (stopped ns r) = outcome (refused r) ns

-- 23, then 21 and 22; "the answer carries both counts"
unfoldable pub prune_chain : Lent → List Node → Float → List ℕ → Outcome
unfolding keeps sum_of_kept
prune_chain l ns t ts =
    let ks = filter (keeps ns t) ts in
    cond (ltb most_terms (length ts)) (outcome (refused too_many_terms) ns) (pruned_as (length ks) (length ts - length ks) (sum_of_kept l ns ks))

-- "A root that is no Add has no chain and is answered itself, 1 kept, 0 dropped." Without a threshold every root is, with no chain
-- looked at: "23, 21 and 22 do not occur there".
unfoldable pub prune_at : Lent → List Node → ℕ → Threshold → Outcome
unfolding chain prune_chain of_bits
prune_at l ns i (bits t) =
    cond (eqb (at ns i).kind add_kind) (prune_chain l ns (of_bits binary64 t) (chain ns i)) (outcome (pruned i 1 0) ns)
prune_at l ns i untouched = outcome (pruned i 1 0) ns
prune_at l ns i (refusing r) = outcome (refused r) ns

-- 4, then 7 or 8
unfoldable pub prune_call : Lent → List Node → ℕ → Threshold → Outcome
unfolding prune_at
prune_call l ns i t = cond (ltb i (length ns)) (prune_at l ns i t) (outcome (refused bad_operand) ns)

-- ---- the machine

-- what calls go on from
pub record State : Type 0 where
  pub nodes : List Node

abbrev pub state : List Node → State
state ns = record { nodes = ns }

-- "a list of nodes, empty at first"
abbrev pub empty : State
empty = state []

-- what a call leaves
pub record After : Type 0 where
  pub answer : Answer
  pub left : State

abbrev pub on_nodes : State → Outcome → After
on_nodes s o = record { answer = o.answer; left = state o.nodes }

unfoldable pub call : Lent → State → Call → After
unfolding store_call simplify_call prune_call setting
call l s (store c) = on_nodes s (store_call l s.nodes (requested c))
call l s (simplify m i depth budget) = on_nodes s (simplify_call m l s.nodes i depth budget)
call l s (prune i t) = on_nodes s (prune_call l s.nodes i (given t))
call l s (prune_by_setting i n) = on_nodes s (prune_call l s.nodes i (setting n))

-- each call's answer
unfoldable pub answers : Lent → State → List Call → List Answer
unfolding call
answers l s [] = []
answers l s (c ∷ cs) = let a = call l s c in a.answer ∷ answers l a.left cs

-- the state after each call
unfoldable pub states : Lent → State → List Call → List State
unfolding call
states l s [] = []
states l s (c ∷ cs) = let a = call l s c in a.left ∷ states l a.left cs

-- the state after them all
unfoldable pub run : Lent → State → List Call → State
unfolding call
run l s [] = s
run l s (c ∷ cs) = run l (call l s c).left cs

-- "A fresh store has no nodes and 64 empty slots"; 22 where fewer are lent
abbrev pub fresh_refused : Lent → Bool
fresh_refused l = ltb l.slots first_table_size
