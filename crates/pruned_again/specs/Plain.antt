-- Pruning again, over the plain machine: for every list of nodes that is plainly sound.
use Rattle.std.specs.Prelude.{ℕ, ◌<◌, ◌≤◌, ◌≡◌, true, false, ◌||◌, List, [], length, eqb}
use Rattle.std.specs.Float.{binary64}
use Rattle.std.specs.Float.Ieee.{of_bits, lt}
use Rattle.definitions.specs.Node.{Node, node, at, same, nan_constant, constant_kind, add_kind, sub_kind}
use Rattle.definitions.specs.Intern.{Lent}
use Rattle.definitions.specs.Prune.{keeps}
use Rattle.definitions.specs.Threshold.{Threshold, given}
use Rattle.definitions.specs.Machine.{pruned, Outcome, outcome, all_below, prune_call}

-- children have lower ids than their node, an Add or a Sub has a child, no constant is a NaN, and no two nodes are one
pub record PlainlySound (ns : List Node) : Type 0 where
  pub lower : (i : ℕ) → i < length ns → all_below i (at ns i).children ≡ true
  pub filled : (i : ℕ) → i < length ns → (eqb (at ns i).kind add_kind || eqb (at ns i).kind sub_kind) ≡ true → 0 < length (at ns i).children
  pub numbers : (i : ℕ) → i < length ns → nan_constant (at ns i).kind (at ns i).payload ≡ false
  pub apart : (i j : ℕ) → i < length ns → j < length ns → same (at ns i) (at ns j) ≡ true → i ≡ j

-- ---- at the same threshold

-- "For every store and threshold, a prune of an answered prune at the same threshold, on the store it left, gives the same id and adds no
-- node". It drops nothing; how many terms it kept is its own count, 1 where no chain is left.
abbrev pub SamePlainly : Type 0
SamePlainly = (l : Lent) (ns : List Node) (i id kept dropped : ℕ) (t : Threshold) → PlainlySound ns
    → (prune_call l ns i t).answer ≡ pruned id kept dropped
    → let ms = (prune_call l ns i t).nodes in
    (kept' : ℕ) × (prune_call l ms id t ≡ outcome (pruned id kept' 0) ms)

-- ---- at a threshold that is not below

-- a prune at the threshold's bits t
abbrev pub prune_at_bits : Lent → List Node → ℕ → ℕ → Outcome
prune_at_bits l ns i t = prune_call l ns i (given t)

-- "If a first prune at t kept two or more terms"
abbrev pub least_kept : ℕ
least_kept = 2

-- "a second at u not below t"
abbrev pub NotBelow : ℕ → ℕ → Type 0
NotBelow t u = lt (of_bits binary64 u) (of_bits binary64 t) ≡ false

-- For any least number of kept terms and any order of the two thresholds:
-- "If a first prune at t kept two or more terms, a second at u not below t gives the id that pruning the original at u gives on the store
-- after it, wherever neither is refused": on the store after the first prune, where it leaves what the second leaves, and on the store
-- after the second, where it adds nothing. Where the second is answered, pruning the original is.
abbrev pub HigherWhere : ℕ → (ℕ → ℕ → Type 0) → Type 0
HigherWhere least Order = (l : Lent) (ns : List Node) (i t u id kept dropped id' kept' dropped' : ℕ) → PlainlySound ns
    → (prune_at_bits l ns i t).answer ≡ pruned id kept dropped
    → least ≤ kept
    → Order t u
    → let ms = (prune_at_bits l ns i t).nodes in
    (prune_at_bits l ms id u).answer ≡ pruned id' kept' dropped'
    → let os = (prune_at_bits l ms id u).nodes in
    ((d : ℕ) × (prune_at_bits l ms i u ≡ outcome (pruned id' kept' d) os)) × ((d : ℕ) × (prune_at_bits l os i u ≡ outcome (pruned id' kept' d) os))

abbrev pub HigherPlainly : Type 0
HigherPlainly = HigherWhere least_kept NotBelow

-- ---- with one term kept

-- the constant 0.0
abbrev pub zero_node : Node
zero_node = node constant_kind 0 0 []

-- "With one term of a chain kept this fails for a constant between t and u": the term, which is kept at t and not at u, stays, and pruning
-- the original at u gives another id, that of 0.0. So it is for every term but 0.0 itself; one that is no constant has the magnitude 1.0.
abbrev pub FailsPlainly : Type 0
FailsPlainly = (l : Lent) (ns : List Node) (i t u id dropped id' kept' dropped' : ℕ) → PlainlySound ns
    → (at ns i).kind ≡ add_kind
    → (prune_at_bits l ns i t).answer ≡ pruned id 1 dropped
    → NotBelow t u
    → keeps ns (of_bits binary64 u) id ≡ false
    → same (at ns id) zero_node ≡ false
    → let ms = (prune_at_bits l ns i t).nodes in
    (prune_at_bits l ms i u).answer ≡ pruned id' kept' dropped'
    → (prune_at_bits l ms id u ≡ outcome (pruned id 1 0) ms) × (kept' ≡ 0) × (id' ≡ id → ⊥)

-- ---- neither premise can be left out

-- from one kept term on
abbrev pub NotFromOne : Type 0
NotFromOne = HigherWhere 1 NotBelow → ⊥

-- t and u exchanged
abbrev pub NotExchanged : Type 0
NotExchanged = HigherWhere least_kept (λ t u. NotBelow u t) → ⊥
