-- What a prune's answer and its threshold are in the plain machine's terms, and what a prune on a sound store says.
use Rattle.std.specs.Prelude.{ℕ, ◌≡◌, true, not, List, Option, Result, Ok, Err}
use Rattle.std.specs.Float.{binary64}
use Rattle.std.specs.Float.Ieee.{of_bits}
use Rattle.definitions.specs.Node.{Node}
use Rattle.definitions.specs.Intern.{Lent}
use Rattle.definitions.specs.Prune.{chain, keeps}
use Rattle.definitions.specs.Threshold as T
use Rattle.definitions.specs.Machine as M
use Rattle.store.specs.View.{nodes_in, lent, Kept}
use Rattle.store.specs.Memory.{Memory, model, keeps_interned}
use Rattle.refusal.specs.declared.Refusal.{Refusal}
use Rattle.refusal.specs.declared.Refusal.TheVariants.{NotSound}
use Rattle.refusal.specs.Number.{number_of}
use Rattle.settings.specs.Answers as Settings
use Rattle.chains.specs.declared.chain.Terms.{Terms}
use Rattle.chains.specs.Terms.{Flattens}
use Rattle.pruner.specs.declared.Pruned.{Pruned}

-- an answered prune with its two counts, or a refusal by its number
abbrev pub meaning : Result Pruned Refusal → M.Answer
meaning (Ok pruned) = M.pruned pruned.id pruned.kept pruned.dropped
meaning (Err refusal) = M.refused (number_of refusal)

-- a threshold's bits, none, or the refusal of what was handed in
abbrev pub threshold_of : Result (Option ℕ) Refusal → T.Threshold
threshold_of = Settings.meaning

-- ---- prunes

-- the nodes in memory, and how much is lent
abbrev pub nodes_of : Memory → List Node
nodes_of m = nodes_in m.words m.arena.count

abbrev pub lent_in : Memory → Lent
lent_in m = lent m.words m.slots

-- the terms of a root's chain that a threshold keeps
abbrev pub FlattensIn : Memory → ℕ → ℕ → Result Terms Refusal → List ℕ → Type 0
FlattensIn m root threshold = Flattens (chain (nodes_of m) root) (keeps (nodes_of m) (of_bits binary64 threshold))

-- A prune on a sound store: the plain machine's answer and nodes. A refusal, other than 21 and 22, "changes nothing".
pub record Prunes (m : Memory) (plain : M.Outcome) (answer : Result Pruned Refusal) (m' : Memory) : Type 0 where
  pub plainly : M.outcome (meaning answer) (nodes_of m') ≡ plain
  pub kept : Kept m.words m.slots m.arena m'.words m'.slots m'.arena
  pub unchanged : (number : ℕ) → meaning answer ≡ M.refused number → not (keeps_interned number) ≡ true → m' ≡ m

-- The plain machine's prune of a chain, of a root and of a call's arguments.
abbrev pub PrunesChain : Memory → ℕ → ℕ → Result Pruned Refusal → Memory → Type 0
PrunesChain m root threshold = Prunes m (M.prune_chain (lent_in m) (nodes_of m) (of_bits binary64 threshold) (chain (nodes_of m) root))

abbrev pub PrunesRoot : Memory → ℕ → ℕ → Result Pruned Refusal → Memory → Type 0
PrunesRoot m root threshold = Prunes m (M.prune_at (lent_in m) (nodes_of m) root (T.bits threshold))

abbrev pub PrunesCall : Memory → ℕ → Result (Option ℕ) Refusal → Result Pruned Refusal → Memory → Type 0
PrunesCall m root threshold = Prunes m (M.prune_call (lent_in m) (nodes_of m) root (threshold_of threshold))

-- A prune on any store, which is audited: 20 and nothing changed where it is not sound.
pub data PrunesAudited (m : Memory) (root : ℕ) (threshold : Result (Option ℕ) Refusal) : Result Pruned Refusal → Memory → Type 0 where
  unsound : (model.Sound m → ⊥) → PrunesAudited m root threshold (Err NotSound) m
  sound : {answer : Result Pruned Refusal} {m' : Memory} → model.Sound m → PrunesCall m root threshold answer m' → PrunesAudited m root threshold answer m'
