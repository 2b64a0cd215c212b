-- From a prune on a sound store to a public call's record.
use Prim.Native.Nat.{ℕ}
use mathlib.Core.Path.{◌≡◌, sym, ap, ◌∙◌}
use mathlib.Core.List.{List}
use Rattle.definitions.specs.Threshold as T
use Rattle.definitions.specs.Settings as Settings
use Rattle.definitions.specs.Machine as M
use Rattle.arena.specs.declared.DagArena.{DagArena}
use Rattle.store.specs.View.{nodes_in, lent, Sound}
use Rattle.store.specs.Memory.{Memory, memory, Leaves}
use Rattle.store.proofs.Leaving.{after, leaves_kept, leaves_unsound}
use Rattle.pruner.specs.Answers.{meaning, threshold_of, PrunesCall, PrunesAudited, unsound, sound}
use Rattle.std.specs.Prelude.{Option, Result}
use Rattle.refusal.specs.declared.Refusal.{Refusal}
use Rattle.pruner.specs.declared.Pruned.{Pruned}

module _ (words slots : List ℕ) (s : DagArena) (good : Sound words slots s) (root : ℕ) (answer : Result Pruned Refusal) (m' : Memory) where
  abbrev outcome : T.Threshold → M.After
  outcome t = M.on_nodes (M.state (nodes_in words s.count)) (M.prune_call (lent words slots) (nodes_in words s.count) root t)

  plain : (threshold : Result (Option ℕ) Refusal) (t : T.Threshold) → threshold_of threshold ≡ t → PrunesCall (memory words slots s) root threshold answer m' → outcome t ≡ after (meaning answer) m'
  plain threshold t e p = ap outcome (sym e) ∙ ap (M.on_nodes (M.state (nodes_in words s.count))) (sym p.plainly)

  pub by_bits : (bits : ℕ) (threshold : Result (Option ℕ) Refusal) → threshold_of threshold ≡ T.given bits → PrunesCall (memory words slots s) root threshold answer m'
      → Leaves (M.prune root bits) (memory words slots s) (meaning answer) m'
  unfolding M.call
  by_bits bits threshold e p =
      leaves_kept (M.prune root bits) (memory words slots s) (meaning answer) m' good p.kept (plain threshold (T.given bits) e p) p.unchanged

  pub by_setting : (setting : ℕ) (threshold : Result (Option ℕ) Refusal) → threshold_of threshold ≡ Settings.setting setting → PrunesCall (memory words slots s) root threshold answer m'
      → Leaves (M.prune_by_setting root setting) (memory words slots s) (meaning answer) m'
  unfolding M.call
  by_setting setting threshold e p =
      leaves_kept (M.prune_by_setting root setting) (memory words slots s) (meaning answer) m' good p.kept (plain threshold (Settings.setting setting) e p) p.unchanged

-- ---- on any store

pub audited_by_bits : (words slots : List ℕ) (s : DagArena) (root : ℕ) (answer : Result Pruned Refusal) (m' : Memory) (bits : ℕ) (threshold : Result (Option ℕ) Refusal) → threshold_of threshold ≡ T.given bits
    → PrunesAudited (memory words slots s) root threshold answer m' → Leaves (M.prune root bits) (memory words slots s) (meaning answer) m'
audited_by_bits words slots s root answer m' bits threshold e (unsound n) = leaves_unsound (M.prune root bits) (memory words slots s) n
audited_by_bits words slots s root answer m' bits threshold e (sound h p) = by_bits words slots s h root answer m' bits threshold e p

pub audited_by_setting : (words slots : List ℕ) (s : DagArena) (root : ℕ) (answer : Result Pruned Refusal) (m' : Memory) (setting : ℕ) (threshold : Result (Option ℕ) Refusal)
    → threshold_of threshold ≡ Settings.setting setting
    → PrunesAudited (memory words slots s) root threshold answer m' → Leaves (M.prune_by_setting root setting) (memory words slots s) (meaning answer) m'
audited_by_setting words slots s root answer m' setting threshold e (unsound n) = leaves_unsound (M.prune_by_setting root setting) (memory words slots s) n
audited_by_setting words slots s root answer m' setting threshold e (sound h p) = by_setting words slots s h root answer m' setting threshold e p
