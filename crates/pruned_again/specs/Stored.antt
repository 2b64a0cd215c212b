-- Pruning again, over the memory of every sound store, lent ones too, and over what the code's calls leave of it.
use Rattle.std.specs.Prelude.{ℕ, ◌≤◌, ◌≡◌}
use Rattle.definitions.specs.Threshold.{Threshold, bits, given}
use Rattle.definitions.specs.Settings.{setting}
use Rattle.definitions.specs.Machine.{Call, prune, prune_by_setting, Answer, pruned}
use Rattle.store.specs.Memory.{Memory, model, Leaves}
use Rattle.pruned_again.specs.Plain.{PlainlySound, least_kept, NotBelow}

-- a prune of an id at a threshold, handed in as bits or as a setting
pub data Asks : Call → ℕ → Threshold → Type 0 where
  by_bits : {i t : ℕ} → Asks (prune i t) i (given t)
  by_setting : {i n : ℕ} → Asks (prune_by_setting i n) i (setting n)

-- children lower, an Add or a Sub with a child, no two nodes one: so it is in every sound store, however its memory came about
abbrev pub SoundPlainly : Type 0
SoundPlainly = (m : Memory) → model.Sound m → PlainlySound (model.view m).nodes

-- "For every store and threshold, a prune of an answered prune at the same threshold, on the store it left, gives the same id and adds no
-- node": the memory after the second is the memory before it
abbrev pub SameStored : Type 0
SameStored = (c c' : Call) (i id kept dropped : ℕ) (t : Threshold) (m m' m'' : Memory) (a : Answer) → model.Sound m
    → Asks c i t → Leaves c m (pruned id kept dropped) m'
    → Asks c' id t → Leaves c' m' a m''
    → ((kept' : ℕ) × (a ≡ pruned id kept' 0)) × (m'' ≡ m')

-- "If a first prune at t kept two or more terms, a second at u not below t gives the id that pruning the original at u gives on the store
-- after it": on the store after the first, which it leaves as the second does, and on the store after the second, which it leaves as it was
abbrev pub HigherStored : Type 0
HigherStored = (c c' c'' : Call) (i t u id kept dropped id' kept' dropped' : ℕ) (m m' m'' n o : Memory) (a b : Answer) → model.Sound m
    → Asks c i (given t) → Leaves c m (pruned id kept dropped) m'
    → least_kept ≤ kept
    → NotBelow t u
    → Asks c' id (given u) → Leaves c' m' (pruned id' kept' dropped') m''
    → Asks c'' i (given u)
    → (Leaves c'' m' a n → ((d : ℕ) × (a ≡ pruned id' kept' d)) × (n ≡ m''))
    × (Leaves c'' m'' b o → ((d : ℕ) × (b ≡ pruned id' kept' d)) × (o ≡ m''))

-- ---- settings

-- a prune by a setting that has a threshold is one at its bits
abbrev pub SettingAsks : Type 0
SettingAsks = (i n t : ℕ) → setting n ≡ bits t → Asks (prune_by_setting i n) i (given t)

-- and a setting that is not below another has a threshold that is not below the other's
abbrev pub SettingsRise : Type 0
SettingsRise = (n k t u : ℕ) → n ≤ k → setting n ≡ bits t → setting k ≡ bits u → NotBelow t u
