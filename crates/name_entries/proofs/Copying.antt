-- An entry whose name is copied at once.
use Prim.Native.Nat.{ℕ, ◌≤◌}
use mathlib.Core.Path.{◌≡◌, refl, ap, ◌∙◌}
use mathlib.Core.List.{List, ◌∷◌, ◌++◌}
use lib.ListN.{length, drop, replicate}
use Rattle.std.proofs.lemmas.List.{drop-replicate}
use Rattle.definitions.specs.Names.{longest_name}
use Rattle.name_entries.specs.Entry.{entry_of, IsEntryOf}
use Rattle.name_entries.proofs.Entries.{entry_of_length}

-- the entry of a name: its length, its bytes, and 0s
pub entry_copied : (name bytes : List ℕ) (n : ℕ) → bytes ≡ name → length name ≤ longest_name → n ≡ length name → IsEntryOf name (length name ∷ (bytes ++ drop n (replicate longest_name 0)))
entry_copied name bytes n e small h =
    let is : length name ∷ (bytes ++ drop n (replicate longest_name 0)) ≡ entry_of name = rw (e, h, drop-replicate) refl in
    record { is = is; size = ap length is ∙ entry_of_length name small }
