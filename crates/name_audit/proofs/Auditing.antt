-- What the audit's tests show of a name list.
use Prim.Native.Nat.{ℕ, ◌+◌, ◌≤◌, ◌<◌}
use mathlib.Core.Path.{◌≡◌, sym, subst}
use mathlib.Core.Bool.{Bool, true, false}
use mathlib.Core.List.{List}
use native.Mathlib.Omega.{arith}
use borrow.Author.Count.{below_more}
use Rattle.definitions.specs.Names.{most_names}
use Rattle.definitions.specs.Says.{Says}
use Rattle.name_entries.specs.Entry.{entry_at, SoundEntry, IsEntry}
use Rattle.name_entries.specs.Sound.{SoundNames, EntriesSound, NoNameTwice, lent_entries}
use Rattle.definitions.proofs.Deciding.{says_no, says_map}

module _ (bytes : List ℕ) (i : ℕ) (e : List ℕ) (r : Bool) (at : IsEntry bytes i e) (s : Says r (SoundEntry e)) where
  pub entry_bad : (count : ℕ) → i < count → r ≡ false → Says false (EntriesSound bytes count)
  entry_bad count l f = says_no (λ all. s.no f (subst SoundEntry (sym at.is) (all i l)))

  pub entry_good : r ≡ true → EntriesSound bytes i → EntriesSound bytes (i + 1)
  entry_good t h = below_more (λ (j : ℕ). SoundEntry (entry_at bytes j)) i h (subst SoundEntry at.is (s.yes t))

-- the parts of a sound list, tested one after the other
module _ (bytes : List ℕ) (count : ℕ) where
  pub many_no : most_names < count → Says false (SoundNames bytes count)
  many_no l = says_no (λ s. let m = s.many in omega arith)

  pub lent_no : lent_entries bytes < count → Says false (SoundNames bytes count)
  lent_no l = says_no (λ s. let m = s.lent in omega arith)

  pub entries_no : (r : Bool) → Says r (EntriesSound bytes count) → r ≡ false → Says false (SoundNames bytes count)
  entries_no r s f = says_no (λ x. s.no f x.entries)

  pub all_parts : (r : Bool) → count ≤ most_names → count ≤ lent_entries bytes → EntriesSound bytes count → Says r (NoNameTwice bytes count) → Says r (SoundNames bytes count)
  all_parts r many lent entries s = says_map r (λ once. record { many = many; lent = lent; entries = entries; once = once }) (λ x. x.once) s
