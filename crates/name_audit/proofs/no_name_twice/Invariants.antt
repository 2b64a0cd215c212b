-- `name_audit::no_name_twice` meets its contract. The loop's invariant: the names passed are sorted into buckets, and no two are the same.
use mathlib.Core.Path.{◌≡◌}
use lib.ListN.{length}
use Rattle.definitions.specs.Names.{most_names}
use Rattle.name_entries.specs.Buckets.{buckets}
use Rattle.name_audit.proofs.Chains.{Sorted}
use Rattle.name_audit.proofs.no_name_twice.Given as goal

abbrev pub invariant-loop-i : goal.invariant-loop-i
invariant-loop-i l = (length l.latest ≡ buckets) × (length l.before ≡ most_names) × Sorted l.entries l.i l.latest l.before
