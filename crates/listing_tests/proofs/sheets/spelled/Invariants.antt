-- What was written of a sheet stays within it.
use Rattle.std.proofs.Common.{◌≤◌, length}
use Rattle.listing_tests.proofs.sheets.spelled.Given as goal

abbrev pub invariant-loop-sign : goal.invariant-loop-sign
invariant-loop-sign l = l.written ≤ length l.sheet
