-- The first line of a listing as a number: `ok` with an id, `ok -`, `spent` with an id, `refused` with a number and a record.
use Rattle.std.specs.Prelude.{ℕ}

abbrev pub ok_form : ℕ
ok_form = 0

abbrev pub empty_form : ℕ
empty_form = 1

abbrev pub spent_form : ℕ
spent_form = 2

abbrev pub refused_form : ℕ
refused_form = 3
