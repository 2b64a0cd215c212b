-- An id as calls take it: in 32 bits. Ids that calls answer are below 65,536.
use Rattle.std.specs.Prelude.{ℕ, ◌%◌}

abbrev pub id_of : ℕ → ℕ
id_of id = id % 4294967296
