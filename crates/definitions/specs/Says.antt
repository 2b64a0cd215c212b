-- What a test's answer says.
use Rattle.std.specs.Prelude.{◌≡◌, Bool, true, false}

-- the answer decides the statement, both ways
pub record Says (r : Bool) (P : Type 0) : Type 0 where
  pub yes : r ≡ true → P
  pub no : r ≡ false → P → ⊥
