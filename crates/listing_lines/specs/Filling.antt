-- Lines in one array.
use Rattle.std.specs.Prelude.{ℕ, ◌+◌, ◌≤◌, ◌≡◌, List, ◌++◌, length, take, drop}

-- text put into an array from a place on, and the place after it; the bytes from there on stay
pub record PutsLine (text : List ℕ) (at : ℕ) (out : List ℕ) (r : ℕ) (out' : List ℕ) : Type 0 where
  pub is : take r out' ≡ take at out ++ text
  pub place : r ≡ at + length text
  pub rest : drop r out' ≡ drop r out

-- an array starts with this text, of so many bytes, and the bytes past it stay
pub record Fills (text : List ℕ) (r : ℕ) (out out' : List ℕ) : Type 0 where
  pub is : out' ≡ text ++ drop r out
  pub long : r ≡ length text
  pub within : r ≤ length out
