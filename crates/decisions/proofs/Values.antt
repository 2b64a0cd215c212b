-- Only a constant has a value.
use Prim.Native.Nat.{ℕ}
use mathlib.Core.Path.{◌≡◌, refl}
use mathlib.Core.Bool.{Bool, true, false, cond}
use mathlib.Core.Option.{Option, none, some}
use lib.Dec.{eqb}
use lib.Ieee.{Float, binary64, of_bits}
use native.Mathlib.Omega.{arith}
use Rattle.std.specs.Prelude.{Some, None}
use Rattle.std.specs.Prelude as Std
use Rattle.std.specs.Option.{is_some}
use Rattle.definitions.specs.Node.{Node, constant_kind}
use Rattle.definitions.specs.Patterns.{constant_value}
use Rattle.decisions.specs.Reading.{value_of}

pub is_constant : (n : Node) (o : Std.Option ℕ) → value_of o ≡ constant_value n → is_some o ≡ true → eqb n.kind constant_kind ≡ true
unfolding constant_value
is_constant n o h s = go o (eqb n.kind constant_kind) h s
  where
    go : (o : Std.Option ℕ) (b : Bool) → value_of o ≡ cond b (some (of_bits binary64 n.payload)) none → is_some o ≡ true → b ≡ true
    go (Some x) true e s = refl
    go (Some x) false e s = absurd (let z : ◌≡◌ {A = ℕ} 0 1 = cc in omega arith)
    go None b e s = absurd (let z : ◌≡◌ {A = ℕ} 0 1 = cc in omega arith)
