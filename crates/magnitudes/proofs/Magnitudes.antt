-- A term's magnitude: "constant: |v|; other: 1.0".
use Prim.Native.Nat.{ℕ}
use mathlib.Core.Path.{◌≡◌, sym, ap, ◌∙◌}
use mathlib.Core.Bool.{Bool, cond}
use mathlib.Core.Option.{none, some}
use lib.Ieee.{binary64, of_bits}
use borrow.Author.Tests.{eq-eqb, ne_eqb}
use Rattle.definitions.specs.Node.{Node, constant_kind}
use Rattle.definitions.specs.Patterns.{constant_value}
use Rattle.definitions.specs.Prune.{absolute, magnitude}

pub constant_magnitude : (n : Node) (payload : ℕ) → n.kind ≡ constant_kind → payload ≡ n.payload → absolute (of_bits binary64 payload) ≡ magnitude (constant_value n)
unfolding constant_value
constant_magnitude n payload e q =
    ap (λ (b : ℕ). absolute (of_bits binary64 b)) q
    ∙ ap (λ (b : Bool). magnitude (cond b (some (of_bits binary64 n.payload)) none)) (sym (eq-eqb n.kind constant_kind e))

pub other_magnitude : (n : Node) → (n.kind ≡ constant_kind → ⊥) → absolute (of_bits binary64 0x3ff0_0000_0000_0000) ≡ magnitude (constant_value n)
unfolding constant_value of_bits
other_magnitude n e = ap (λ (b : Bool). magnitude (cond b (some (of_bits binary64 n.payload)) none)) (sym (ne_eqb n.kind constant_kind e))
