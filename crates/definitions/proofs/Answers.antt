-- A controller's answer is that of the store, or of the names, that it was made of.
use Prim.Native.Nat.{ℕ}
use mathlib.Core.Path.{◌≡◌, ap}
use mathlib.Core.Bool.{Bool}
use mathlib.Core.List.{List}
use native.Mathlib.Omega.{arith}
use Rattle.definitions.specs.Machine as M
use Rattle.definitions.specs.Names as N
use Rattle.definitions.specs.Controller.{ControllerAnswer, stored, simplified, pruned, numbered, unknown, named, refused, from_store, from_names}

pub from_stored : (a : M.Answer) (id : ℕ) → from_store a ≡ stored id → a ≡ M.stored id
from_stored (M.stored i) id e = let q : i ≡ id = cc in ap M.stored q
from_stored (M.simplified i spent steps) id e = let z : ◌≡◌ {A = ℕ} 0 1 = cc in absurd (omega arith)
from_stored (M.pruned i kept dropped) id e = let z : ◌≡◌ {A = ℕ} 0 1 = cc in absurd (omega arith)
from_stored (M.refused number) id e = let z : ◌≡◌ {A = ℕ} 0 1 = cc in absurd (omega arith)

pub from_simplified : (a : M.Answer) (id : ℕ) (spent : Bool) (steps : ℕ) → from_store a ≡ simplified id spent steps → a ≡ M.simplified id spent steps
from_simplified (M.stored i) id spent steps e = let z : ◌≡◌ {A = ℕ} 0 1 = cc in absurd (omega arith)
from_simplified (M.simplified i b k) id spent steps e =
    let p : i ≡ id = cc in
    let q : b ≡ spent = cc in
    let r : k ≡ steps = cc in
    λ j. M.simplified (p j) (q j) (r j)
from_simplified (M.pruned i kept dropped) id spent steps e = let z : ◌≡◌ {A = ℕ} 0 1 = cc in absurd (omega arith)
from_simplified (M.refused number) id spent steps e = let z : ◌≡◌ {A = ℕ} 0 1 = cc in absurd (omega arith)

pub from_pruned : (a : M.Answer) (id kept dropped : ℕ) → from_store a ≡ pruned id kept dropped → a ≡ M.pruned id kept dropped
from_pruned (M.stored i) id kept dropped e = let z : ◌≡◌ {A = ℕ} 0 1 = cc in absurd (omega arith)
from_pruned (M.simplified i spent steps) id kept dropped e = let z : ◌≡◌ {A = ℕ} 0 1 = cc in absurd (omega arith)
from_pruned (M.pruned i k d) id kept dropped e =
    let p : i ≡ id = cc in
    let q : k ≡ kept = cc in
    let r : d ≡ dropped = cc in
    λ j. M.pruned (p j) (q j) (r j)
from_pruned (M.refused number) id kept dropped e = let z : ◌≡◌ {A = ℕ} 0 1 = cc in absurd (omega arith)

pub from_numbered : (a : N.NameAnswer) (number : ℕ) → from_names a ≡ numbered number → a ≡ N.numbered number
from_numbered (N.numbered n) number e = let q : n ≡ number = cc in ap N.numbered q
from_numbered N.unknown number e = let z : ◌≡◌ {A = ℕ} 0 1 = cc in absurd (omega arith)
from_numbered (N.named name) number e = let z : ◌≡◌ {A = ℕ} 0 1 = cc in absurd (omega arith)
from_numbered (N.refused n) number e = let z : ◌≡◌ {A = ℕ} 0 1 = cc in absurd (omega arith)
