-- Simplify calls: what an answered one gives may stand for its root.
use Prim.Native.Nat.{ℕ, ◌<◌, zero-le}
use mathlib.Core.Path.{◌≡◌, refl, subst}
use mathlib.Core.Bool.{Bool, true, false, cond}
use mathlib.Core.List.{List, [], ◌∷◌}
use lib.ListN.{length}
use native.Mathlib.Omega.{arith}
use borrow.Author.Tests.{ltb-true}
use lib.Dec.{leb, ltb}
use Rattle.definitions.specs.Node.{Node, at}
use Rattle.definitions.specs.Intern.{Lent}
use Rattle.definitions.specs.Walk.{Mode, standard, strict, rebuild_as, frame, Walked, finished, spent, halted, walk_root}
use Rattle.definitions.specs.Machine.{Answer, stored, simplified, pruned, refused, outcome, walked_as, simplify_call}
use Rattle.definitions.specs.Formula.{Tree, formula}
use Rattle.definitions.proofs.Intern.{Sound, Result, stay}
use Rattle.definitions.proofs.Refine.{Replaces, replaces_refl}
use Rattle.definitions.proofs.Walk.{Pairs, WalkOk, walks}
use Rattle.definitions.proofs.Trees.{FloatLaws}
use Rattle.definitions.proofs.Patterns.{rebuilds}
use Rattle.definitions.proofs.StrictPatterns.{strict_rebuilds}
use Rattle.definitions.proofs.Calls.{Done}

-- what an answered walk gives is so related to its root
abbrev pub WalkSays : (Tree → Tree → Type 0) → List Node → ℕ → List Node → Answer → Type 0
WalkSays R ns i ms (stored j) = Unit {0}
WalkSays R ns i ms (simplified j b k) = (i < length ns) × (j < length ms) × R (formula ms j) (formula ns i)
WalkSays R ns i ms (pruned u k d) = Unit {0}
WalkSays R ns i ms (refused r) = Unit {0}

module _ (R : Tree → Tree → Type 0) (R-refl : (t : Tree) → R t t) (m : Mode)
    (rb : (l : Lent) (ns : List Node) (i : ℕ) (vs : List ℕ) → Sound ns → i < length ns → Pairs R ns vs (at ns i).children → Result ns (λ ms j. R (formula ms j) (formula ns i)) (rebuild_as m l ns i vs)) where
  pub walk_says : (l : Lent) (ns : List Node) (i d b : ℕ) → Sound ns → Done ns (WalkSays R ns i) (simplify_call m l ns i d b)
  unfolding simplify_call walk_root
  walk_says l ns i d b s = one (leb d 255)
    where
      close : i < length ns → (w : Walked) → WalkOk R m R-refl rb ns i w → Done ns (WalkSays R ns i) (walked_as i w)
      close h (finished ms j k) x = record { step = x.0; says = (h, x.1.0, subst (R (formula ms j)) (x.0.kept i h) x.1.1) }
      close h (spent ms k) x = record { step = x; says = (h, omega (arith, h, x.longer), subst (λ t. R (formula ms i) t) (x.kept i h) (R-refl (formula ms i))) }
      close h (halted ms r) x = record { step = x; says = tt }

      two' : (c : Bool) → ltb i (length ns) ≡ c → Done ns (WalkSays R ns i) (cond c (walked_as i (walk_root m l d b ns i)) (outcome (refused 4) ns))
      two' true e =
          let h = ltb-true i (length ns) e in
          close h (walk_root m l d b ns i) (walks R m R-refl rb l d b 0 ns i (frame i 0 0 ∷ []) [] s (h, zero-le, ([], refl, (refl, refl))))
      two' false e = record { step = stay ns s; says = tt }

      one : (c : Bool) → Done ns (WalkSays R ns i) (cond c (cond (ltb i (length ns)) (walked_as i (walk_root m l d b ns i)) (outcome (refused 4) ns)) (outcome (refused 5) ns))
      one true = two' (ltb i (length ns)) refl
      one false = record { step = stay ns s; says = tt }

-- ---- in either mode it may stand for the root in the sense of the exact kind

abbrev pub SimplifySays : List Node → ℕ → List Node → Answer → Type 0
SimplifySays ns i ms a = WalkSays Replaces ns i ms a

module _ (L : FloatLaws) (l : Lent) where
  mode_rebuilds : (m : Mode) (l : Lent) (ns : List Node) (i : ℕ) (vs : List ℕ) → Sound ns → i < length ns → Pairs Replaces ns vs (at ns i).children
      → Result ns (λ ms j. Replaces (formula ms j) (formula ns i)) (rebuild_as m l ns i vs)
  mode_rebuilds standard l ns i vs s h p = rebuilds L l ns s i vs h p
  mode_rebuilds strict l ns i vs s h p = strict_rebuilds L l ns s i vs h p

  pub simplifies : (m : Mode) (ns : List Node) (i d b : ℕ) → Sound ns → Done ns (SimplifySays ns i) (simplify_call m l ns i d b)
  simplifies m ns i d b s = walk_says Replaces replaces_refl m (mode_rebuilds m) l ns i d b s
