-- A walk is stopped by 21 or 22 alone.
use Prim.Native.Nat.{ℕ, zero, suc}
use mathlib.Core.Path.{◌≡◌, subst}
use mathlib.Core.List.{List, [], ◌∷◌}
use native.Mathlib.Omega.{arith}
use Rattle.definitions.specs.Node.{Node}
use Rattle.definitions.specs.Intern.{Lent}
use Rattle.definitions.specs.Walk.{Mode, Frame, frame, Turn, go, stop, turn, Walked, walk, finished, spent, halted, walk_root}
use Rattle.definitions.specs.Machine as M
use Rattle.definitions.proofs.Stopping.{NoPlace}
use Rattle.turns.proofs.Refusing.{TurnStops, turns}

module _ (l : Lent) where
  abbrev WalkStops : Walked → Type 0
  WalkStops (finished ns i k) = Unit {0}
  WalkStops (spent ns k) = Unit {0}
  WalkStops (halted ns number) = NoPlace number

  walks : (mode : Mode) (limit b k : ℕ) (ns : List Node) (fs : List Frame) (vs : List ℕ) → WalkStops (walk mode l limit b k ns fs vs)
  unfolding walk
  walks mode limit zero k ns [] vs = tt
  walks mode limit zero k ns (f ∷ fs) vs = tt
  walks mode limit (suc b) k ns [] vs = tt
  walks mode limit (suc b) k ns (f ∷ fs) vs = by (turn mode l limit ns f fs vs) (turns l mode limit ns f fs vs) (λ ms gs ws. walks mode limit b (suc k) ms gs ws)
    where
      by : (t : Turn) → TurnStops l t → ((ms : List Node) (gs : List Frame) (ws : List ℕ) → WalkStops (walk mode l limit b (suc k) ms gs ws))
          → WalkStops (elim t [ go ms gs ws ↦ walk mode l limit b (suc k) ms gs ws | stop ms r ↦ halted ms r ])
      by (go ms gs ws) s rec = rec ms gs ws
      by (stop ms r) s rec = s

  -- a walk's refusal
  pub refused_full : (mode : Mode) (limit budget : ℕ) (ns : List Node) (root number : ℕ) → (M.walked_as root (walk_root mode l limit budget ns root)).answer ≡ M.refused number → NoPlace number
  unfolding walk_root
  refused_full mode limit budget ns root number = by (walk mode l limit budget 0 ns (frame root 0 0 ∷ []) []) (walks mode limit budget 0 ns (frame root 0 0 ∷ []) [])
    where
      by : (w : Walked) → WalkStops w → (M.walked_as root w).answer ≡ M.refused number → NoPlace number
      by (finished ms i k) s e = let z : ◌≡◌ {A = ℕ} 0 1 = cc in absurd (omega arith)
      by (spent ms k) s e = let z : ◌≡◌ {A = ℕ} 0 1 = cc in absurd (omega arith)
      by (halted ms r) s e = let q : r ≡ number = cc in subst NoPlace q s
