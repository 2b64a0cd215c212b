-- Building what a replacement says, one node after another.
use Prim.Native.Nat.{ℕ, ◌/◌}
use mathlib.Core.Path.{◌≡◌, sym, ap, ap₂, ◌∙◌, subst}
use mathlib.Core.List.{List}
use Rattle.std.specs.Prelude.{Result, Ok, Err, length}
use Rattle.refusal.specs.declared.Refusal.{Refusal}
use Rattle.arena.specs.Layout.{node_words}
use Rattle.definitions.specs.Node as N
use Rattle.definitions.specs.Intern as I
use Rattle.store.specs.View.{nodes_in, lent}
use Rattle.store.specs.Memory.{Memory}
use Rattle.store.specs.Held.{built_in}
use Rattle.store.proofs.Keeping.{kept_trans}
use Rattle.decisions.specs.Carrying.{beside_constant, BuildsBy}
use Rattle.decisions.specs.declared.Side.{Side}
use Rattle.replacements.specs.Building.{BuildsIn}

module _ (P : I.Lent → List N.Node → I.Built) (F : I.Lent → List N.Node → ℕ → I.Built) (m m₁ : Memory) where
  abbrev both : I.Lent → List N.Node → I.Built
  both l ns = I.then (P l ns) (F l)

  -- stopped at the first node
  pub stopped_first : (e : Refusal) → BuildsIn P m (Err e) m₁ → BuildsIn (λ l ns. I.then (P l ns) (F l)) m (Err e) m₁
  stopped_first e first = record {
    answer = ap (λ (x : I.Built). I.then x (F (lent m.words m.slots))) first.answer;
    kept = first.kept;
    low = tt;
  }

  -- a second node over the first
  module _ (i : ℕ) (first : BuildsIn P m (Ok i) m₁) (m₂ : Memory) (answer : Result ℕ Refusal) where
    same_lent : lent m₁.words m₁.slots ≡ lent m.words m.slots
    same_lent = ap₂ (λ (a b : ℕ). record { nodes = a / node_words; slots = b }) first.kept.long first.kept.wide

    pub then_built : BuildsIn (λ l ns. F l ns i) m₁ answer m₂ → BuildsIn (λ l ns. I.then (P l ns) (F l)) m answer m₂
    then_built second = record {
      answer =
          second.answer ∙ ap (λ (x : I.Lent). F x (nodes_in m₁.words m₁.arena.count) i) same_lent
          ∙ ap (λ (x : I.Built). I.then x (F (lent m.words m.slots))) first.answer;
      kept = kept_trans m.words m.slots m.arena m₁.words m₁.slots m₁.arena m₂.words m₂.slots m₂.arena first.kept second.kept;
      low = second.low;
    }

-- the side that is asked for
pub on_side : {side : Side} (t : Side) → side ≡ t → (k bits other : ℕ) (m : Memory) (answer : Result ℕ Refusal) (m' : Memory) → BuildsIn (beside_constant t k bits other) m answer m' → BuildsIn (beside_constant side k bits other) m answer m'
on_side t e k bits other m answer m' b = subst (λ (x : Side). BuildsIn (beside_constant x k bits other) m answer m') (sym e) b
