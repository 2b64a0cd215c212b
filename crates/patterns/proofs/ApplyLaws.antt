-- What is answered and left, by what was decided and built.
use Prim.Native.Nat.{ℕ}
use mathlib.Core.Path.{◌≡◌, refl, ap, ◌∙◌}
use mathlib.Core.List.{List}
use mathlib.Core.Option.{some}
use native.Mathlib.Omega.{arith}
use Rattle.std.specs.Prelude.{Some, None, Ok, Err}
use Rattle.refusal.specs.declared.Refusal.{Refusal}
use Rattle.definitions.specs.Walk.{Mode}
use Rattle.store.specs.View.{lent, Sound}
use Rattle.store.specs.Memory.{Memory}
use Rattle.store.proofs.Keeping.{kept_refl}
use Rattle.decisions.specs.Carrying.{carried}
use Rattle.decisions.specs.Fired.{Fires}
use Rattle.decisions.specs.declared.firing.Decision.{Decision}
use Rattle.replacements.specs.Building.{BuildsIn}
use Rattle.patterns.specs.Rewriting.{AppliesIn}

module _ (mode : Mode) (k : ℕ) (c : List ℕ) (m : Memory) where
  pub applies_none : Fires mode m.words m.arena.count k c None → Sound m.words m.slots m.arena → AppliesIn mode k c m (Ok None) m
  applies_none fires h = record {
    applies = record { is = fires.decides.is (lent m.words m.slots); fired = refl; kept = kept_refl m.words m.slots m.arena h; low = tt; same = λ e. (refl, refl) };
    unchanged = λ e. refl;
  }

  module _ (d : Decision) (fires : Fires mode m.words m.arena.count k c (Some d)) (m' : Memory) where
    pub applies_built : (id : ℕ) → BuildsIn (carried d.replacement) m (Ok id) m' → AppliesIn mode k c m (Ok (Some (record { id = id; fired = Some d.pattern }))) m'
    applies_built id b = record {
      applies = record {
        is = ap some b.answer ∙ fires.decides.is (lent m.words m.slots);
        fired = fires.fired (lent m.words m.slots);
        kept = b.kept;
        low = b.low;
        same = λ e. absurd (let z : ◌≡◌ {A = ℕ} 0 1 = cc in omega arith);
      };
      unchanged = λ e. absurd (let z : ◌≡◌ {A = ℕ} 0 1 = cc in omega arith);
    }

    pub applies_stopped : (refusal : Refusal) → BuildsIn (carried d.replacement) m (Err refusal) m' → AppliesIn mode k c m (Err refusal) m'
    applies_stopped refusal b = record {
      applies = record {
        is = ap some b.answer ∙ fires.decides.is (lent m.words m.slots);
        fired = refl;
        kept = b.kept;
        low = b.low;
        same = λ e. absurd (let z : ◌≡◌ {A = ℕ} 0 1 = cc in omega arith);
      };
      unchanged = λ e. absurd (let z : ◌≡◌ {A = ℕ} 0 1 = cc in omega arith);
    }
