-- A call with any arguments on any store.
use Prim.Native.Nat.{ℕ, ◌≤◌, ◌<◌}
use mathlib.Core.Path.{◌≡◌, refl, sym, ap, ◌∙◌, subst}
use mathlib.Core.Bool.{Bool, true, false, cond, not, ◌||◌, false≢true}
use mathlib.Core.Logic.{⊎_elim}
use lib.ListN.{length}
use lib.Dec.{ltb, eqb}
use native.Mathlib.Omega.{arith}
use borrow.Author.Tests.{le-leb, lt-leb, lt-ltb, le-ltb, eq-eqb}
use Rattle.definitions.specs.Limits.{most_depth}
use Rattle.definitions.specs.Refusals.{bad_operand, bad_code, not_sound, no_node_place, no_slot_place}
use Rattle.definitions.specs.Walk.{walk_root}
use Rattle.definitions.specs.Modes.{mode_of}
use Rattle.definitions.specs.declared.mode.Mode.{Mode}
use Rattle.definitions.specs.Machine as M
use Rattle.definitions.specs.Machine.{Outcome, outcome, refused, simplify, simplify_call, walked_as}
use Rattle.store.proofs.Viewing.{plain_length}
use Rattle.store.proofs.Keeping.{kept_refl}
use Rattle.store.proofs.Leaving.{leaves_unsound, leaves_kept}
use Rattle.store.specs.Memory.{Leaves, keeps_interned}
use Rattle.runs.specs.declared.state.Walk.{Walk}
use Rattle.std.specs.Prelude.{Result}
use Rattle.refusal.specs.declared.Refusal.{Refusal}
use Rattle.runs.specs.declared.Simplified.{Simplified}
use Rattle.rebuild.specs.Memory.{Memory, memory, SoundMemory, nodes_of, lent_of, Keeps}
use Rattle.runs.specs.Answers.{meaning}
use Rattle.runs.specs.States.{Starts}
use Rattle.runs.specs.Runs.{Startable, WalksRoot}
use Rattle.walk.proofs.Refusing.{refused_full}

-- a refusal that changes nothing is neither 21 nor 22
or_left : (a b : Bool) → a ≡ true → not (a || b) ≡ true → ⊥
or_left true b x h = false≢true h
or_left false b x h = false≢true x

or_right : (a b : Bool) → b ≡ true → not (a || b) ≡ true → ⊥
or_right true b x h = false≢true h
or_right false true x h = false≢true h
or_right false false x h = false≢true x

not_node : (number : ℕ) → not (keeps_interned number) ≡ true → number ≡ no_node_place → ⊥
not_node number e h = or_left (eqb number no_node_place) (eqb number no_slot_place) (eq-eqb number no_node_place h) e

not_slot : (number : ℕ) → not (keeps_interned number) ≡ true → number ≡ no_slot_place → ⊥
not_slot number e h = or_right (eqb number no_node_place) (eqb number no_slot_place) (eq-eqb number no_slot_place h) e

module _ (mode : Mode) (m : Memory) (root depth budget : ℕ) where
  -- 20, and nothing changed
  pub unsound : (SoundMemory m → ⊥) → Leaves (simplify (mode_of mode) root depth budget) m (refused not_sound) m
  unsound n = leaves_unsound (simplify (mode_of mode) root depth budget) m n

  module _ (h : SoundMemory m) where
    abbrev plain : Outcome
    plain = simplify_call (mode_of mode) (lent_of m) (nodes_of m) root depth budget

    -- a refusal that a walk is stopped by is 21 or 22, so one that changes nothing is neither
    called : (answer : M.Answer) (m' : Memory) → outcome answer (nodes_of m') ≡ simplify_call (mode_of mode) (lent_of m) (nodes_of m) root depth budget → Keeps m m'
        → ((number : ℕ) → answer ≡ refused number → not (keeps_interned number) ≡ true → m' ≡ m) → Leaves (simplify (mode_of mode) root depth budget) m answer m'
    unfolding M.call
    called answer m' e k u = leaves_kept (simplify (mode_of mode) root depth budget) m answer m' h k (ap (M.on_nodes (M.state (nodes_of m))) (sym e)) u

    untouched : (number : ℕ) → outcome (refused number) (nodes_of m) ≡ plain → Leaves (simplify (mode_of mode) root depth budget) m (refused number) m
    untouched number e = called (refused number) m e (kept_refl m.words m.slots m.arena h) (λ _ _ _. refl)

    abbrev walked : Outcome
    walked = walked_as root (walk_root (mode_of mode) (lent_of m) depth budget (nodes_of m) root)

    abbrev checked : Outcome
    checked = cond (ltb root (length (nodes_of m))) walked (outcome (refused bad_operand) (nodes_of m))

    pub too_deep : most_depth < depth → Leaves (simplify (mode_of mode) root depth budget) m (refused bad_code) m
    unfolding simplify_call
    too_deep d = untouched bad_code (sym (ap (λ (b : Bool). cond b checked (outcome (refused bad_code) (nodes_of m))) (lt-leb depth most_depth d)))

    module _ (d : depth ≤ most_depth) where
      shallow : plain ≡ checked
      unfolding simplify_call
      shallow = ap (λ (b : Bool). cond b checked (outcome (refused bad_code) (nodes_of m))) (le-leb depth most_depth d)

      pub no_node : m.arena.count ≤ root → Leaves (simplify (mode_of mode) root depth budget) m (refused bad_operand) m
      no_node g =
          untouched bad_operand
          (sym (shallow ∙ ap (λ (b : Bool). cond b walked (outcome (refused bad_operand) (nodes_of m))) (le-ltb root (length (nodes_of m)) (omega (arith, plain_length m.words m.arena.count)))))

      answered : root < m.arena.count → (m' : Memory) (r : Result Simplified Refusal) → WalksRoot (mode_of mode) m root depth budget m' r → Leaves (simplify (mode_of mode) root depth budget) m (meaning r) m'
      answered g m' r x =
          called (meaning r) m'
          (x.plainly ∙ sym (shallow ∙ ap (λ (b : Bool). cond b walked (outcome (refused bad_operand) (nodes_of m))) (lt-ltb root (length (nodes_of m)) (omega (arith, plain_length m.words m.arena.count)))))
          x.kept
          (λ number e u. absurd (⊎_elim (not_node number u) (not_slot number u) (refused_full (lent_of m) (mode_of mode) depth budget (nodes_of m) root number (sym (ap (λ (o : Outcome). o.answer) x.plainly) ∙ e))))

      -- the walk, from its first state
      module _ (g : root < m.arena.count) (w : Walk) (s : Starts mode root depth w) where
        pub startable : Startable m root w
        startable = record {
          below = g;
          listed = omega (arith, s.limit_is);
          starts = record { frames = s.frames; one = s.one; none = s.none; whole = s.whole; mode_is = refl; limit_is = refl; going = s.going };
        }

        pub ran : (m' : Memory) (r : Result Simplified Refusal) → WalksRoot (mode_of w.mode) m root w.limit budget m' r
            → Leaves (simplify (mode_of mode) root depth budget) m (meaning r) m'
        ran m' r x =
            answered g m' r
            (subst (λ (limit : ℕ). WalksRoot (mode_of mode) m root limit budget m' r) s.limit_is
            (subst (λ (y : Mode). WalksRoot (mode_of y) m root w.limit budget m' r) s.mode_is x))
