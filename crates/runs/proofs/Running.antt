-- The loop of turns is the plain machine's walk.
use Prim.Native.Nat.{ℕ, zero, suc, ◌+◌, ◌-◌, ◌/◌, ◌≤◌, ◌<◌}
use mathlib.Core.Path.{◌≡◌, refl, sym, ap, ap₂, ◌∙◌, subst}
use mathlib.Core.Bool.{true, false}
use mathlib.Core.List.{List, [], ◌∷◌}
use mathlib.Core.Logic.{◌⊎◌, ⊎_elim}
use lib.ListN.{length, get_or}
use native.Mathlib.Omega.{arith}
use native.Mathlib.Decide.{ℕ_discrete}
use native.Mathlib.Nat.{sub-zero}
use native.Mathlib.Numerals.{add-one}
use Rattle.arena.specs.Layout.{node_words}
use Rattle.definitions.specs.Node.{Node}
use Rattle.definitions.specs.Intern.{Lent}
use Rattle.definitions.specs.Walk.{Mode, Frame, frame, Turn, go, stop, turn, Walked, walk, finished, spent, halted, walk_root}
use Rattle.definitions.specs.Modes.{mode_of}
use Rattle.definitions.specs.Machine as M
use Rattle.store.specs.declared.holding.Store.{Store}
use Rattle.store.specs.Held.{held, SameLists}
use Rattle.store.proofs.Viewing.{plain_length}
use Rattle.store.proofs.Keeping.{kept_refl, kept_trans}
use Rattle.runs.specs.declared.state.Walk.{Walk}
use Rattle.std.specs.Prelude.{Result, Ok, Err}
use Rattle.refusal.specs.declared.Refusal.{Refusal}
use Rattle.runs.specs.declared.Simplified.{Simplified}
use Rattle.rebuild.specs.Memory.{Memory, SoundMemory, nodes_of, lent_of, Keeps}
use Rattle.turns.specs.Stack.{Stack, frames_of, values_of, frames_in, values_in, Valid, Invariant}
use Rattle.turns.specs.Turns.{Turnable, turned, turn_of, Turns}
use Rattle.runs.specs.States.{stack_of}
use Rattle.runs.specs.Runs.{Startable, Ends, WalksRoot}
use Rattle.turns.proofs.Stacks as S

-- ---- the plain walk, a turn at a time

module _ (mode : Mode) (l : Lent) (limit : ℕ) where
  unfoldable next : Turn → ℕ → ℕ → Walked
  unfolding walk
  next (go ms gs ws) b n = walk mode l limit b n ms gs ws
  next (stop ms r) b n = halted ms r

  one_turn : (b n : ℕ) (ns : List Node) (fs : List Frame) (vs : List ℕ) → 1 ≤ length fs → walk mode l limit (suc b) n ns fs vs ≡ next (turn_of mode l limit ns fs vs) b (suc n)
  unfolding walk next
  one_turn b n ns [] vs h = absurd (omega arith)
  one_turn b n ns (f ∷ fs) vs h = by (turn mode l limit ns f fs vs)
    where
      by : (t : Turn) → elim t [ go ms gs ws ↦ walk mode l limit b (suc n) ms gs ws | stop ms r ↦ halted ms r ] ≡ next t b (suc n)
      by (go ms gs ws) = refl
      by (stop ms r) = refl

  walk_turn : (budget n : ℕ) (ns : List Node) (fs : List Frame) (vs : List ℕ) → 1 ≤ length fs → n < budget → (t : Turn) → t ≡ turn_of mode l limit ns fs vs
      → walk mode l limit (budget - n) n ns fs vs ≡ next t (budget - (n + 1)) (n + 1)
  walk_turn budget n ns fs vs h lt t e =
      let k : budget - n ≡ suc (budget - (n + 1)) = omega arith in
      ap (λ (x : ℕ). walk mode l limit x n ns fs vs) k ∙ one_turn (budget - (n + 1)) n ns fs vs h
      ∙ ap₂ (λ (x : Turn) (y : ℕ). next x (budget - (n + 1)) y) (sym e) (sym (add-one n))

  walk_end : (b n : ℕ) (ns : List Node) (vs : List ℕ) → walk mode l limit b n ns [] vs ≡ finished ns (get_or vs 0 0) n
  unfolding walk
  walk_end zero n ns vs = refl
  walk_end (suc b) n ns vs = refl

  walk_spent : (b n : ℕ) (ns : List Node) (fs : List Frame) (vs : List ℕ) → b ≡ 0 → 1 ≤ length fs → walk mode l limit b n ns fs vs ≡ spent ns n
  unfolding walk
  walk_spent b n ns [] vs e h = absurd (omega arith)
  walk_spent b n ns (f ∷ fs) vs e h = ap (λ (x : ℕ). walk mode l limit x n ns (f ∷ fs) vs) e

pub lent_same : (m m' : Memory) → Keeps m m' → lent_of m' ≡ lent_of m
lent_same m m' k = ap₂ (λ (a b : ℕ). record { nodes = a / node_words; slots = b }) k.long k.wide

-- ---- what holds between turns of a run

pub record Running (mode : Mode) (m : Memory) (root limit budget : ℕ) (here : Memory) (k : Stack) (steps : ℕ) : Type 0 where
  pub kept : Keeps m here
  pub invariant : Invariant (nodes_of here) limit k
  pub within : steps ≤ budget
  pub same : walk mode (lent_of m) limit (budget - steps) steps (nodes_of here) (frames_in k) (values_in k) ≡ walk_root mode (lent_of m) limit budget (nodes_of m) root

-- and the store's lists are the same as at first
pub record InRun (mode : Mode) (first : Store) (root limit budget : ℕ) (here : Store) (k : Stack) (steps : ℕ) : Type 0 where
  pub same : SameLists first here
  pub running : Running mode (held first) root limit budget (held here) k steps

pub same_then : {a b d : Store} → SameLists a b → SameLists b d → SameLists a d
same_then p q = record { nodes = q.nodes ∙ p.nodes; slots = q.slots ∙ p.slots; long = q.long ∙ p.long; wide = q.wide ∙ p.wide }

module _ (mode : Mode) (m : Memory) (root limit budget : ℕ) where
  abbrev result : Walked
  result = walk_root mode (lent_of m) limit budget (nodes_of m) root

  module _ (here : Memory) (k : Stack) (steps : ℕ) (R : Running mode m root limit budget here k steps) where
    some : (k.depth ≡ 0 → ⊥) → 1 ≤ length (frames_in k)
    some h = omega (arith, S.frames_length k.frames k.depth)

    pub ready : (k.depth ≡ 0 → ⊥) → Turnable here limit k
    ready h = record { some = omega arith; invariant = R.invariant }

    module _ (h : k.depth ≡ 0 → ⊥) (lt : steps < budget) (after : Memory) (k' : Stack) (done : Result (Unit {0}) Refusal) (t : Turns mode here limit k after k' done) where
      abbrev left : Turn
      left = turned done (nodes_of after) (frames_in k') (values_in k')

      turn_is : left ≡ turn_of mode (lent_of m) limit (nodes_of here) (frames_in k) (values_in k)
      turn_is = t.plainly ∙ ap (λ (l : Lent). turn_of mode l limit (nodes_of here) (frames_in k) (values_in k)) (lent_same m here R.kept)

      kept_on : Keeps m after
      kept_on =
          kept_trans m.words m.slots m.arena here.words here.slots here.arena after.words after.slots after.arena R.kept t.kept

      walked : (x : Result (Unit {0}) Refusal) → done ≡ x → next mode (lent_of m) limit (turned x (nodes_of after) (frames_in k') (values_in k')) (budget - (steps + 1)) (steps + 1) ≡ result
      walked x e =
          ap (λ (y : Result (Unit {0}) Refusal). next mode (lent_of m) limit (turned y (nodes_of after) (frames_in k') (values_in k')) (budget - (steps + 1)) (steps + 1)) (sym e)
          ∙ sym (walk_turn mode (lent_of m) limit budget steps (nodes_of here) (frames_in k) (values_in k) (some h) lt left turn_is) ∙ R.same

      pub goes_on : done ≡ Ok tt → Running mode m root limit budget after k' (steps + 1)
      unfolding next
      goes_on e = record { kept = kept_on; invariant = t.goes e; within = omega arith; same = walked (Ok tt) e }

      pub stops : (refusal : Refusal) → done ≡ Err refusal → WalksRoot mode m root limit budget after (Err refusal)
      unfolding next
      stops refusal e = record { plainly = ap (M.walked_as root) (walked (Err refusal) e); kept = kept_on }

    finishes : k.depth ≡ 0 → WalksRoot mode m root limit budget here (Ok (record { id = get_or k.values 0 0; spent = false; steps = steps }))
    finishes z =
        let none : frames_in k ≡ [] = ap (frames_of k.frames) z in
        let v : Valid (nodes_of here) [] (values_in k) = subst (λ (x : List Frame). Valid (nodes_of here) x (values_in k)) none R.invariant.valid in
        let one : k.filled ≡ 1 = sym (S.values_length k.values k.filled) ∙ v.0 in
        record {
          plainly =
              ap (λ (x : ℕ). M.outcome (M.simplified (get_or (values_of k.values x) 0 0) false steps) (nodes_of here)) (sym one)
              ∙ ap (M.walked_as root)
              (sym (walk_end mode (lent_of m) limit (budget - steps) steps (nodes_of here) (values_in k))
              ∙ ap (λ (x : List Frame). walk mode (lent_of m) limit (budget - steps) steps (nodes_of here) x (values_in k)) (sym none) ∙ R.same);
          kept = R.kept;
        }

    spends : budget ≤ steps → (k.depth ≡ 0 → ⊥) → WalksRoot mode m root limit budget here (Ok (record { id = root; spent = true; steps = steps }))
    spends b h = record {
      plainly =
          ap (M.walked_as root)
          (sym (walk_spent mode (lent_of m) limit (budget - steps) steps (nodes_of here) (frames_in k) (values_in k) (omega arith) (some h)) ∙ R.same);
      kept = R.kept;
    }

    -- no turn is left to do
    pub ends : (budget ≤ steps) ⊎ (k.depth ≡ 0) → (r : Simplified) → Ends k.depth (get_or k.values 0 0) root steps r
        → WalksRoot mode m root limit budget here (Ok r)
    ends over r e = by (ℕ_discrete k.depth 0)
      where
        by : Dec (k.depth ≡ 0) → WalksRoot mode m root limit budget here (Ok r)
        by (yes z) = subst (λ (x : Simplified). WalksRoot mode m root limit budget here (Ok x)) (sym (e.finished z)) (finishes z)
        by (no n) =
            subst (λ (x : Simplified). WalksRoot mode m root limit budget here (Ok x)) (sym (e.spent n))
            (spends (⊎_elim (λ b. b) (λ z. absurd (n z)) over) n)

-- ---- the first state

module _ (m : Memory) (root budget : ℕ) (w : Walk) (sound : SoundMemory m) (s : Startable m root w) where
  abbrev k : Stack
  k = stack_of w

  no_values : values_in k ≡ []
  no_values = ap (values_of (stack_of w).values) s.starts.none

  pub begins : Running (mode_of w.mode) m root w.limit budget m (stack_of w) 0
  unfolding walk_root
  begins = record {
    kept = kept_refl m.words m.slots m.arena sound;
    invariant = record {
      listed = s.listed;
      deep = omega (arith, s.starts.one);
      whole = s.starts.whole;
      valid = subst (λ (x : List Frame). Valid (nodes_of m) x (values_in k)) (sym s.starts.frames)
          (subst (Valid (nodes_of m) (frame root 0 0 ∷ [])) (sym no_values) (omega (arith, s.below, plain_length m.words m.arena.count), omega arith, tt, refl, tt));
    };
    within = omega arith;
    same = λ i. walk (mode_of w.mode) (lent_of m) w.limit (sub-zero budget i) 0 (nodes_of m) (s.starts.frames i) (no_values i);
  }
