-- Pruning again over memory: each prune is the plain machine's, and one that leaves the nodes leaves the memory.
use Prim.Native.Nat.{ℕ, ◌≤◌}
use mathlib.Core.Path.{◌≡◌, refl, sym, ap, ◌∙◌, subst}
use mathlib.Core.List.{List}
use Rattle.definitions.specs.Node as N
use Rattle.definitions.specs.Intern.{Lent}
use Rattle.definitions.specs.Threshold.{Threshold, given}
use Rattle.definitions.specs.Machine.{Call, Answer, pruned, Outcome, outcome, prune_call, State, After, on_nodes, call}
use Rattle.store.specs.Memory.{Memory, model, nodes_of, memory_after, Leaves}
use Rattle.store.proofs.Staying.{leaves_is, leaves_same}
use Rattle.pruned_again.specs.Plain.{PlainlySound, prune_at_bits, least_kept, NotBelow}
use Rattle.pruned_again.specs.Stored.{Asks, by_bits, by_setting, SameStored, HigherStored}
use Rattle.pruned_again.proofs.SoundStores.{sound_plainly}
use Rattle.pruned_again.proofs.Same.{same_plainly}
use Rattle.pruned_again.proofs.Higher.{higher_plainly}

-- ---- each prune is the plain machine's
call_is : {c : Call} {i : ℕ} {t : Threshold} → Asks c i t → (l : Lent) (s : State) → call l s c ≡ on_nodes s (prune_call l s.nodes i t)
unfolding call
call_is by_bits l s = refl
call_is by_setting l s = refl

-- what is lent is what was lent before the first of the calls
called_plainly : (l : Lent) (c : Call) (i : ℕ) (t : Threshold) (m m' : Memory) (a : Answer) → model.lent m ≡ l → model.Sound m → Asks c i t → Leaves c m a m'
    → ((prune_call l (nodes_of m) i t).answer ≡ a) × ((prune_call l (nodes_of m) i t).nodes ≡ nodes_of m')
called_plainly l c i t m m' a e h q k =
    subst (λ (l : Lent). ((prune_call l (nodes_of m) i t).answer ≡ a) × ((prune_call l (nodes_of m) i t).nodes ≡ nodes_of m')) e (
      sym (k.called.answer h ∙ ap (λ (x : After). x.answer) (call_is q (model.lent m) (model.view m))),
      sym (ap (λ (x : State). x.nodes) (k.called.left h ∙ ap (λ (x : After). x.left) (call_is q (model.lent m) (model.view m)))),
    )

-- ---- the two promises
pub same_stored : SameStored
same_stored c c' i id kept dropped t m m' m'' a h q k q' k' =
    let l = model.lent m in
    let first = called_plainly l c i t m m' (pruned id kept dropped) refl h q k in
    let second = called_plainly l c' id t m' m'' a k.called.same_lent (k.called.sound h) q' k' in
    let plain = same_plainly l (nodes_of m) i id kept dropped t (sound_plainly m h) first.0 in
    let there : prune_call l (nodes_of m') id t ≡ outcome (pruned id plain.0 0) (nodes_of m')
    = subst (λ (ns : List N.Node). prune_call l ns id t ≡ outcome (pruned id plain.0 0) ns) first.1 plain.1 in (
      (plain.0, sym second.0 ∙ ap (λ (x : Outcome). x.answer) there),
      leaves_same c' m' a m'' (k.called.sound h) k' (sym second.1 ∙ ap (λ (x : Outcome). x.nodes) there),
    )

abbrev Both : Lent → List N.Node → List N.Node → ℕ → ℕ → ℕ → ℕ → Type 0
Both l ms os i u id kept =
    ((d : ℕ) × (prune_at_bits l ms i u ≡ outcome (pruned id kept d) os)) × ((d : ℕ) × (prune_at_bits l os i u ≡ outcome (pruned id kept d) os))

higher_at : (l : Lent) (ns ms os : List N.Node) (i t u id kept dropped id' kept' dropped' : ℕ) → PlainlySound ns
    → (prune_at_bits l ns i t).answer ≡ pruned id kept dropped → (prune_at_bits l ns i t).nodes ≡ ms → least_kept ≤ kept → NotBelow t u
    → (prune_at_bits l ms id u).answer ≡ pruned id' kept' dropped' → (prune_at_bits l ms id u).nodes ≡ os → Both l ms os i u id' kept'
higher_at l ns ms os i t u id kept dropped id' kept' dropped' p ea en two up =
    subst (λ (ms : List N.Node). (prune_at_bits l ms id u).answer ≡ pruned id' kept' dropped' → (prune_at_bits l ms id u).nodes ≡ os → Both l ms os i u id' kept') en
    (λ fa fn. subst (λ (os : List N.Node). Both l (prune_at_bits l ns i t).nodes os i u id' kept') fn (higher_plainly l ns i t u id kept dropped id' kept' dropped' p ea two up fa))

pub higher_stored : HigherStored
higher_stored c c' c'' i t u id kept dropped id' kept' dropped' m m' m'' n o a b h q k two up q' k' q'' =
    let l = model.lent m in
    let h' = k.called.sound h in
    let h'' = k'.called.sound h' in
    let e' = k.called.same_lent in
    let e'' = k'.called.same_lent ∙ e' in
    let first = called_plainly l c i (given t) m m' (pruned id kept dropped) refl h q k in
    let second = called_plainly l c' id (given u) m' m'' (pruned id' kept' dropped') e' h' q' k' in
    let plain = higher_at l (nodes_of m) (nodes_of m') (nodes_of m'') i t u id kept dropped id' kept' dropped' (sound_plainly m h) first.0 first.1 two up second.0 second.1 in (
      (λ x.
          let third = called_plainly l c'' i (given u) m' n a e' h' q'' x in (
            (plain.0.0, sym third.0 ∙ ap (λ (y : Outcome). y.answer) plain.0.1),
            leaves_is c'' m' a n h' x ∙ ap (memory_after m') (sym third.1 ∙ ap (λ (y : Outcome). y.nodes) plain.0.1) ∙ sym (leaves_is c' m' (pruned id' kept' dropped') m'' h' k'),
          )),
      (λ x.
          let fourth = called_plainly l c'' i (given u) m'' o b e'' h'' q'' x in (
            (plain.1.0, sym fourth.0 ∙ ap (λ (y : Outcome). y.answer) plain.1.1),
            leaves_same c'' m'' b o h'' x (sym fourth.1 ∙ ap (λ (y : Outcome). y.nodes) plain.1.1),
          )),
    )
