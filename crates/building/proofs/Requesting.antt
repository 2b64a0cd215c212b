-- The constructors' shared work is the plain machine's store call.
use Prim.Native.Nat.{ℕ}
use mathlib.Core.Path.{◌≡◌, refl, sym, ap, ◌∙◌, subst}
use mathlib.Core.Bool.{Bool, true, false}
use mathlib.Core.List.{List}
use lib.ListN.{length}
use native.Mathlib.Omega.{arith}
use Rattle.arena.specs.declared.DagArena.{DagArena}
use Rattle.kinds.specs.Kind as Kind
use Rattle.kinds.proofs.Listing.{listed_few}
use Rattle.definitions.specs.Node as N
use Rattle.definitions.specs.Intern as I
use Rattle.definitions.specs.Refusals.{bad_operand, bad_code, not_a_number, bad_child_count}
use Rattle.definitions.specs.Machine as M
use Rattle.definitions.specs.Machine.{call, store_call, stored_as, requested, request, all_below, on_nodes, outcome, refused}
use Rattle.store.specs.declared.Built.{Built}
use Rattle.store.specs.declared.NodeAnswer.{NodeAnswer}
use Rattle.store.specs.declared.NodeAnswer.TheVariants.{Id, Refused}
use Rattle.store.specs.Sound.{Sound}
use Rattle.store.specs.View.{nodes_in, lent, plain_built}
use Rattle.store.specs.Lookup.{Fits}
use Rattle.store.specs.Memory.{Memory, memory, model, answer_of, Leaves}
use Rattle.store.specs.Interning.{Interns}
use Rattle.store.proofs.Viewing.{plain_length}
use Rattle.store.proofs.Keeping.{kept_refl}
use Rattle.store.proofs.Leaving.{leaves_unsound, leaves_kept}
use Rattle.building.specs.Requests.{BuildsSound, BuildsAudited, unsound, sound, Asked}
use Rattle.building.proofs.Operands.{below_each}

-- a call that wants what was asked for
module _ (c : M.Store) (q : M.Request) (e : requested c ≡ q) (m : Memory) where
  pub stores_sound : (a : M.Answer) (m' : Memory) → model.Sound m → BuildsSound q m a m' → Leaves (M.store c) m a m'
  unfolding call
  stores_sound a m' h b =
      leaves_kept (M.store c) m a m' h b.kept
      (ap (λ (x : M.Request). on_nodes (model.view m) (store_call (model.lent m) (model.view m).nodes x)) e ∙ ap (on_nodes (model.view m)) (sym b.outcome))
      (λ number r _. b.unchanged number r)

  pub stores_audited : (a : M.Answer) (m' : Memory) → BuildsAudited q m a m' → Leaves (M.store c) m a m'
  stores_audited _ _ (unsound n) = leaves_unsound (M.store c) m n
  stores_audited a m' (sound h b) = stores_sound a m' h b

-- an answer, plainly
answered : (a : NodeAnswer) (ns : List N.Node) → stored_as (plain_built a ns) ≡ outcome (answer_of a) ns
answered (Id id) ns = refl
answered (Refused number) ns = refl

refused_is : (a : NodeAnswer) (number : ℕ) → answer_of a ≡ refused number → a ≡ Refused number
refused_is (Id id) number e = absurd (let z : ◌≡◌ {A = ℕ} 0 1 = cc in omega arith)
refused_is (Refused k) number e = cc

module _ (listed : Bool) (kind payload flags : ℕ) (operands w slots : List ℕ) (s : DagArena) (asked : Asked listed kind payload flags) (h : Sound w slots s) where
  abbrev ns : List N.Node
  ns = nodes_in w s.count

  abbrev wanted : M.Request
  wanted = request listed (N.node kind payload flags operands)

  -- an answer that only gives a number
  abbrev Refuses : ℕ → Type 0
  Refuses number = BuildsSound wanted (memory w slots s) (refused number) (memory w slots s)

  refuses : (number : ℕ) → store_call (lent w slots) ns wanted ≡ outcome (refused number) ns → Refuses number
  refuses number e = record { outcome = sym e; kept = kept_refl w slots s h; unchanged = λ _ _. refl }

  -- 5
  pub refuse_code : listed ≡ false → Refuses bad_code
  unfolding store_call
  refuse_code l = refuses bad_code (rw l refl)

  module _ (l : listed ≡ true) where
    -- 10
    pub refuse_nan : (r : Bool) → r ≡ N.nan_constant kind payload → r ≡ true → Refuses not_a_number
    unfolding store_call
    refuse_nan r e t = refuses not_a_number (rw (l, ← e, t) refl)

    module _ (v : N.nan_constant kind payload ≡ false) where
      -- 6
      pub refuse_count : (r : Bool) → r ≡ Kind.listed kind payload (length operands) → r ≡ false → Refuses bad_child_count
      unfolding store_call
      refuse_count r k f = refuses bad_child_count (rw (l, v, asked.counts l v (length operands), ← k, f) refl)

      module _ (k : Kind.listed kind payload (length operands) ≡ true) where
        -- 4
        pub refuse_operand : (r : Bool) → r ≡ all_below s.count operands → r ≡ false → Refuses bad_operand
        unfolding store_call
        refuse_operand r b f = refuses bad_operand (rw (l, v, asked.counts l v (length operands), k, plain_length w s.count, ← b, f) refl)

        module _ (b : all_below s.count operands ≡ true) where
          pub fits : Fits s.count kind payload flags operands
          fits = record { listing = k; unmarked = asked.unmarked l; few = listed_few _ _ _ k; lower = below_each s.count operands b }

          passed : store_call (lent w slots) ns wanted ≡ stored_as (I.intern (lent w slots) ns (N.node kind payload flags operands))
          unfolding store_call
          passed = rw (l, v, asked.counts l v (length operands), k, plain_length w s.count, b) refl

          -- the id of the node, 21 or 22
          pub interned : (w' slots' : List ℕ) (r : Built) → Interns w slots s (N.node kind payload flags operands) w' slots' r → BuildsSound wanted (memory w slots s) (answer_of r.answer) (memory w' slots' r.arena)
          interned w' slots' r i =
              let o : stored_as (I.intern (lent w slots) ns (N.node kind payload flags operands)) ≡ outcome (answer_of r.answer) (nodes_in w' r.arena.count) = ap stored_as (sym i.builds.answer) ∙ answered r.answer (nodes_in w' r.arena.count) in
              record { outcome = sym (passed ∙ o); kept = i.builds.kept; unchanged = λ number a. i.unchanged number (refused_is r.answer number a) }

-- what was asked for by a code that is listed
pub asked_listed : (listed : Bool) (kind payload flags : ℕ) → listed ≡ true → Asked listed kind payload flags → Asked true kind payload flags
asked_listed listed kind payload flags e asked = subst (λ (b : Bool). Asked b kind payload flags) e asked

pub listed_builds : (listed : Bool) → listed ≡ true → (n : N.Node) (m : Memory) (a : M.Answer) (m' : Memory) → BuildsSound (request true n) m a m' → BuildsSound (request listed n) m a m'
listed_builds listed e n m a m' b = subst (λ (l : Bool). BuildsSound (request l n) m a m') (sym e) b
