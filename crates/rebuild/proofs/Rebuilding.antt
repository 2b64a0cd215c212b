-- A finished frame's node, rebuilt and marked, is the plain machine's.
use Prim.Native.Nat.{ℕ, ◌≤◌, ◌<◌}
use mathlib.Core.Path.{◌≡◌, refl, sym, ap, ◌∙◌, subst}
use mathlib.Core.Bool.{Bool, true, false, cond, ◌||◌, ◌&&◌}
use mathlib.Core.List.{List, ◌∷◌}
use mathlib.Core.Option.{Option, none}
use lib.ListN.{length, set}
use lib.Dec.{eqb}
use native.Mathlib.Omega.{arith}
use borrow.Author.Tests.{eq-eqb, ne_eqb}
use Rattle.definitions.specs.Limits.{most_children}
use Rattle.definitions.specs.Node as N
use Rattle.definitions.specs.Node.{same_children, at, add_kind, mul_kind}
use Rattle.definitions.specs.Intern as I
use Rattle.definitions.specs.Intern.{built}
use Rattle.definitions.specs.Walk as W
use Rattle.definitions.specs.Walk.{Mode, standard, strict, marked, rebuilt, rebuild_as, rebuilt_flags}
use Rattle.definitions.specs.Firing.{Pattern, apply_as, firing, taken, frame_firing}
use Rattle.definitions.proofs.Firing.{exactly, rebuilt_as}
use Rattle.definitions.proofs.StrictMarks.{unmarked_set}
use Rattle.store.specs.View.{nodes_in, lent, Builds, listed}
use Rattle.store.specs.Held.{built_in}
use Rattle.store.specs.Lookup.{Marked, Fits}
use Rattle.store.proofs.Reading as R
use Rattle.store.proofs.Keeping.{kept_refl, kept_trans}
use Rattle.std.specs.Prelude.{Some, None, Result, Ok, Err}
use Rattle.refusal.specs.declared.Refusal.{Refusal}
use Rattle.arena.specs.declared.DagArena.{DagArena}
use Rattle.std.specs.Prelude as Std
use Rattle.patterns.specs.Applied.{Applies, Operands, plain_matched, fires_at, fired_in}
use Rattle.decisions.specs.Fired.{fired_of}
use Rattle.patterns.specs.Rewriting.{AppliesIn}
use Rattle.patterns.specs.declared.Rewritten.{Rewritten}
use Rattle.patterns.specs.declared.Finished.{Finished}
use Rattle.rebuild.specs.Memory.{Memory, memory, nodes_of, lent_of, Keeps}
use Rattle.rebuild.specs.Rebuild.{Rebuildable, Anew, Rebuilds, MarkedIn, FinishesIn}

-- ---- the flags of a rebuilt node

unmarked : (k n : ℕ) → rebuilt_flags k n < 4
unmarked k n = go ((eqb k add_kind || eqb k mul_kind) && eqb n 2)
  where
    go : (b : Bool) → cond b 3 0 < 4
    go true = omega arith
    go false = omega arith

-- ---- the mark of a mode

module _ {mode : Mode} (m : Memory) (id : ℕ) where
  pub standard_marked : mode ≡ standard → (m' : Memory) → Marked m.words m.arena.count id m'.words → m'.slots ≡ m.slots → m'.arena ≡ m.arena → MarkedIn mode m id m'
  standard_marked e m' x slots arena =
      subst (λ (y : Mode). MarkedIn y m id m') (sym e) (record { marks = record { is = x.is; kept = x.kept }; slots = slots; arena = arena })

  pub strict_marked : mode ≡ strict → MarkedIn mode m id m
  strict_marked e =
      subst (λ (y : Mode). MarkedIn y m id m) (sym e)
      (record { marks = record { is = sym (unmarked_set (nodes_of m) id); kept = λ slots arena _ s. kept_refl m.words slots arena s }; slots = refl; arena = refl })

-- ---- the node itself, or a node anew

module _ (m : Memory) (id : ℕ) (c : List ℕ) (b : Rebuildable m id c) where
  abbrev n : N.Node
  n = at (nodes_of m) id

  pub few : length c ≤ most_children
  few = omega (arith, b.many, R.few m.words m.arena.count id (R.lookup_of m.words m.slots m.arena b.sound id b.below))

  abbrev new : I.Built
  new = I.intern (lent_of m) (nodes_of m) (N.node n.kind n.payload (rebuilt_flags n.kind (length c)) c)

  pub itself : same_children (at (nodes_of m) id).children c ≡ true → Anew m id c (Ok id) m
  itself e = record {
    answer = sym (ap (λ (x : Bool). cond x (built (nodes_of m) id) new) e);
    kept = kept_refl m.words m.slots m.arena b.sound;
    low = b.below;
  }

  module _ (kind payload flags : ℕ) (ek : kind ≡ (at (nodes_of m) id).kind) (ep : payload ≡ (at (nodes_of m) id).payload) (ef : flags ≡ rebuilt_flags kind (length c)) where
    pub fits : Fits m.arena.count kind payload flags c
    fits = record {
      listing = rw (ek, ep, b.many) (R.listed_at m.words m.slots m.arena b.sound id b.below);
      unmarked = subst (λ (x : ℕ). x < 4) (sym ef) (unmarked kind (length c));
      few = few;
      lower = b.lower;
    }

    node_is : N.node kind payload flags c ≡ N.node n.kind n.payload (rebuilt_flags n.kind (length c)) c
    node_is i = N.node (ek i) (ep i) ((ef ∙ ap (λ (k : ℕ). rebuilt_flags k (length c)) ek) i) c

    pub anew : same_children (at (nodes_of m) id).children c ≡ false → (answer : Result ℕ Refusal) (m' : Memory)
        → Builds m.words m.slots m.arena (I.intern (lent_of m) (nodes_of m) (N.node kind payload flags c)) m'.words m'.slots (built_in answer m')
        → Anew m id c answer m'
    anew e answer m' x = record {
      answer =
          x.answer ∙ ap (I.intern (lent_of m) (nodes_of m)) node_is
          ∙ sym (ap (λ (y : Bool). cond y (built (nodes_of m) id) new) e);
      kept = x.kept;
      low = x.low;
    }

  -- ---- the first pattern that fits

  pub operands : Operands m.arena.count c
  operands = record { few = few; low = b.lower }

  module _ (kind : ℕ) (ek : kind ≡ (at (nodes_of m) id).kind) (mode : Mode) (m' : Memory) where
    abbrev fits_as : Option Pattern
    fits_as = firing mode (lent_of m) (nodes_of m) n.kind c

    module _ (r : Std.Option Finished) (applies : Applies mode kind c m.words m.slots m.arena m'.words m'.slots r) where
      matched_by : plain_matched r m'.words ≡ apply_as mode (lent_of m) (nodes_of m) n.kind c
      matched_by = applies.is ∙ ap (λ (y : ℕ). apply_as mode (lent_of m) (nodes_of m) y c) ek

      rebuilt_by : rebuilt (lent_of m) (nodes_of m) id c (plain_matched r m'.words) ≡ rebuild_as mode (lent_of m) (nodes_of m) id c
      rebuilt_by = ap (rebuilt (lent_of m) (nodes_of m) id c) matched_by ∙ rebuilt_as mode (lent_of m) (nodes_of m) id c

      -- what fires over the answer is what fires at the frame
      fires_by : fires_at r fits_as ≡ taken (rebuilt (lent_of m) (nodes_of m) id c (plain_matched r m'.words)) fits_as → fired_of (fired_in r) ≡ frame_firing mode (lent_of m) (nodes_of m) id c
      unfolding frame_firing
      fires_by at_frame =
          applies.fired ∙ ap (λ (y : ℕ). fires_at r (firing mode (lent_of m) (nodes_of m) y c)) ek ∙ at_frame
          ∙ ap (λ (y : I.Built). taken y fits_as) rebuilt_by

    pub matched : (r : Rewritten) → AppliesIn mode kind c m (Ok (Some r)) m' → Rebuilds mode m id c (Ok r) m'
    matched r a = record {
      builds = record { answer = rebuilt_by _ a.applies; kept = a.applies.kept; low = a.applies.low };
      fires = fires_by _ a.applies refl;
    }

    pub stopped_at : (refusal : Refusal) → AppliesIn mode kind c m (Err refusal) m' → Rebuilds mode m id c (Err refusal) m'
    stopped_at refusal a = record {
      builds = record { answer = rebuilt_by _ a.applies; kept = a.applies.kept; low = tt };
      fires = fires_by _ a.applies refl;
    }

    module _ (a : AppliesIn mode kind c m (Ok None) m') where
      pub still : Rebuildable m' id c
      still = subst (λ (x : Memory). Rebuildable x id c) (sym (a.unchanged refl)) b

      nothing_taken : (y : I.Built) → none ≡ taken y none
      nothing_taken (I.built ns i) = refl
      nothing_taken (I.stopped ns k) = refl

      nothing_fires : (y : I.Built) → none ≡ taken y fits_as
      nothing_fires y =
          subst (λ (o : Option Pattern). none ≡ taken y o) (sym ((exactly mode (lent_of m) (nodes_of m) n.kind c).1 (sym (matched_by None a.applies)))) (nothing_taken y)

      module _ (answer : Result ℕ Refusal) (m'' : Memory) (x : Anew m' id c answer m'') where
        builds_as : Builds m.words m.slots m.arena (rebuild_as mode (lent_of m) (nodes_of m) id c) m''.words m''.slots (built_in answer m'')
        builds_as =
            subst (λ (y : I.Built). Builds m.words m.slots m.arena y m''.words m''.slots (built_in answer m'')) (rebuilt_by None a.applies)
            (subst (λ (y : Memory). Anew y id c answer m'') (a.unchanged refl) x)

        nothing_at : none ≡ frame_firing mode (lent_of m) (nodes_of m) id c
        nothing_at = fires_by None a.applies (nothing_fires (rebuilt (lent_of m) (nodes_of m) id c none))

      pub declined : (i : ℕ) (m'' : Memory) → Anew m' id c (Ok i) m'' → Rebuilds mode m id c (Ok (record { id = i; fired = None })) m''
      declined i m'' x = record { builds = builds_as (Ok i) m'' x; fires = nothing_at (Ok i) m'' x }

      pub declined_stopped : (refusal : Refusal) (m'' : Memory) → Anew m' id c (Err refusal) m'' → Rebuilds mode m id c (Err refusal) m''
      declined_stopped refusal m'' x = record { builds = builds_as (Err refusal) m'' x; fires = nothing_at (Err refusal) m'' x }

  -- ---- marked

  module _ (mode : Mode) (m' : Memory) where
    pub stops : (refusal : Refusal) → Rebuilds mode m id c (Err refusal) m' → FinishesIn mode m id c (Err refusal) m'
    stops refusal r = record {
      plainly = λ fs vs. ap (W.finish mode fs vs) r.builds.answer;
      kept = r.builds.kept;
      low = tt;
      fires = r.fires;
    }

    module _ (w : Rewritten) (r : Rebuilds mode m id c (Ok w) m') where
      pub may_mark : w.id < m'.arena.count
      may_mark = r.builds.low

      pub marks : (m'' : Memory) → MarkedIn mode m' w.id m'' → FinishesIn mode m id c (Ok w) m''
      marks m'' x = record {
        plainly = λ fs vs. ap (λ (ns : List N.Node). W.go ns fs (w.id ∷ vs)) nodes_are ∙ ap (W.finish mode fs vs) r.builds.answer;
        kept = kept_trans m.words m.slots m.arena m'.words m'.slots m'.arena m''.words m''.slots m''.arena r.builds.kept kept;
        low = subst (λ (a : DagArena). w.id < a.count) (sym x.arena) r.builds.low;
        fires = r.fires;
      }
        where
          nodes_are : nodes_of m'' ≡ set (nodes_of m') w.id (marked mode (at (nodes_of m') w.id))
          nodes_are = ap (λ (a : DagArena). nodes_in m''.words a.count) x.arena ∙ x.marks.is

          kept : Keeps m' m''
          kept =
              subst (λ (a : DagArena). Keeps m' (memory m''.words m''.slots a)) (sym x.arena)
              (subst (λ (l : List ℕ). Keeps m' (memory m''.words l m'.arena)) (sym x.slots) (x.marks.kept m'.slots m'.arena refl r.builds.kept.whole))
