-- The whole of a sheet, on any store and on a fresh one.
use Prim.Native.Nat.{ℕ, ◌-◌, ◌≤◌}
use mathlib.Core.Path.{◌≡◌, refl, sym, ap, ap₂, ◌∙◌, subst}
use mathlib.Core.Bool.{Bool, true, false, cond}
use mathlib.Core.Option.{Option, none, some}
use mathlib.Core.List.{List, []}
use lib.ListN.{length, drop, replicate, length-append, length-drop, length-replicate}
use native.Mathlib.Omega.{arith}
use borrow.Author.Tests.{ltb-false}
use Rattle.arena.specs.declared.DagArena.{DagArena}
use Rattle.arena.specs.Nodes.{Nodes}
use Rattle.definitions.specs.Limits.{most_records, first_table_size}
use Rattle.definitions.specs.Refusals.{bad_sheet, not_sound, no_slot_place}
use Rattle.definitions.specs.Intern.{Lent}
use Rattle.definitions.specs.Machine as M
use Rattle.definitions.specs.Sheet as Sheet
use Rattle.definitions.specs.Listing.{listing}
use Rattle.store.specs.View.{lent, nodes_in}
use Rattle.store.specs.Memory.{Memory, memory, model, memory_after}
use Rattle.store.proofs.Staying.{stays_refl, stays_is}
use Rattle.std.proofs.Common.{Ok as Store, Err as RefusedStore}
use Rattle.builder.specs.Opens.{FreshStore, fresh_answer, fresh_slots, Opens}
use Rattle.records.specs.declared.Cursor.{Cursor}
use Rattle.refusal.specs.declared.Refusal.{Refusal}
use Rattle.refusal.specs.Number.{number_of}
use Rattle.std.specs.Prelude.{Result, Ok, Err}
use Rattle.records.specs.Reading.{is_sheet, OpensSheet}
use Rattle.listing_lines.specs.declared.SheetOutcome.{SheetOutcome}
use Rattle.listing_lines.specs.declared.SheetOutcome.TheVariants.{Refused as RefusedAt}
use Rattle.listing_lines.specs.Outcome.{outcome_of, all_lines}
use Rattle.listing_lines.proofs.Lines.{listing_of_memory}
use Rattle.sheet.specs.declared.Ran.{Ran}
use Rattle.sheet.specs.Running.{RunsRecords}
use Rattle.sheet.specs.Sheets.{ended, ended_by, Runs, refused_at_start, not_opened, RunsFresh}
use Rattle.sheet.proofs.Onward.{finish}

pub runs_unsound : (s : List ℕ) (m : Memory) → (model.Sound m → ⊥) → Runs s m (RefusedAt not_sound 0) m
runs_unsound s m n = record {
  equation = refused_by;
  left = λ h. absurd (n h);
  sound = λ h. absurd (n h);
  listing = λ h. absurd (n h);
  same_lent = refl;
  unchanged = λ _. refl;
}
  where
    refused_by : (d : Dec (model.Sound m)) → ended (RefusedAt not_sound 0) m ≡ ended_by s m d
    refused_by (yes h) = absurd (n h)
    refused_by (no _) = refl

-- a refusal before the first record, as the code gives it
pub runs_at_start : (s words slots : List ℕ) (arena : DagArena) (number n : ℕ) → n ≡ number → (r : Ran) → r ≡ refused_at_start n arena → Runs s (memory words slots arena) (RefusedAt number 0) (memory words slots arena) → Runs s (memory words slots arena) r.outcome (memory words slots r.arena)
runs_at_start s words slots arena number n f r e k = subst (λ (x : Ran). Runs s (memory words slots arena) x.outcome (memory words slots x.arena)) (sym (e ∙ ap (λ (i : ℕ). refused_at_start i arena) f)) k

module _ (s : List ℕ) (m : Memory) (h : model.Sound m) where
  runs : (o : SheetOutcome) (m' : Memory) → RunsRecords (Sheet.sheet (model.lent m) (model.view m) s) m o m' → (is_sheet s ≡ false → m' ≡ m) → Runs s m o m'
  runs o m' f u = record {
    equation = answered_by;
    left = λ _. f.left;
    listing = λ _. listing_of_memory o m'.words m'.arena.count (Sheet.sheet (model.lent m) (model.view m) s) f.outcome (ap (λ (x : M.State). x.nodes) f.left);
    sound = λ _. f.stays.sound;
    same_lent = f.stays.same_lent;
    unchanged = u;
  }
    where
      answered_by : (d : Dec (model.Sound m)) → ended o m' ≡ ended_by s m d
      answered_by (no n) = absurd (n h)
      answered_by (yes _) = ap₂ ended f.outcome (stays_is m m' h f.stays ∙ ap (λ (x : M.State). memory_after m x.nodes) f.left)

  -- bytes that are no sheet
  pub runs_refused : (e : Refusal) → OpensSheet s (Err e) → Runs s m (RefusedAt (number_of e) 0) m
  runs_refused e x =
      runs (RefusedAt (number_of e) 0) m
      (finish (Sheet.sheet (model.lent m) (model.view m) s) m m (RefusedAt (number_of e) 0) [] (some (number_of e, 0)) (model.view m) (x.is (model.lent m) (model.view m)) refl refl (stays_refl m h))
      (λ _. refl)

  -- the records of a sheet that starts well
  pub runs_records : (c : Cursor) → OpensSheet s (Ok c) → (o : SheetOutcome) (m' : Memory) → RunsRecords (Sheet.records most_records (model.lent m) [] (model.view m) (drop c.at s)) m o m' → Runs s m o m'
  runs_records c x o m' f =
      runs o m' (subst (λ (plain : Sheet.Ran). RunsRecords plain m o m') (x.is (model.lent m) (model.view m)) f)
      (λ n. absurd (let t : false ≡ true = sym n ∙ x.tells in let z : ◌≡◌ {A = ℕ} 0 1 = cc in omega arith))

-- ---- on a fresh store

no_nodes : (words : List ℕ) → Nodes words 0
no_nodes words = record {
  formed = record { many = omega arith; fits = omega arith; each = λ i h. absurd (omega arith) };
  apart = λ i j h. absurd (omega arith);
}

some_one : {m n : ℕ} → ◌≡◌ {A = Option ℕ} (some m) (some n) → m ≡ n
some_one e = cc

never : {m : ℕ} → ◌≡◌ {A = Option ℕ} (some m) none → ⊥
never e = let z : ◌≡◌ {A = ℕ} 0 1 = cc in omega arith

not_both : (b : Bool) → b ≡ true → b ≡ false → ⊥
not_both b t f = let v : true ≡ false = sym t ∙ f in let z : ◌≡◌ {A = ℕ} 0 1 = cc in omega arith

-- a sheet that was not refused
pub is_a_sheet : (s : List ℕ) (o : Result Cursor Refusal) → OpensSheet s o → ((e : Refusal) → o ≡ Err e → ⊥) → is_sheet s ≡ true
is_a_sheet s (Ok c) x n = x.tells
is_a_sheet s (Err e) x n = absurd (n e refl)

module _ (s words slots : List ℕ) (before : DagArena) where
  -- a store is not opened, for this reason: nothing changed
  is_not_opened : (reason : ℕ) → not_opened s (lent words slots) ≡ some reason → (r : Ran) → r ≡ refused_at_start reason before → (slots₁ : List ℕ) → slots₁ ≡ slots
      → (M.fresh_refused (lent words slots) ≡ false → before.count ≡ 0 → all_lines (RefusedAt reason 0) words 0 ≡ listing (Sheet.sheet (lent words slots) M.empty s))
      → RunsFresh s words slots before r words slots₁
  is_not_opened reason e r f slots₁ same lines = record {
    refused = λ number u. (f ∙ ap (λ (i : ℕ). refused_at_start i before) (some_one (sym e ∙ u)), refl, same);
    runs = λ u. absurd (never (sym e ∙ u));
    listing = λ t zero_count. ap (λ (y : Ran). all_lines y.outcome words y.arena.count) f ∙ ap (all_lines (RefusedAt reason 0) words) zero_count ∙ lines t zero_count;
    nodes = λ zero_count. subst (λ (y : Ran). Nodes words y.arena.count) (sym f) (subst (Nodes words) (sym zero_count) (no_nodes words));
  }

  -- bytes that are no sheet
  pub fresh_no_sheet : (e : Refusal) → OpensSheet s (Err e) → (n : ℕ) → n ≡ number_of e → (r : Ran) → r ≡ refused_at_start n before → RunsFresh s words slots before r words slots
  unfolding nodes_in
  fresh_no_sheet e x n g r f =
      let bad : number_of e ≡ bad_sheet = ap number_of x.reason in
      let plain : Sheet.ran [] (some (bad_sheet, 0)) M.empty ≡ Sheet.sheet (lent words slots) M.empty s = ap (λ (i : ℕ). Sheet.ran [] (some (i, 0)) M.empty) (sym bad) ∙ x.is (lent words slots) M.empty in
      is_not_opened bad_sheet (ap (λ (b : Bool). cond b (cond (M.fresh_refused (lent words slots)) (some no_slot_place) none) (some bad_sheet)) x.tells) r (f ∙ ap (λ (i : ℕ). refused_at_start i before) (g ∙ bad)) slots refl
      (λ _ _. listing_of_memory (RefusedAt bad_sheet 0) words 0 (Sheet.sheet (lent words slots) M.empty s)
      (ap (λ (p : Sheet.Ran). outcome_of p.refusal p.answers) plain)
      (ap (λ (p : Sheet.Ran). p.left.nodes) plain))

  module _ (a_sheet : is_sheet s ≡ true) where
    module _ (slots₁ : List ℕ) (y : FreshStore) (k : Opens words slots y slots₁) where
      -- under 64 slots
      pub fresh_refused : (number : ℕ) → y ≡ RefusedStore number → (r : Ran) → r ≡ refused_at_start number before → RunsFresh s words slots before r words slots₁
      fresh_refused number g r f = go (M.fresh_refused (lent words slots)) refl
        where
          go : (b : Bool) → M.fresh_refused (lent words slots) ≡ b → RunsFresh s words slots before r words slots₁
          go true t =
              let n : number ≡ no_slot_place = (let a : y ≡ RefusedStore no_slot_place = k.answer ∙ ap fresh_answer t in cc) in
              is_not_opened no_slot_place (ap₂ (λ (a b : Bool). cond a (cond b (some no_slot_place) none) (some bad_sheet)) a_sheet t) r (f ∙ ap (λ (i : ℕ). refused_at_start i before) n) slots₁
              (k.slots_after ∙ ap (λ (b : Bool). fresh_slots b slots) t)
              (λ u _. absurd (not_both (M.fresh_refused (lent words slots)) t u))
          go false t = absurd (let a : y ≡ fresh_answer false = k.answer ∙ ap fresh_answer t in let z : ◌≡◌ {A = ℕ} 0 1 = cc in omega arith)

      pub fresh_ran : (arena : DagArena) → y ≡ Store arena → (r : Ran) (words' slots' : List ℕ) → Runs s (memory words slots₁ arena) r.outcome (memory words' slots' r.arena) → RunsFresh s words slots before r words' slots'
      fresh_ran arena g r words' slots' p = go (M.fresh_refused (lent words slots)) refl
        where
          same : M.fresh_refused (lent words slots) ≡ false → slots₁ ≡ fresh_slots false slots → lent words slots₁ ≡ lent words slots
          same t after =
              let enough : first_table_size ≤ length slots = ltb-false (length slots) first_table_size t in
              let rest : length (drop first_table_size slots) ≡ length slots - first_table_size = length-drop first_table_size slots in
              let long : length slots₁ ≡ length slots = ap length after ∙ length-append (replicate first_table_size 0) (drop first_table_size slots) ∙ omega (arith, length-replicate {A = ℕ} first_table_size 0) in
              ap (λ (n : ℕ). record { nodes = (lent words slots).nodes; slots = n }) long

          go : (b : Bool) → M.fresh_refused (lent words slots) ≡ b → RunsFresh s words slots before r words' slots'
          go true t = absurd (let a : y ≡ fresh_answer true = k.answer ∙ ap fresh_answer t in let z : ◌≡◌ {A = ℕ} 0 1 = cc in omega arith)
          go false t =
              let h = k.fresh arena g in
              let after : slots₁ ≡ fresh_slots false slots = k.slots_after ∙ ap (λ (b : Bool). fresh_slots b slots) t in
              let counts : arena ≡ record { count = 0; size = first_table_size } = (let a : y ≡ fresh_answer false = k.answer ∙ ap fresh_answer t in cc) in
              let open_now : not_opened s (lent words slots) ≡ none = ap₂ (λ (a b : Bool). cond a (cond b (some no_slot_place) none) (some bad_sheet)) a_sheet t in
              record {
                refused = λ number u. absurd (never (sym u ∙ open_now));
                runs = λ _. subst (λ (m : Memory). Runs s m r.outcome (memory words' slots' r.arena)) (ap₂ (memory words) after counts) p;
                listing = λ _ _. p.listing h.sound ∙ ap₂ (λ (l : Lent) (st : M.State). listing (Sheet.sheet l st s)) (same t after) h.view;
                nodes = λ _. (p.sound h.sound).nodes;
              }
