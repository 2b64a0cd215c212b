-- A sheet's records, one after another.
use Prim.Native.Nat.{ℕ, zero, suc, ◌+◌, ◌-◌, ◌≤◌, ◌<◌}
use mathlib.Core.Path.{◌≡◌, refl, sym, ap, ap₂, ◌∙◌, subst, fun_ext}
use mathlib.Core.Bool.{Bool, true, false, cond}
use mathlib.Core.Option.{Option, none, some}
use mathlib.Core.List.{List, [], ◌∷◌, ◌++◌}
use lib.ListN.{length, get_or, drop, set, length-append, length-drop, length-set, drop_of_length-le, get_or-append}
use lib.Seq.{get_or_at, get_or-set_same, get_or-set_other}
use lib.Dec.{ltb}
use native.Mathlib.Omega.{arith}
use native.Mathlib.Decide.{dec_lt}
use borrow.Author.Tests.{ltb-true}
use Rattle.definitions.specs.Limits.{most_records}
use Rattle.definitions.specs.Refusals.{bad_record, too_many_records}
use Rattle.definitions.specs.Intern.{Lent}
use Rattle.definitions.specs.Machine as M
use Rattle.definitions.specs.Sheet as Sheet
use Rattle.definitions.proofs.Listing.{last_more}
use Rattle.store.specs.Memory.{Memory, model, Stays}
use Rattle.store.proofs.Staying.{stays_refl, stays_trans, leaves_stays}
use Rattle.store.proofs.Viewing.{plain_length}
use Rattle.records.specs.declared.Record.{Record}
use Rattle.records.specs.Reading.{call_of, record_read, ReadsRecord}
use Rattle.listing_lines.specs.declared.SheetOutcome.{SheetOutcome}
use Rattle.listing_lines.specs.declared.SheetOutcome.TheVariants.{Ok, Spent, Refused as RefusedAt}
use Rattle.listing_lines.specs.Outcome.{answered_as, outcome_of}
use Rattle.store_calls.specs.declared.answers.Answer.{Answer}
use Rattle.store_calls.specs.Calls.{answer_of}
use Rattle.std.specs.Prelude.{Some, None, Result, Ok as Done, Err}
use Rattle.refusal.specs.declared.Refusal.{Refusal}
use Rattle.refusal.specs.Number.{number_of}
use Rattle.sheet.specs.declared.running.RecordAnswer.{RecordAnswer}
use Rattle.sheet.specs.declared.running.SheetProgress.{SheetProgress}
use Rattle.sheet.specs.Running.{answered, noted_as, PerformsBody, id_of, finished_as, Doing, RunsRecords}

-- ---- the plain machine's records

records_none : (k : ℕ) (l : Lent) (al : List M.Answer) (st : M.State) (rest : List ℕ) → rest ≡ [] → Sheet.records k l al st rest ≡ Sheet.ran al none st
unfolding Sheet.records
records_none zero l al st [] e = refl
records_none (suc k) l al st [] e = refl
records_none k l al st (b ∷ bs) e = absurd (let z : ◌≡◌ {A = ℕ} 0 1 = cc in omega arith)

records_full : (l : Lent) (al : List M.Answer) (st : M.State) (rest : List ℕ) → 0 < length rest → Sheet.records 0 l al st rest ≡ Sheet.ran al (some (too_many_records, length al)) st
unfolding Sheet.records
records_full l al st [] h = absurd (omega arith)
records_full l al st (b ∷ bs) h = refl

-- after a call
abbrev after_call : ℕ → Lent → List M.Answer → List ℕ → M.After → Sheet.Ran
after_call more l al rest a =
    elim (Sheet.refusal_of a.answer) [ none ↦ Sheet.records more l (al ++ a.answer ∷ []) a.left rest | some r ↦ Sheet.ran al (some (r, length al)) a.left ]

-- after a record was read
abbrev after_record : ℕ → Lent → List M.Answer → M.State → Option (M.Call × List ℕ) → Sheet.Ran
after_record more l al st none = Sheet.ran al (some (bad_record, length al)) st
after_record more l al st (some cr) = after_call more l al cr.1 (M.call l st (Sheet.call_on (Sheet.operand_id (length st.nodes) al) cr.0))

records_step : (more : ℕ) (l : Lent) (al : List M.Answer) (st : M.State) (rest : List ℕ) → 0 < length rest → Sheet.records (suc more) l al st rest ≡ after_record more l al st (Sheet.record_call (Sheet.cut rest))
unfolding Sheet.records
records_step more l al st [] h = absurd (omega arith)
records_step more l al st (b ∷ bs) h = go (Sheet.record_call (Sheet.cut (b ∷ bs)))
  where
    go : (o : Option (M.Call × List ℕ)) → elim o [
      | none ↦ Sheet.ran al (some (bad_record, length al)) st
      | some cr ↦ after_call more l al cr.1 (M.call l st (Sheet.call_on (Sheet.operand_id (length st.nodes) al) cr.0))
    ] ≡ after_record more l al st o
    go none = refl
    go (some cr) = refl

-- ---- answers

outcome_snoc : (al : List M.Answer) (a : M.Answer) → outcome_of none (al ++ a ∷ []) ≡ answered_as a
outcome_snoc [] a = refl
outcome_snoc (b ∷ al) a = ap answered_as (last_more b al a)

-- an answered record's answer, taken apart
record Told (a : M.Answer) (id : ℕ) (spent : Bool) : Type 0 where
  pub passes : Sheet.refusal_of a ≡ none
  pub noted : Sheet.answer_id a ≡ id
  pub says : answered_as a ≡ cond spent (Spent id) (Ok id)

told_as : (a : M.Answer) (i id : ℕ) (b spent : Bool) → Sheet.refusal_of a ≡ none → Sheet.answer_id a ≡ i → answered_as a ≡ cond b (Spent i) (Ok i) → ◌≡◌ {A = Result RecordAnswer ℕ} (Done (answered id spent)) (Done (answered i b)) → Told a id spent
told_as a i id b spent p q r e =
    let s : answered id spent ≡ answered i b = cc in
    let n : id ≡ i = ap (λ (x : RecordAnswer). x.id) s in
    let t : spent ≡ b = ap (λ (x : RecordAnswer). x.spent) s in
    record { passes = p; noted = q ∙ sym n; says = r ∙ ap₂ (λ (c : Bool) (j : ℕ). cond c (Spent j) (Ok j)) (sym t) (sym n) }

told : (a : M.Answer) (id : ℕ) (spent : Bool) → Done (answered id spent) ≡ noted_as a → Told a id spent
told (M.stored i) id spent e = told_as (M.stored i) i id false spent refl refl refl e
told (M.simplified i true steps) id spent e = told_as (M.simplified i true steps) i id true spent refl refl refl e
told (M.simplified i false steps) id spent e = told_as (M.simplified i false steps) i id false spent refl refl refl e
told (M.pruned i k d) id spent e = told_as (M.pruned i k d) i id false spent refl refl refl e
told (M.refused r) id spent e = absurd (let z : ◌≡◌ {A = ℕ} 0 1 = cc in omega arith)

refusal_of : (a : M.Answer) (number : ℕ) → Err number ≡ noted_as a → Sheet.refusal_of a ≡ some number
refusal_of (M.stored i) number e = absurd (let z : ◌≡◌ {A = ℕ} 0 1 = cc in omega arith)
refusal_of (M.simplified i b steps) number e = absurd (let z : ◌≡◌ {A = ℕ} 0 1 = cc in omega arith)
refusal_of (M.pruned i k d) number e = absurd (let z : ◌≡◌ {A = ℕ} 0 1 = cc in omega arith)
refusal_of (M.refused r) number e = ap some (let n : r ≡ number = cc in n)

-- ---- the end of a sheet

pub finish : (plain : Sheet.Ran) (m m' : Memory) (o : SheetOutcome) (al : List M.Answer) (r : Option (ℕ × ℕ)) (st : M.State) → Sheet.ran al r st ≡ plain → o ≡ outcome_of r al → model.view m' ≡ st → Stays m m' → RunsRecords plain m o m'
finish plain m m' o al r st e f v k = record {
  outcome = f ∙ ap (λ (x : Sheet.Ran). outcome_of x.refusal x.answers) e;
  left = v ∙ ap (λ (x : Sheet.Ran). x.left) e;
  stays = k;
}

-- the refusal's number and place by other names
pub refused_as : (plain : Sheet.Ran) (m m' : Memory) (number n number' n' : ℕ) → number' ≡ number → n' ≡ n → RunsRecords plain m (RefusedAt number n) m' → RunsRecords plain m (RefusedAt number' n') m'
refused_as plain m m' number n number' n' e f r = record { outcome = ap₂ RefusedAt e f ∙ r.outcome; left = r.left; stays = r.stays }

pub doing_start : (s : List ℕ) (m : Memory) (p : SheetProgress) (ids : List ℕ) → model.Sound m → length ids ≡ most_records → p.done ≡ 0 → p.last ≡ None → Doing s (Sheet.records most_records (model.lent m) [] (model.view m) (drop p.at s)) m p m ids
doing_start s m p ids h w z n = record {
  answers = [];
  long = sym z;
  few = omega arith;
  wide = w;
  noted = λ k l. absurd (omega arith);
  last = ap finished_as (sym n);
  goes = ap (λ (n : ℕ). Sheet.records (most_records - n) (model.lent m) [] (model.view m) (drop p.at s)) z;
  stays = stays_refl m h;
}

module _ (s : List ℕ) (plain : Sheet.Ran) (m : Memory) (p : SheetProgress) (m' : Memory) (ids : List ℕ) (d : Doing s plain m p m' ids) where
  abbrev al : List M.Answer
  al = d.answers

  abbrev l : Lent
  l = model.lent m'

  abbrev st : M.State
  st = model.view m'

  pub doing_end : length s ≤ p.at → (o : SheetOutcome) → o ≡ finished_as p.last → RunsRecords plain m o m'
  doing_end h o e =
      finish plain m m' o al none st (sym (records_none (most_records - p.done) l al st (drop p.at s) (drop_of_length-le s h)) ∙ d.goes) (e ∙ sym d.last) refl d.stays

  module _ (more : p.at < length s) where
    left : 0 < length (drop p.at s)
    left = let e : length (drop p.at s) ≡ length s - p.at = length-drop p.at s in omega arith

    refused_at : (number : ℕ) → RefusedAt number p.done ≡ outcome_of (some (number, length al)) al
    refused_at number = ap (RefusedAt number) (sym d.long)

    pub doing_full : p.done ≡ most_records → RunsRecords plain m (RefusedAt too_many_records p.done) m'
    doing_full e =
        let z : most_records - p.done ≡ 0 = omega arith in
        finish plain m m' _ al (some (too_many_records, length al)) st
        (sym (records_full l al st (drop p.at s) left) ∙ ap (λ (k : ℕ). Sheet.records k l al st (drop p.at s)) (sym z) ∙ d.goes)
        (refused_at too_many_records) refl d.stays

    abbrev k : ℕ
    k = most_records - (p.done + 1)

    module _ (t : Result Record Refusal) (x : ReadsRecord s p.at t) (room : p.done < most_records) where
      stepped : (o : Option (M.Call × List ℕ)) → record_read s t ≡ o → after_record k l al st o ≡ plain
      stepped o e =
          let n : suc k ≡ most_records - p.done = omega arith in
          ap (after_record k l al st) (sym e ∙ x.is)
          ∙ sym (records_step k l al st (drop p.at s) left)
          ∙ ap (λ (i : ℕ). Sheet.records i l al st (drop p.at s)) n
          ∙ d.goes

      -- no record was read
      pub doing_malformed : (e : Refusal) → t ≡ Err e → number_of e ≡ bad_record → RunsRecords plain m (RefusedAt (number_of e) p.done) m'
      doing_malformed e f g =
          finish plain m m' _ al (some (bad_record, length al)) st (stepped none (ap (record_read s) f))
          (ap (λ (j : ℕ). RefusedAt j p.done) g ∙ refused_at bad_record) refl d.stays

    module _ (r : Record) (x : ReadsRecord s p.at (Done r)) (room : p.done < most_records) where
      abbrev c : M.Call
      c = call_of s r.body

      goes_on : after_record k l al st (some (c, drop r.next.at s)) ≡ plain
      goes_on = stepped (Done r) x room (some (c, drop r.next.at s)) refl

      -- the ids noted are those of the answers
      operand_same : id_of ids p.done m'.arena.count ≡ Sheet.operand_id (length st.nodes) al
      operand_same = fun_ext (λ o. go o (ltb o p.done) refl ∙ ap (λ (n : ℕ). cond (ltb o n) (Sheet.answer_id (get_or al o (M.refused 0))) (length st.nodes)) (sym d.long))
        where
          go : (o : ℕ) (b : Bool) → ltb o p.done ≡ b → cond b (get_or ids o 0) m'.arena.count ≡ cond b (Sheet.answer_id (get_or al o (M.refused 0))) (length st.nodes)
          go o true e = d.noted o (ltb-true o p.done e)
          go o false e = sym (plain_length m'.words m'.arena.count)

      module _ (m'' : Memory) where
        -- a record's call, with what is noted of its answer
        abbrev Performs : M.Call → Result RecordAnswer ℕ → Type 0
        Performs c n = (n ≡ noted_as (M.call l st c).answer) × (model.view m'' ≡ (M.call l st c).left) × Stays m' m''

        after : (a : Answer) (n : Result RecordAnswer ℕ) → n ≡ noted_as (answer_of a) → PerformsBody s r.body ids p.done m' a m'' → Performs (Sheet.call_on (Sheet.operand_id (length st.nodes) al) c) n
        after a n e k =
            let h = d.stays.sound in
            subst (λ (f : ℕ → ℕ). Performs (Sheet.call_on f c) n) operand_same
            (e ∙ ap noted_as (k.called.answer h), k.called.left h, leaves_stays (Sheet.call_on (id_of ids p.done m'.arena.count) c) m' (answer_of a) m'' h k)

        pub doing_refused : (number : ℕ) (a : Answer) → Err number ≡ noted_as (answer_of a) → PerformsBody s r.body ids p.done m' a m'' → RunsRecords plain m (RefusedAt number p.done) m''
        doing_refused number a t q =
            let y = after a (Err number) t q in
            let a = M.call l st (Sheet.call_on (Sheet.operand_id (length st.nodes) al) c) in
            finish plain m m'' _ al (some (number, length al)) a.left
            (sym (ap (λ (o : Option ℕ). elim o [ none ↦ Sheet.records k l (al ++ a.answer ∷ []) a.left (drop r.next.at s) | some n ↦ Sheet.ran al (some (n, length al)) a.left ]) (refusal_of a.answer number y.0)) ∙ goes_on)
            (refused_at number) y.1 (stays_trans m m' m'' d.stays y.2)

        module _ (id : ℕ) (spent : Bool) (p' : SheetProgress) (done' : p'.done ≡ p.done + 1) (at' : p'.at ≡ r.next.at) (last' : p'.last ≡ Some (answered id spent)) where
          noted_more : (a : M.Answer) → Sheet.answer_id a ≡ id → (i : ℕ) → i < p.done + 1 → get_or (set ids p.done id) i 0 ≡ Sheet.answer_id (get_or (al ++ a ∷ []) i (M.refused 0))
          noted_more a e i h = go (dec_lt i p.done)
            where
              w : length ids ≡ most_records
              w = d.wide

              long : length al ≡ p.done
              long = d.long

              go : Dec (i < p.done) → get_or (set ids p.done id) i 0 ≡ Sheet.answer_id (get_or (al ++ a ∷ []) i (M.refused 0))
              go (yes y) = get_or-set_other ids p.done i id 0 (λ z. omega arith) ∙ d.noted i y ∙ ap Sheet.answer_id (sym (get_or-append al (a ∷ []) (M.refused 0) i (omega arith)))
              go (no n) =
                  let z : i ≡ p.done = omega arith in
                  ap (λ (j : ℕ). get_or (set ids p.done id) j 0) z
                  ∙ get_or-set_same ids p.done id 0 (omega arith)
                  ∙ sym (ap Sheet.answer_id (get_or_at al a [] (M.refused 0) i (long ∙ sym z)) ∙ e)

          pub doing_more : (a : Answer) → Done (answered id spent) ≡ noted_as (answer_of a) → PerformsBody s r.body ids p.done m' a m'' → Doing s plain m p' m'' (set ids p.done id)
          doing_more a f g =
              let q = after a (Done (answered id spent)) f g in
              let a = M.call l st (Sheet.call_on (Sheet.operand_id (length st.nodes) al) c) in
              let t = told a.answer id spent q.0 in
              let few : p.done + 1 ≤ most_records = omega arith in
              let w : length ids ≡ most_records = d.wide in
              let ahead : length (al ++ a.answer ∷ []) ≡ length al + length (a.answer ∷ []) = length-append al (a.answer ∷ []) in
              let behind : length al ≡ p.done = d.long in
              record {
                answers = al ++ a.answer ∷ [];
                long = omega arith;
                few = omega arith;
                wide = length-set ids p.done id ∙ w;
                noted = λ i h. noted_more a.answer t.noted i (omega arith);
                last =
                    outcome_snoc al a.answer ∙ t.says ∙ sym (ap finished_as last');
                goes =
                    ap₂ (λ (n j : ℕ). Sheet.records (most_records - n) (model.lent m'') (al ++ a.answer ∷ []) (model.view m'') (drop j s)) done' at'
                    ∙ ap₂ (λ (l' : Lent) (st' : M.State). Sheet.records k l' (al ++ a.answer ∷ []) st' (drop r.next.at s)) q.2.same_lent q.1
                    ∙ sym (ap (λ (o : Option ℕ). elim o [ none ↦ Sheet.records k l (al ++ a.answer ∷ []) a.left (drop r.next.at s) | some n ↦ Sheet.ran al (some (n, length al)) a.left ]) t.passes)
                    ∙ goes_on;
                stays = stays_trans m m' m'' d.stays q.2;
              }
