-- A sheet's refusal, and the record it is at.
use Prim.Native.Nat.{ℕ, zero, suc, ◌+◌, ◌≤◌, ◌<◌}
use mathlib.Core.Path.{◌≡◌, refl, sym, ap, subst, ◌∙◌}
use mathlib.Core.Bool.{Bool, true, false, ◌&&◌, ◌||◌, cond}
use mathlib.Core.Option.{Option, none, some}
use mathlib.Core.List.{List, [], ◌∷◌, ◌++◌}
use lib.ListN.{length, take, drop, length-append}
use lib.Dec.{eqb, leb, ltb, T, eqb→eq}
use native.Mathlib.Omega.{arith}
use Rattle.definitions.specs.Limits.{most_sheet_bytes, most_records}
use Rattle.definitions.specs.Refusals.{bad_sheet, bad_record, too_many_records}
use Rattle.definitions.specs.Intern.{Lent}
use Rattle.definitions.specs.Machine.{Store, Call, store, simplify, prune, prune_by_setting, Answer, stored, simplified, pruned, refused, State, state, call, answers}
use Rattle.definitions.specs.Machine as M
use Rattle.definitions.specs.Sheet as Sheet
use Rattle.definitions.specs.Sheet.{call_on, operand_id, Ran, ran, cut, record_call, refusal_of, records, sheet, body}
use Rattle.definitions.specs.SheetCalls.{record_calls, sheet_calls}
use Rattle.definitions.specs.Controller.{LentLists, AfterCall, asked, from_store, with_names}
use Rattle.definitions.specs.Promise.{nth}
use Rattle.definitions.proofs.Lifting.{call_store}
use Rattle.records.specs.Reading.{is_sheet}
use Rattle.refusals_listed.specs.Listed.{among, ResultOr, listed_refusals}
use Rattle.refusals_listed.proofs.Plain.{answers_listed}
use Rattle.public_calls.specs.Sheets.{sheet_refusals, RefusesAt, no_sheet, too_many, malformed, by_call, SheetsRefuseAt}

-- ---- the call of a record

-- no record prunes by a setting
abbrev Recorded : Call → Type 0
Recorded (store c) = Unit {0}
Recorded (simplify mode i depth budget) = Unit {0}
Recorded (prune i t) = Unit {0}
Recorded (prune_by_setting i n) = ⊥

abbrev RecordedIf : Option Call → Type 0
RecordedIf none = Unit {0}
RecordedIf (some c) = Recorded c

with_operands : (f : List ℕ → Store) (o : Option (List ℕ)) → RecordedIf (Sheet.with_operands (λ os. store (f os)) o)
with_operands f none = tt
with_operands f (some os) = tt

sized_recorded : (n : ℕ) (bs : List ℕ) (c : Call) → Recorded c → RecordedIf (Sheet.sized n bs c)
sized_recorded n bs c h = by (eqb (length bs) n)
  where
    by : (b : Bool) → RecordedIf (cond b (some c) none)
    by true = h
    by false = tt

operator_recorded : (bs : List ℕ) → RecordedIf (Sheet.operator_body bs)
unfolding Sheet.operator_body
operator_recorded [] = tt
operator_recorded (o ∷ []) = tt
operator_recorded (o ∷ f ∷ r) = with_operands (λ os. M.operator o f os) (Sheet.operands r)

function_recorded : (bs : List ℕ) → RecordedIf (Sheet.function_body bs)
unfolding Sheet.function_body
function_recorded bs = by (ltb (length bs) 4)
  where
    by : (b : Bool) → RecordedIf (cond b none (Sheet.with_operands (λ os. store (M.function (Sheet.big_endian (take 4 bs)) os)) (Sheet.operands (drop 4 bs))))
    by true = tt
    by false = with_operands (λ os. M.function (Sheet.big_endian (take 4 bs)) os) (Sheet.operands (drop 4 bs))

control_recorded : (bs : List ℕ) → RecordedIf (Sheet.control_body bs)
unfolding Sheet.control_body
control_recorded [] = tt
control_recorded (o ∷ r) = with_operands (λ os. M.control o os) (Sheet.operands r)

one_of_two : (b : Bool) (x y : Option Call) → RecordedIf x → RecordedIf y → RecordedIf (cond b x y)
one_of_two true x y h k = h
one_of_two false x y h k = k

body_recorded : (bs : List ℕ) → RecordedIf (body bs)
unfolding body
body_recorded [] = tt
body_recorded (k ∷ r) =
    one_of_two (eqb k 1) _ _ (sized_recorded 4 r _ tt)
    (one_of_two (eqb k 2) _ _ (sized_recorded 8 r _ tt)
    (one_of_two (eqb k 3) _ _ (operator_recorded r)
    (one_of_two (eqb k 4) _ _ (function_recorded r)
    (one_of_two (eqb k 5) _ _ (control_recorded r)
    (one_of_two (eqb k 6) _ _ (sized_recorded 7 r _ tt)
    (one_of_two (eqb k 7) _ _ (sized_recorded 10 r _ tt)
    (one_of_two (eqb k 8) _ _ (sized_recorded 7 r _ tt) tt)))))))

on_recorded : (f : ℕ → ℕ) (c : Call) → Recorded c → Recorded (call_on f c)
on_recorded f (store c) h = tt
on_recorded f (simplify mode i depth budget) h = tt
on_recorded f (prune i t) h = tt
on_recorded f (prune_by_setting i n) h = h

-- ---- the refusals of a record's call are a sheet's

-- every number of one list is one of another
abbrev within : List ℕ → List ℕ → Bool
within [] ls = true
within (k ∷ ks) ls = among k ls && within ks ls

in_both : (a b : Bool) → T (a && b) → T a × T b
in_both true b t = (tt, t)
in_both false b t = absurd t

one_within : (ks ls : List ℕ) → T (within ks ls) → (number : ℕ) → T (among number ks) → T (among number ls)
one_within [] ls w number t = absurd t
one_within (k ∷ ks) ls w number t =
    let both = in_both (among k ls) (within ks ls) w in
    by (eqb number k) refl both.0 (one_within ks ls both.1 number) t
  where
    by : (b : Bool) → eqb number k ≡ b → T (among k ls) → (T (among number ks) → T (among number ls)) → T (b || among number ks) → T (among number ls)
    by true e h f u = subst (λ (n : ℕ). T (among n ls)) (sym (eqb→eq number k (subst T (sym e) tt))) h
    by false e h f u = f u

store_within : (c : Store) → T (within (listed_refusals (asked (store c))) sheet_refusals)
store_within (M.variable s) = tt
store_within (M.constant b) = tt
store_within (M.add a b) = tt
store_within (M.sub a b) = tt
store_within (M.mul a b) = tt
store_within (M.div a b) = tt
store_within (M.pow a b) = tt
store_within (M.modulo a b) = tt
store_within (M.neg a) = tt
store_within (M.operator o f c) = tt
store_within (M.function f c) = tt
store_within (M.select a b c) = tt
store_within (M.if_else a b c) = tt
store_within (M.for_loop a b c d) = tt
store_within (M.control o c) = tt

record_within : (c : Call) → Recorded c → T (within (listed_refusals (asked c)) sheet_refusals)
record_within (store c) h = store_within c
record_within (simplify mode i depth budget) h = tt
record_within (prune i t) h = tt
record_within (prune_by_setting i n) h = absurd h

-- what a call's refusal is among
call_listed : (l : Lent) (s : State) (c : Call) → ResultOr (listed_refusals (asked c)) (from_store (call l s c).answer)
call_listed l s c =
    let lists : LentLists = record { store = l; names = 0 } in
    subst (λ (r : AfterCall). ResultOr (listed_refusals (asked c)) r.answer) (call_store lists (with_names [] s) c) (answers_listed lists (with_names [] s) (asked c))

refusal_listed : (ks : List ℕ) (a : Answer) (number : ℕ) → refusal_of a ≡ some number → ResultOr ks (from_store a) → (a ≡ refused number) × T (among number ks)
refusal_listed ks (stored i) number e h = let z : ◌≡◌ {A = ℕ} 0 1 = cc in absurd (omega arith)
refusal_listed ks (simplified i spent steps) number e h = let z : ◌≡◌ {A = ℕ} 0 1 = cc in absurd (omega arith)
refusal_listed ks (pruned i kept dropped) number e h = let z : ◌≡◌ {A = ℕ} 0 1 = cc in absurd (omega arith)
refusal_listed ks (refused k) number e h = let q : k ≡ number = cc in (ap refused q, subst (λ (n : ℕ). T (among n ks)) q h)

-- ---- records one after another

-- how records end that are refused, `more` of them at most, after as many as `base`
data Stops (l : Lent) (more base : ℕ) (cs : List Call) (al : List Answer) (number at : ℕ) : Type 0 where
  full : number ≡ too_many_records → at ≡ base + more → Stops l more base cs al number at
  bad : (j : ℕ) → j < more → number ≡ bad_record → at ≡ base + j → Stops l more base cs al number at
  called : (c : Call) (j : ℕ) → j < more → at ≡ base + j → nth cs j ≡ some c → nth al j ≡ some (refused number)
      → T (among number (listed_refusals (asked c))) → T (among number sheet_refusals) → Stops l more base cs al number at

-- after a first call
stops_later : (l : Lent) (more base : ℕ) (c : Call) (a : Answer) (cs : List Call) (al : List Answer) (number at : ℕ)
    → Stops l more (suc base) cs al number at → Stops l (suc more) base (c ∷ cs) (a ∷ al) number at
stops_later l more base c a cs al number at (full n e) = full n (omega arith)
stops_later l more base c a cs al number at (bad j b n e) = bad (suc j) (omega arith) n (omega arith)
stops_later l more base c a cs al number at (called d j b e p q r s) = called d (suc j) (omega arith) (omega arith) p q r s

-- the refusal of a result
refusal_is : {number at k n : ℕ} → ◌≡◌ {A = Option (ℕ × ℕ)} (some (k, n)) (some (number, at)) → (k ≡ number) × (n ≡ at)
refusal_is e = (ap (λ (o : Option (ℕ × ℕ)). first o) e, ap (λ (o : Option (ℕ × ℕ)). second o) e)
  where
    first : Option (ℕ × ℕ) → ℕ
    first none = 0
    first (some r) = r.0

    second : Option (ℕ × ℕ) → ℕ
    second none = 0
    second (some r) = r.1

none_refused : {A : Type 0} {x : ℕ × ℕ} → ◌≡◌ {A = Option (ℕ × ℕ)} none (some x) → A
none_refused e = let z : ◌≡◌ {A = ℕ} 0 1 = cc in absurd (omega arith)

abbrev RecordsStop : ℕ → Lent → Type 0
RecordsStop more l = (al : List Answer) (s : State) (bs : List ℕ) (number at : ℕ) → (records more l al s bs).refusal ≡ some (number, at)
    → Stops l more (length al) (record_calls more l al s bs) (answers l s (record_calls more l al s bs)) number at

records_stop : (more : ℕ) (l : Lent) → RecordsStop more l
unfolding records record_calls answers
records_stop zero l al s [] number at e = none_refused e
records_stop zero l al s (b ∷ bs) number at e = let r = refusal_is e in full (sym r.0) (let q : length al ≡ at = r.1 in omega arith)
records_stop (suc more) l al s [] number at e = none_refused e
records_stop (suc more) l al s (b ∷ bs) number at e = by_record (cut (b ∷ bs)) (records_stop more l) e
  where
    the_call : Call → Call
    the_call c = call_on (operand_id (length s.nodes) al) c

    After : Option (Call × List ℕ) → Ran
    After o = elim o [
      | none ↦ ran al (some (bad_record, length al)) s
      | some cr ↦
          let a = call l s (the_call cr.0) in
          elim (refusal_of a.answer) [ none ↦ records more l (al ++ a.answer ∷ []) a.left cr.1 | some r ↦ ran al (some (r, length al)) a.left ]
    ]

    Calls : Option (Call × List ℕ) → List Call
    Calls o = elim o [
      | none ↦ []
      | some cr ↦
          let a = call l s (the_call cr.0) in
          the_call cr.0 ∷ elim (refusal_of a.answer) [ none ↦ record_calls more l (al ++ a.answer ∷ []) a.left cr.1 | some r ↦ [] ]
    ]

    by_answer : (c : Call) (rest : List ℕ) → Recorded c → (o : Option ℕ) → refusal_of (call l s c).answer ≡ o → RecordsStop more l
        → (elim o as (λ _. Ran) [ none ↦ records more l (al ++ (call l s c).answer ∷ []) (call l s c).left rest | some r ↦ ran al (some (r, length al)) (call l s c).left ]).refusal ≡ some (number, at)
        → let cs = elim o as (λ _. List Call) [ none ↦ record_calls more l (al ++ (call l s c).answer ∷ []) (call l s c).left rest | some r ↦ [] ] in
        Stops l (suc more) (length al) (c ∷ cs) ((call l s c).answer ∷ answers l (call l s c).left cs) number at
    by_answer c rest h none q f e =
        let al' = al ++ (call l s c).answer ∷ [] in
        let n : length al' ≡ suc (length al) = length-append al ((call l s c).answer ∷ []) ∙ (let z : length al + 1 ≡ suc (length al) = omega arith in z) in
        let cs = record_calls more l al' (call l s c).left rest in
        stops_later l more (length al) c (call l s c).answer cs (answers l (call l s c).left cs) number at
        (subst (λ (k : ℕ). Stops l more k cs (answers l (call l s c).left cs) number at) n (f al' (call l s c).left rest number at e))
    by_answer c rest h (some r) q f e =
        let p = refusal_is e in
        let t = refusal_listed (listed_refusals (asked c)) (call l s c).answer number (q ∙ ap some p.0) (call_listed l s c) in
        called c 0 (omega arith) (let z : length al ≡ at = p.1 in omega arith) refl (ap some t.0) t.1
        (one_within (listed_refusals (asked c)) sheet_refusals (record_within c h) number t.1)

    for_call : (o : Option Call) (rest : List ℕ) → RecordedIf o → RecordsStop more l → (After (Sheet.with_rest o rest)).refusal ≡ some (number, at)
        → Stops l (suc more) (length al) (Calls (Sheet.with_rest o rest)) (answers l s (Calls (Sheet.with_rest o rest))) number at
    for_call none rest h f e = let r = refusal_is e in bad 0 (omega arith) (sym r.0) (let q : length al ≡ at = r.1 in omega arith)
    for_call (some c) rest h f e = by_answer (the_call c) rest (on_recorded _ c h) (refusal_of (call l s (the_call c)).answer) refl f e

    by_record : (o : Option (List ℕ × List ℕ)) → RecordsStop more l → (After (record_call o)).refusal ≡ some (number, at)
        → Stops l (suc more) (length al) (Calls (record_call o)) (answers l s (Calls (record_call o))) number at
    by_record none f e = let r = refusal_is e in bad 0 (omega arith) (sym r.0) (let q : length al ≡ at = r.1 in omega arith)
    by_record (some br) f e = for_call (body br.0) br.1 (body_recorded br.0) f e

-- ---- the whole sheet

ends_at : (l : Lent) (s : State) (bytes : List ℕ) (number at : ℕ) → Stops l most_records 0 (sheet_calls l s bytes) (answers l s (sheet_calls l s bytes)) number at
    → RefusesAt l s bytes number at × T (among number sheet_refusals)
ends_at l s bytes number at (full n e) =
    (subst (λ (k : ℕ). RefusesAt l s bytes k at) (sym n) (subst (RefusesAt l s bytes too_many_records) (sym e) too_many), subst (λ (k : ℕ). T (among k sheet_refusals)) (sym n) tt)
ends_at l s bytes number at (bad j b n e) =
    (subst (λ (k : ℕ). RefusesAt l s bytes k at) (sym n) (malformed {at = at} (omega arith)), subst (λ (k : ℕ). T (among k sheet_refusals)) (sym n) tt)
ends_at l s bytes number at (called c j b e p q r t) =
    let z : j ≡ at = omega arith in
    (by_call {at = at} c (omega arith) (subst (λ (k : ℕ). nth (sheet_calls l s bytes) k ≡ some c) z p) (subst (λ (k : ℕ). nth (answers l s (sheet_calls l s bytes)) k ≡ some (refused number)) z q) r, t)

pub sheets_refuse_at : SheetsRefuseAt
unfolding sheet sheet_calls
sheets_refuse_at l s [] number at e = is_no_sheet (refusal_is e)
  where
    is_no_sheet : (bad_sheet ≡ number) × (0 ≡ at) → RefusesAt l s [] number at × T (among number sheet_refusals)
    is_no_sheet r = (subst (λ (k : ℕ). RefusesAt l s [] k at) r.0 (subst (RefusesAt l s [] bad_sheet) r.1 (no_sheet refl)), subst (λ (k : ℕ). T (among k sheet_refusals)) r.0 tt)
sheets_refuse_at l s (v ∷ bs) number at e = by (eqb v 1 && leb (length (v ∷ bs)) most_sheet_bytes) refl e
  where
    by : (b : Bool) → is_sheet (v ∷ bs) ≡ b → (cond b (records most_records l [] s bs) (ran [] (some (bad_sheet, 0)) s)).refusal ≡ some (number, at)
        → RefusesAt l s (v ∷ bs) number at × T (among number sheet_refusals)
    by true q e = ends_at l s (v ∷ bs) number at (subst (λ (cs : List Call). Stops l most_records 0 cs (answers l s cs) number at) (sym (is_records q)) (records_stop most_records l [] s bs number at e))
      where
        is_records : is_sheet (v ∷ bs) ≡ true → sheet_calls l s (v ∷ bs) ≡ record_calls most_records l [] s bs
        is_records q = ap (λ (x : Bool). cond x (record_calls most_records l [] s bs) []) q
    by false q e =
        let r = refusal_is e in
        (subst (λ (k : ℕ). RefusesAt l s (v ∷ bs) k at) r.0 (subst (RefusesAt l s (v ∷ bs) bad_sheet) r.1 (no_sheet q)), subst (λ (k : ℕ). T (among k sheet_refusals)) r.0 tt)
