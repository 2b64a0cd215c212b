-- That a sheet is a list of calls, and so keeps the promise.
use Prim.Native.Nat.{ℕ, zero, suc}
use native.Mathlib.Omega.{arith}
use mathlib.Core.Path.{◌≡◌, refl, sym, ap, ◌∙◌, subst}
use mathlib.Core.Bool.{Bool, true, false, ◌&&◌, cond}
use mathlib.Core.Option.{Option, none, some}
use mathlib.Core.List.{List, [], ◌∷◌, ◌++◌, append_assoc, map}
use lib.ListN.{length}
use lib.Dec.{leb, eqb}
use Rattle.definitions.specs.Limits.{most_sheet_bytes, most_records}
use Rattle.definitions.specs.Refusals.{bad_sheet, bad_record, too_many_records}
use Rattle.definitions.specs.Intern.{Lent}
use Rattle.definitions.specs.Walk.{standard}
use Rattle.definitions.specs.Machine.{variable, constant, operator, Call, store, simplify, Answer, stored, simplified, pruned, refused, State, empty, call, answers, states, run}
use Rattle.definitions.specs.Sheet.{call_on, operand_id, Ran, ran, cut, record_call, refusal_of, records, sheet}
use Rattle.definitions.specs.SheetCalls.{record_calls, sheet_calls, SheetEnds, whole, by_sheet, by_call, AsCalls}
use Rattle.definitions.specs.Examples.{sheet_bytes}
use Rattle.definitions.specs.Promise.{Promise}
use Rattle.definitions.specs.Controller.{LentLists, asked, from_store, with_names}
use Rattle.definitions.proofs.StoreLists.{store_promise}

without_calls : (l : Lent) (al : List Answer) (s : State) (o : Option (ℕ × ℕ)) → SheetEnds al o [] → AsCalls l al s [] (ran al o s)
unfolding answers run
without_calls l al s o e = record { same_state = refl; last = []; same_answers = refl; ends = e }

is_refusal : (a : Answer) (r : ℕ) → refusal_of a ≡ some r → a ≡ refused r
is_refusal (stored i) r e = let z : ◌≡◌ {A = ℕ} 0 1 = cc in absurd (omega arith)
is_refusal (simplified i spent steps) r e = let z : ◌≡◌ {A = ℕ} 0 1 = cc in absurd (omega arith)
is_refusal (pruned i kept dropped) r e = let z : ◌≡◌ {A = ℕ} 0 1 = cc in absurd (omega arith)
is_refusal (refused k) r e = let q : k ≡ r = cc in ap refused q

-- a first call that is answered, and those after it
after_call : (l : Lent) (al : List Answer) (s : State) (c : Call) (cs : List Call) (r : Ran)
    → AsCalls l (al ++ (call l s c).answer ∷ []) (call l s c).left cs r → AsCalls l al s (c ∷ cs) r
unfolding answers run
after_call l al s c cs r h = record {
  same_state = h.same_state;
  last = h.last;
  same_answers = sym (append_assoc al ((call l s c).answer ∷ []) (answers l (call l s c).left cs)) ∙ h.same_answers;
  ends = h.ends;
}

-- a call that is refused
refused_call : (l : Lent) (al : List Answer) (s : State) (c : Call) (r : ℕ) → refusal_of (call l s c).answer ≡ some r
    → AsCalls l al s (c ∷ []) (ran al (some (r, length al)) (call l s c).left)
unfolding answers run
refused_call l al s c r e = record {
  same_state = refl;
  last = refused r ∷ [];
  same_answers = ap (λ (a : Answer). al ++ a ∷ []) (is_refusal (call l s c).answer r e);
  ends = by_call r;
}

-- records from any byte on, after any others
abbrev RecordsAsCalls : ℕ → Lent → Type 0
RecordsAsCalls more l = (al : List Answer) (s : State) (bs : List ℕ) → AsCalls l al s (record_calls more l al s bs) (records more l al s bs)

records_as_calls : (more : ℕ) (l : Lent) → RecordsAsCalls more l
unfolding records record_calls
records_as_calls zero l al s [] = without_calls l al s none whole
records_as_calls zero l al s (b ∷ bs) = without_calls l al s (some (too_many_records, length al)) (by_sheet too_many_records (omega arith))
records_as_calls (suc more) l al s [] = without_calls l al s none whole
records_as_calls (suc more) l al s (b ∷ bs) = by_record (record_call (cut (b ∷ bs))) (records_as_calls more l)
  where
    by_answer : (c : Call) (rest : List ℕ) (o : Option ℕ) → refusal_of (call l s c).answer ≡ o → RecordsAsCalls more l
        → AsCalls l al s (c ∷ elim o [ none ↦ record_calls more l (al ++ (call l s c).answer ∷ []) (call l s c).left rest | some r ↦ [] ])
        (elim o [ none ↦ records more l (al ++ (call l s c).answer ∷ []) (call l s c).left rest | some r ↦ ran al (some (r, length al)) (call l s c).left ])
    by_answer c rest none e f =
        let al' = al ++ (call l s c).answer ∷ [] in
        let s' = (call l s c).left in
        after_call l al s c (record_calls more l al' s' rest) (records more l al' s' rest) (f al' s' rest)
    by_answer c rest (some r) e f = refused_call l al s c r e

    by_record : (o : Option (Call × List ℕ)) → RecordsAsCalls more l
        → AsCalls l al s
        (elim o [
          | none ↦ []
          | some cr ↦
              let c = call_on (operand_id (length s.nodes) al) cr.0 in
              let a = call l s c in
              c ∷ elim (refusal_of a.answer) [ none ↦ record_calls more l (al ++ a.answer ∷ []) a.left cr.1 | some r ↦ [] ]
        ])
        (elim o [
          | none ↦ ran al (some (bad_record, length al)) s
          | some cr ↦
              let a = call l s (call_on (operand_id (length s.nodes) al) cr.0) in
              elim (refusal_of a.answer) [ none ↦ records more l (al ++ a.answer ∷ []) a.left cr.1 | some r ↦ ran al (some (r, length al)) a.left ]
        ])
    by_record none f = without_calls l al s (some (bad_record, length al)) (by_sheet bad_record (omega arith))
    by_record (some cr) f =
        let c = call_on (operand_id (length s.nodes) al) cr.0 in
        by_answer c cr.1 (refusal_of (call l s c).answer) refl f

-- every sheet on every state
pub sheet_as_calls : (l : Lent) (s : State) (bs : List ℕ) → AsCalls l [] s (sheet_calls l s bs) (sheet l s bs)
unfolding sheet sheet_calls
sheet_as_calls l s [] = without_calls l [] s (some (bad_sheet, 0)) (by_sheet bad_sheet (omega arith))
sheet_as_calls l s (v ∷ bs) = by_test (eqb v 1 && leb (length (v ∷ bs)) most_sheet_bytes)
  where
    by_test : (b : Bool) → AsCalls l [] s (cond b (record_calls most_records l [] s bs) []) (cond b (records most_records l [] s bs) (ran [] (some (bad_sheet, 0)) s))
    by_test true = records_as_calls most_records l [] s bs
    by_test false = without_calls l [] s (some (bad_sheet, 0)) (by_sheet bad_sheet (omega arith))

-- the calls of the sheet of the examples
pub example_calls : sheet_calls (record { nodes = 512; slots = 1024 }) empty sheet_bytes
    ≡ store (variable 7) ∷ store (constant 0) ∷ store (operator 0 3 (0 ∷ 1 ∷ [])) ∷ simplify standard 2 255 100 ∷ []
unfolding sheet_calls
example_calls = refl

-- The calls of a sheet on the empty state keep the promise, with the sheet's answers.
pub sheet_promise : (l : LentLists) (bs : List ℕ)
    → let cs = sheet_calls l.store empty bs in
    Promise l (map asked cs) (map from_store ((sheet l.store empty bs).answers ++ (sheet_as_calls l.store empty bs).last)) (map (with_names []) (states l.store empty cs))
sheet_promise l bs =
    let cs = sheet_calls l.store empty bs in
    subst (λ al. Promise l (map asked cs) (map from_store al) (map (with_names []) (states l.store empty cs))) (sheet_as_calls l.store empty bs).same_answers (store_promise l cs)
