-- A record whole: its length and its body; and how a sheet starts.
use Prim.Native.Nat.{ℕ, suc, ◌+◌, ◌-◌, ◌≤◌, ◌<◌}
use mathlib.Core.Path.{◌≡◌, refl, sym, ap, ap₂, ◌∙◌, subst}
use mathlib.Core.Bool.{Bool, true, false, ◌&&◌, cond, and-false}
use mathlib.Core.List.{List, [], ◌∷◌}
use mathlib.Core.Option.{none, some}
use lib.ListN.{length, get_or, take, drop, length-drop}
use lib.Seq.{drop-cons, drop-drop}
use lib.Dec.{leb, eqb}
use native.Mathlib.Omega.{arith}
use native.Mathlib.Numerals.{add-one}
use borrow.Author.Tests.{eq-eqb, ne_eqb, le-leb, lt-leb}
use Rattle.definitions.specs.Limits.{most_records, most_sheet_bytes}
use Rattle.definitions.specs.Refusals.{bad_sheet}
use Rattle.refusal.specs.declared.Refusal.TheVariants.{BadInput}
use Rattle.refusal.specs.declared.Refusal.{Refusal}
use Rattle.std.specs.Prelude.{Result, Ok, Err}
use Rattle.definitions.specs.Intern.{Lent}
use Rattle.definitions.specs.Machine.{State}
use Rattle.definitions.specs.Sheet.{big_endian, cut, with_rest, record_call, body, ran, records, sheet}
use Rattle.records.specs.declared.Body.{Body}
use Rattle.records.specs.declared.Cursor.{Cursor}
use Rattle.records.specs.Reading.{part, operand_from, call_read, Decodes, is_sheet, OpensSheet}
use Rattle.records.proofs.Operands.{part_two}

drop_two : (s : List ℕ) (at : ℕ) → at + 2 ≤ length s → drop at s ≡ get_or s at 0 ∷ get_or s (at + 1) 0 ∷ drop (at + 2) s
drop_two s at h =
    let e : suc (at + 1) ≡ at + 2 = omega arith in
    drop-cons s at 0 (omega arith)
    ∙ ap (λ (l : List ℕ). get_or s at 0 ∷ l)
    (ap (λ (i : ℕ). drop i s) (sym (add-one at)) ∙ drop-cons s (at + 1) 0 (omega arith) ∙ ap (λ (i : ℕ). get_or s (at + 1) 0 ∷ drop i s) e)

short : (l : List ℕ) → length l < 2 → record_call (cut l) ≡ none
short [] h = refl
short (a ∷ []) h = refl
short (a ∷ b ∷ l) h = absurd (omega arith)

pub record_short : (s : List ℕ) (at : ℕ) → length s < at + 2 → record_call (cut (drop at s)) ≡ none
record_short s at h = short (drop at s) (let e : length (drop at s) ≡ length s - at = length-drop at s in omega arith)

module _ (s : List ℕ) (at n : ℕ) (h : at + 2 ≤ length s) (e : n ≡ operand_from s at) where
  long : length (drop (at + 2) s) ≡ length s - (at + 2)
  long = length-drop (at + 2) s

  cut_is : cut (drop at s) ≡ cond (leb n (length (drop (at + 2) s))) (some (take n (drop (at + 2) s), drop n (drop (at + 2) s))) none
  cut_is =
      ap cut (drop_two s at h)
      ∙ ap (λ (m : ℕ). cond (leb m (length (drop (at + 2) s))) (some (take m (drop (at + 2) s), drop m (drop (at + 2) s))) none)
      (ap big_endian (sym (part_two s at 0 (omega arith))) ∙ sym e)

  pub record_long : length s - (at + 2) < n → record_call (cut (drop at s)) ≡ none
  record_long l = ap record_call (cut_is ∙ ap (λ (b : Bool). cond b (some (take n (drop (at + 2) s), drop n (drop (at + 2) s))) none) (lt-leb n _ (subst (λ (m : ℕ). m < n) (sym long) l)))

  pub record_whole : n ≤ length s - (at + 2) → (b : Result Body Refusal) → Decodes s (body (part s (at + 2) n)) b → with_rest (call_read s b) (drop (at + 2 + n) s) ≡ record_call (cut (drop at s))
  record_whole l b d =
      sym
      (ap record_call (cut_is ∙ ap (λ (t : Bool). cond t (some (take n (drop (at + 2) s), drop n (drop (at + 2) s))) none) (le-leb n _ (subst (λ (m : ℕ). n ≤ m) (sym long) l)))
      ∙ ap₂ with_rest (sym d.is) (drop-drop n (at + 2) s))

-- ---- how a sheet starts

-- refusal 1 where the bytes are no sheet, and otherwise the records after the first byte
is_no_sheet : (s : List ℕ) → is_sheet s ≡ false → (l : Lent) (m : State) → ran [] (some (bad_sheet, 0)) m ≡ sheet l m s
unfolding sheet
is_no_sheet [] e l m = refl
is_no_sheet (v ∷ bs) e l m = ap (λ (b : Bool). cond b (records most_records l [] m bs) (ran [] (some (bad_sheet, 0)) m)) (sym e)

a_sheet : (s : List ℕ) → is_sheet s ≡ true → (l : Lent) (m : State) → records most_records l [] m (drop 1 s) ≡ sheet l m s
unfolding sheet
a_sheet [] e l m = absurd (let z : ◌≡◌ {A = ℕ} 0 1 = cc in omega arith)
a_sheet (v ∷ bs) e l m = ap (λ (b : Bool). cond b (records most_records l [] m bs) (ran [] (some (bad_sheet, 0)) m)) (sym e)

refused : (s : List ℕ) → is_sheet s ≡ false → OpensSheet s (Err BadInput)
refused s e = record { is = is_no_sheet s e; tells = e; reason = refl }

pub open_empty : (s : List ℕ) → length s ≡ 0 → OpensSheet s (Err BadInput)
open_empty [] e = refused [] refl
open_empty (v ∷ bs) e = absurd (omega arith)

pub open_long : (s : List ℕ) → most_sheet_bytes < length s → OpensSheet s (Err BadInput)
open_long [] h = absurd (omega arith)
open_long (v ∷ bs) h = refused (v ∷ bs) (ap (λ (b : Bool). eqb v 1 && b) (lt-leb (length (v ∷ bs)) most_sheet_bytes h) ∙ and-false (eqb v 1))

pub open_byte : (s : List ℕ) → (get_or s 0 0 ≡ 1 → ⊥) → OpensSheet s (Err BadInput)
open_byte [] h = refused [] refl
open_byte (v ∷ bs) h = refused (v ∷ bs) (ap (λ (b : Bool). b && leb (length (v ∷ bs)) most_sheet_bytes) (ne_eqb v 1 h))

pub open_right : (s : List ℕ) (c : Cursor) → c.at ≡ 1 → 0 < length s → length s ≤ most_sheet_bytes → get_or s 0 0 ≡ 1 → OpensSheet s (Ok c)
open_right [] c a p q e = absurd (omega arith)
open_right (v ∷ bs) c a p q e =
    let t : is_sheet (v ∷ bs) ≡ true = ap₂ (λ (x y : Bool). x && y) (eq-eqb v 1 e) (le-leb (length (v ∷ bs)) most_sheet_bytes q) in
    record { is = λ l m. ap (λ (k : ℕ). records most_records l [] m (drop k (v ∷ bs))) a ∙ a_sheet (v ∷ bs) t l m; tells = t; reason = tt }
