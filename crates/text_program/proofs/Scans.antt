-- The scan's steps, and its loop.
use Prim.Native.Nat.{ℕ, zero, suc, ◌+◌, ◌-◌, ◌≤◌, ◌<◌}
use mathlib.Core.Path.{◌≡◌, refl, sym, ap, ◌∙◌, subst}
use mathlib.Core.Bool.{Bool, true, false, ◌&&◌}
use mathlib.Core.List.{List, [], ◌∷◌}
use lib.ListN.{length, drop, length-drop, drop_of_length-le}
use lib.Seq.{drop-cons}
use lib.Dec.{eqb}
use native.Mathlib.Omega.{arith}
use native.Mathlib.Numerals.{add-one}
use borrow.Author.Tests.{eq-eqb, ne_eqb}
use Rattle.text_language.specs.Grammar.{Expr}
use Rattle.text_language.specs.Reader.{lead, skip, past, Got, got, bad, atom_of}
use Rattle.text_language.specs.Places.{AtSpot, Behind}
use Rattle.text_language.specs.Scan.{Want, operand, operator, ended, joins, onto, pop, scan, is_text}
use Rattle.text_language.proofs.Sound.{absurd_bool, OkA, skipped}
use Rattle.text_language.proofs.Complete.{atom_length, positive}
use Rattle.text_language.proofs.Scanning.{scan_minus, scan_open, scan_atom, scan_join, scan_close, scan_end, scan_is}
use Rattle.text_program.specs.declared.scanning.ScanState.{ScanState}
use Rattle.text_program.specs.Scanning.{wanted, ScanSteps}
use Rattle.text_program.proofs.Steps.{not_zero}

no_zero : joins 0 ≡ false
unfolding joins
no_zero = refl

module _ (s : List ℕ) (t : ScanState) (j c : ℕ) (low : t.at ≤ length s) (few : t.brackets ≤ t.at) (p : AtSpot s t.at j c) where
  is_sign : (k : ℕ) → c ≡ k → eqb (lead (drop t.at s)) k ≡ true
  is_sign k z = ap (λ (x : ℕ). eqb x k) p.leads ∙ eq-eqb c k z

  no_sign : (k : ℕ) → (c ≡ k → ⊥) → eqb (lead (drop t.at s)) k ≡ false
  no_sign k z = ap (λ (x : ℕ). eqb x k) p.leads ∙ ne_eqb c k z

  rest_is : (c ≡ 0 → ⊥) → past (drop t.at s) ≡ drop (j + 1) s
  rest_is z = p.pasts z ∙ ap (λ (x : ℕ). drop x s) (sym (add-one j))

  -- a turn by one byte
  one_byte : (w : Want) (v : Bool) (o : ℕ) → wanted t.operand ≡ w → (c ≡ 0 → ⊥) → o ≤ j + 1
      → ((n : ℕ) → scan (suc n) w t.brackets (drop t.at s) ≡ scan n (wanted v) o (past (drop t.at s))) → ScanSteps s t (record { at = j + 1; operand = v; brackets = o })
  one_byte w v o e z f h =
      let l = p.low in
      let i = p.inside z in
      record {
        low = omega arith;
        high = omega arith;
        few = f;
        is = λ n. ap (λ (x : Want). scan (suc n) x t.brackets (drop t.at s)) e ∙ h n ∙ ap (scan n (wanted v) o) (rest_is z);
      }

  module _ (w : t.operand ≡ true) where
    pub step_minus : c ≡ 45 → ScanSteps s t (record { at = j + 1; operand = true; brackets = t.brackets })
    step_minus z = let l = p.low in one_byte operand true t.brackets (ap wanted w) (not_zero c 45 z (omega arith)) (omega arith) (λ n. scan_minus n t.brackets (drop t.at s) (is_sign 45 z))

    pub step_open : (c ≡ 45 → ⊥) → c ≡ 40 → ScanSteps s t (record { at = j + 1; operand = true; brackets = t.brackets + 1 })
    step_open y z =
        let l = p.low in
        one_byte operand true (t.brackets + 1) (ap wanted w) (not_zero c 40 z (omega arith)) (omega arith)
        (λ n. scan_open n t.brackets (drop t.at s) (no_sign 45 y) (is_sign 40 z) ∙ ap (λ (x : ℕ). scan n operand x (past (drop t.at s))) (sym (add-one t.brackets)))

    at_atom : (n : ℕ) → (c ≡ 45 → ⊥) → (c ≡ 40 → ⊥) → scan (suc n) (wanted t.operand) t.brackets (drop t.at s) ≡ onto (atom_of (drop j s)) (λ r. scan n operator t.brackets r)
    at_atom n y z =
        ap (λ (x : Bool). scan (suc n) (wanted x) t.brackets (drop t.at s)) w ∙ scan_atom n t.brackets (drop t.at s) (no_sign 45 y) (no_sign 40 z)
        ∙ ap (λ (x : List ℕ). onto (atom_of x) (λ r. scan n operator t.brackets r)) p.skips

    pub step_atom : (k : ℕ) → (c ≡ 45 → ⊥) → (c ≡ 40 → ⊥) → Behind s 0 (atom_of (drop j s)) k → ScanSteps s t (record { at = k; operand = false; brackets = t.brackets })
    unfolding onto
    step_atom k y z b =
        let g : atom_of (skip (drop t.at s)) ≡ got b.expr b.depth (drop k s) = ap atom_of p.skips ∙ b.is in
        let m = grown b.expr b.depth (drop k s) (subst (OkA (drop t.at s)) g (skipped (drop t.at s))) in
        let x = length-drop t.at s in
        let v = length-drop k s in
        let h = b.high in
        record {
          low = omega arith;
          high = b.high;
          few = omega arith;
          is = λ n. at_atom n y z ∙ ap (λ (u : Got). onto u (λ r. scan n operator t.brackets r)) b.is;
        }
      where
        grown : (e : Expr) (d : ℕ) (r : List ℕ) → OkA (drop t.at s) (got e d r) → length r < length (drop t.at s)
        grown e d r (OkA.ok w) = atom_length w

    pub step_none : (c ≡ 45 → ⊥) → (c ≡ 40 → ⊥) → atom_of (drop j s) ≡ bad → (n : ℕ) → scan (suc n) (wanted t.operand) t.brackets (drop t.at s) ≡ false
    unfolding onto
    step_none y z a n = at_atom n y z ∙ ap (λ (u : Got). onto u (λ r. scan n operator t.brackets r)) a

  module _ (w : t.operand ≡ false) where
    pub step_join : joins c ≡ true → ScanSteps s t (record { at = j + 1; operand = true; brackets = t.brackets })
    step_join z =
        let l = p.low in
        one_byte operator true t.brackets (ap wanted w) (λ o. absurd_bool z (ap joins o ∙ no_zero)) (omega arith)
        (λ n. scan_join n t.brackets (drop t.at s) (ap joins p.leads ∙ z))

    pub step_close : joins c ≡ false → c ≡ 41 → (t.brackets ≡ 0 → ⊥) → ScanSteps s t (record { at = j + 1; operand = false; brackets = t.brackets - 1 })
    unfolding pop
    step_close y z o =
        let l = p.low in
        one_byte operator false (t.brackets - 1) (ap wanted w) (not_zero c 41 z (omega arith)) (omega arith)
        (λ n. scan_close n t.brackets (drop t.at s) (ap joins p.leads ∙ y) (is_sign 41 z) ∙ down t.brackets (λ k. scan n operator k (past (drop t.at s))) o)
      where
        down : (b : ℕ) (f : ℕ → Bool) → (b ≡ 0 → ⊥) → pop b f ≡ f (b - 1)
        down zero f q = absurd (q refl)
        down (suc b) f q = let e : b ≡ suc b - 1 = omega arith in ap f e

    pub step_shut : joins c ≡ false → c ≡ 41 → t.brackets ≡ 0 → (n : ℕ) → scan (suc n) (wanted t.operand) t.brackets (drop t.at s) ≡ false
    unfolding pop
    step_shut y z o n =
        ap (λ (x : Bool). scan (suc n) (wanted x) t.brackets (drop t.at s)) w ∙ scan_close n t.brackets (drop t.at s) (ap joins p.leads ∙ y) (is_sign 41 z)
        ∙ ap (λ (x : ℕ). pop x (λ k. scan n operator k (past (drop t.at s)))) o

    at_end : (n : ℕ) → joins c ≡ false → (c ≡ 41 → ⊥) → scan (suc n) (wanted t.operand) t.brackets (drop t.at s) ≡ (ended (drop t.at s) && eqb t.brackets 0)
    at_end n y z = ap (λ (x : Bool). scan (suc n) (wanted x) t.brackets (drop t.at s)) w ∙ scan_end n t.brackets (drop t.at s) (ap joins p.leads ∙ y) (no_sign 41 z)

    pub step_rest : joins c ≡ false → (c ≡ 41 → ⊥) → j < length s → (n : ℕ) → scan (suc n) (wanted t.operand) t.brackets (drop t.at s) ≡ false
    unfolding ended
    step_rest y z h n = at_end n y z ∙ ap (λ (x : List ℕ). (elim x as (λ u. Bool) [ [] ↦ true | c ∷ u ↦ false ]) && eqb t.brackets 0) (p.skips ∙ drop-cons s j 0 h)

    pub step_end : joins c ≡ false → (c ≡ 41 → ⊥) → length s ≤ j → (n : ℕ) → scan (suc n) (wanted t.operand) t.brackets (drop t.at s) ≡ eqb t.brackets 0
    unfolding ended
    step_end y z h n = at_end n y z ∙ ap (λ (x : List ℕ). (elim x as (λ u. Bool) [ [] ↦ true | c ∷ u ↦ false ]) && eqb t.brackets 0) (p.skips ∙ drop_of_length-le s h)

-- ---- the loop

pub record Scanned (s : List ℕ) (t : ScanState) : Type 0 where
  pub fuel : ℕ
  pub is : scan fuel (wanted t.operand) t.brackets (drop t.at s) ≡ is_text s
  pub enough : length s < fuel + t.at
  pub high : t.at ≤ length s
  pub few : t.brackets ≤ t.at

pub scan_start : (s : List ℕ) → Scanned s (record { at = 0; operand = true; brackets = 0 })
scan_start s = record { fuel = suc (length s); is = scan_is (suc (length s)) s (omega arith); enough = omega arith; high = omega arith; few = omega arith }

pub scan_on : (s : List ℕ) (t u : ScanState) → Scanned s t → ScanSteps s t u → Scanned s u
scan_on s t u k w =
    let l = w.low in
    let (m, e) = positive k.fuel (omega arith) in
    record {
      fuel = m;
      is = sym (w.is m) ∙ ap (λ (x : ℕ). scan x (wanted t.operand) t.brackets (drop t.at s)) (sym e) ∙ k.is;
      enough = omega arith;
      high = w.high;
      few = w.few;
    }

pub scan_less : (s : List ℕ) (t u : ScanState) → ScanSteps s t u → length s - u.at < length s - t.at
scan_less s t u w = let l = w.low in let h = w.high in omega arith

pub scan_stop : (s : List ℕ) (t : ScanState) (b : Bool) → Scanned s t → ((n : ℕ) → scan (suc n) (wanted t.operand) t.brackets (drop t.at s) ≡ b) → b ≡ is_text s
scan_stop s t b k h =
    let (m, e) = positive k.fuel (omega arith) in
    sym (h m) ∙ ap (λ (x : ℕ). scan x (wanted t.operand) t.brackets (drop t.at s)) (sym e) ∙ k.is
