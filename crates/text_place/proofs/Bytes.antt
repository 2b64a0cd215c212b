-- One byte of a text, by what it is.
use Prim.Native.Nat.{ℕ, zero, suc, ◌+◌, ◌-◌, ◌≤◌, ◌<◌}
use mathlib.Core.Path.{◌≡◌, refl, sym, ap, ◌∙◌, subst}
use mathlib.Core.Bool.{Bool, true, false, ◌&&◌, cond}
use lib.Dec.{leb, ltb, eqb}
use native.Mathlib.Omega.{arith}
use native.Mathlib.Numerals.{add-one}
use borrow.Author.Tests.{eq-eqb, ne_eqb, le-leb, lt-leb}
use Rattle.text_language.specs.Grammar.{is_digit, is_letter, is_word, is_hex}
use Rattle.text_language.specs.Scan.{joins}
use Rattle.text_place.specs.declared.ScanProgress.{ScanProgress}
use Rattle.text_place.specs.declared.ScanProgress.TheVariants.{Wanted, Digits, Name, Bits, Ended}
use Rattle.std.specs.Prelude.{Option, Some, None}
use Rattle.text_place.specs.Progress.{most_digits, longest_name, bits_digits, operand_byte, closed, byte_after, longer, bits_byte, advance}

-- ---- after an operand

module _ (b c : ℕ) where
  pub after_blank : c ≡ 32 → Some (Ended b) ≡ byte_after b c
  unfolding byte_after
  after_blank h = sym (rw (byte_after, eq-eqb c 32 h))

  pub after_sign : (c ≡ 32 → ⊥) → joins c ≡ true → Some (Wanted b) ≡ byte_after b c
  unfolding byte_after
  after_sign n h = sym (rw (byte_after, ne_eqb c 32 n, h))

  pub after_other : (c ≡ 32 → ⊥) → joins c ≡ false → (c ≡ 41 → ⊥) → None ≡ byte_after b c
  unfolding byte_after
  after_other n h m = sym (rw (byte_after, ne_eqb c 32 n, h, ne_eqb c 41 m))

  at_bracket : (c ≡ 32 → ⊥) → joins c ≡ false → c ≡ 41 → byte_after b c ≡ closed b
  unfolding byte_after
  at_bracket n h m = rw (byte_after, ne_eqb c 32 n, h, eq-eqb c 41 m)

  pub after_none : (c ≡ 32 → ⊥) → joins c ≡ false → c ≡ 41 → b ≡ 0 → None ≡ byte_after b c
  after_none n h m z = sym (at_bracket n h m ∙ ap closed z)

  pub after_bracket : (c ≡ 32 → ⊥) → joins c ≡ false → c ≡ 41 → (b ≡ 0 → ⊥) → Some (Ended (b - 1)) ≡ byte_after b c
  after_bracket n h m z = sym (at_bracket n h m ∙ down b z)
    where
      down : (k : ℕ) → (k ≡ 0 → ⊥) → closed k ≡ Some (Ended (k - 1))
      down zero q = absurd (q refl)
      down (suc k) q = ap (λ (x : ℕ). Some (Ended x)) (let e : k ≡ suc k - 1 = omega arith in e)

-- ---- where an operand is wanted

module _ (b c : ℕ) where
  pub wanted_blank : c ≡ 32 → Some (Wanted b) ≡ operand_byte b c
  unfolding operand_byte
  wanted_blank h = sym (rw (operand_byte, eq-eqb c 32 h))

  pub wanted_minus : (c ≡ 32 → ⊥) → c ≡ 45 → Some (Wanted b) ≡ operand_byte b c
  unfolding operand_byte
  wanted_minus n h = sym (rw (operand_byte, ne_eqb c 32 n, eq-eqb c 45 h))

  pub wanted_bracket : (c ≡ 32 → ⊥) → (c ≡ 45 → ⊥) → c ≡ 40 → Some (Wanted (b + 1)) ≡ operand_byte b c
  unfolding operand_byte
  wanted_bracket n m h = ap (λ (x : ℕ). Some (Wanted x)) (add-one b) ∙ sym (rw (operand_byte, ne_eqb c 32 n, ne_eqb c 45 m, eq-eqb c 40 h))

  module _ (n : c ≡ 32 → ⊥) (m : c ≡ 45 → ⊥) (o : c ≡ 40 → ⊥) where
    pub wanted_digit : is_digit c ≡ true → Some (Digits 1 b) ≡ operand_byte b c
    unfolding operand_byte
    wanted_digit h = sym (rw (operand_byte, ne_eqb c 32 n, ne_eqb c 45 m, ne_eqb c 40 o, h))

    pub wanted_letter : is_digit c ≡ false → is_letter c ≡ true → Some (Name 1 b) ≡ operand_byte b c
    unfolding operand_byte
    wanted_letter h q = sym (rw (operand_byte, ne_eqb c 32 n, ne_eqb c 45 m, ne_eqb c 40 o, h, q))

    pub wanted_bits : is_digit c ≡ false → is_letter c ≡ false → c ≡ 35 → Some (Bits 0 b) ≡ operand_byte b c
    unfolding operand_byte
    wanted_bits h q p = sym (rw (operand_byte, ne_eqb c 32 n, ne_eqb c 45 m, ne_eqb c 40 o, h, q, eq-eqb c 35 p))

    pub wanted_none : is_digit c ≡ false → is_letter c ≡ false → (c ≡ 35 → ⊥) → None ≡ operand_byte b c
    unfolding operand_byte
    wanted_none h q p = sym (rw (operand_byte, ne_eqb c 32 n, ne_eqb c 45 m, ne_eqb c 40 o, h, q, ne_eqb c 35 p))

-- ---- after #

module _ (l b c : ℕ) where
  pub bits_whole : (r : Option ScanProgress) → bits_digits ≤ l → r ≡ byte_after b c → r ≡ bits_byte l b c
  unfolding bits_byte
  bits_whole r h e = e ∙ sym (rw (bits_byte, le-leb 16 l h))

  pub bits_more : l < bits_digits → is_hex c ≡ true → Some (Bits (l + 1) b) ≡ bits_byte l b c
  unfolding bits_byte
  bits_more h q = ap (λ (x : ℕ). Some (Bits x b)) (add-one l) ∙ sym (rw (bits_byte, lt-leb 16 l h, q))

  pub bits_other : l < bits_digits → is_hex c ≡ false → None ≡ bits_byte l b c
  unfolding bits_byte
  bits_other h q = sym (rw (bits_byte, lt-leb 16 l h, q))

-- ---- any byte

-- a number or a name that goes on, and one that has ended
pub digits_on : (p : ScanProgress) (l b c : ℕ) (x y : Bool) → p ≡ Digits l b → x ≡ is_digit c → y ≡ longer x l most_digits → y ≡ true → Some (Digits (l + 1) b) ≡ advance p c
unfolding advance
digits_on p l b c x y e h k t =
    ap (λ (n : ℕ). Some (Digits n b)) (add-one l)
    ∙ sym (ap (λ (q : ScanProgress). advance q c) e ∙ ap (λ (z : Bool). cond z (Some (Digits (suc l) b)) (byte_after b c)) (ap (λ (z : Bool). longer z l most_digits) (sym h) ∙ sym k ∙ t))

pub digits_end : (p : ScanProgress) (l b c : ℕ) (x y : Bool) (r : Option ScanProgress) → p ≡ Digits l b → x ≡ is_digit c → y ≡ longer x l most_digits → y ≡ false → r ≡ byte_after b c → r ≡ advance p c
unfolding advance
digits_end p l b c x y r e h k t a =
    a ∙ sym (ap (λ (q : ScanProgress). advance q c) e ∙ ap (λ (z : Bool). cond z (Some (Digits (suc l) b)) (byte_after b c)) (ap (λ (z : Bool). longer z l most_digits) (sym h) ∙ sym k ∙ t))

pub name_on : (p : ScanProgress) (l b c : ℕ) (x y : Bool) → p ≡ Name l b → x ≡ is_word c → y ≡ longer x l longest_name → y ≡ true → Some (Name (l + 1) b) ≡ advance p c
unfolding advance
name_on p l b c x y e h k t =
    ap (λ (n : ℕ). Some (Name n b)) (add-one l)
    ∙ sym (ap (λ (q : ScanProgress). advance q c) e ∙ ap (λ (z : Bool). cond z (Some (Name (suc l) b)) (byte_after b c)) (ap (λ (z : Bool). longer z l longest_name) (sym h) ∙ sym k ∙ t))

pub name_end : (p : ScanProgress) (l b c : ℕ) (x y : Bool) (r : Option ScanProgress) → p ≡ Name l b → x ≡ is_word c → y ≡ longer x l longest_name → y ≡ false → r ≡ byte_after b c → r ≡ advance p c
unfolding advance
name_end p l b c x y r e h k t a =
    a ∙ sym (ap (λ (q : ScanProgress). advance q c) e ∙ ap (λ (z : Bool). cond z (Some (Name (suc l) b)) (byte_after b c)) (ap (λ (z : Bool). longer z l longest_name) (sym h) ∙ sym k ∙ t))

pub wanted_on : (p : ScanProgress) (b c : ℕ) (r : Option ScanProgress) → p ≡ Wanted b → r ≡ operand_byte b c → r ≡ advance p c
unfolding advance
wanted_on p b c r e h = h ∙ sym (ap (λ (q : ScanProgress). advance q c) e)

pub bits_on : (p : ScanProgress) (l b c : ℕ) (r : Option ScanProgress) → p ≡ Bits l b → r ≡ bits_byte l b c → r ≡ advance p c
unfolding advance
bits_on p l b c r e h = h ∙ sym (ap (λ (q : ScanProgress). advance q c) e)

pub ended_on : (p : ScanProgress) (b c : ℕ) (r : Option ScanProgress) → p ≡ Ended b → r ≡ byte_after b c → r ≡ advance p c
unfolding advance
ended_on p b c r e h = h ∙ sym (ap (λ (q : ScanProgress). advance q c) e)

-- a number or a name that goes on is short
pub still_short : (x y : Bool) (l most : ℕ) → y ≡ longer x l most → y ≡ true → l < most
still_short true y l most k t = lib.Dec.ltb→lt l most (subst lib.Dec.T (sym (sym k ∙ t)) tt)
still_short false y l most k t = absurd (mathlib.Core.Bool.false≢true (sym k ∙ t))
