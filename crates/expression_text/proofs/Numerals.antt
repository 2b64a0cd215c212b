-- A printed constant or name reads back.
use Prim.Native.Nat.{ℕ, zero, suc, ◌+◌, ◌-◌, ◌*◌, ◌/◌, ◌%◌, ◌^◌, ◌≤◌, ◌<◌}
use mathlib.Core.Path.{◌≡◌, refl, sym, ap, ◌∙◌, subst}
use mathlib.Core.Bool.{Bool, true, false, ◌&&◌, ◌||◌, cond, or-true}
use mathlib.Core.List.{List, [], ◌∷◌, ◌++◌}
use lib.ListN.{length}
use lib.Dec.{leb, eqb}
use native.Mathlib.Omega.{arith}
use native.Mathlib.Nat.{pow-succ'}
use borrow.Author.Tests.{eqb-true, leb-true, leb-false, le-leb, lt-leb}
use Rattle.text_language.specs.Grammar.{constant, variable, is_digit, is_letter, is_word, is_hex, hex_digit, digits, decimal, hexadecimal, whole_bits, Run, stop, Atom}
use Rattle.text_language.proofs.Sound.{and_both}
use Rattle.expression_text.specs.Numeral.{most_whole, decimals, hex_byte, hexes, whole_part, is_whole, numeral}
use Rattle.expression_text.specs.Listed.{AllOf}

pub all_run : (p : ℕ → Bool) (w r : List ℕ) → AllOf p w → Run p (w ++ r) w r
all_run p [] r h = stop
all_run p (c ∷ w) r h = Run.more h.0 (all_run p w r h.1)

-- ---- decimal

digit_byte : (n : ℕ) → is_digit (48 + n % 10) ≡ true
digit_byte n =
    let a = le-leb 48 (48 + n % 10) (omega arith) in
    let b = le-leb (48 + n % 10) 57 (omega arith) in
    ap (λ (x : Bool). x && leb (48 + n % 10) 57) a ∙ b

-- a shape: between 1 and k bytes more than w, digits all
pub record Digits (p : ℕ → Bool) (low high : ℕ) (w : List ℕ) : Type 0 where
  pub all : AllOf p w
  pub least : low ≤ length w
  pub most : length w ≤ high

pub decimals_shape : (k n m : ℕ) (w : List ℕ) → Digits is_digit 0 m w → Digits is_digit 1 (suc k + m) (decimals (suc k) n w)
unfolding decimals
decimals_shape zero n m w d = go (eqb (n / 10) 0)
  where
    go : (b : Bool) → Digits is_digit 1 (1 + m) (elim b [ true ↦ (48 + n % 10) ∷ w | false ↦ (48 + n % 10) ∷ w ])
    go true = record { all = (digit_byte n, d.all); least = omega arith; most = let z = d.most in omega arith }
    go false = record { all = (digit_byte n, d.all); least = omega arith; most = let z = d.most in omega arith }
decimals_shape (suc k) n m w d =
    go (eqb (n / 10) 0) (decimals_shape k (n / 10) (suc m) ((48 + n % 10) ∷ w) (record { all = (digit_byte n, d.all); least = omega arith; most = let z = d.most in omega arith }))
  where
    go : (b : Bool) → Digits is_digit 1 (suc k + suc m) (decimals (suc k) (n / 10) ((48 + n % 10) ∷ w))
        → Digits is_digit 1 (suc (suc k) + m) (elim b [ true ↦ (48 + n % 10) ∷ w | false ↦ decimals (suc k) (n / 10) ((48 + n % 10) ∷ w) ])
    go true i = record { all = (digit_byte n, d.all); least = omega arith; most = let z = d.most in omega arith }
    go false i = record { all = i.all; least = i.least; most = let z = i.most in omega arith }

decimals_value : (k n : ℕ) (w : List ℕ) → n < 10 ^ k → digits 10 (λ c. c - 48) 0 (decimals k n w) ≡ digits 10 (λ c. c - 48) n w
unfolding decimals digits
decimals_value zero n w h = let z : n ≡ 0 = omega arith in ap (λ (x : ℕ). digits 10 (λ c. c - 48) x w) (sym z)
decimals_value (suc k) n w h = go (eqb (n / 10) 0) refl (decimals_value k (n / 10) ((48 + n % 10) ∷ w) (let z = pow-succ' 10 k in omega arith))
  where
    go : (b : Bool) → eqb (n / 10) 0 ≡ b → digits 10 (λ c. c - 48) 0 (decimals k (n / 10) ((48 + n % 10) ∷ w)) ≡ digits 10 (λ c. c - 48) (n / 10) ((48 + n % 10) ∷ w)
        → digits 10 (λ c. c - 48) 0 (elim b [ true ↦ (48 + n % 10) ∷ w | false ↦ decimals k (n / 10) ((48 + n % 10) ∷ w) ]) ≡ digits 10 (λ c. c - 48) n w
    go true q i = let y = eqb-true (n / 10) 0 q in let z : 0 * 10 + (48 + n % 10 - 48) ≡ n = omega arith in ap (λ (x : ℕ). digits 10 (λ c. c - 48) x w) z
    go false q i = let z : n / 10 * 10 + (48 + n % 10 - 48) ≡ n = omega arith in i ∙ ap (λ (x : ℕ). digits 10 (λ c. c - 48) x w) z

-- ---- hex

hex_byte_lem : (d : ℕ) → d < 16 → (is_hex (hex_byte d) ≡ true) × (hex_digit (hex_byte d) ≡ d)
unfolding hex_digit
hex_byte_lem d h = go (leb d 9) refl
  where
    go : (b : Bool) → leb d 9 ≡ b → (is_hex (cond b (48 + d) (55 + d)) ≡ true) × (hex_digit (cond b (48 + d) (55 + d)) ≡ d)
    go true q =
        let z = leb-true d 9 q in
        let a = le-leb 48 (48 + d) (omega arith) in
        let c = le-leb (48 + d) 57 (omega arith) in (
          ap (λ (x : Bool). x && leb (48 + d) 57 || (leb 65 (48 + d) && leb (48 + d) 70 || leb 97 (48 + d) && leb (48 + d) 102)) a
              ∙ ap (λ (x : Bool). x || (leb 65 (48 + d) && leb (48 + d) 70 || leb 97 (48 + d) && leb (48 + d) 102)) c,
          ap (λ (x : Bool). cond x (48 + d - 48) (cond (leb (48 + d) 70) (48 + d - 55) (48 + d - 87))) c ∙ omega arith,
        )
    go false q =
        let z = leb-false d 9 q in
        let a = le-leb 65 (55 + d) (omega arith) in
        let c = le-leb (55 + d) 70 (omega arith) in
        let n = lt-leb (55 + d) 57 (omega arith) in (
          ap (λ (x : Bool). is_digit (55 + d) || (x && leb (55 + d) 70 || leb 97 (55 + d) && leb (55 + d) 102)) a
              ∙ ap (λ (x : Bool). is_digit (55 + d) || (x || leb 97 (55 + d) && leb (55 + d) 102)) c
              ∙ or-true (is_digit (55 + d)),
          ap (λ (x : Bool). cond x (55 + d - 48) (cond (leb (55 + d) 70) (55 + d - 55) (55 + d - 87))) n
              ∙ ap (λ (x : Bool). cond x (55 + d - 55) (55 + d - 87)) c ∙ omega arith,
        )

pub hexes_all : (k n : ℕ) (w : List ℕ) → AllOf is_hex w → AllOf is_hex (hexes k n w)
unfolding hexes
hexes_all zero n w h = h
hexes_all (suc k) n w h = hexes_all k (n / 16) (hex_byte (n % 16) ∷ w) ((hex_byte_lem (n % 16) (omega arith)).0, h)

hexes_length : (k n : ℕ) (w : List ℕ) → length (hexes k n w) ≡ k + length w
unfolding hexes
hexes_length zero n w = omega arith
hexes_length (suc k) n w = let i = hexes_length k (n / 16) (hex_byte (n % 16) ∷ w) in omega arith

hexes_value : (k n : ℕ) (w : List ℕ) → n < 16 ^ k → digits 16 hex_digit 0 (hexes k n w) ≡ digits 16 hex_digit n w
unfolding hexes digits
hexes_value zero n w h = let z : n ≡ 0 = omega arith in ap (λ (x : ℕ). digits 16 hex_digit x w) (sym z)
hexes_value (suc k) n w h =
    let i = hexes_value k (n / 16) (hex_byte (n % 16) ∷ w) (let z = pow-succ' 16 k in omega arith) in
    let d = (hex_byte_lem (n % 16) (omega arith)).1 in
    let z : n / 16 * 16 + hex_digit (hex_byte (n % 16)) ≡ n = ap (λ (x : ℕ). n / 16 * 16 + x) d ∙ omega arith in
    i ∙ ap (λ (x : ℕ). digits 16 hex_digit x w) z

-- ---- constants and names

whole_atom : (w r : List ℕ) → Digits is_digit 1 9 w → Atom (w ++ r) (constant (whole_bits (decimal w))) r
whole_atom [] r d = absurd (let z = d.least in omega arith)
whole_atom (c ∷ w) r d = Atom.whole d.all.0 (all_run is_digit w r d.all.1) (let z = d.most in omega arith)

pub numeral_atom : (b : ℕ) → b < 2 ^ 64 → (r : List ℕ) → Atom (numeral b ++ r) (constant b) r
unfolding numeral is_whole decimal hexadecimal
numeral_atom b h r = go (is_whole b) refl
  where
    go : (t : Bool) → is_whole b ≡ t
        → Atom ((elim t as (λ x. List ℕ) [ true ↦ decimals 9 (whole_part b) [] | false ↦ 35 ∷ hexes 16 b [] ]) ++ r) (constant b) r
    go true q =
        let n = whole_part b in
        let s = and_both (leb n most_whole) (eqb (whole_bits n) b) q in
        let l = leb-true n most_whole s.0 in
        let d = decimals_shape 8 n 0 [] (record { all = tt; least = omega arith; most = omega arith }) in
        let v : decimal (decimals 9 n []) ≡ n = decimals_value 9 n [] (omega arith) in
        subst (λ (x : ℕ). Atom (decimals 9 n [] ++ r) (constant x) r) (ap whole_bits v ∙ eqb-true (whole_bits n) b s.1)
        (whole_atom (decimals 9 n []) r (record { all = d.all; least = d.least; most = let z = d.most in omega arith }))
    go false q =
        let v : hexadecimal (hexes 16 b []) ≡ b = hexes_value 16 b [] (omega arith) in
        subst (λ (x : ℕ). Atom ((35 ∷ hexes 16 b []) ++ r) (constant x) r) v
        (Atom.bits refl (all_run is_hex (hexes 16 b []) r (hexes_all 16 b [] tt)) (let z = hexes_length 16 b [] in omega arith))

-- a name of the text's form
pub record NameForm (w : List ℕ) : Type 0 where
  pub head : ℕ
  pub rest : List ℕ
  pub is : w ≡ head ∷ rest
  pub letter : is_letter head ≡ true
  pub words : AllOf is_word rest
  pub short : length rest ≤ 31

pub name_atom : (w : List ℕ) → NameForm w → (r : List ℕ) → Atom (w ++ r) (variable w) r
name_atom w f r =
    subst (λ (x : List ℕ). Atom (x ++ r) (variable x) r) (sym f.is) (Atom.name f.letter (all_run is_word f.rest r f.words) f.short)
