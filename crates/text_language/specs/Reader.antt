-- A reader of the language, as a function: greedy, with fuel.
use Rattle.std.specs.Prelude.{ℕ, zero, suc, ◌+◌, ◌-◌, ◌*◌, ◌≤◌, max, ◌≡◌, refl, Bool, true, false, ◌&&◌, ◌||◌, cond, List, [], ◌∷◌, length, leb, eqb}
use Rattle.std.proofs.Math.Option.{Option, none, some}
use Rattle.text_language.specs.Grammar.{Chain, sums, products, Expr, constant, variable, negated, linked, raised, is_digit, is_letter, is_word, is_hex, decimal, hexadecimal, whole_bits, Level, chain, power, factor, under, sign}

-- the first byte that is no blank, or 0
unfoldable pub lead : List ℕ → ℕ
lead [] = 0
lead (c ∷ s) = elim (eqb c 32) [ true ↦ lead s | false ↦ c ]

-- what stands from that byte on
unfoldable pub skip : List ℕ → List ℕ
skip [] = []
skip (c ∷ s) = elim (eqb c 32) [ true ↦ skip s | false ↦ c ∷ s ]

-- what stands after that byte
unfoldable pub past : List ℕ → List ℕ
past [] = []
past (c ∷ s) = elim (eqb c 32) [ true ↦ past s | false ↦ s ]

-- as many bytes as pass p, at most k: how many, and what is left
unfoldable pub word : (ℕ → Bool) → ℕ → List ℕ → List ℕ
word p zero s = []
word p (suc k) [] = []
word p (suc k) (c ∷ s) = elim (p c) [ true ↦ c ∷ word p k s | false ↦ [] ]

unfoldable pub beyond : (ℕ → Bool) → ℕ → List ℕ → List ℕ
beyond p zero s = s
beyond p (suc k) [] = []
beyond p (suc k) (c ∷ s) = elim (p c) [ true ↦ beyond p k s | false ↦ c ∷ s ]

pub data Got : Type 0 where
  got : Expr → ℕ → List ℕ → Got
  bad : Got

unfoldable pub after : Got → (Expr → ℕ → List ℕ → Got) → Got
after (got e d r) f = f e d r
after bad f = bad

-- a number or a name that stands right at the start
unfoldable pub atom_of : List ℕ → Got
unfolding word beyond decimal hexadecimal whole_bits
atom_of [] = bad
atom_of (c ∷ s) =
    elim (is_digit c) [
      | true ↦ got (constant (whole_bits (decimal (c ∷ word is_digit 8 s)))) 0 (beyond is_digit 8 s)
      | false ↦ elim (is_letter c) [
        | true ↦ got (variable (c ∷ word is_word 31 s)) 0 (beyond is_word 31 s)
        | false ↦ elim (eqb c 35 && eqb (length (word is_hex 16 s)) 16) [
          | true ↦ got (constant (hexadecimal (word is_hex 16 s))) 0 (beyond is_hex 16 s)
          | false ↦ bad
        ]
      ]
    ]

-- which sign of a chain a byte is
unfoldable pub which : Chain → ℕ → Option Bool
which k c = cond (eqb c (sign k false)) (some false) (cond (eqb c (sign k true)) (some true) none)

-- read a text of some kind, or go on after a left operand
pub data Job : Type 0 where
  level : Level → Job
  onward : Chain → Expr → ℕ → Job

unfoldable pub read : ℕ → Job → List ℕ → Got
unfolding lead past skip atom_of which
read zero j s = bad
read (suc n) (level (chain k)) s = after (read n (level (under k)) s) (λ a d r. read n (onward k a d) r)
read (suc n) (onward k a d) s =
    elim (which k (lead s)) [
      | none ↦ got a d s
      | some x ↦ after (read n (level (under k)) (past s)) (λ b f r. read n (onward k (linked k x a b) (max d f)) r)
    ]
read (suc n) (level power) s =
    after (read n (level factor) s)
    (λ a d r. elim (eqb (lead r) 94) [
      | true ↦ after (read n (level power) (past r)) (λ b f u. got (raised a b) (max d (suc f)) u)
      | false ↦ got a d r
    ])
read (suc n) (level factor) s =
    elim (eqb (lead s) 45) [
      | true ↦ after (read n (level factor) (past s)) (λ a d r. got (negated a) (suc d) r)
      | false ↦ elim (eqb (lead s) 40) [
        | true ↦ after (read n (level (chain sums)) (past s)) (λ e d r. elim (eqb (lead r) 41) [ true ↦ got e (suc d) (past r) | false ↦ bad ])
        | false ↦ atom_of (skip s)
      ]
    ]

-- -x^x is (-x)^x, and x^x^x groups right
pub minus_power : let x : Expr = variable (120 ∷ []) in read 20 (level (chain sums)) (45 ∷ 120 ∷ 94 ∷ 120 ∷ []) ≡ got (raised (negated x) x) 1 []
unfolding read after
minus_power = refl

pub right_group : let x : Expr = variable (120 ∷ []) in read 24 (level (chain sums)) (120 ∷ 94 ∷ 120 ∷ 94 ∷ 120 ∷ []) ≡ got (raised x (raised x x)) 2 []
unfolding read after
right_group = refl

-- the readers' order where none has moved on
abbrev pub rank : Level → ℕ
rank factor = 1
rank power = 2
rank (chain products) = 3
rank (chain sums) = 4

abbrev pub is_some : Option Bool → Bool
is_some none = false
is_some (some x) = true
