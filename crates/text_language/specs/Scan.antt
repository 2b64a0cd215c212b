-- The language without recursion: an operand or an operator is wanted, and so many brackets are open.
use Rattle.std.specs.Prelude.{ℕ, zero, suc, ◌+◌, ◌*◌, Bool, true, false, ◌&&◌, ◌||◌, List, [], ◌∷◌, length, eqb}
use Rattle.text_language.specs.Grammar.{Expr, sums, products, chain}
use Rattle.text_language.specs.Reader.{lead, skip, past, Got, got, bad, atom_of, which, level, read}
use Rattle.text_language.specs.Reader.{is_some}

pub data Want : Type 0 where
  operand operator : Want

-- nothing but blanks
unfoldable pub ended : List ℕ → Bool
unfolding skip
ended s = elim (skip s) [ [] ↦ true | c ∷ t ↦ false ]

-- + - * / or ^
unfoldable pub joins : ℕ → Bool
unfolding which
joins c = is_some (which sums c) || (is_some (which products c) || eqb c 94)

unfoldable pub onto : Got → (List ℕ → Bool) → Bool
onto (got e d r) f = f r
onto bad f = false

unfoldable pub pop : ℕ → (ℕ → Bool) → Bool
pop zero f = false
pop (suc b) f = f b

unfoldable pub scan : ℕ → Want → ℕ → List ℕ → Bool
unfolding lead past skip atom_of joins ended
scan zero w b s = false
scan (suc n) operand b s =
    elim (eqb (lead s) 45) [
      | true ↦ scan n operand b (past s)
      | false ↦ elim (eqb (lead s) 40) [
        | true ↦ scan n operand (suc b) (past s)
        | false ↦ onto (atom_of (skip s)) (λ r. scan n operator b r)
      ]
    ]
scan (suc n) operator b s =
    elim (joins (lead s)) [
      | true ↦ scan n operand b (past s)
      | false ↦ elim (eqb (lead s) 41) [
        | true ↦ pop b (λ k. scan n operator k (past s))
        | false ↦ ended s && eqb b 0
      ]
    ]

-- the text is in the language, by the reader
unfoldable pub whole : Got → Bool
unfolding ended
whole (got e d r) = ended r
whole bad = false

unfoldable pub is_text : List ℕ → Bool
unfolding read whole
is_text s = whole (read (4 * length s + 4) (level (chain sums)) s)
