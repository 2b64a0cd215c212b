-- Which constants of a program are a NaN: none of it, exactly where none of its parts.
use mathlib.Core.Path.{◌≡◌, refl, sym, ap, ◌∙◌}
use mathlib.Core.Bool.{Bool, true, false, false≢true}
use mathlib.Core.List.{List, [], ◌∷◌, ◌++◌}
use Rattle.text_language.specs.Grammar.{Expr}
use Rattle.text_language.specs.Program.{Token, join, Join, postfix}
use Rattle.text_language.specs.Reading.{nan_token, any_nan}

pub any_first : (t : Token) (ts : List Token) → nan_token t ≡ false → any_nan ts ≡ false → any_nan (t ∷ ts) ≡ false
unfolding any_nan
any_first t ts h k = ap (λ (x : Bool). elim x as (λ y. Bool) [ true ↦ true | false ↦ any_nan ts ]) h ∙ k

pub any_parts : (t : Token) (ts : List Token) → any_nan (t ∷ ts) ≡ false → (nan_token t ≡ false) × (any_nan ts ≡ false)
unfolding any_nan
any_parts t ts h = go (nan_token t) refl h
  where
    go : (b : Bool) → nan_token t ≡ b → (elim b as (λ y. Bool) [ true ↦ true | false ↦ any_nan ts ]) ≡ false → (nan_token t ≡ false) × (any_nan ts ≡ false)
    go true e k = absurd (false≢true (sym k))
    go false e k = (e, k)

pub any_append : (s ts : List Token) → any_nan s ≡ false → any_nan ts ≡ false → any_nan (s ++ ts) ≡ false
any_append [] ts h k = k
any_append (t ∷ s) ts h k = let p = any_parts t s h in any_first t (s ++ ts) p.0 (any_append s ts p.1 k)

pub any_both : (s ts : List Token) → any_nan (s ++ ts) ≡ false → (any_nan s ≡ false) × (any_nan ts ≡ false)
unfolding any_nan
any_both [] ts h = (refl, h)
any_both (t ∷ s) ts h = let p = any_parts t (s ++ ts) h in let q = any_both s ts p.1 in (any_first t s p.0 q.0, q.1)

-- the constants of each operand
pub both_numbers : (a b : Expr) (o : Join) → any_nan (postfix a ++ (postfix b ++ join o ∷ [])) ≡ false → (any_nan (postfix a) ≡ false) × (any_nan (postfix b) ≡ false)
both_numbers a b o h = let p = any_both (postfix a) _ h in (p.0, (any_both (postfix b) _ p.1).0)
