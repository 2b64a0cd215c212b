-- A text that is written has no blanks.
use Prim.Native.Nat.{ℕ, ◌+◌}
use mathlib.Core.Path.{◌≡◌, refl, ap, ◌∙◌}
use mathlib.Core.Bool.{Bool, true, false, ◌&&◌, not, cond}
use mathlib.Core.List.{List, [], ◌∷◌, ◌++◌}
use lib.ListN.{length}
use lib.Dec.{leb, eqb}
use native.Mathlib.Omega.{arith}
use borrow.Author.Tests.{eqb-true}
use Rattle.text_language.specs.Grammar.{Expr, constant, variable, negated, linked, raised, sums, products, is_digit, is_letter, is_word, is_hex, under, chain, power, factor}
use Rattle.text_language.proofs.Sound.{absurd_bool, and_both}
use Rattle.expression_text.specs.Numeral.{decimals, hexes, whole_part, is_whole, numeral}
use Rattle.expression_text.specs.Written.{fits, wrap, bare, text_of, count, blanks}
use Rattle.expression_text.specs.Proper.{all_words, is_name, Proper}
use Rattle.expression_text.specs.Listed.{AllOf}
use Rattle.expression_text.proofs.Numerals.{decimals_shape, hexes_all}
use Rattle.expression_text.proofs.Forms.{all_words_lem, not_false}

abbrev solid : ℕ → Bool
solid c = not (eqb c 32)

all_as : (p q : ℕ → Bool) → ((c : ℕ) → p c ≡ true → q c ≡ true) → (w : List ℕ) → AllOf p w → AllOf q w
all_as p q f [] h = tt
all_as p q f (c ∷ w) h = (f c h.0, all_as p q f w h.1)

all_append : (p : ℕ → Bool) (v w : List ℕ) → AllOf p v → AllOf p w → AllOf p (v ++ w)
all_append p [] w h k = k
all_append p (c ∷ v) w h k = (h.0, all_append p v w h.1 k)

-- a byte that passes a test which a blank does not pass
solid_by : (p : ℕ → Bool) → p 32 ≡ false → (c : ℕ) → p c ≡ true → solid c ≡ true
solid_by p n c h = go (eqb c 32) refl
  where
    go : (b : Bool) → eqb c 32 ≡ b → not b ≡ true
    go false e = refl
    go true e = absurd_bool h (ap p (eqb-true c 32 e) ∙ n)

solid_number : (b : ℕ) → AllOf solid (numeral b)
unfolding numeral
solid_number b = go (is_whole b)
  where
    go : (t : Bool) → AllOf solid (elim t as (λ x. List ℕ) [ true ↦ decimals 9 (whole_part b) [] | false ↦ 35 ∷ hexes 16 b [] ])
    go true = all_as is_digit solid (solid_by is_digit refl) (decimals 9 (whole_part b) []) (decimals_shape 8 (whole_part b) 0 [] (record { all = tt; least = omega arith; most = omega arith })).all
    go false = (refl, all_as is_hex solid (solid_by is_hex refl) (hexes 16 b []) (hexes_all 16 b [] tt))

solid_name : (v : List ℕ) → is_name v ≡ true → AllOf solid v
unfolding is_name
solid_name [] h = tt
solid_name (c ∷ v) h =
    let p = and_both (is_letter c) (all_words v && leb (length v) 31) h in
    let q = and_both (all_words v) (leb (length v) 31) p.1 in
    (solid_by is_letter refl c p.0, all_as is_word solid (solid_by is_word refl) v (all_words_lem v q.0))

solid_wrap : (b : Bool) (f : List ℕ → List ℕ) → ((r : List ℕ) → AllOf solid r → AllOf solid (f r)) → (r : List ℕ) → AllOf solid r → AllOf solid (wrap b f r)
solid_wrap true f h r k = h r k
solid_wrap false f h r k = (refl, h (41 ∷ r) (refl, k))

solid_bare : (e : Expr) → Proper e → (r : List ℕ) → AllOf solid r → AllOf solid (bare e r)
unfolding bare
solid_bare (constant b) h r k = all_append solid (numeral b) r (solid_number b) k
solid_bare (variable w) h r k = all_append solid w r (solid_name w h) k
solid_bare (negated a) h r k = (refl, solid_wrap (fits factor a) (bare a) (solid_bare a h) r k)
solid_bare (linked sums false a b) h r k = solid_wrap (fits (chain sums) a) (bare a) (solid_bare a h.0) _ (refl, solid_wrap (fits (under sums) b) (bare b) (solid_bare b h.1) r k)
solid_bare (linked sums true a b) h r k = solid_wrap (fits (chain sums) a) (bare a) (solid_bare a h.0) _ (refl, solid_wrap (fits (under sums) b) (bare b) (solid_bare b h.1) r k)
solid_bare (linked products false a b) h r k = solid_wrap (fits (chain products) a) (bare a) (solid_bare a h.0) _ (refl, solid_wrap (fits (under products) b) (bare b) (solid_bare b h.1) r k)
solid_bare (linked products true a b) h r k = solid_wrap (fits (chain products) a) (bare a) (solid_bare a h.0) _ (refl, solid_wrap (fits (under products) b) (bare b) (solid_bare b h.1) r k)
solid_bare (raised a b) h r k = solid_wrap (fits factor a) (bare a) (solid_bare a h.0) _ (refl, solid_wrap (fits power b) (bare b) (solid_bare b h.1) r k)

solid_count : (s : List ℕ) → AllOf solid s → blanks s ≡ 0
unfolding count
solid_count [] h = refl
solid_count (c ∷ s) h = ap (λ (x : Bool). cond x 1 0 + count 32 s) (not_false (eqb c 32) h.0) ∙ omega (arith, solid_count s h.1)

pub no_blanks : (e : Expr) → Proper e → blanks (text_of e) ≡ 0
unfolding text_of
no_blanks e h = solid_count (bare e []) (solid_bare e h [] tt)
