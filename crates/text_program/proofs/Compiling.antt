-- The check of a text, from the scan and the readers.
use Prim.Native.Nat.{ℕ, zero, suc, ◌+◌, ◌-◌, ◌*◌, ◌≤◌, ◌<◌}
use mathlib.Core.Path.{◌≡◌, refl, sym, ap, ◌∙◌, subst}
use mathlib.Core.Bool.{Bool, true, false}
use mathlib.Core.List.{List, ◌∷◌, map}
use lib.ListN.{length, length-take, get_or, take, drop, drop_of_length-le}
use lib.Seq.{drop-cons, get_or-take, length-take-le}
use lib.Ieee.{binary64, nan_bits}
use native.Mathlib.Omega.{arith}
use native.Mathlib.Numerals.{add-one}
use Rattle.text_language.specs.Grammar.{variable, chain, sums, is_letter}
use Rattle.text_language.specs.Reader.{Got, got, bad, atom_of}
use Rattle.text_language.specs.Scan.{is_text}
use Rattle.text_language.specs.Program.{Token, number, postfix, first_operator, token_of, atom_token, operator_token, token_at, tokens}
use Rattle.text_language.specs.Refusals.{outside_language}
use Rattle.text_language.specs.Reading.{most_bytes, most_nested, Sized, nan_token, any_nan, Refuses, outside, deep}
use Rattle.text_language.proofs.Sound.{absurd_bool}
use Rattle.text_language.proofs.Complete.{text_read}
use Rattle.text_language.proofs.Scanning.{InLanguage, is_text_lem, text_is}
use Rattle.text_language.proofs.Tokens.{place_token, kind_token, letter_inside, letter_no_digit}
use Rattle.text_language.proofs.Atoms.{names_are}
use Rattle.std.specs.Prelude.{Result, Ok, Err}
use Rattle.refusal.specs.declared.Refusal.{Refusal}
use Rattle.refusal.specs.Number.{number_of}
use Rattle.text_program.specs.declared.readers.Parsed.{Parsed}
use Rattle.text_program.specs.Readers as R
use Rattle.text_program.specs.Readers.{ReaderStarts, AgreesWith, Agrees}
use Rattle.text_program.specs.Compiling.{Compiled}

positive : (k : ℕ) → (k ≡ 0 → ⊥) → 0 < k
positive zero h = absurd (h refl)
positive (suc k) h = omega arith

pub sized : (s : List ℕ) → (length s ≡ 0 → ⊥) → length s ≤ most_bytes → Sized s
sized s n l = record { some = positive (length s) n; short = l }

pub longs : (p q : List ℕ) → length p ≡ length q → length q ≡ most_bytes → length p ≡ most_bytes
longs p q e f = e ∙ f

pub starts : (s program : List ℕ) → Sized s → length program ≡ most_bytes → ReaderStarts s 0 program 0
starts s program z e = let h = z.short in record { inside = omega arith; short = h; small = omega (arith, e); room = omega (arith, e, h) }

pub scanned_out : (s : List ℕ) → Sized s → is_text s ≡ false → Refuses s outside_language
scanned_out s z e = outside z (λ _ _ t. absurd_bool (text_is t) e)

module _ (s : List ℕ) (z : Sized s) (e : is_text s ≡ true) (program : List ℕ) (program' : List ℕ) where
  abbrev found : InLanguage s
  found = is_text_lem s e

  agrees : (r : Result Parsed Refusal) → Agrees s 0 most_nested (chain sums) program 0 program' r → AgreesWith s most_nested 0 program 0 (got found.expr found.depth found.text.left) program' r
  agrees r h = subst (λ (g : Got). AgreesWith s most_nested 0 program 0 g program' r) (text_read found.text) (h.agrees (4 * length s + 4) (omega arith))

  pub parse_refused : (r : Refusal) → Agrees s 0 most_nested (chain sums) program 0 program' (Err r) → Refuses s (number_of r)
  parse_refused r h = go r (agrees (Err r) h)
    where
      never : got found.expr found.depth found.text.left ≡ bad → ⊥
      never p = let y : ◌≡◌ {A = ℕ} 0 1 = cc in omega arith

      go : (r : Refusal) → R.GivesUp most_nested (got found.expr found.depth found.text.left) r → Refuses s (number_of r)
      go r (R.outside p) = absurd (never p)
      go r (R.deep p) = deep z found.text p

  pub parse_ended : (r : Parsed) → Agrees s 0 most_nested (chain sums) program 0 program' (Ok r) → length program' ≡ most_bytes → Compiled s program' r.size
  unfolding tokens
  parse_ended r h long =
      let a = agrees (Ok r) h in
      let p = a.is in
      let b = a.appends in
      let m = b.room in
      let k = a.high in
      let g = z.short in
      let same : found.expr ≡ a.expr = cc in
      let deeper : found.depth ≡ a.depth = cc in
      record {
        sized = z;
        expr = found.expr;
        depth = found.depth;
        text = found.text;
        shallow = let w = a.shallow in omega (arith, w, deeper);
        tokens = b.tokens ∙ ap postfix (sym same);
        inside = omega (arith, m, k, g, long);
      }

-- ---- 10

kinds_fine : (k : ℕ) → false ≡ nan_token (operator_token k)
unfolding operator_token
kinds_fine zero = refl
kinds_fine (suc zero) = refl
kinds_fine (suc (suc zero)) = refl
kinds_fine (suc (suc (suc zero))) = refl
kinds_fine (suc (suc (suc (suc zero)))) = refl
kinds_fine (suc (suc (suc (suc (suc zero))))) = refl
kinds_fine (suc (suc (suc (suc (suc (suc zero)))))) = refl
kinds_fine (suc (suc (suc (suc (suc (suc (suc k))))))) = refl

pub operator_fine : (s : List ℕ) (w : ℕ) → first_operator ≤ w → false ≡ nan_token (token_at s w)
operator_fine s w l = kinds_fine (w - first_operator) ∙ ap nan_token (sym (kind_token s w l))

variable_fine : (g : Got) (w r : List ℕ) → g ≡ got (variable w) 0 r → nan_token (atom_token g) ≡ false
unfolding atom_token token_of
variable_fine g w r e = ap (λ (x : Got). nan_token (atom_token x)) e

pub name_fine : (s : List ℕ) (w : ℕ) → w < first_operator → is_letter (get_or s w 0) ≡ true → false ≡ nan_token (token_at s w)
name_fine s w l e =
    sym (ap nan_token (place_token s w l) ∙ variable_fine (atom_of (drop w s)) _ _ (names_are s w (letter_inside s w e) (letter_no_digit (get_or s w 0) e) e))

pub number_nan : (s : List ℕ) (w b : ℕ) (r : Bool) → w < first_operator → atom_token (atom_of (drop w s)) ≡ number b → r ≡ nan_bits binary64 b → r ≡ nan_token (token_at s w)
number_nan s w b r l e f = f ∙ sym (ap nan_token (place_token s w l ∙ e))

module _ (s program : List ℕ) (size : ℕ) where
  abbrev rest : ℕ → List Token
  rest i = map (token_at s) (drop i (take size program))

  rest_cons : (i : ℕ) → i < size → size ≤ length program → rest i ≡ token_at s (get_or program i 0) ∷ rest (i + 1)
  rest_cons i l m =
      let e = length-take-le size program m in
      ap (map (token_at s)) (drop-cons (take size program) i 0 (omega arith))
      ∙ ap (λ (w : ℕ). token_at s w ∷ rest (suc i)) (get_or-take size program i 0 l)
      ∙ ap (λ (k : ℕ). token_at s (get_or program i 0) ∷ rest k) (sym (add-one i))

  -- no NaN among the words passed
  pub record Fine (i : ℕ) : Type 0 where
    pub same : any_nan (tokens s program size) ≡ any_nan (rest i)

  pub fine_start : Fine 0
  unfolding tokens
  fine_start = record { same = refl }

  any_cons : (t : Token) (ts : List Token) (b : Bool) → nan_token t ≡ b → any_nan (t ∷ ts) ≡ elim b [ true ↦ true | false ↦ any_nan ts ]
  unfolding any_nan
  any_cons t ts b e = ap (λ (x : Bool). elim x as (λ _. Bool) [ true ↦ true | false ↦ any_nan ts ]) e

  module _ (i : ℕ) (f : Fine i) where
    pub fine_found : i < size → size ≤ length program → (r : Bool) → r ≡ nan_token (token_at s (get_or program i 0)) → r ≡ true → true ≡ any_nan (tokens s program size)
    fine_found l m r e t = sym (f.same ∙ ap any_nan (rest_cons i l m) ∙ any_cons (token_at s (get_or program i 0)) (rest (i + 1)) true (sym e ∙ t))

    pub fine_on : i < size → size ≤ length program → (r : Bool) → r ≡ nan_token (token_at s (get_or program i 0)) → r ≡ false → Fine (i + 1)
    fine_on l m r e t = record { same = f.same ∙ ap any_nan (rest_cons i l m) ∙ any_cons (token_at s (get_or program i 0)) (rest (i + 1)) false (sym e ∙ t) }

    pub fine_end : size ≤ i → false ≡ any_nan (tokens s program size)
    unfolding any_nan
    fine_end l = let e = length-take size program in sym (f.same ∙ ap (λ (x : List ℕ). any_nan (map (token_at s) x)) (drop_of_length-le (take size program) {i = i} (omega arith)))
