use mathlib.Core.Path.{sym, ◌∙◌}
use Rattle.text_language.specs.Grammar.{is_digit, is_hex}
use Rattle.text_language.proofs.Atoms.{atom_none, atom_digit, atom_name, atom_other, atom_bits, atom_short}
use Rattle.text_program.proofs.places.atom_end.Goals as goal

pub returns-then-at-text : goal.returns-then-at-text
returns-then-at-text c = atom_none _ _ c.if-at-text.true

pub returns-then-is_digit : goal.returns-then-is_digit
returns-then-is_digit c = atom_digit _ _ c.if-at-text.false _ (sym c.is_digit.ensures ∙ c.if-is_digit.true) (c.run_end.ensures is_digit (λ x l b e. e))

pub returns-then-is_letter : goal.returns-then-is_letter
returns-then-is_letter c = atom_name _ _ c.if-at-text.false _ (sym c.is_digit.ensures ∙ c.if-is_digit.false) (sym c.is_letter.ensures ∙ c.if-is_letter.true) c.name_end.ensures

pub returns-then-first-ne35 : goal.returns-then-first-ne35
returns-then-first-ne35 c = atom_other _ _ c.if-at-text.false (sym c.is_digit.ensures ∙ c.if-is_digit.false) (sym c.is_letter.ensures ∙ c.if-is_letter.false) c.if-first-ne35.true

pub overflow_sub-end : goal.overflow_sub-end
overflow_sub-end c = (c.run_end-end.ensures is_hex (λ x l b e. e)).low

pub returns-then-end-at-eq-BITS_DIGITS : goal.returns-then-end-at-eq-BITS_DIGITS
returns-then-end-at-eq-BITS_DIGITS c = atom_bits _ _ c.if-at-text.false _ (sym c.is_digit.ensures ∙ c.if-is_digit.false) (sym c.is_letter.ensures ∙ c.if-is_letter.false) c.if-first-ne35.false (c.run_end-end.ensures is_hex (λ x l b e. e)) c.if-end-at-eq-BITS_DIGITS.true

pub returns-else-end-at-eq-BITS_DIGITS : goal.returns-else-end-at-eq-BITS_DIGITS
returns-else-end-at-eq-BITS_DIGITS c = atom_short _ _ c.if-at-text.false _ (sym c.is_digit.ensures ∙ c.if-is_digit.false) (sym c.is_letter.ensures ∙ c.if-is_letter.false) c.if-first-ne35.false (c.run_end-end.ensures is_hex (λ x l b e. e)) c.if-end-at-eq-BITS_DIGITS.false
