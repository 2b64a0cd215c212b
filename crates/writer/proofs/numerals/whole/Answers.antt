use Rattle.std.proofs.Common.{Bool, not, T, sym, ap, ◌∙◌, subst}
use Rattle.expression_text.proofs.Forms.{number_form}
use lib.Ieee.{Float, binary64, of_bits, to_bits, neg, is_nan}
use Rattle.text_language.specs.Grammar.{whole_bits}
use Rattle.writer.proofs.Wholes.{whole_yes, whole_no, nan_no, low_no, high_no, great_no, other_no, whole_number}
use Rattle.writer.proofs.numerals.whole.Goals as goal

pub returns-then-not-is_number : goal.returns-then-not-is_number
returns-then-not-is_number c = whole_no _ (nan_no _ (sym c.is_number.ensures ∙ c.if-not-is_number.true))

pub float_from_bits-x : goal.float_from_bits-x
float_from_bits-x c = subst (λ (b : Bool). T (not b)) (sym (number_form _ (sym c.is_number.ensures ∙ c.if-not-is_number.false)).number) tt

pub truncating_f64_to_u64-n-requires : goal.truncating_f64_to_u64-n-requires
unfolding of_bits neg
truncating_f64_to_u64-n-requires c = record { lower_bound = subst T (sym c.if-x.true) tt; upper_bound = subst T (sym c.if-x-2.true) tt }

pub float_to_bits-y : goal.float_to_bits-y
float_to_bits-y c = subst (λ (x : Float). T (not (is_nan x))) (sym c.nearest_u64_to_f64-y.ensures) (whole_number _ c.if-n-le-MOST_WHOLE.true)

pub returns-then-y-bits : goal.returns-then-y-bits
unfolding whole_bits
returns-then-y-bits c = whole_yes _ _ c.if-n-le-MOST_WHOLE.true (ap (to_bits binary64) (sym c.nearest_u64_to_f64-y.ensures) ∙ c.if-y-bits.true)

pub returns-then-n-le-MOST_WHOLE : goal.returns-then-n-le-MOST_WHOLE
unfolding whole_bits
returns-then-n-le-MOST_WHOLE c = whole_no _ (other_no _ _ c.truncating_f64_to_u64-n.ensures (λ h. c.if-y-bits.false (ap (to_bits binary64) c.nearest_u64_to_f64-y.ensures ∙ h)))

pub returns-then-x-2 : goal.returns-then-x-2
returns-then-x-2 c = whole_no _ (great_no _ _ c.truncating_f64_to_u64-n.ensures c.if-n-le-MOST_WHOLE.false)

pub returns-then-x : goal.returns-then-x
unfolding of_bits neg
returns-then-x c = whole_no _ (high_no _ c.if-x-2.false)

pub returns : goal.returns
unfolding of_bits neg
returns c = whole_no _ (low_no _ c.if-x.false)
