use Prim.Native.Nat.{ℕ, ◌*◌}
use mathlib.Core.Path.{sym, ◌∙◌, ap}
use native.Mathlib.Omega.{arith}
use Rattle.text_program.proofs.Digits.{counting_end, counting_other, counting_fits, counting_on, counting_full}
use Rattle.text_program.proofs.numbers.digits_at.Goals.{then-at-text-via-then-at-text, then-at-text-via-else-at-text+then-not-accepts}
use Rattle.text_program.proofs.numbers.digits_at.Goals as goal

pub returns-then-at-text : goal.returns-then-at-text
returns-then-at-text c = elim c.then-at-text.branch [
  | then-at-text-via-then-at-text w ↦ counting_end _ _ _ _ _ _ c.loop-count.invariant w.if-at-text.true
  | then-at-text-via-else-at-text+then-not-accepts w ↦ counting_other _ _ _ _ _ _ c.loop-count.invariant w.if-at-text.false c.loop-count-test.true (sym w.accepts.ensures ∙ w.if-not-accepts.true)
]

pub overflow_mul-value : goal.overflow_mul-value
overflow_mul-value c = let f = counting_fits _ _ _ _ _ _ c.loop-count.invariant c.if-at-text.false c.loop-count-test.true (sym c.accepts.ensures ∙ c.if-not-accepts.false) c.requires.fits in let p = ap (λ (x : ℕ). c.loop-count.value * x) c.value.ensures in omega (arith, p, f)

pub overflow_add-value : goal.overflow_add-value
overflow_add-value c = let f = counting_fits _ _ _ _ _ _ c.loop-count.invariant c.if-at-text.false c.loop-count-test.true (sym c.accepts.ensures ∙ c.if-not-accepts.false) c.requires.fits in let p = ap (λ (x : ℕ). c.loop-count.value * x) c.value.ensures in let q = c.digit_value.ensures in omega (arith, p, q, f)

pub loop-count-preserved : goal.loop-count-preserved
loop-count-preserved c = rw (c.value.ensures, c.digit_value.ensures) (counting_on _ _ _ _ _ _ c.loop-count.invariant c.if-at-text.false c.loop-count-test.true (sym c.accepts.ensures ∙ c.if-not-accepts.false))

pub returns : goal.returns
returns c = counting_full _ _ _ _ _ _ c.loop-count.invariant c.loop-count-test.false
