-- One write has one answer: each refusal is answered exactly in its case.
use Rattle.std.proofs.Common.{◌≡◌, ℕ, List, length, sym, refl, ap, ◌∙◌, inl, inr, arith}
use mathlib.Core.Option.{some}
use Rattle.expression_text.specs.Written.{text_of}
use Rattle.writer.specs.Writing.{NodeText, WrittenText, TooLong, in_buffer, unsound, unknown, textless, too_long, written, WritesOnce}
use Rattle.writer.specs.Answers.{Length}
use Rattle.writer.proofs.Spelling.{only_one}
use Rattle.writer.proofs.Answering.{proper_of}
use Rattle.text.specs.Memory.{ControllerMemory, controller_of, BothSound}

module _ (m : ControllerMemory) (id : ℕ) (h : BothSound m) where
  -- one node has one expression, and so one text
  one_expression : {t u : List ℕ} (x : NodeText (controller_of m) id t) (y : NodeText (controller_of m) id u) → x.expr ≡ y.expr
  one_expression x y =
      let z : some x.expr ≡ some y.expr
      = sym (only_one m.store.words m.store.slots m.store.arena h.store m.names.bytes m.names.count h.names id x.expr (proper_of x) x.spells)
      ∙ only_one m.store.words m.store.slots m.store.arena h.store m.names.bytes m.names.count h.names id y.expr (proper_of y) y.spells in
      cc

  pub one_text : {t u : List ℕ} → WrittenText (controller_of m) id t → WrittenText (controller_of m) id u → t ≡ u
  one_text x y = x.is ∙ ap text_of (one_expression x.of y.of) ∙ sym y.is

  -- what is too long for one is too long for the other
  same_long : {t u : List ℕ} (buffer : List ℕ) (x : WrittenText (controller_of m) id t) (y : WrittenText (controller_of m) id u) → TooLong x buffer → TooLong y buffer
  same_long buffer x y (inl b) = inl (let z = ap length (one_text x y) in omega arith)
  same_long buffer x y (inr (inl b)) = inr (inl (let z = ap length (one_text x y) in omega arith))
  same_long {t} {u} buffer x y (inr (inr b)) = inr (inr (let z = x.shallowest u y.of in omega arith))

pub once : WritesOnce
once m id buffer r r' b b' (unsound n) (unsound k) = (refl, refl)
once m id buffer r r' b b' (unsound n) (unknown h l) = absurd (n h)
once m id buffer r r' b b' (unsound n) (textless h l k) = absurd (n h)
once m id buffer r r' b b' (unsound n) (too_long h l w k) = absurd (n h)
once m id buffer r r' b b' (unsound n) (written h l w k z) = absurd (n h)
once m id buffer r r' b b' (unknown h l) (unsound n) = absurd (n h)
once m id buffer r r' b b' (unknown h l) (unknown h' l') = (refl, refl)
once m id buffer r r' b b' (unknown h l) (textless h' l' k) = absurd (omega arith)
once m id buffer r r' b b' (unknown h l) (too_long h' l' w k) = absurd (omega arith)
once m id buffer r r' b b' (unknown h l) (written h' l' w k z) = absurd (omega arith)
once m id buffer r r' b b' (textless h l k) (unsound n) = absurd (n h)
once m id buffer r r' b b' (textless h l k) (unknown h' l') = absurd (omega arith)
once m id buffer r r' b b' (textless h l k) (textless h' l' k') = (refl, refl)
once m id buffer r r' b b' (textless h l k) (too_long h' l' w j) = absurd (k _ w.of)
once m id buffer r r' b b' (textless h l k) (written h' l' w j z) = absurd (k _ w.of)
once m id buffer r r' b b' (too_long h l w j) (unsound n) = absurd (n h)
once m id buffer r r' b b' (too_long h l w j) (unknown h' l') = absurd (omega arith)
once m id buffer r r' b b' (too_long h l w j) (textless h' l' k) = absurd (k _ w.of)
once m id buffer r r' b b' (too_long h l w j) (too_long h' l' w' j') = (refl, refl)
once m id buffer r r' b b' (too_long h l w j) (written h' l' w' j' z) = absurd (j' (same_long m id h buffer w w' j))
once m id buffer r r' b b' (written h l w j z) (unsound n) = absurd (n h)
once m id buffer r r' b b' (written h l w j z) (unknown h' l') = absurd (omega arith)
once m id buffer r r' b b' (written h l w j z) (textless h' l' k) = absurd (k _ w.of)
once m id buffer r r' b b' (written h l w j z) (too_long h' l' w' j') = absurd (j (same_long m id h buffer w' w j'))
once m id buffer r r' b b' (written h l w j z) (written h' l' w' j' z') =
    let e = one_text m id h w w' in (ap (λ (x : List ℕ). Length (length x)) e, ap (λ (x : List ℕ). in_buffer x buffer) e)
