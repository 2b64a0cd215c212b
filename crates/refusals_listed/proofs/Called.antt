-- A call that meets its contract answers a result, 20, or a refusal that is listed for it.
use Prim.Native.Nat.{ℕ}
use mathlib.Core.Path.{◌≡◌, refl, sym, ap, subst, ◌∙◌}
use mathlib.Core.Bool.{Bool, true, false, ◌||◌}
use mathlib.Core.List.{List, ◌∷◌}
use lib.Dec.{eqb, T}
use native.Mathlib.Omega.{arith}
use Rattle.definitions.specs.Refusals.{not_sound}
use Rattle.definitions.specs.Machine as M
use Rattle.definitions.specs.Names as N
use Rattle.definitions.specs.Controller.{ControllerCall, building, simplifying, pruning, pruning_by_setting, naming, reading, ControllerAnswer, stored, simplified, pruned, numbered, unknown, named, refused, takes}
use Rattle.definitions.specs.Promise.{ControllerModel, ControllerCalled, All}
use Rattle.refusals_listed.specs.Listed.{among, ResultOr, listed_refusals}
use Rattle.refusals_listed.specs.Called.{AnswersOn, CallsAnswerListed}
use Rattle.refusals_listed.proofs.Plain.{answers_listed}

-- 20 is listed for no call: the plain machine is always sound
not_listed : (c : ControllerCall) → T (among not_sound (listed_refusals c)) → ⊥
not_listed (building (M.variable s)) h = h
not_listed (building (M.constant b)) h = h
not_listed (building (M.add a b)) h = h
not_listed (building (M.sub a b)) h = h
not_listed (building (M.mul a b)) h = h
not_listed (building (M.div a b)) h = h
not_listed (building (M.pow a b)) h = h
not_listed (building (M.modulo a b)) h = h
not_listed (building (M.neg a)) h = h
not_listed (building (M.operator o f c)) h = h
not_listed (building (M.function f c)) h = h
not_listed (building (M.select a b c)) h = h
not_listed (building (M.if_else a b c)) h = h
not_listed (building (M.for_loop a b c d)) h = h
not_listed (building (M.control o c)) h = h
not_listed (simplifying mode i depth budget) h = h
not_listed (pruning i t) h = h
not_listed (pruning_by_setting i n) h = h
not_listed (naming (N.intern_name w)) h = h
not_listed (naming (N.lookup_name w)) h = h
not_listed (naming (N.name_of n)) h = h
not_listed (reading text) h = h

-- one of a list is one of a longer list
pub among_more : (number k : ℕ) (ks : List ℕ) → T (among number ks) → T (among number (k ∷ ks))
among_more number k ks t = by (eqb number k)
  where
    by : (b : Bool) → T (b || among number ks)
    by true = tt
    by false = t

-- a test that cannot fail passes
pub not_not : (b : Bool) → ((T b → ⊥) → ⊥) → T b
not_not true h = tt
not_not false h = h (λ t. t)

module _ (M : ControllerModel) (c : ControllerCall) (m m' : M.Memory) where
  refusal_listed : (number : ℕ) → ControllerCalled M c m (refused number) m' → T (among number (not_sound ∷ listed_refusals c))
  refusal_listed number h = not_not (among number (not_sound ∷ listed_refusals c)) (λ out.
      let plain = answers_listed (M.lent m) (M.view m) c in
      let unsound : All (M.Sound m) (takes c) → ⊥ = λ s. out (among_more number not_sound (listed_refusals c) (subst (ResultOr (listed_refusals c)) (sym (h.answer s)) plain)) in
      let e : refused number ≡ refused not_sound = (h.unsound unsound).0 in
      let q : number ≡ not_sound = cc in
      out (subst (λ (n : ℕ). T (among n (not_sound ∷ listed_refusals c))) (sym q) tt))

  result_or : (a : ControllerAnswer) → ControllerCalled M c m a m' → ResultOr (not_sound ∷ listed_refusals c) a
  result_or (stored id) h = tt
  result_or (simplified id spent steps) h = tt
  result_or (pruned id kept dropped) h = tt
  result_or (numbered number) h = tt
  result_or unknown h = tt
  result_or (named name) h = tt
  result_or (refused number) h = refusal_listed number h

pub calls_answer_listed : CallsAnswerListed
calls_answer_listed M c m m' a h = record {
  listed = result_or M c m m' a h;
  unsound = λ u. (h.unsound u).0;
  sound = λ s e. not_listed c (subst (ResultOr (listed_refusals c)) (sym (h.answer s) ∙ e) (answers_listed (M.lent m) (M.view m) c));
}
