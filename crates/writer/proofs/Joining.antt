-- An operator by its node's kind.
use Rattle.std.proofs.Common.{◌≡◌, ℕ, zero, suc, ◌<◌, true, eqb, sym, refl, ap, ◌∙◌, subst, arith, eqb-true}
use Rattle.text_language.proofs.Sound.{and_both}
use Rattle.store.specs.View.{listed}
use Rattle.text_language.specs.Program.{Join, plus, minus, times, over, raise}
use Rattle.writer.specs.Expression.{join_kind}
use Rattle.writer.specs.Placing.{JoinsText, JoinsKind}
use Rattle.writer.specs.declared.operators.Joint.{Joint}

join_at : ℕ → Join
join_at zero = plus
join_at (suc zero) = plus
join_at (suc (suc zero)) = plus
join_at (suc (suc (suc zero))) = minus
join_at (suc (suc (suc (suc zero)))) = times
join_at (suc (suc (suc (suc (suc zero))))) = over
join_at (suc (suc (suc (suc (suc (suc k)))))) = raise

join_back : (o : Join) → join_at (join_kind o) ≡ o
unfolding join_at
join_back plus = refl
join_back minus = refl
join_back times = refl
join_back over = refl
join_back raise = refl

-- a kind is that of one operator alone
pub by_kind : (p : Join) (kind : ℕ) (r : Joint) → kind ≡ join_kind p → JoinsText p r → JoinsKind kind r
by_kind p kind r h j = record { told = λ o e. subst (λ (x : Join). JoinsText x r) (sym (join_back p) ∙ ap join_at (sym h ∙ e) ∙ join_back o) j }

pub by_rest : (kind : ℕ) (r : Joint) → (kind ≡ 2 → ⊥) → (kind ≡ 3 → ⊥) → (kind ≡ 4 → ⊥) → (kind ≡ 5 → ⊥) → JoinsText raise r → JoinsKind kind r
by_rest kind r a b c d j = record { told = go }
  where
    go : (o : Join) → kind ≡ join_kind o → JoinsText o r
    go plus e = absurd (a e)
    go minus e = absurd (b e)
    go times e = absurd (c e)
    go over e = absurd (d e)
    go raise e = j

-- two operators of one kind are one
pub kind_one : (o p : Join) → join_kind o ≡ join_kind p → o ≡ p
kind_one o p e = sym (join_back o) ∙ ap join_at e ∙ join_back p

-- an operator's kind is no leaf's and not that of Neg
pub two_up : (o : Join) {k : ℕ} → k ≡ join_kind o → (1 < k) × (k ≡ 8 → ⊥)
two_up plus e = (omega arith, λ z. omega arith)
two_up minus e = (omega arith, λ z. omega arith)
two_up times e = (omega arith, λ z. omega arith)
two_up over e = (omega arith, λ z. omega arith)
two_up raise e = (omega arith, λ z. omega arith)

-- an operator's payload is 0
pub minus_payload : (p n : ℕ) → listed 8 p n ≡ true → p ≡ 0
unfolding listed
minus_payload p n h = eqb-true p 0 (and_both (eqb p 0) _ h).0

pub pair_payload : (o : Join) (p n : ℕ) → listed (join_kind o) p n ≡ true → p ≡ 0
unfolding listed
pair_payload plus p n h = eqb-true p 0 (and_both (eqb p 0) _ h).0
pair_payload minus p n h = eqb-true p 0 (and_both (eqb p 0) _ h).0
pair_payload times p n h = eqb-true p 0 (and_both (eqb p 0) _ h).0
pair_payload over p n h = eqb-true p 0 (and_both (eqb p 0) _ h).0
pair_payload raise p n h = eqb-true p 0 (and_both (eqb p 0) _ h).0
