-- How the text of an expression stands in front of others: laws for each step of the writer.
use Rattle.std.proofs.Common.{◌≡◌, ℕ, suc, ◌+◌, ◌-◌, ◌<◌, ◌≤◌, max, Bool, true, false, leb, ◌⊎◌, List, ◌∷◌, length, drop, sym, refl, ap, ◌∙◌, inl, inr, arith, length-append, length-drop, le-leb}
use borrow.Author.Tests.{lt-leb}
use Rattle.text_language.specs.Grammar.{Expr, constant, variable, negated, linked, raised, chain, power, factor, under, sign}
use Rattle.expression_text.specs.Numeral.{numeral}
use Rattle.text_language.specs.Reader.{rank}
use Rattle.expression_text.specs.Written.{natural, fits, wrap, bare, deeper, depth_of}
use Rattle.text_language.specs.Program.{Join, plus, minus, times, over, raise}
use Rattle.writer.specs.Expression.{join_exprs}
use Rattle.text_language.specs.Reading.{most_bytes}
use Rattle.writer.specs.Placing.{spare, space, placed, deep, sign_of, own_rank, left_rank, right_rank, nests, Open, PutsBytes, PlacedText}

-- ---- nothing gets shorter

wrap_grows : (b : Bool) (f : List ℕ → List ℕ) → ((r : List ℕ) → length r ≤ length (f r)) → (r : List ℕ) → length r ≤ length (wrap b f r)
wrap_grows true f h r = h r
wrap_grows false f h r = let i = h (41 ∷ r) in omega arith

bare_grows : (e : Expr) (r : List ℕ) → length r ≤ length (bare e r)
unfolding bare
bare_grows (constant b) r = omega (arith, length-append (numeral b) r)
bare_grows (variable w) r = omega (arith, length-append w r)
bare_grows (negated a) r = let i = wrap_grows (fits factor a) (bare a) (bare_grows a) r in omega arith
bare_grows (linked k x a b) r =
    let i = wrap_grows (fits (under k) b) (bare b) (bare_grows b) r in
    let j = wrap_grows (fits (chain k) a) (bare a) (bare_grows a) (sign k x ∷ wrap (fits (under k) b) (bare b) r) in
    omega arith
bare_grows (raised a b) r =
    let i = wrap_grows (fits power b) (bare b) (bare_grows b) r in
    let j = wrap_grows (fits factor a) (bare a) (bare_grows a) (94 ∷ wrap (fits power b) (bare b) r) in
    omega arith

pub placed_grows : (n : ℕ) (e : Expr) (r : List ℕ) → length r ≤ length (placed n e r)
placed_grows n e r = wrap_grows (leb (rank (natural e)) n) (bare e) (bare_grows e) r

-- ---- with brackets and without

module _ (n : ℕ) (e : Expr) where
  pub placed_bare : rank (natural e) ≤ n → (r : List ℕ) → placed n e r ≡ bare e r
  placed_bare h r = ap (λ (b : Bool). wrap b (bare e) r) (le-leb (rank (natural e)) n h)

  pub deep_bare : rank (natural e) ≤ n → deep n e ≡ depth_of e
  deep_bare h = ap (λ (b : Bool). deeper b (depth_of e)) (le-leb (rank (natural e)) n h)

  pub placed_bracket : n < rank (natural e) → (r : List ℕ) → placed n e r ≡ 40 ∷ bare e (41 ∷ r)
  placed_bracket h r = ap (λ (b : Bool). wrap b (bare e) r) (lt-leb (rank (natural e)) n h)

  pub deep_bracket : n < rank (natural e) → deep n e ≡ suc (depth_of e)
  deep_bracket h = ap (λ (b : Bool). deeper b (depth_of e)) (lt-leb (rank (natural e)) n h)

pub rank_high : (e : Expr) → rank (natural e) ≤ 4
rank_high (constant b) = omega arith
rank_high (variable w) = omega arith
rank_high (negated a) = omega arith
rank_high (linked Rattle.text_language.specs.Grammar.sums x a b) = omega arith
rank_high (linked Rattle.text_language.specs.Grammar.products x a b) = omega arith
rank_high (raised a b) = omega arith

-- ---- operators of two operands

pub own_rank_lem : (o : Join) (a b : Expr) → rank (natural (join_exprs o a b)) ≡ own_rank o
own_rank_lem plus a b = refl
own_rank_lem minus a b = refl
own_rank_lem times a b = refl
own_rank_lem over a b = refl
own_rank_lem raise a b = refl

bare_join_exprs : (o : Join) (a b : Expr) (r : List ℕ) → bare (join_exprs o a b) r ≡ placed (left_rank o) a (sign_of o ∷ placed (right_rank o) b r)
unfolding bare
bare_join_exprs plus a b r = refl
bare_join_exprs minus a b r = refl
bare_join_exprs times a b r = refl
bare_join_exprs over a b r = refl
bare_join_exprs raise a b r = refl

depth_join_exprs : (o : Join) (a b : Expr) → depth_of (join_exprs o a b) ≡ max (deep (left_rank o) a) (nests o + deep (right_rank o) b)
unfolding depth_of
depth_join_exprs plus a b = omega arith
depth_join_exprs minus a b = omega arith
depth_join_exprs times a b = omega arith
depth_join_exprs over a b = omega arith
depth_join_exprs raise a b = omega arith

bare_negated : (a : Expr) (r : List ℕ) → bare (negated a) r ≡ 45 ∷ placed 1 a r
unfolding bare
bare_negated a r = refl

depth_negated : (a : Expr) → depth_of (negated a) ≡ suc (deep 1 a)
unfolding depth_of
depth_negated a = refl

-- ---- the steps

rest : (out : List ℕ) (at : ℕ) → length out ≡ space → length (drop at out) ≡ space - at
rest out at h = length-drop at out ∙ ap (λ (n : ℕ). n - at) h

-- written as it should be, if it is not too long
pub exactly : (h : ℕ) (e : Expr) (left : ℕ) (r out : List ℕ) (p : ℕ) → length out ≡ space → p ≤ space → drop p out ≡ placed h e r → deep h e ≤ left
    → PlacedText e h left r out p
exactly h e left r out p l w d f = record {
  long = l;
  stopped = λ s. inl (let z = rest out p l in let y = ap length d in omega arith);
  done = λ s. (d, f);
  within = w;
}

-- stopped
halted : (h : ℕ) (e : Expr) (left : ℕ) (r out : List ℕ) → length out ≡ space → (most_bytes < length (placed h e r)) ⊎ (left < deep h e) → PlacedText e h left r out 0
halted h e left r out l s = record { long = l; stopped = λ z. s; done = λ z. absurd (omega arith); within = omega arith }

module _ (h : ℕ) (e : Expr) (left : ℕ) (out₀ : List ℕ) (first : ℕ) (o : Open out₀ first) where
  abbrev r : List ℕ
  r = drop first out₀

  module _ (b : h < rank (natural e)) where
    pub bracket_none : left ≡ 0 → PlacedText e h left r out₀ 0
    bracket_none z = halted h e left r out₀ o.long (inr (let d = deep_bracket h e b in omega arith))

    pub bracket_full : (out : List ℕ) (p : ℕ) → PutsBytes (41 ∷ r) 1 first p out → p + 1 ≡ first → p < spare → PlacedText e h left r out 0
    bracket_full out p q s z =
        halted h e left r out q.long
        (inl (let y = rest out₀ first o.long in let x = ap length (placed_bracket h e b r) in let w = bare_grows e (41 ∷ r) in let v = o.low in omega arith))

    module _ (out : List ℕ) (p : ℕ) (q : PutsBytes (41 ∷ r) 1 first p out) where
      pub bracket_stop : (out' : List ℕ) (p' : ℕ) → 0 < left → PlacedText e 4 (left - 1) (drop p out) out' p' → p' < spare → PlacedText e h left r out' 0
      bracket_stop out' p' n w s =
          let m = rank_high e in
          halted h e left r out' w.long
          (elim (w.stopped s) [
            | inl y ↦ inl (let x = ap length (placed_bracket h e b r) in let u = ap length (placed_bare 4 e m (drop p out) ∙ ap (bare e) q.is) in omega arith)
            | inr y ↦ inr (let x = deep_bracket h e b in let u = deep_bare 4 e m in omega arith)
          ])

      pub bracket_done : (out' : List ℕ) (p' : ℕ) → 0 < left → PlacedText e 4 (left - 1) (drop p out) out' p' → spare ≤ p'
          → (out'' : List ℕ) (p'' : ℕ) → PutsBytes (40 ∷ drop p' out') 1 p' p'' out'' → PlacedText e h left r out'' p''
      bracket_done out' p' n w s out'' p'' t =
          let m = rank_high e in
          let d = w.done s in
          exactly h e left r out'' p'' t.long (let y = t.high in let x = w.within in omega arith)
          (t.is ∙ ap (λ (x : List ℕ). 40 ∷ x) (d.0 ∙ placed_bare 4 e m (drop p out) ∙ ap (bare e) q.is) ∙ sym (placed_bracket h e b r))
          (let x = deep_bracket h e b in let u = deep_bare 4 e m in let y = d.1 in omega arith)

-- a leaf
pub leaf_done : (h : ℕ) (e : Expr) (left first : ℕ) (r out : List ℕ) (p : ℕ) → rank (natural e) ≤ h → depth_of e ≡ 0 → first ≤ space → PutsBytes (bare e r) spare first p out → PlacedText e h left r out p
leaf_done h e left first r out p m z w q =
    exactly h e left r out p q.long (let y = q.high in omega arith) (q.is ∙ sym (placed_bare h e m r)) (let x = deep_bare h e m in omega arith)

-- a minus
module _ (h : ℕ) (a : Expr) (left : ℕ) (r : List ℕ) (m : 1 ≤ h) where
  minus_placed : placed h (negated a) r ≡ 45 ∷ placed 1 a r
  minus_placed = placed_bare h (negated a) m r ∙ bare_negated a r

  minus_deep : deep h (negated a) ≡ suc (deep 1 a)
  minus_deep = deep_bare h (negated a) m ∙ depth_negated a

  pub minus_none : (out : List ℕ) → length out ≡ space → left ≡ 0 → PlacedText (negated a) h left r out 0
  minus_none out l z = halted h (negated a) left r out l (inr (let d = minus_deep in omega arith))

  pub minus_stop : (out : List ℕ) (p : ℕ) → 0 < left → PlacedText a 1 (left - 1) r out p → p < spare → PlacedText (negated a) h left r out 0
  minus_stop out p n w s =
      halted h (negated a) left r out w.long
      (elim (w.stopped s) [
        | inl y ↦ inl (let x = ap length minus_placed in omega arith)
        | inr y ↦ inr (let x = minus_deep in omega arith)
      ])

  pub minus_done : (out : List ℕ) (p : ℕ) → 0 < left → PlacedText a 1 (left - 1) r out p → spare ≤ p → (out' : List ℕ) (p' : ℕ) → PutsBytes (45 ∷ drop p out) 1 p p' out'
      → PlacedText (negated a) h left r out' p'
  minus_done out p n w s out' p' t =
      let d = w.done s in
      exactly h (negated a) left r out' p' t.long (let y = t.high in let x = w.within in omega arith)
      (t.is ∙ ap (λ (x : List ℕ). 45 ∷ x) d.0 ∙ sym minus_placed) (let x = minus_deep in let y = d.1 in omega arith)

-- what is still to be written stands for the whole
pub record Going (level left : ℕ) (whole : Expr) (r : List ℕ) (high : ℕ) (e : Expr) (s : List ℕ) : Type 0 where
  pub same : placed level whole r ≡ placed high e s
  pub up : deep high e ≤ left → deep level whole ≤ left
  pub down : left < deep high e → left < deep level whole

pub going_self : (level left : ℕ) (e : Expr) (r : List ℕ) → Going level left e r level e r
going_self level left e r = record { same = refl; up = λ h. h; down = λ h. h }

pub finish : (level left : ℕ) (whole : Expr) (r : List ℕ) (high : ℕ) (e : Expr) (s : List ℕ) → Going level left whole r high e s → (out : List ℕ) (p : ℕ) → PlacedText e high left s out p
    → PlacedText whole level left r out p
finish level left whole r high e s g out p w = record {
  long = w.long;
  stopped = λ z. elim (w.stopped z) [ inl y ↦ inl (let x = ap length g.same in omega arith) | inr y ↦ inr (g.down y) ];
  done = λ z. ((w.done z).0 ∙ sym g.same, g.up (w.done z).1);
  within = w.within;
}

-- an operator of two operands
module _ (h : ℕ) (o : Join) (a b : Expr) (left : ℕ) (r : List ℕ) (m : own_rank o ≤ h) where
  abbrev e : Expr
  e = join_exprs o a b

  fit : rank (natural e) ≤ h
  fit = let z = own_rank_lem o a b in omega arith

  pair_placed : placed h e r ≡ placed (left_rank o) a (sign_of o ∷ placed (right_rank o) b r)
  pair_placed = placed_bare h e fit r ∙ bare_join_exprs o a b r

  pair_deep : deep h e ≡ max (deep (left_rank o) a) (nests o + deep (right_rank o) b)
  pair_deep = deep_bare h e fit ∙ depth_join_exprs o a b

  pub pair_none : (out : List ℕ) → length out ≡ space → left < nests o → PlacedText e h left r out 0
  pair_none out l z = halted h e left r out l (inr (let d = pair_deep in omega arith))

  module _ (out : List ℕ) (p : ℕ) (n : nests o ≤ left) (w : PlacedText b (right_rank o) (left - nests o) r out p) where
    pub pair_stop : p < spare → PlacedText e h left r out 0
    pair_stop s =
        halted h e left r out w.long
        (elim (w.stopped s) [
          | inl y ↦ inl (let x = ap length pair_placed in let u = placed_grows (left_rank o) a (sign_of o ∷ placed (right_rank o) b r) in omega arith)
          | inr y ↦ inr (let x = pair_deep in omega arith)
        ])

    module _ (s : spare ≤ p) (out' : List ℕ) (p' : ℕ) (t : PutsBytes (sign_of o ∷ drop p out) 1 p p' out') where
      signed : drop p' out' ≡ sign_of o ∷ placed (right_rank o) b r
      signed = t.is ∙ ap (λ (x : List ℕ). sign_of o ∷ x) (w.done s).0

      pub pair_full : p' < spare → PlacedText e h left r out' 0
      pair_full z =
          halted h e left r out' t.long
          (inl (let x = ap length pair_placed in let u = placed_grows (left_rank o) a (sign_of o ∷ placed (right_rank o) b r) in let v = ap length signed in let y = rest out' p' t.long in omega arith))

      pub pair_on : Going h left e r (left_rank o) a (drop p' out')
      pair_on = record {
        same = pair_placed ∙ ap (placed (left_rank o) a) (sym signed);
        up = λ z. let x = pair_deep in let y = (w.done s).1 in omega arith;
        down = λ z. let x = pair_deep in omega arith;
      }

pub going_on : (level left : ℕ) (whole : Expr) (r : List ℕ) (high : ℕ) (e : Expr) (s : List ℕ) (high' : ℕ) (e' : Expr) (s' : List ℕ)
    → Going level left whole r high e s → Going high left e s high' e' s' → Going level left whole r high' e' s'
going_on level left whole r high e s high' e' s' g f = record {
  same = g.same ∙ f.same;
  up = λ z. g.up (f.up z);
  down = λ z. g.down (f.down z);
}
