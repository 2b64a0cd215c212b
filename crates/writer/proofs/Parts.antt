-- When a node has a text, and what its expression is, over its operands' expressions.
use Rattle.std.proofs.Common.{◌≡◌, ℕ, suc, ◌<◌, Bool, true, false, cond, eqb, ◌⊎◌, List, [], ◌∷◌, map, length, get_or, sym, refl, ap, ◌∙◌, subst, inl, inr, arith, eqb-true}
use mathlib.Core.Bool.{false≢true}
use mathlib.Core.Option.{Option, none, some}
use Rattle.definitions.specs.Node.{Node, at, variable_kind, constant_kind, add_kind, sub_kind, mul_kind, div_kind, pow_kind, neg_kind, both_flags}
use Rattle.definitions.specs.Formula.{Tree, forest, formula}
use Rattle.definitions.proofs.Stable.{Lower, opened}
use Rattle.store.specs.View.{nodes_in}
use Rattle.store.specs.Lookup.{Lookup}
use Rattle.store.proofs.Reading as R
use Rattle.store.proofs.Viewing.{plain_length}
use Rattle.text_language.specs.Grammar.{Expr, constant, variable}
use Rattle.text_language.specs.Program.{Join, plus, minus, times, over, raise}
use Rattle.writer.specs.Expression.{join_kind, join_flags}
use Rattle.expression_text.specs.Proper.{is_name, number_bits}
use Rattle.writer.specs.Expression.{leaf_only, unary, pair_of, binary, flagged, symbol_name, over_operands, expression_in, expressions_in, expression_of, is_some, Standing, a_name, a_number, a_minus, a_pair}

no_some : {A : Type 0} → is_some none ≡ true → A
no_some h = absurd (false≢true h)

choose : (b : Bool) (x y : Option Expr) → is_some (cond b x y) ≡ true → ((b ≡ true) × (is_some x ≡ true)) ⊎ (is_some y ≡ true)
choose true x y h = inl (refl, h)
choose false x y h = inr h

flag_is : (f g : ℕ) (x : Option Expr) → is_some (flagged f g x) ≡ true → (f ≡ g) × (is_some x ≡ true)
flag_is f g x h = go (eqb f g) refl h
  where
    go : (b : Bool) → eqb f g ≡ b → is_some (cond b x none) ≡ true → (f ≡ g) × (is_some x ≡ true)
    go true e s = (eqb-true f g e, s)
    go false e s = no_some s

-- all operands have expressions
abbrev pub All : (ℕ → Option Expr) → List ℕ → Type 0
All f [] = Unit {0}
All f (k ∷ ks) = (is_some (f k) ≡ true) × All f ks

module _ (f : ℕ → Option Expr) where
  none_of : (ks : List ℕ) (e : Expr) → is_some (leaf_only (map f ks) e) ≡ true → ks ≡ []
  none_of [] e h = refl
  none_of (k ∷ ks) e h = no_some h

  one_of : (ks : List ℕ) → is_some (unary (map f ks)) ≡ true → (a : ℕ) × ((ks ≡ a ∷ []) × (is_some (f a) ≡ true))
  one_of [] h = no_some h
  one_of (a ∷ []) h = (a, (refl, go (f a) h))
    where
      go : (x : Option Expr) → is_some (unary (x ∷ [])) ≡ true → is_some x ≡ true
      go none s = no_some s
      go (some e) s = refl
  one_of (a ∷ (b ∷ ks)) h = go (f a) (f b) (map f ks) h
    where
      go : {A : Type 0} (x y : Option Expr) (ys : List (Option Expr)) → is_some (unary (x ∷ (y ∷ ys))) ≡ true → A
      go none y ys s = no_some s
      go (some e) y ys s = no_some s

  two_of : (o : Join) (ks : List ℕ) → is_some (binary o (map f ks)) ≡ true → (a : ℕ) × ((b : ℕ) × ((ks ≡ a ∷ (b ∷ [])) × ((is_some (f a) ≡ true) × (is_some (f b) ≡ true))))
  two_of o [] h = no_some h
  two_of o (a ∷ []) h = no_some h
  two_of o (a ∷ (b ∷ [])) h = (a, (b, (refl, go (f a) (f b) h)))
    where
      go : (x y : Option Expr) → is_some (pair_of o x y) ≡ true → (is_some x ≡ true) × (is_some y ≡ true)
      go none y s = no_some s
      go (some d) none s = no_some s
      go (some d) (some e) s = (refl, refl)
  two_of o (a ∷ (b ∷ (c ∷ ks))) h = no_some h

  abbrev pub over_at : List (List ℕ) → Node → Option Expr
  over_at names n = over_operands names n.kind n.payload n.flags (map f n.children)

  pair_standing : (names : List (List ℕ)) (n : Node) (o : Join) → n.kind ≡ join_kind o → (n.flags ≡ join_flags o) × (is_some (binary o (map f n.children)) ≡ true) → Standing names n × All f n.children
  pair_standing names n o k h =
      let t = two_of o n.children h.1 in
      (a_pair o t.0 t.1.0 k h.0 t.1.1.0, subst (All f) (sym t.1.1.0) (t.1.1.1.0, (t.1.1.1.1, tt)))

  -- a node with an expression
  pub standing_of : (names : List (List ℕ)) (n : Node) → is_some (over_at names n) ≡ true → Standing names n × All f n.children
  unfolding over_operands
  standing_of names n h = elim (choose (eqb n.kind variable_kind) _ _ h) [
    | inl y ↦ let g = flag_is n.flags 0 _ y.1 in named (eqb-true _ _ y.0) g.0 (choose (is_name (symbol_name names n.payload)) _ _ g.1)
    | inr y₁ ↦ elim (choose (eqb n.kind constant_kind) _ _ y₁) [
      | inl y ↦ let g = flag_is n.flags 0 _ y.1 in numbered (eqb-true _ _ y.0) g.0 (choose (number_bits n.payload) _ _ g.1)
      | inr y₂ ↦ elim (choose (eqb n.kind neg_kind) _ _ y₂) [
        | inl y ↦ let g = flag_is n.flags 0 _ y.1 in let t = one_of n.children g.1 in (a_minus t.0 (eqb-true _ _ y.0) g.0 t.1.0, subst (All f) (sym t.1.0) (t.1.1, tt))
        | inr y₃ ↦ elim (choose (eqb n.kind add_kind) _ _ y₃) [
          | inl y ↦ pair_standing names n plus (eqb-true _ _ y.0) (flag_is n.flags both_flags _ y.1)
          | inr y₄ ↦ elim (choose (eqb n.kind sub_kind) _ _ y₄) [
            | inl y ↦ pair_standing names n minus (eqb-true _ _ y.0) (flag_is n.flags 0 _ y.1)
            | inr y₅ ↦ elim (choose (eqb n.kind mul_kind) _ _ y₅) [
              | inl y ↦ pair_standing names n times (eqb-true _ _ y.0) (flag_is n.flags both_flags _ y.1)
              | inr y₆ ↦ elim (choose (eqb n.kind div_kind) _ _ y₆) [
                | inl y ↦ pair_standing names n over (eqb-true _ _ y.0) (flag_is n.flags 0 _ y.1)
                | inr y₇ ↦ elim (choose (eqb n.kind pow_kind) _ _ y₇) [
                  | inl y ↦ pair_standing names n raise (eqb-true _ _ y.0) (flag_is n.flags 0 _ y.1)
                  | inr y₈ ↦ no_some y₈
                ]
              ]
            ]
          ]
        ]
      ]
    ]
  ]
    where
      named : n.kind ≡ variable_kind → n.flags ≡ 0 → ((is_name (symbol_name names n.payload) ≡ true) × (is_some (leaf_only (map f n.children) (variable (symbol_name names n.payload))) ≡ true)) ⊎ (is_some none ≡ true)
          → Standing names n × All f n.children
      named k g (inl y) = let e = none_of n.children (variable (symbol_name names n.payload)) y.1 in (a_name k g e y.0, subst (All f) (sym e) tt)
      named k g (inr y) = no_some y

      numbered : n.kind ≡ constant_kind → n.flags ≡ 0 → ((number_bits n.payload ≡ true) × (is_some (leaf_only (map f n.children) (constant n.payload)) ≡ true)) ⊎ (is_some none ≡ true)
          → Standing names n × All f n.children
      numbered k g (inl y) = let e = none_of n.children (constant n.payload) y.1 in (a_number k g e y.0, subst (All f) (sym e) tt)
      numbered k g (inr y) = no_some y

  -- what a standing node makes of its operands
  abbrev pub result : (names : List (List ℕ)) (n : Node) → Standing names n → Option Expr
  result names n (a_name k g c w) = some (variable (symbol_name names n.payload))
  result names n (a_number k g c q) = some (constant n.payload)
  result names n (a_minus a k g c) = unary (f a ∷ [])
  result names n (a_pair o a b k g c) = pair_of o (f a) (f b)

  module _ (names : List (List ℕ)) (n : Node) where
    at_parts : (k g : ℕ) (c : List ℕ) → n.kind ≡ k → n.flags ≡ g → n.children ≡ c → over_at names n ≡ over_operands names k n.payload g (map f c)
    at_parts k g c hk hg hc =
        ap (λ (x : ℕ). over_operands names x n.payload n.flags (map f n.children)) hk
        ∙ ap (λ (x : ℕ). over_operands names k n.payload x (map f n.children)) hg
        ∙ ap (λ (x : List ℕ). over_operands names k n.payload g (map f x)) hc

    pub result_is : (s : Standing names n) → over_at names n ≡ result names n s
    unfolding over_operands
    result_is (a_name k g c w) = at_parts 0 0 [] k g c ∙ ap (λ (b : Bool). cond b (some (variable (symbol_name names n.payload))) none) w
    result_is (a_number k g c q) = at_parts 1 0 [] k g c ∙ ap (λ (b : Bool). cond b (some (constant n.payload)) none) q
    result_is (a_minus a k g c) = at_parts 8 0 (a ∷ []) k g c
    result_is (a_pair plus a b k g c) = at_parts 2 3 (a ∷ (b ∷ [])) k g c
    result_is (a_pair minus a b k g c) = at_parts 3 0 (a ∷ (b ∷ [])) k g c
    result_is (a_pair times a b k g c) = at_parts 4 3 (a ∷ (b ∷ [])) k g c
    result_is (a_pair over a b k g c) = at_parts 5 0 (a ∷ (b ∷ [])) k g c
    result_is (a_pair raise a b k g c) = at_parts 6 0 (a ∷ (b ∷ [])) k g c

    -- with all operands' expressions it has one
    pub some_of : Standing names n → All f n.children → is_some (over_at names n) ≡ true
    some_of s h = ap is_some (result_is s) ∙ go s
      where
        one : (x : Option Expr) → is_some x ≡ true → is_some (unary (x ∷ [])) ≡ true
        one none z = no_some z
        one (some d) z = refl

        two : (o : Join) (x y : Option Expr) → is_some x ≡ true → is_some y ≡ true → is_some (pair_of o x y) ≡ true
        two o none y u v = no_some u
        two o (some d) none u v = no_some v
        two o (some d) (some e) u v = refl

        go : (s : Standing names n) → is_some (result names n s) ≡ true
        go (a_name k g c w) = refl
        go (a_number k g c q) = refl
        go (a_minus a k g c) = one (f a) (subst (All f) c h).0
        go (a_pair o a b k g c) = let z = subst (All f) c h in two o (f a) (f b) z.0 z.1.0

-- ---- in a store

pub lower : (n : ℕ) (ks : List ℕ) → ((j : ℕ) → j < length ks → get_or ks j 0 < n) → Lower n ks
lower n [] h = tt
lower n (k ∷ ks) h = (h 0 (omega arith), lower n ks (λ j z. h (suc j) (omega arith)))

in_forest : (names : List (List ℕ)) (f : ℕ → Tree) (ks : List ℕ) → expressions_in names (forest f ks) ≡ map (λ k. expression_in names (f k)) ks
unfolding expressions_in expression_in
in_forest names f [] = refl
in_forest names f (k ∷ ks) = ap (λ (x : List (Option Expr)). expression_in names (f k) ∷ x) (in_forest names f ks)

module _ (names : List (List ℕ)) (w : List ℕ) (count i : ℕ) (k : Lookup w count i) where
  abbrev ns : List Node
  ns = nodes_in w count

  -- an expression over those of the operands
  pub opened_up : expression_of names ns i ≡ over_at (expression_of names ns) names (at ns i)
  unfolding expression_of expression_in expressions_in
  opened_up =
      ap (expression_in names) (opened ns i (let z = plain_length w count in let y = k.below in omega arith) (lower i (at ns i).children (R.child_low w count i k)))
      ∙ ap (over_operands names (at ns i).kind (at ns i).payload (at ns i).flags) (in_forest names (formula ns) (at ns i).children)
