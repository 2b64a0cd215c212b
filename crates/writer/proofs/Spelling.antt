-- A node's expression is the one that denotes its formula under the names as they are: `Spells` and `expression_of` say the same of proper expressions.
use Rattle.std.proofs.Common.{◌≡◌, ℕ, zero, suc, ◌<◌, Bool, true, cond, List, [], ◌∷◌, length, get_or, sym, refl, ap, ◌∙◌, subst, ap₂, arith}
use mathlib.Core.Option.{Option, none, some}
use Rattle.text_language.specs.Grammar.{Expr, constant, variable}
use Rattle.text_language.specs.Program as Program
use Rattle.text_language.specs.Program.{Join}
use Rattle.definitions.specs.Node as N
use Rattle.definitions.specs.Formula.{Tree, tree, forest, nil, cons, formula}
use Rattle.definitions.specs.Promise.{nth, Spells, number, name, minus, sum, difference, product, quotient, power}
use Rattle.writer.specs.Expression.{join_kind, join_flags}
use Rattle.definitions.proofs.Stable.{opened}
use Rattle.arena.specs.declared.DagArena.{DagArena}
use Rattle.store.specs.Sound.{Sound}
use Rattle.store.specs.View.{nodes_in, listed}
use Rattle.store.proofs.Viewing.{plain_length}
use Rattle.store.proofs.Reading as R
use Rattle.name_entries.specs.Sound as NameList
use Rattle.names.proofs.Listing.{names_length}
use Rattle.expression_text.specs.Proper.{is_name, Proper}
use Rattle.writer.specs.Expression.{join_exprs, unary, pair_of, symbol_name, over_operands, expression_in, expressions_in, expression_of, is_some, or_any, Standing, a_name, a_number, a_minus, a_pair}
use Rattle.writer.specs.Placing.{KnownText, Writable, expression_at, meant}
use Rattle.writer.proofs.Parts.{lower}
use Rattle.writer.proofs.Walking.{stands, at_minus, at_pair, at_name, at_number}
use Rattle.writer.proofs.Joining.{kind_one, two_up, minus_payload, pair_payload}
use Rattle.writer.proofs.Leaves.{name_known}

-- ---- an expression that denotes a formula is the formula's

pub nth_is : (names : List (List ℕ)) (n : ℕ) (w : List ℕ) → nth names n ≡ some w → symbol_name names n ≡ w
nth_is [] n w e = let z : ◌≡◌ {A = ℕ} 0 1 = cc in absurd (omega arith)
nth_is (x ∷ names) zero w e = cc
nth_is (x ∷ names) (suc n) w e = nth_is names n w e

nth_at : (names : List (List ℕ)) (n : ℕ) → n < length names → nth names n ≡ some (symbol_name names n)
nth_at [] n h = absurd (omega arith)
nth_at (x ∷ names) zero h = refl
nth_at (x ∷ names) (suc n) h = nth_at names n (omega arith)

module _ (names : List (List ℕ)) where
  pub complete : {e : Expr} {t : Tree} → Spells names e t → Proper e → expression_in names t ≡ some e
  unfolding expression_in expressions_in over_operands
  complete (number {b}) h = ap (λ (x : Bool). cond x (some (constant b)) none) h
  complete (name {w} {n} e) h =
      ap (λ (v : List ℕ). cond (is_name v) (some (variable v)) none) (nth_is names n w e) ∙ ap (λ (b : Bool). cond b (some (variable w)) none) h
  complete (minus p) h = ap (λ (o : Option Expr). unary (o ∷ [])) (complete p h)
  complete (sum p q) h = ap₂ (pair_of Program.plus) (complete p h.0) (complete q h.1)
  complete (difference p q) h = ap₂ (pair_of Program.minus) (complete p h.0) (complete q h.1)
  complete (product p q) h = ap₂ (pair_of Program.times) (complete p h.0) (complete q h.1)
  complete (quotient p q) h = ap₂ (pair_of Program.over) (complete p h.0) (complete q h.1)
  complete (power p q) h = ap₂ (pair_of Program.raise) (complete p h.0) (complete q h.1)

-- ---- a node's expression denotes its formula, and is proper

-- two operands' formulas and what joins them
joined_spells : {names : List (List ℕ)} (o : Join) {a b : Expr} {t u : Tree} → Spells names a t → Spells names b u
    → Spells names (join_exprs o a b) (tree (join_kind o) 0 (join_flags o) (cons t (cons u nil)))
joined_spells Program.plus p q = sum p q
joined_spells Program.minus p q = difference p q
joined_spells Program.times p q = product p q
joined_spells Program.over p q = quotient p q
joined_spells Program.raise p q = power p q

joined_proper : (o : Join) (a b : Expr) → Proper a → Proper b → Proper (join_exprs o a b)
joined_proper Program.plus a b p q = (p, q)
joined_proper Program.minus a b p q = (p, q)
joined_proper Program.times a b p q = (p, q)
joined_proper Program.over a b p q = (p, q)
joined_proper Program.raise a b p q = (p, q)

pub record Spelled (names : List (List ℕ)) (e : Expr) (t : Tree) : Type 0 where
  pub spells : Spells names e t
  pub proper : Proper e

spelled_as : {names : List (List ℕ)} {e e' : Expr} {t t' : Tree} → e' ≡ e → t' ≡ t → Spelled names e t → Spelled names e' t'
spelled_as {names} {e} {e'} {t} {t'} p q s = subst (λ x. Spelled names x t') (sym p) (subst (Spelled names e) (sym q) s)

module _ (w slots : List ℕ) (a : DagArena) (s : Sound w slots a) (es : List ℕ) (named : ℕ) (t : NameList.SoundNames es named) where
  abbrev count : ℕ
  count = a.count

  abbrev ns : List N.Node
  ns = nodes_in w count

  abbrev names : List (List ℕ)
  names = NameList.names_of es named

  known : KnownText w count es named
  known = record { nodes = s.nodes; names = t }

  -- a node's formula by its parts
  shape_at : (i : ℕ) → i < count → (k p f : ℕ) (c : List ℕ) → (N.at ns i).kind ≡ k → (N.at ns i).payload ≡ p → (N.at ns i).flags ≡ f → (N.at ns i).children ≡ c
      → formula ns i ≡ tree k p f (forest (formula ns) c)
  shape_at i h k p f c ek ep ef ec =
      opened ns i (omega (arith, plain_length w count)) (lower i (N.at ns i).children (R.child_low w count i (record { below = h; nodes = s.nodes })))
      ∙ ap₂ (λ (x y : ℕ). tree x y (N.at ns i).flags (forest (formula ns) (N.at ns i).children)) ek ep
      ∙ ap₂ (λ (x : ℕ) (y : List ℕ). tree k p x (forest (formula ns) y)) ef ec

  -- by rising id
  spelled_at : (n i : ℕ) → i < n → i < count → is_some (expression_at w count es named i) ≡ true → Spelled names (meant w count es named i) (formula ns i)
  spelled_at zero i z h v = absurd (omega arith)
  spelled_at (suc n) i z h v = go (λ j x y u. spelled_at n j x y u) (stands w count es named i here)
    where
      here : Writable w count es named i
      here = record { known = known; below = h; has = v }

      listing : (k : ℕ) → (N.at ns i).kind ≡ k → listed k (N.at ns i).payload (length (N.at ns i).children) ≡ true
      listing k e = subst (λ (y : ℕ). listed y (N.at ns i).payload (length (N.at ns i).children) ≡ true) e (R.listed_at w slots a s i h)

      go : ((j : ℕ) → j < n → j < count → is_some (expression_at w count es named j) ≡ true → Spelled names (meant w count es named j) (formula ns j)) → Standing names (N.at ns i) → Spelled names (meant w count es named i) (formula ns i)
      go rec (a_name k g c x) =
          let l = name_known es named t (N.at ns i).payload x in
          spelled_as (at_name w count es named i here k).0 (shape_at i h 0 (N.at ns i).payload 0 [] k refl g c)
          (record { spells = name (nth_at names (N.at ns i).payload (omega (arith, names_length es named))); proper = x })
      go rec (a_number k g c x) =
          spelled_as (at_number w count es named i here k) (shape_at i h 1 (N.at ns i).payload 0 [] k refl g c) (record { spells = number; proper = x })
      go rec (a_minus x k g c) =
          let m = at_minus w count es named i here k in
          let q : get_or (N.at ns i).children 0 0 ≡ x = ap (λ (y : List ℕ). get_or y 0 0) c in
          let lo = m.low in
          let o = rec (get_or (N.at ns i).children 0 0) (omega arith) m.operand.below m.operand.has in
          spelled_as m.is
          (shape_at i h 8 0 0 (get_or (N.at ns i).children 0 0 ∷ []) k (minus_payload _ _ (listing 8 k)) g (c ∙ ap (λ (y : ℕ). y ∷ []) (sym q)))
          (record { spells = minus o.spells; proper = o.proper })
      go rec (a_pair o x y k g c) =
          let m = at_pair w count es named i here (two_up o k).0 (two_up o k).1 in
          let q : get_or (N.at ns i).children 0 0 ≡ x = ap (λ (u : List ℕ). get_or u 0 0) c in
          let q' : get_or (N.at ns i).children 1 0 ≡ y = ap (λ (u : List ℕ). get_or u 1 0) c in
          let lo = m.first_low in
          let lo' = m.second_low in
          let first = rec (get_or (N.at ns i).children 0 0) (omega arith) m.first.below m.first.has in
          let second = rec (get_or (N.at ns i).children 1 0) (omega arith) m.second.below m.second.has in
          spelled_as m.is
          (shape_at i h (join_kind m.join) 0 (join_flags m.join) (get_or (N.at ns i).children 0 0 ∷ (get_or (N.at ns i).children 1 0 ∷ [])) m.kind
          (pair_payload m.join _ _ (listing (join_kind m.join) m.kind)) (g ∙ ap join_flags (kind_one o m.join (sym k ∙ m.kind))) (c ∙ ap₂ (λ (u v : ℕ). u ∷ (v ∷ [])) (sym q) (sym q')))
          (record { spells = joined_spells m.join first.spells second.spells; proper = joined_proper m.join _ _ first.proper second.proper })

  pub spelled : (i : ℕ) → i < count → (e : Expr) → expression_at w count es named i ≡ some e → Spelled names e (formula ns i)
  spelled i h e q = spelled_as (sym (ap or_any q)) refl (spelled_at (suc i) i (omega arith) h (ap is_some q))

  -- and no other proper expression denotes it
  pub only_one : (i : ℕ) (e : Expr) → Proper e → Spells names e (formula ns i) → expression_at w count es named i ≡ some e
  unfolding expression_of
  only_one i e p q = complete names q p
