-- The steps of the writer over memory.
use Rattle.std.proofs.Common.{◌≡◌, ℕ, ◌<◌, ◌≤◌, true, List, [], ◌∷◌, length, get_or, sym, refl, ap, ◌∙◌, subst, ap₂, arith}
use mathlib.Core.Bool.{false≢true}
use mathlib.Core.Option.{Option, none, some}
use Rattle.definitions.specs.Node.{Node, at}
use Rattle.store.specs.View.{nodes_in}
use Rattle.store.specs.Lookup.{Lookup}
use Rattle.store.proofs.Reading as R
use Rattle.name_entries.specs.Sound as Names
use Rattle.text_language.specs.Grammar.{Expr, constant, variable, negated}
use Rattle.text_language.specs.Reader.{rank}
use Rattle.expression_text.specs.Written.{natural, depth_of}
use Rattle.text_language.specs.Program.{Join, plus, minus, times, over, raise}
use Rattle.writer.specs.Expression.{join_kind}
use Rattle.expression_text.specs.Proper.{is_name}
use Rattle.writer.specs.Expression.{join_exprs, unary, pair_of, symbol_name, expression_of, is_some, or_any, Standing, a_name, a_number, a_minus, a_pair}
use Rattle.writer.specs.Placing.{own_rank, Ranked, Writable, meant}
use Rattle.writer.proofs.Parts.{All, standing_of, result, result_is, opened_up}
use Rattle.writer.proofs.Pieces.{own_rank_lem}

-- the operator of a node of two operands
pub record Pair (w : List ℕ) (count : ℕ) (es : List ℕ) (named i : ℕ) : Type 0 where
  pub join : Join
  pub kind : (at (nodes_in w count) i).kind ≡ join_kind join
  pub two : length (at (nodes_in w count) i).children ≡ 2
  pub first : Writable w count es named (get_or (at (nodes_in w count) i).children 0 0)
  pub second : Writable w count es named (get_or (at (nodes_in w count) i).children 1 0)
  pub first_low : get_or (at (nodes_in w count) i).children 0 0 < i
  pub second_low : get_or (at (nodes_in w count) i).children 1 0 < i
  pub is : meant w count es named i ≡ join_exprs join (meant w count es named (get_or (at (nodes_in w count) i).children 0 0)) (meant w count es named (get_or (at (nodes_in w count) i).children 1 0))

pub record Minus (w : List ℕ) (count : ℕ) (es : List ℕ) (named i : ℕ) : Type 0 where
  pub one : length (at (nodes_in w count) i).children ≡ 1
  pub operand : Writable w count es named (get_or (at (nodes_in w count) i).children 0 0)
  pub low : get_or (at (nodes_in w count) i).children 0 0 < i
  pub is : meant w count es named i ≡ negated (meant w count es named (get_or (at (nodes_in w count) i).children 0 0))

module _ (w : List ℕ) (count : ℕ) (es : List ℕ) (named i : ℕ) (v : Writable w count es named i) where
  abbrev names : List (List ℕ)
  names = Names.names_of es named

  abbrev n : Node
  n = at (nodes_in w count) i

  abbrev f : ℕ → Option Expr
  f = expression_of names (nodes_in w count)

  pub look : Lookup w count i
  look = record { below = v.below; nodes = v.known.nodes }

  both : Standing names n × All f n.children
  both = standing_of f names n (ap is_some (sym (opened_up names w count i look)) ∙ v.has)

  pub stands : Standing names n
  stands = both.0

  is_result : (s : Standing names n) → f i ≡ result f names n s
  is_result s = opened_up names w count i look ∙ result_is f names n s

  operand_of : (j : ℕ) → j < length n.children → is_some (f (get_or n.children j 0)) ≡ true → Writable w count es named (get_or n.children j 0)
  operand_of j l h = record { known = v.known; below = let z = R.child_low w count i look j l in let y = v.below in omega arith; has = h }

  unary_is : (x : Option Expr) → is_some x ≡ true → or_any (unary (x ∷ [])) ≡ negated (or_any x)
  unary_is none h = absurd (false≢true h)
  unary_is (some e) h = refl

  pair_is : (o : Join) (x y : Option Expr) → is_some x ≡ true → is_some y ≡ true → or_any (pair_of o x y) ≡ join_exprs o (or_any x) (or_any y)
  pair_is o none y h k = absurd (false≢true h)
  pair_is o (some d) none h k = absurd (false≢true k)
  pair_is o (some d) (some e) h k = refl

  abbrev the : ℕ → ℕ
  the j = get_or n.children j 0

  minus_made : (a : ℕ) (c : n.children ≡ a ∷ []) → f i ≡ unary (f a ∷ []) → Minus w count es named i
  minus_made a c e =
      let l : length n.children ≡ 1 = ap length c in
      let g : the 0 ≡ a = ap (λ (x : List ℕ). get_or x 0 0) c in
      let h : is_some (f (the 0)) ≡ true = subst (λ (x : ℕ). is_some (f x) ≡ true) (sym g) (subst (All f) c both.1).0 in
      record {
        one = l;
        operand = operand_of 0 (omega arith) h;
        low = R.child_low w count i look 0 (omega arith);
        is = ap or_any (e ∙ ap (λ (x : ℕ). unary (f x ∷ [])) (sym g)) ∙ unary_is (f (the 0)) h;
      }

  pair_made : (o : Join) (a b : ℕ) → n.kind ≡ join_kind o → (c : n.children ≡ a ∷ (b ∷ [])) → f i ≡ pair_of o (f a) (f b) → Pair w count es named i
  pair_made o a b k c e =
      let l : length n.children ≡ 2 = ap length c in
      let g : the 0 ≡ a = ap (λ (x : List ℕ). get_or x 0 0) c in
      let g' : the 1 ≡ b = ap (λ (x : List ℕ). get_or x 1 0) c in
      let al = subst (All f) c both.1 in
      let h : is_some (f (the 0)) ≡ true = subst (λ (x : ℕ). is_some (f x) ≡ true) (sym g) al.0 in
      let h' : is_some (f (the 1)) ≡ true = subst (λ (x : ℕ). is_some (f x) ≡ true) (sym g') al.1.0 in
      record {
        join = o;
        kind = k;
        two = l;
        first = operand_of 0 (omega arith) h;
        second = operand_of 1 (omega arith) h';
        first_low = R.child_low w count i look 0 (omega arith);
        second_low = R.child_low w count i look 1 (omega arith);
        is = ap or_any (e ∙ ap₂ (λ (x y : ℕ). pair_of o (f x) (f y)) (sym g) (sym g')) ∙ pair_is o (f (the 0)) (f (the 1)) h h';
      }

  pub at_minus : n.kind ≡ 8 → Minus w count es named i
  at_minus h = go stands (is_result stands)
    where
      go : (s : Standing names n) → f i ≡ result f names n s → Minus w count es named i
      go (a_name k g c x) e = absurd (omega arith)
      go (a_number k g c q) e = absurd (omega arith)
      go (a_minus a k g c) e = minus_made a c e
      go (a_pair plus a b k g c) e = absurd (omega arith)
      go (a_pair minus a b k g c) e = absurd (omega arith)
      go (a_pair times a b k g c) e = absurd (omega arith)
      go (a_pair over a b k g c) e = absurd (omega arith)
      go (a_pair raise a b k g c) e = absurd (omega arith)

  pub at_pair : 1 < n.kind → (n.kind ≡ 8 → ⊥) → Pair w count es named i
  at_pair l h = go stands (is_result stands)
    where
      go : (s : Standing names n) → f i ≡ result f names n s → Pair w count es named i
      go (a_name k g c x) e = absurd (omega arith)
      go (a_number k g c q) e = absurd (omega arith)
      go (a_minus a k g c) e = absurd (h k)
      go (a_pair o a b k g c) e = pair_made o a b k c e

  -- a variable or a constant
  pub at_name : n.kind ≡ 0 → (meant w count es named i ≡ variable (symbol_name names n.payload)) × (is_name (symbol_name names n.payload) ≡ true)
  at_name h = go stands (is_result stands)
    where
      go : (s : Standing names n) → f i ≡ result f names n s → (meant w count es named i ≡ variable (symbol_name names n.payload)) × (is_name (symbol_name names n.payload) ≡ true)
      go (a_name k g c x) e = (ap or_any e, x)
      go (a_number k g c q) e = absurd (omega arith)
      go (a_minus a k g c) e = absurd (omega arith)
      go (a_pair plus a b k g c) e = absurd (omega arith)
      go (a_pair minus a b k g c) e = absurd (omega arith)
      go (a_pair times a b k g c) e = absurd (omega arith)
      go (a_pair over a b k g c) e = absurd (omega arith)
      go (a_pair raise a b k g c) e = absurd (omega arith)

  pub at_number : n.kind ≡ 1 → meant w count es named i ≡ constant n.payload
  at_number h = go stands (is_result stands)
    where
      go : (s : Standing names n) → f i ≡ result f names n s → meant w count es named i ≡ constant n.payload
      go (a_name k g c x) e = absurd (omega arith)
      go (a_number k g c q) e = ap or_any e
      go (a_minus a k g c) e = absurd (omega arith)
      go (a_pair plus a b k g c) e = absurd (omega arith)
      go (a_pair minus a b k g c) e = absurd (omega arith)
      go (a_pair times a b k g c) e = absurd (omega arith)
      go (a_pair over a b k g c) e = absurd (omega arith)
      go (a_pair raise a b k g c) e = absurd (omega arith)

  pub leaf_is : n.kind ≤ 1 → (rank (natural (meant w count es named i)) ≡ 1) × (depth_of (meant w count es named i) ≡ 0)
  unfolding depth_of
  leaf_is h = go stands (is_result stands)
    where
      go : (s : Standing names n) → f i ≡ result f names n s → (rank (natural (meant w count es named i)) ≡ 1) × (depth_of (meant w count es named i) ≡ 0)
      go (a_name k g c x) e = (ap (λ (x : Option Expr). rank (natural (or_any x))) e, ap (λ (x : Option Expr). depth_of (or_any x)) e)
      go (a_number k g c q) e = (ap (λ (x : Option Expr). rank (natural (or_any x))) e, ap (λ (x : Option Expr). depth_of (or_any x)) e)
      go (a_minus a k g c) e = absurd (omega arith)
      go (a_pair plus a b k g c) e = absurd (omega arith)
      go (a_pair minus a b k g c) e = absurd (omega arith)
      go (a_pair times a b k g c) e = absurd (omega arith)
      go (a_pair over a b k g c) e = absurd (omega arith)
      go (a_pair raise a b k g c) e = absurd (omega arith)

  -- the rank that the code sees
  own : (r : ℕ) → Ranked n.kind r → (o : Join) → n.kind ≡ join_kind o → r ≡ own_rank o
  own r q plus k = q.sums (omega arith) (omega arith)
  own r q minus k = q.sums (omega arith) (omega arith)
  own r q times k = q.products (omega arith) (omega arith)
  own r q over k = q.products (omega arith) (omega arith)
  own r q raise k = q.power k

  pub pair_rank : (r : ℕ) → Ranked n.kind r → (p : Pair w count es named i) → r ≡ own_rank p.join
  pair_rank r q p = own r q p.join p.kind

  pub rank_is : (kind r : ℕ) → kind ≡ n.kind → Ranked kind r → r ≡ rank (natural (meant w count es named i))
  rank_is kind r ek q₀ = go stands (is_result stands)
    where
      q : Ranked n.kind r
      q = subst (λ (k : ℕ). Ranked k r) ek q₀

      go : (s : Standing names n) → f i ≡ result f names n s → r ≡ rank (natural (meant w count es named i))
      go (a_name k g c x) e = q.leaf (omega arith) ∙ sym (leaf_is (omega arith)).0
      go (a_number k g c u) e = q.leaf (omega arith) ∙ sym (leaf_is (omega arith)).0
      go (a_minus a k g c) e = q.minus k ∙ sym (ap (λ (x : Expr). rank (natural x)) (minus_made a c e).is)
      go (a_pair o a b k g c) e =
          let p = pair_made o a b k c e in
          own r q p.join p.kind ∙ sym (own_rank_lem p.join (meant w count es named (the 0)) (meant w count es named (the 1))) ∙ sym (ap (λ (x : Expr). rank (natural x)) p.is)
