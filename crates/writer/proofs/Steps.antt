-- The needs of `put`, each a law over plain variables.
use Rattle.std.proofs.Common.{◌≡◌, ℕ, ◌+◌, ◌-◌, ◌<◌, ◌≤◌, List, ◌∷◌, length, get_or, drop, sym, ◌∙◌, subst, arith}
use Rattle.definitions.specs.Node.{at}
use Rattle.store.specs.View.{nodes_in}
use Rattle.store.specs.Lookup.{Lookup}
use Rattle.text_language.specs.Grammar.{Expr, negated}
use Rattle.text_language.specs.Reader.{rank}
use Rattle.expression_text.specs.Written.{natural, bare}
use Rattle.text_language.specs.Program.{Join}
use Rattle.writer.specs.Expression.{join_exprs}
use Rattle.writer.specs.Placing.{spare, space, sign_of, own_rank, left_rank, right_rank, nests, Open, PutsBytes, Ranked, JoinsText, JoinsKind, Writable, PlacedText, meant}
use Rattle.writer.specs.declared.operators.Joint.{Joint}
use Rattle.writer.proofs.Walking.{Pair, Minus, look, at_minus, at_pair, leaf_is, pair_rank, rank_is}
use Rattle.writer.proofs.Pieces.{Going, going_self, going_on, finish, bracket_none, bracket_full, bracket_stop, bracket_done, leaf_done, minus_none, minus_stop, minus_done, pair_none, pair_stop, pair_full, pair_on}

-- where the loop stands
pub record At (w : List ℕ) (count : ℕ) (es : List ℕ) (named id level left : ℕ) (out₀ : List ℕ) (from : ℕ) (out : List ℕ) (node high first : ℕ) : Type 0 where
  pub below : node ≤ id
  pub here : Writable w count es named node
  pub free : Open out first
  pub going : Going level left (meant w count es named id) (drop from out₀) high (meant w count es named node) (drop first out)

pub at_start : (w : List ℕ) (count : ℕ) (es : List ℕ) (named id level left : ℕ) (out : List ℕ) (from : ℕ) → Writable w count es named id → Open out from
    → At w count es named id level left out from out id level from
at_start w count es named id level left out from v o = record { below = omega arith; here = v; free = o; going = going_self level left (meant w count es named id) (drop from out) }

pub pushed : (bytes : List ℕ) (most at r : ℕ) (out : List ℕ) → PutsBytes bytes most at r out → at ≤ space → spare ≤ r → Open out r
pushed bytes most at r out p h l = record { long = p.long; low = l; high = let z = p.high in omega arith }

pub written_free : (e : Expr) (level left : ℕ) (r out : List ℕ) (p : ℕ) → PlacedText e level left r out p → spare ≤ p → Open out p
written_free e level left r out p w l = record { long = w.long; low = l; high = w.within }

module _ {w : List ℕ} {count : ℕ} {es : List ℕ} {named id level left : ℕ} {out₀ : List ℕ} {from : ℕ} {out : List ℕ} {node high first : ℕ}
    (v : At w count es named id level left out₀ from out node high first) where
  abbrev e : Expr
  e = meant w count es named node

  abbrev r : List ℕ
  r = drop first out

  abbrev Ends : List ℕ → ℕ → Type 0
  Ends out' p = PlacedText (meant w count es named id) level left (drop from out₀) out' p

  ends : (out' : List ℕ) (p : ℕ) → PlacedText e high left r out' p → Ends out' p
  ends out' p x = finish level left (meant w count es named id) (drop from out₀) high e r v.going out' p x

  pub at_look : Lookup w count node
  at_look = look w count es named node v.here

  module _ {kind own : ℕ} (ek : kind ≡ (at (nodes_in w count) node).kind) (q : Ranked kind own) where
    higher : high < own → high < rank (natural e)
    higher h = let z = rank_is w count es named node v.here kind own ek q in omega arith

    fit : own ≤ high → rank (natural e) ≤ high
    fit h = let z = rank_is w count es named node v.here kind own ek q in omega arith

    pub end_1 : high < own → left ≡ 0 → Ends out 0
    end_1 h z = ends out 0 (bracket_none high e left out first v.free (higher h) z)

    pub end_2 : high < own → {p : ℕ} {out' : List ℕ} → PutsBytes (41 ∷ r) 1 first p out' × (p + 1 ≡ first) → p < spare → Ends out' 0
    end_2 h {p} {out'} t s = ends out' 0 (bracket_full high e left out first v.free (higher h) out' p t.0 t.1 s)

    pub end_3 : high < own → {p : ℕ} {out' : List ℕ} → PutsBytes (41 ∷ r) 1 first p out' × (p + 1 ≡ first) → 0 < left
        → {p₂ : ℕ} {out₂ : List ℕ} → PlacedText e 4 (left - 1) (drop p out') out₂ p₂ → p₂ < spare → Ends out₂ 0
    end_3 h {p} {out'} t n {p₂} {out₂} x s = ends out₂ 0 (bracket_stop high e left out first v.free (higher h) out' p t.0 out₂ p₂ n x s)

    pub end_4 : high < own → {p : ℕ} {out' : List ℕ} → PutsBytes (41 ∷ r) 1 first p out' × (p + 1 ≡ first) → 0 < left
        → {p₂ : ℕ} {out₂ : List ℕ} → PlacedText e 4 (left - 1) (drop p out') out₂ p₂ → spare ≤ p₂
        → {p₃ : ℕ} {out₃ : List ℕ} → PutsBytes (40 ∷ drop p₂ out₂) 1 p₂ p₃ out₃ × (p₃ + 1 ≡ p₂) → Ends out₃ p₃
    end_4 h {p} {out'} t n {p₂} {out₂} x s {p₃} {out₃} y =
        ends out₃ p₃ (bracket_done high e left out first v.free (higher h) out' p t.0 out₂ p₂ n x s out₃ p₃ y.0)

    pub end_5 : own ≤ high → kind ≤ 1 → {p : ℕ} {out' : List ℕ} → PutsBytes (bare e r) spare first p out' → Ends out' p
    end_5 h k {p} {out'} t =
        ends out' p (leaf_done high e left first r out' p (fit h) (leaf_is w count es named node v.here (omega arith)).1 v.free.high t)

    -- a minus
    module _ (h : own ≤ high) (k : kind ≡ 8) where
      m : Minus w count es named node
      m = at_minus w count es named node v.here (omega arith)

      abbrev a : ℕ
      a = get_or (at (nodes_in w count) node).children 0 0

      abbrev ea : Expr
      ea = meant w count es named a

      low : 1 ≤ high
      low = let z = q.minus k in omega arith

      minus_ends : (out' : List ℕ) (p : ℕ) → PlacedText (negated ea) high left r out' p → Ends out' p
      minus_ends out' p x = ends out' p (subst (λ (y : Expr). PlacedText y high left r out' p) (sym m.is) x)

      pub minus_one : 0 < length (at (nodes_in w count) node).children
      minus_one = let z = m.one in omega arith

      pub minus_here : {x : ℕ} → x ≡ a → Writable w count es named x × (x < id)
      minus_here {x} g = (subst (λ (y : ℕ). Writable w count es named y) (sym g) m.operand, let z = m.low in let y = v.below in omega arith)

      pub end_6 : left ≡ 0 → Ends out 0
      end_6 z = minus_ends out 0 (minus_none high ea left r low out v.free.long z)

      pub end_7 : {x : ℕ} → x ≡ a → 0 < left → {p : ℕ} {out' : List ℕ} → PlacedText (meant w count es named x) 1 (left - 1) r out' p → p < spare → Ends out' 0
      end_7 {x} g n {p} {out'} t s =
          minus_ends out' 0 (minus_stop high ea left r low out' p n (subst (λ (y : ℕ). PlacedText (meant w count es named y) 1 (left - 1) r out' p) g t) s)

      pub end_8 : {x : ℕ} → x ≡ a → 0 < left → {p : ℕ} {out' : List ℕ} → PlacedText (meant w count es named x) 1 (left - 1) r out' p → spare ≤ p
          → {p₂ : ℕ} {out₂ : List ℕ} → PutsBytes (45 ∷ drop p out') 1 p p₂ out₂ × (p₂ + 1 ≡ p) → Ends out₂ p₂
      end_8 {x} g n {p} {out'} t s {p₂} {out₂} y =
          minus_ends out₂ p₂ (minus_done high ea left r low out' p n (subst (λ (y : ℕ). PlacedText (meant w count es named y) 1 (left - 1) r out' p) g t) s out₂ p₂ y.0)

    -- an operator of two operands
    module _ (h : own ≤ high) (k : 1 < kind) (k' : kind ≡ 8 → ⊥) where
      pub both : Pair w count es named node
      both = at_pair w count es named node v.here (omega arith) (λ z. k' (ek ∙ z))

      abbrev o : Join
      o = both.join

      abbrev c₀ : ℕ
      c₀ = get_or (at (nodes_in w count) node).children 0 0

      abbrev c₁ : ℕ
      c₁ = get_or (at (nodes_in w count) node).children 1 0

      wide : own_rank o ≤ high
      wide = let z = pair_rank w count es named node v.here own (subst (λ (x : ℕ). Ranked x own) ek q) both in omega arith

      pair_ends : (out' : List ℕ) (p : ℕ) → PlacedText (join_exprs o (meant w count es named c₀) (meant w count es named c₁)) high left r out' p → Ends out' p
      pair_ends out' p x = ends out' p (subst (λ (y : Expr). PlacedText y high left r out' p) (sym both.is) x)

      module _ {j : Joint} (jk : JoinsKind kind j) where
        joins : JoinsText o j
        joins = jk.told o (ek ∙ both.kind)

        pub end_9 : left < j.nesting → Ends out 0
        end_9 z = pair_ends out 0 (pair_none high o (meant w count es named c₀) (meant w count es named c₁) left r wide out v.free.long (let y = joins.nesting in omega arith))

        pub second_one : 1 < length (at (nodes_in w count) node).children
        second_one = let z = both.two in omega arith

        pub first_one : 0 < length (at (nodes_in w count) node).children
        first_one = let z = both.two in omega arith

        pub second_here : {x : ℕ} → x ≡ c₁ → Writable w count es named x × (x < id)
        second_here {x} g = (subst (λ (y : ℕ). Writable w count es named y) (sym g) both.second, let z = both.second_low in let y = v.below in omega arith)

        module _ (n : j.nesting ≤ left) {x : ℕ} (g : x ≡ c₁) {p : ℕ} {out' : List ℕ} (t : PlacedText (meant w count es named x) j.right (left - j.nesting) r out' p) where
          t' : PlacedText (meant w count es named c₁) (right_rank o) (left - nests o) r out' p
          t' =
              subst (λ (y : ℕ). PlacedText (meant w count es named c₁) (right_rank o) (left - y) r out' p) joins.nesting
              (subst (λ (y : ℕ). PlacedText (meant w count es named c₁) y (left - j.nesting) r out' p) joins.right
              (subst (λ (y : ℕ). PlacedText (meant w count es named y) j.right (left - j.nesting) r out' p) g t))

          n' : nests o ≤ left
          n' = let y = joins.nesting in omega arith

          pub end_10 : p < spare → Ends out' 0
          end_10 s = pair_ends out' 0 (pair_stop high o (meant w count es named c₀) (meant w count es named c₁) left r wide out' p n' t' s)

          module _ (s : spare ≤ p) {p₂ : ℕ} {out₂ : List ℕ} (y : PutsBytes (j.sign ∷ drop p out') 1 p p₂ out₂ × (p₂ + 1 ≡ p)) where
            y' : PutsBytes (sign_of o ∷ drop p out') 1 p p₂ out₂
            y' = subst (λ (b : ℕ). PutsBytes (b ∷ drop p out') 1 p p₂ out₂) joins.sign y.0

            pub end_11 : p₂ < spare → Ends out₂ 0
            end_11 z = pair_ends out₂ 0 (pair_full high o (meant w count es named c₀) (meant w count es named c₁) left r wide out' p n' t' s out₂ p₂ y' z)

            pub node_falls : {x' : ℕ} → x' ≡ c₀ → x' < node
            node_falls {x'} g' = let z = both.first_low in omega arith

            pub on : spare ≤ p₂ → {x' : ℕ} → x' ≡ c₀ → At w count es named id level left out₀ from out₂ x' j.left p₂
            on z {x'} g' =
                subst (λ (i : ℕ). At w count es named id level left out₀ from out₂ i j.left p₂) (sym g')
                (subst (λ (l : ℕ). At w count es named id level left out₀ from out₂ c₀ l p₂) (sym joins.left)
                (record {
                  below = let a = both.first_low in let b = v.below in omega arith;
                  here = both.first;
                  free = record { long = y.0.long; low = z; high = let a = y.0.high in let b = t.within in omega arith };
                  going = going_on level left (meant w count es named id) (drop from out₀) high e r (left_rank o) (meant w count es named c₀) (drop p₂ out₂) v.going
                      (subst (λ (d : Expr). Going high left d r (left_rank o) (meant w count es named c₀) (drop p₂ out₂)) (sym both.is)
                      (pair_on high o (meant w count es named c₀) (meant w count es named c₁) left r wide out' p n' t' s out₂ p₂ y'));
                }))
