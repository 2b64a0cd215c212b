-- The steps of the four readers, as laws of the reader of the language, with the program that each emits.
use Prim.Native.Nat.{ℕ, zero, suc, ◌+◌, ◌-◌, ◌*◌, ◌≤◌, ◌<◌, max}
use mathlib.Core.Path.{◌≡◌, refl, sym, ap, ◌∙◌, subst}
use mathlib.Core.Bool.{Bool, true, false}
use mathlib.Core.Option.{some}
use mathlib.Core.List.{List}
use lib.ListN.{length, drop, set, length-drop, length-set}
use lib.Dec.{eqb}
use native.Mathlib.Omega.{arith}
use native.Mathlib.Numerals.{add-one}
use borrow.Author.Tests.{eq-eqb, ne_eqb}
use Rattle.text_language.specs.Grammar.{Expr, negated, linked, raised, Chain, sums, Level, chain, power, factor, under, Reads}
use Rattle.text_language.specs.Reader.{lead, skip, past, Got, got, bad, after, atom_of, which, level, onward, read, rank, is_some}
use Rattle.text_language.specs.Places.{AtSpot, Behind, TooDeep}
use Rattle.text_language.specs.Program.{join, join_of, token_at}
use Rattle.text_language.proofs.Sound.{split, fork, OkA, atom_of_lem, Ok as Sounds, sound}
use Rattle.text_language.proofs.Complete.{shorter, atom_length, rank_under, step_none, positive}
use Rattle.text_language.proofs.Signs.{none_of, some_of, sign_nonzero}
use Rattle.std.specs.Prelude.{Result, Ok, Err}
use Rattle.refusal.specs.declared.Refusal.{Refusal}
use Rattle.refusal.specs.declared.Refusal.TheVariants.{OutsideLanguage, NestedTooDeep}
use Rattle.text_program.specs.declared.readers.Parsed.{Parsed}
use Rattle.text_program.specs.declared.readers.ChainKind.{ChainKind}
use Rattle.text_program.specs.declared.readers.ChainKind.TheVariants.{Sums, Products}
use Rattle.text_language.specs.Reading.{most_bytes}
use Rattle.text_program.specs.Readers.{ReaderStarts, AppendsWords, Emitted, outside, deep, AgreesWith, Agrees}
use Rattle.text_program.specs.Words.{raise_word, negate_word, join_word}
use Rattle.text_program.proofs.Emitting.{join_token, appends_negated, appends_linked, appends_power, appends_around, appends_atom}

-- a level was read up to i, and its program has m words
abbrev pub ended : ℕ → ℕ → Result Parsed Refusal
ended i m = Ok (record { next = i; size = m })

-- ---- answers

deep_after : (p q : ℕ) (g : Got) (f : Expr → ℕ → List ℕ → Got) → TooDeep p g → ((e : Expr) (d : ℕ) (u : List ℕ) → p < d → TooDeep q (f e d u)) → TooDeep q (after g f)
unfolding after
deep_after p q bad f h k = tt
deep_after p q (got e d u) f h k = k e d u h

deep_any : (q : ℕ) (g : Got) (f : Expr → ℕ → List ℕ → Got) → ((e : Expr) (d : ℕ) (u : List ℕ) → TooDeep q (f e d u)) → TooDeep q (after g f)
unfolding after
deep_any q bad f k = tt
deep_any q (got e d u) f k = k e d u

-- an answer that stops a reader stops its caller
push : (s : List ℕ) (p q at₁ at : ℕ) (P₁ : List ℕ) (n₁ : ℕ) (P : List ℕ) (n : ℕ) (Q : List ℕ) (g : Got) (f : Expr → ℕ → List ℕ → Got) (r : Refusal) → AgreesWith s p at₁ P₁ n₁ g Q (Err r)
    → ((e : Expr) (d : ℕ) (u : List ℕ) → p < d → TooDeep q (f e d u)) → AgreesWith s q at P n (after g f) Q (Err r)
unfolding after
push s p q at₁ at P₁ n₁ P n Q g f r (outside a) k = outside (ap (λ (x : Got). after x f) a)
push s p q at₁ at P₁ n₁ P n Q g f r (deep a) k = deep (deep_after p q g f a k)

-- an answer stands for every equal reading
same : (s : List ℕ) (q at : ℕ) (P : List ℕ) (n : ℕ) (Q : List ℕ) (r : Result Parsed Refusal) {g h : Got} → g ≡ h → AgreesWith s q at P n h Q r → AgreesWith s q at P n g Q r
same s q at P n Q r e a = subst (λ (x : Got). AgreesWith s q at P n x Q r) (sym e) a

-- ---- a reading moves on, and its program grows no faster

reads_of : {l : Level} {s : List ℕ} {e : Expr} {d : ℕ} {r : List ℕ} (n : ℕ) → read n (level l) s ≡ got e d r → Reads l s e d r
reads_of {l} {s} {e} {d} {r} n h = out (subst (Sounds (level l) s) h (sound n (level l) s))
  where
    out : Sounds (level l) s (got e d r) → Reads l s e d r
    out (Sounds.ok w) = w

pub record Moved (s : List ℕ) (at n i m : ℕ) : Type 0 where
  pub later : at < i
  pub within : i ≤ length s
  pub room : m + at ≤ n + i

pub moved : (s : List ℕ) (at left : ℕ) (l : Level) (P : List ℕ) (n : ℕ) (Q : List ℕ) (i m : ℕ) → Agrees s at left l P n Q (ended i m) → Moved s at n i m
moved s at left l P n Q i m h =
    let f = 4 * (length s - at) + rank l in
    let b = h.agrees f (omega arith) in
    let w = shorter (reads_of f b.is) in
    let x = length-drop at s in
    let y = length-drop i s in
    let hi = b.high in
    record { later = omega arith; within = b.high; room = b.appends.room }

-- ---- deeper and deeper

onward_deep : (q n : ℕ) (k : Chain) (a : Expr) (d : ℕ) (s : List ℕ) → q < d → TooDeep q (read n (onward k a d) s)
unfolding read
onward_deep q zero k a d s h = tt
onward_deep q (suc n) k a d s h =
    fork (TooDeep q) (which k (lead s)) (got a d s) (λ x. after (read n (level (under k)) (past s)) (λ b f r. read n (onward k (linked k x a b) (max d f)) r)) (λ z. h)
    (λ x z. deep_any q (read n (level (under k)) (past s)) (λ b f r. read n (onward k (linked k x a b) (max d f)) r)
    (λ b f r. onward_deep q n k (linked k x a b) (max d f) r (omega arith)))

-- ---- what the reader of the language does, one step

module _ (n : ℕ) (s : List ℕ) where
  chain_is : (k : Chain) → read (suc n) (level (chain k)) s ≡ after (read n (level (under k)) s) (λ a d r. read n (onward k a d) r)
  unfolding read
  chain_is k = refl

  link_is : (k : Chain) (a : Expr) (d : ℕ) (x : Bool) → which k (lead s) ≡ some x
      → read (suc n) (onward k a d) s ≡ after (read n (level (under k)) (past s)) (λ b f r. read n (onward k (linked k x a b) (max d f)) r)
  unfolding read
  link_is k a d x h = rw (read, h)

  abbrev tail : Expr → ℕ → List ℕ → Got
  tail a d r = elim (eqb (lead r) 94) [ true ↦ after (read n (level power) (past r)) (λ b f u. got (raised a b) (max d (suc f)) u) | false ↦ got a d r ]

  power_is : read (suc n) (level power) s ≡ after (read n (level factor) s) tail
  unfolding read
  power_is = refl

  tail_deep : (q : ℕ) (a : Expr) (d : ℕ) (r : List ℕ) → q < d → TooDeep q (tail a d r)
  tail_deep q a d r h =
      split (TooDeep q) (eqb (lead r) 94) (after (read n (level power) (past r)) (λ b f u. got (raised a b) (max d (suc f)) u)) (got a d r)
      (λ z. deep_any q (read n (level power) (past r)) (λ b f u. got (raised a b) (max d (suc f)) u) (λ b f u. omega arith)) (λ z. h)

  minus_is : eqb (lead s) 45 ≡ true → read (suc n) (level factor) s ≡ after (read n (level factor) (past s)) (λ a d r. got (negated a) (suc d) r)
  unfolding read
  minus_is h = rw (read, h)

  abbrev close : Expr → ℕ → List ℕ → Got
  close e d r = elim (eqb (lead r) 41) [ true ↦ got e (suc d) (past r) | false ↦ bad ]

  bracket_is : eqb (lead s) 45 ≡ false → eqb (lead s) 40 ≡ true → read (suc n) (level factor) s ≡ after (read n (level (chain sums)) (past s)) close
  unfolding read
  bracket_is h z = rw (read, h, z)

  atom_is : eqb (lead s) 45 ≡ false → eqb (lead s) 40 ≡ false → read (suc n) (level factor) s ≡ atom_of (skip s)
  unfolding read
  atom_is h z = rw (read, h, z)

after_got : (f : Expr → ℕ → List ℕ → Got) (g : Got) {e : Expr} {d : ℕ} {r : List ℕ} → g ≡ got e d r → after g f ≡ f e d r
unfolding after
after_got f g h = ap (λ (x : Got). after x f) h

pub not_zero : (c k : ℕ) → c ≡ k → 0 < k → c ≡ 0 → ⊥
not_zero c k e h z = omega arith

-- ---- powers

module _ (s : List ℕ) (at left : ℕ) (P : List ℕ) (n : ℕ) (ready : ReaderStarts s at P n) where
  pub power_stuck : (Q : List ℕ) (r : Refusal) → Agrees s at left factor P n Q (Err r) → Agrees s at left power P n Q (Err r)
  power_stuck Q r h = record {
    agrees = λ fuel q.
        let (m, e) = positive fuel (omega arith) in
        same s left at P n Q (Err r) (ap (λ (x : ℕ). read x (level power) (drop at s)) e ∙ power_is m (drop at s))
        (push s left left at at P n P n Q (read m (level factor) (drop at s)) (tail m (drop at s)) r (h.agrees m (omega arith)) (λ a d u l. tail_deep m (drop at s) left a d u l));
  }

  module _ (Q : List ℕ) (i n₁ : ℕ) (h : Agrees s at left factor P n Q (ended i n₁)) (j c : ℕ) (p : AtSpot s i j c) where
    pub power_base : (c ≡ 94 → ⊥) → Agrees s at left power P n Q (ended i n₁)
    power_base z = record {
      agrees = λ fuel q.
          let (m, e) = positive fuel (omega arith) in
          let b = h.agrees m (omega arith) in
          let w : eqb (lead (drop i s)) 94 ≡ false = ap (λ (x : ℕ). eqb x 94) p.leads ∙ ne_eqb c 94 z in
          record {
            expr = b.expr;
            depth = b.depth;
            is = ap (λ (x : ℕ). read x (level power) (drop at s)) e ∙ power_is m (drop at s) ∙ after_got (tail m (drop at s)) (read m (level factor) (drop at s)) b.is
                ∙ ap (λ (x : Bool). elim x as (λ y. Got) [ true ↦ after (read m (level power) (past (drop i s))) (λ v f u. got (raised b.expr v) (max b.depth (suc f)) u) | false ↦ got b.expr b.depth (drop i s) ]) w;
            shallow = b.shallow;
            high = b.high;
            appends = b.appends;
          };
    }

    module _ (z : c ≡ 94) where
      nonzero : c ≡ 0 → ⊥
      nonzero = not_zero c 94 z (omega arith)

      -- the power after a ^ starts inside, with room
      pub power_ready : length Q ≡ length P → ReaderStarts s (j + 1) Q n₁
      power_ready long =
          let v = moved s at left factor P n Q i n₁ h in
          let l = p.low in
          let x = p.inside nonzero in
          let a = v.room in
          let b = v.later in
          let r = ready.room in
          record { inside = omega (arith, x); short = ready.short; small = let q = ready.small in omega (arith, q, long); room = omega (arith, l, x, a, b, r, long) }

      -- the power after a ^
      raise_is : (m : ℕ) → (b : Emitted s left at P n (read m (level factor) (drop at s)) i Q n₁)
          → read (suc m) (level power) (drop at s) ≡ after (read m (level power) (drop (j + 1) s)) (λ v f u. got (raised b.expr v) (max b.depth (suc f)) u)
      raise_is m b =
          let w : eqb (lead (drop i s)) 94 ≡ true = ap (λ (x : ℕ). eqb x 94) p.leads ∙ eq-eqb c 94 z in
          let y : past (drop i s) ≡ drop (j + 1) s = p.pasts nonzero ∙ ap (λ (x : ℕ). drop x s) (sym (add-one j)) in
          power_is m (drop at s) ∙ after_got (tail m (drop at s)) (read m (level factor) (drop at s)) b.is
          ∙ ap (λ (x : Bool). elim x as (λ y. Got) [ true ↦ after (read m (level power) (past (drop i s))) (λ v f u. got (raised b.expr v) (max b.depth (suc f)) u) | false ↦ got b.expr b.depth (drop i s) ]) w
          ∙ ap (λ (x : List ℕ). after (read m (level power) x) (λ v f u. got (raised b.expr v) (max b.depth (suc f)) u)) y

      pub power_full : left ≡ 0 → Agrees s at left power P n Q (Err NestedTooDeep)
      power_full o = record {
        agrees = λ fuel q.
            let (m, e) = positive fuel (omega arith) in
            let b = h.agrees m (omega arith) in
            same s left at P n Q (Err NestedTooDeep) (ap (λ (x : ℕ). read x (level power) (drop at s)) e ∙ raise_is m b)
            (deep (deep_any left (read m (level power) (drop (j + 1) s)) (λ v f u. got (raised b.expr v) (max b.depth (suc f)) u) (λ v f u. omega arith)));
      }

      module _ (o : 0 < left) where
        pub power_on_stuck : (R : List ℕ) (r : Refusal) → Agrees s (j + 1) (left - 1) power Q n₁ R (Err r) → Agrees s at left power P n R (Err r)
        power_on_stuck R r k = record {
          agrees = λ fuel q.
              let (m, e) = positive fuel (omega arith) in
              let b = h.agrees m (omega arith) in
              let v = moved s at left factor P n Q i n₁ h in
              let l = v.later in
              let y = p.low in
              let x = p.inside nonzero in
              same s left at P n R (Err r) (ap (λ (x : ℕ). read x (level power) (drop at s)) e ∙ raise_is m b)
              (push s (left - 1) left (j + 1) at Q n₁ P n R (read m (level power) (drop (j + 1) s)) (λ v f u. got (raised b.expr v) (max b.depth (suc f)) u) r (k.agrees m (omega arith)) (λ v f u l. omega arith));
        }

        pub power_raise : (R : List ℕ) (t n₂ : ℕ) → Agrees s (j + 1) (left - 1) power Q n₁ R (ended t n₂) → n₂ < length R → Agrees s at left power P n (set R n₂ raise_word) (ended t (n₂ + 1))
        power_raise R t n₂ k room = record {
          agrees = λ fuel q.
              let (m, e) = positive fuel (omega arith) in
              let b = h.agrees m (omega arith) in
              let v = moved s at left factor P n Q i n₁ h in
              let l = v.later in
              let y = p.low in
              let x = p.inside nonzero in
              let sh = b.shallow in
              let g = k.agrees m (omega arith) in
              let gs = g.shallow in
              record {
                expr = raised b.expr g.expr;
                depth = max b.depth (suc g.depth);
                is = ap (λ (x : ℕ). read x (level power) (drop at s)) e ∙ raise_is m b ∙ after_got (λ v f u. got (raised b.expr v) (max b.depth (suc f)) u) (read m (level power) (drop (j + 1) s)) g.is;
                shallow = omega arith;
                high = g.high;
                appends = appends_power s P n at b.expr g.expr i j t Q n₁ R n₂ b.appends g.appends y room;
              };
        }

-- ---- factors

module _ (s : List ℕ) (at left : ℕ) (P : List ℕ) (n : ℕ) (ready : ReaderStarts s at P n) (j c : ℕ) (p : AtSpot s at j c) where
  is_sign : (k : ℕ) → c ≡ k → eqb (lead (drop at s)) k ≡ true
  is_sign k z = ap (λ (x : ℕ). eqb x k) p.leads ∙ eq-eqb c k z

  no_sign : (k : ℕ) → (c ≡ k → ⊥) → eqb (lead (drop at s)) k ≡ false
  no_sign k z = ap (λ (x : ℕ). eqb x k) p.leads ∙ ne_eqb c k z

  rest_is : (c ≡ 0 → ⊥) → past (drop at s) ≡ drop (j + 1) s
  rest_is z = p.pasts z ∙ ap (λ (x : ℕ). drop x s) (sym (add-one j))

  -- one byte on
  pub ready_on : (c ≡ 0 → ⊥) → ReaderStarts s (j + 1) P n
  ready_on z = let l = p.low in let i = p.inside z in let r = ready.room in record { inside = omega arith; short = ready.short; small = ready.small; room = omega arith }

  minus_at : (m : ℕ) → c ≡ 45 → read (suc m) (level factor) (drop at s) ≡ after (read m (level factor) (drop (j + 1) s)) (λ a d r. got (negated a) (suc d) r)
  minus_at m z = minus_is m (drop at s) (is_sign 45 z) ∙ ap (λ (x : List ℕ). after (read m (level factor) x) (λ a d r. got (negated a) (suc d) r)) (rest_is (not_zero c 45 z (omega arith)))

  bracket_at : (m : ℕ) → (c ≡ 45 → ⊥) → c ≡ 40 → read (suc m) (level factor) (drop at s) ≡ after (read m (level (chain sums)) (drop (j + 1) s)) (close m (drop at s))
  bracket_at m y z = bracket_is m (drop at s) (no_sign 45 y) (is_sign 40 z) ∙ ap (λ (x : List ℕ). after (read m (level (chain sums)) x) (close m (drop at s))) (rest_is (not_zero c 40 z (omega arith)))

  pub minus_full : (Q : List ℕ) → c ≡ 45 → left ≡ 0 → Agrees s at left factor P n Q (Err NestedTooDeep)
  minus_full Q z o = record {
    agrees = λ fuel q.
        let (m, e) = positive fuel (omega arith) in
        same s left at P n Q (Err NestedTooDeep) (ap (λ (x : ℕ). read x (level factor) (drop at s)) e ∙ minus_at m z)
        (deep (deep_any left (read m (level factor) (drop (j + 1) s)) (λ a d r. got (negated a) (suc d) r) (λ v f u. omega arith)));
  }

  pub minus_stuck : (Q : List ℕ) (r : Refusal) → c ≡ 45 → 0 < left → Agrees s (j + 1) (left - 1) factor P n Q (Err r) → Agrees s at left factor P n Q (Err r)
  minus_stuck Q r z o k = record {
    agrees = λ fuel q.
        let (m, e) = positive fuel (omega arith) in
        let y = p.low in
        let x = p.inside (not_zero c 45 z (omega arith)) in
        same s left at P n Q (Err r) (ap (λ (x : ℕ). read x (level factor) (drop at s)) e ∙ minus_at m z)
        (push s (left - 1) left (j + 1) at P n P n Q (read m (level factor) (drop (j + 1) s)) (λ a d r. got (negated a) (suc d) r) r (k.agrees m (omega arith)) (λ v f u l. omega arith));
  }

  pub minus_on : (Q : List ℕ) (i n₁ : ℕ) → c ≡ 45 → 0 < left → Agrees s (j + 1) (left - 1) factor P n Q (ended i n₁) → n₁ < length Q → Agrees s at left factor P n (set Q n₁ negate_word) (ended i (n₁ + 1))
  minus_on Q i n₁ z o k room = record {
    agrees = λ fuel q.
        let (m, e) = positive fuel (omega arith) in
        let y = p.low in
        let x = p.inside (not_zero c 45 z (omega arith)) in
        let g = k.agrees m (omega arith) in
        let gs = g.shallow in
        record {
          expr = negated g.expr;
          depth = suc g.depth;
          is = ap (λ (x : ℕ). read x (level factor) (drop at s)) e ∙ minus_at m z ∙ after_got (λ a d r. got (negated a) (suc d) r) (read m (level factor) (drop (j + 1) s)) g.is;
          shallow = omega arith;
          high = g.high;
          appends = appends_negated s P n at g.expr j i Q n₁ g.appends y room;
        };
  }

  close_deep : (m q : ℕ) (e : Expr) (d : ℕ) (r : List ℕ) → q < suc d → TooDeep q (close m (drop at s) e d r)
  close_deep m q e d r h = split (TooDeep q) (eqb (lead r) 41) (got e (suc d) (past r)) bad (λ z. h) (λ z. tt)

  pub bracket_full : (Q : List ℕ) → (c ≡ 45 → ⊥) → c ≡ 40 → left ≡ 0 → Agrees s at left factor P n Q (Err NestedTooDeep)
  bracket_full Q y z o = record {
    agrees = λ fuel q.
        let (m, e) = positive fuel (omega arith) in
        same s left at P n Q (Err NestedTooDeep) (ap (λ (x : ℕ). read x (level factor) (drop at s)) e ∙ bracket_at m y z)
        (deep (deep_any left (read m (level (chain sums)) (drop (j + 1) s)) (close m (drop at s)) (λ v f u. close_deep m left v f u (omega arith))));
  }

  module _ (y : c ≡ 45 → ⊥) (z : c ≡ 40) (o : 0 < left) where
    pub bracket_stuck : (Q : List ℕ) (r : Refusal) → Agrees s (j + 1) (left - 1) (chain sums) P n Q (Err r) → Agrees s at left factor P n Q (Err r)
    bracket_stuck Q r k = record {
      agrees = λ fuel q.
          let (m, e) = positive fuel (omega arith) in
          let lo = p.low in
          let x = p.inside (not_zero c 40 z (omega arith)) in
          same s left at P n Q (Err r) (ap (λ (x : ℕ). read x (level factor) (drop at s)) e ∙ bracket_at m y z)
          (push s (left - 1) left (j + 1) at P n P n Q (read m (level (chain sums)) (drop (j + 1) s)) (close m (drop at s)) r (k.agrees m (omega arith)) (λ v f u l. close_deep m left v f u (omega arith)));
    }

    module _ (Q : List ℕ) (i n₁ h b : ℕ) (k : Agrees s (j + 1) (left - 1) (chain sums) P n Q (ended i n₁)) (a : AtSpot s i h b) where
      -- the byte after the sum
      closing : (m : ℕ) (x : Bool) → (g : Emitted s (left - 1) (j + 1) P n (read m (level (chain sums)) (drop (j + 1) s)) i Q n₁) → eqb b 41 ≡ x
          → read (suc m) (level factor) (drop at s) ≡ elim x [ true ↦ got g.expr (suc g.depth) (past (drop i s)) | false ↦ bad ]
      closing m x g f =
          bracket_at m y z ∙ after_got (close m (drop at s)) (read m (level (chain sums)) (drop (j + 1) s)) g.is
          ∙ ap (λ (x : Bool). elim x as (λ y. Got) [ true ↦ got g.expr (suc g.depth) (past (drop i s)) | false ↦ bad ]) (ap (λ (x : ℕ). eqb x 41) a.leads ∙ f)

      pub bracket_on : b ≡ 41 → Agrees s at left factor P n Q (ended (h + 1) n₁)
      bracket_on f = record {
        agrees = λ fuel q.
            let (m, e) = positive fuel (omega arith) in
            let lo = p.low in
            let x = p.inside (not_zero c 40 z (omega arith)) in
            let g = k.agrees m (omega arith) in
            let bz = not_zero b 41 f (omega arith) in
            let w : past (drop i s) ≡ drop (h + 1) s = a.pasts bz ∙ ap (λ (x : ℕ). drop x s) (sym (add-one h)) in
            let hi = a.inside bz in
            let al = a.low in
            let sh = g.shallow in
            record {
              expr = g.expr;
              depth = suc g.depth;
              is = ap (λ (x : ℕ). read x (level factor) (drop at s)) e ∙ closing m true g (eq-eqb b 41 f) ∙ ap (got g.expr (suc g.depth)) w;
              shallow = omega arith;
              high = omega arith;
              appends = appends_around s P n at g.expr j i (h + 1) Q n₁ g.appends lo (omega arith);
            };
      }

      pub bracket_open : (b ≡ 41 → ⊥) → Agrees s at left factor P n Q (Err OutsideLanguage)
      bracket_open f = record {
        agrees = λ fuel q.
            let (m, e) = positive fuel (omega arith) in
            let lo = p.low in
            let x = p.inside (not_zero c 40 z (omega arith)) in
            let g = k.agrees m (omega arith) in
            outside (ap (λ (x : ℕ). read x (level factor) (drop at s)) e ∙ closing m false g (ne_eqb b 41 f));
      }

  module _ (y : c ≡ 45 → ⊥) (z : c ≡ 40 → ⊥) where
    atom_at : (m : ℕ) → read (suc m) (level factor) (drop at s) ≡ atom_of (drop j s)
    atom_at m = atom_is m (drop at s) (no_sign 45 y) (no_sign 40 z) ∙ ap atom_of p.skips

    pub atom_none : (Q : List ℕ) → atom_of (drop j s) ≡ bad → Agrees s at left factor P n Q (Err OutsideLanguage)
    atom_none Q a = record {
      agrees = λ fuel q.
          let (m, o) = positive fuel (omega arith) in
          outside (ap (λ (x : ℕ). read x (level factor) (drop at s)) o ∙ atom_at m ∙ a);
    }

    module _ (i : ℕ) (behind : Behind s 0 (atom_of (drop j s)) i) where
      pub atom_place : (j < length s) × (j < 65536)
      atom_place =
          let b = behind in
          let m = grown b.expr b.depth (drop i s) (subst (OkA (drop j s)) b.is (atom_of_lem (drop j s))) in
          let q = length-drop j s in
          let h = ready.short in
          (omega (arith, m, q), omega (arith, m, q, h))
        where
          grown : (e : Expr) (d : ℕ) (r : List ℕ) → OkA (drop j s) (got e d r) → length r < length (drop j s)
          grown e d r (OkA.ok w) = atom_length w

      pub atom_on : n < length P → Agrees s at left factor P n (set P n j) (ended i (n + 1))
      atom_on room = record {
        agrees = λ fuel q.
            let (m, o) = positive fuel (omega arith) in
            let b = behind in
            let sh = b.shallow in
            record {
              expr = b.expr;
              depth = b.depth;
              is = ap (λ (x : ℕ). read x (level factor) (drop at s)) o ∙ atom_at m ∙ b.is;
              shallow = omega arith;
              high = b.high;
              appends = appends_atom s P n at b.expr b.depth j i b.is ready.short p.low b.high room;
            };
      }

-- ---- chains

pub record Come (s : List ℕ) (at left : ℕ) (k : Chain) (P : List ℕ) (n : ℕ) (i : ℕ) (Q : List ℕ) (m : ℕ) (f : ℕ) : Type 0 where
  pub expr : Expr
  pub depth : ℕ
  pub fuel : ℕ
  pub comes : read f (level (chain k)) (drop at s) ≡ read fuel (onward k expr depth) (drop i s)
  pub shallow : depth ≤ left
  pub more : f + at ≤ fuel + i
  pub appends : AppendsWords s P n expr at i Q m

-- the chain is read up to i
pub record Walking (s : List ℕ) (at left : ℕ) (k : Chain) (P : List ℕ) (n : ℕ) (i : ℕ) (Q : List ℕ) (m : ℕ) : Type 0 where
  pub come : (f : ℕ) → 4 * (length s - at) + rank (chain k) ≤ f → Come s at left k P n i Q m f
  pub low : at < i
  pub high : i ≤ length s
  pub room : m + at ≤ n + i
  pub long : length Q ≡ length P

module _ (s : List ℕ) (at left : ℕ) (k : Chain) (P : List ℕ) (n : ℕ) (ready : ReaderStarts s at P n) where
  pub chain_stuck : (Q : List ℕ) (r : Refusal) → Agrees s at left (under k) P n Q (Err r) → Agrees s at left (chain k) P n Q (Err r)
  chain_stuck Q r h = record {
    agrees = λ fuel q.
        let u = rank_under k in
        let (m, e) = positive fuel (omega arith) in
        same s left at P n Q (Err r) (ap (λ (x : ℕ). read x (level (chain k)) (drop at s)) e ∙ chain_is m (drop at s) k)
        (push s left left at at P n P n Q (read m (level (under k)) (drop at s)) (λ a d r. read m (onward k a d) r) r (h.agrees m (omega arith)) (λ a d u l. onward_deep left m k a d u l));
  }

  pub chain_start : (Q : List ℕ) (i n₁ : ℕ) → Agrees s at left (under k) P n Q (ended i n₁) → length Q ≡ length P → Walking s at left k P n i Q n₁
  chain_start Q i n₁ h long =
      let u = rank_under k in
      let v = moved s at left (under k) P n Q i n₁ h in
      let l = v.later in
      record {
        come = λ fuel q.
            let (m, e) = positive fuel (omega arith) in
            let b = h.agrees m (omega arith) in
            record {
              expr = b.expr;
              depth = b.depth;
              fuel = m;
              comes = ap (λ (x : ℕ). read x (level (chain k)) (drop at s)) e ∙ chain_is m (drop at s) k ∙ after_got (λ a d r. read m (onward k a d) r) (read m (level (under k)) (drop at s)) b.is;
              shallow = b.shallow;
              more = omega arith;
              appends = b.appends;
            };
        low = l;
        high = v.within;
        room = v.room;
        long = long;
      }

  module _ (Q : List ℕ) (i n₁ j b : ℕ) (t : Bool) (w : Walking s at left k P n i Q n₁) (p : AtSpot s i j b) (tested : t ≡ is_some (which k b)) where
    pub loop_end : t ≡ false → Agrees s at left (chain k) P n Q (ended i n₁)
    loop_end none_left = record {
      agrees = λ fuel q.
          let u = rank_under k in
          let c = w.come fuel q in
          let hi = w.high in
          let lo = w.low in
          let mo = c.more in
          let (m, e) = positive c.fuel (omega arith) in
          record {
            expr = c.expr;
            depth = c.depth;
            is = c.comes ∙ ap (λ (x : ℕ). read x (onward k c.expr c.depth) (drop i s)) e ∙ step_none m (drop i s) k c.expr c.depth (ap (which k) p.leads ∙ none_of (which k b) t tested none_left);
            shallow = c.shallow;
            high = w.high;
            appends = c.appends;
          };
    }

    module _ (yes : t ≡ true) where
      abbrev x : Bool
      x = (some_of (which k b) t tested yes).0

      z : which k b ≡ some x
      z = (some_of (which k b) t tested yes).1

      nz : b ≡ 0 → ⊥
      nz = sign_nonzero k b x z

      pub loop_ready : ReaderStarts s (j + 1) Q n₁
      loop_ready =
          let lo = w.low in
          let pl = p.low in
          let pi = p.inside nz in
          let r = ready.room in
          let m = w.room in
          let g = w.long in
          record { inside = omega (arith, pi); short = ready.short; small = let q = ready.small in omega (arith, q, g); room = omega (arith, pi, pl, r, m, g) }

      pub loop_inside : (j < length s) × (at < j + 1)
      loop_inside = let lo = w.low in let pl = p.low in let pi = p.inside nz in (pi, omega arith)

      -- one more operand
      link_at : (f m : ℕ) (c : Come s at left k P n i Q n₁ f) → c.fuel ≡ suc m
          → read f (level (chain k)) (drop at s) ≡ after (read m (level (under k)) (drop (j + 1) s)) (λ v f r. read m (onward k (linked k x c.expr v) (max c.depth f)) r)
      link_at f m c e =
          c.comes ∙ ap (λ (y : ℕ). read y (onward k c.expr c.depth) (drop i s)) e
          ∙ link_is m (drop i s) k c.expr c.depth x (ap (which k) p.leads ∙ z)
          ∙ ap (λ (t : List ℕ). after (read m (level (under k)) t) (λ v f r. read m (onward k (linked k x c.expr v) (max c.depth f)) r)) (p.pasts nz ∙ ap (λ (y : ℕ). drop y s) (sym (add-one j)))

      pub loop_stuck : (R : List ℕ) (r : Refusal) → Agrees s (j + 1) left (under k) Q n₁ R (Err r) → Agrees s at left (chain k) P n R (Err r)
      loop_stuck R r h = record {
        agrees = λ fuel q.
            let u = rank_under k in
            let c = w.come fuel q in
            let hi = w.high in
            let lo = w.low in
            let pl = p.low in
            let pi = p.inside nz in
            let mo = c.more in
            let (m, e) = positive c.fuel (omega arith) in
            same s left at P n R (Err r) (link_at fuel m c e)
            (push s left left (j + 1) at Q n₁ P n R (read m (level (under k)) (drop (j + 1) s)) (λ v f r. read m (onward k (linked k x c.expr v) (max c.depth f)) r) r (h.agrees m (omega arith))
            (λ a d t l. onward_deep left m k (linked k x c.expr a) (max c.depth d) t (omega arith)));
      }

      module _ (R : List ℕ) (i₂ n₂ : ℕ) (h : Agrees s (j + 1) left (under k) Q n₁ R (ended i₂ n₂)) (long : length R ≡ length Q) where
        -- there is a place for the sign's word
        pub loop_room : (n₂ < length R) × (n₂ < most_bytes)
        loop_room =
            let v = moved s (j + 1) left (under k) Q n₁ R i₂ n₂ h in
            let a = v.room in
            let c = v.within in
            let d = loop_ready.room in
            let pi = p.inside nz in
            let lo = w.low in
            let pl = p.low in
            let r = ready.room in
            let m = w.room in
            let g = w.long in
            let q = ready.small in
            (omega (arith, a, c, pi, lo, pl, r, m, g, long), omega (arith, a, c, pi, lo, pl, r, m, g, q))

        pub loop_later : i < i₂
        loop_later = let v = moved s (j + 1) left (under k) Q n₁ R i₂ n₂ h in let a = v.later in let pl = p.low in omega (arith, a, pl)

        pub loop_within : i₂ ≤ length s
        loop_within = (moved s (j + 1) left (under k) Q n₁ R i₂ n₂ h).within

        pub loop_on : (word : ℕ) → word ≡ join_word b → Walking s at left k P n i₂ (set R n₂ word) (n₂ + 1)
        loop_on word same_word =
            let u = rank_under k in
            let v = moved s (j + 1) left (under k) Q n₁ R i₂ n₂ h in
            let l = v.later in
            let lo = w.low in
            let pl = p.low in
            let a = v.room in
            let wr = w.room in
            record {
              come = λ fuel q.
                  let c = w.come fuel q in
                  let hi = w.high in
                  let pi = p.inside nz in
                  let mo = c.more in
                  let (m, e) = positive c.fuel (omega arith) in
                  let b = h.agrees m (omega arith) in
                  let sc = c.shallow in
                  let sb = b.shallow in
                  record {
                    expr = linked k x c.expr b.expr;
                    depth = max c.depth b.depth;
                    fuel = m;
                    comes = link_at fuel m c e ∙ after_got (λ v f r. read m (onward k (linked k x c.expr v) (max c.depth f)) r) (read m (level (under k)) (drop (j + 1) s)) b.is;
                    shallow = omega arith;
                    more = omega arith;
                    appends = appends_linked s P n at c.expr b.expr i j i₂ Q n₁ R n₂ c.appends b.appends pl loop_room.0 k x word word_token;
                  };
              low = omega arith;
              high = v.within;
              room = omega (arith, a, wr, pl);
              long = length-set R n₂ word ∙ long ∙ w.long;
            }
          where
            word_token : token_at s word ≡ join (join_of k x)
            word_token = ap (token_at s) same_word ∙ join_token s k b x z

-- ---- places for words

-- after an operand that starts one byte on
pub room_on : (s : List ℕ) (at : ℕ) (P : List ℕ) (n : ℕ) → ReaderStarts s at P n → (j c : ℕ) → AtSpot s at j c → (c ≡ 0 → ⊥) → (left : ℕ) (l : Level) (Q : List ℕ) (i n₁ : ℕ) → Agrees s (j + 1) left l P n Q (ended i n₁) → length Q ≡ length P → (n₁ < length Q) × (n₁ < most_bytes)
room_on s at P n ready j c p z left l Q i n₁ k long =
    let v = moved s (j + 1) left l P n Q i n₁ k in
    let a = v.room in
    let b = v.within in
    let d = v.later in
    let lo = p.low in
    let x = p.inside z in
    let r = ready.room in
    let q = ready.small in
    (omega (arith, a, b, d, lo, x, r, long), omega (arith, a, b, d, lo, x, r, q))

-- after a factor, a ^ and a power
pub room_raised : (s : List ℕ) (at left : ℕ) (P : List ℕ) (n : ℕ) → ReaderStarts s at P n → (Q : List ℕ) (i n₁ : ℕ) → Agrees s at left factor P n Q (ended i n₁) → (j c : ℕ) → AtSpot s i j c → c ≡ 94
    → (R : List ℕ) (t n₂ : ℕ) → Agrees s (j + 1) (left - 1) power Q n₁ R (ended t n₂) → length Q ≡ length P → length R ≡ length Q → (n₂ < length R) × (n₂ < most_bytes)
room_raised s at left P n ready Q i n₁ h j c p z R t n₂ k long wide =
    let u = moved s at left factor P n Q i n₁ h in
    let v = moved s (j + 1) (left - 1) power Q n₁ R t n₂ k in
    let a = u.room in
    let b = u.later in
    let d = v.room in
    let e = v.within in
    let f = v.later in
    let lo = p.low in
    let x = p.inside (not_zero c 94 z (omega arith)) in
    let r = ready.room in
    let q = ready.small in
    (omega (arith, a, b, d, e, f, lo, x, r, long, wide), omega (arith, a, b, d, e, f, lo, x, r, q))

-- the calls' order where none has moved on: an operand is one level below its chain
abbrev pub operand_rank : ChainKind → ℕ
operand_rank Products = 3
operand_rank Sums = 5

pub operand_ranks : (k : ChainKind) → (3 ≤ operand_rank k) × (operand_rank k ≤ 5)
operand_ranks Products = (omega arith, omega arith)
operand_ranks Sums = (omega arith, omega arith)
