-- Ids that no node has, brought down to the count, change no call.
use Prim.Native.Nat.{ℕ, ◌≤◌, ◌<◌}
use mathlib.Core.Path.{◌≡◌, refl, sym, ap, ap₂, ◌∙◌}
use mathlib.Core.Bool.{Bool, true, false, ◌&&◌, ◌||◌, cond, and-false}
use mathlib.Core.List.{List, [], ◌∷◌, map}
use lib.ListN.{length, get_or, length-map}
use lib.Dec.{leb, ltb, eqb}
use native.Mathlib.Omega.{arith}
use borrow.Author.Tests.{lt-ltb, le-ltb, lt-leb, ne_eqb}
use Rattle.definitions.specs.Limits.{most_depth, most_children, most_operands}
use Rattle.definitions.specs.Refusals.{bad_operand, bad_code, not_a_number, bad_child_count}
use Rattle.definitions.specs.Node.{Node, node, add_kind, mul_kind, neg_kind, function_kind, control_kind, for_loop_control, nan_constant, child_count_listed}
use Rattle.definitions.specs.Intern.{Lent, intern}
use Rattle.definitions.specs.Walk.{Mode, walk_root}
use Rattle.definitions.specs.Threshold.{given}
use Rattle.definitions.specs.Settings.{setting}
use Rattle.definitions.specs.Machine as M
use Rattle.sheet.specs.Running.{id_of, id_below}

module _ (ids : List ℕ) (done count : ℕ) where
  clamp_same : (d b : Bool) (i : ℕ) → ltb i count ≡ b → ltb (cond d (cond b i count) count) count ≡ ltb (cond d i count) count
  clamp_same true true i e = refl
  clamp_same true false i e = le-ltb count count (omega arith) ∙ sym e
  clamp_same false b i e = refl

  clamp_eq : (d b : Bool) (i : ℕ) → ltb i count ≡ b → ltb (cond d i count) count ≡ true → cond d (cond b i count) count ≡ cond d i count
  clamp_eq true true i e t = refl
  clamp_eq true false i e t = absurd (let z : ◌≡◌ {A = Bool} false true = sym e ∙ t in false_true z)
    where
      false_true : ◌≡◌ {A = Bool} false true → ⊥
      false_true z = let n : ◌≡◌ {A = ℕ} 0 1 = cc in omega arith
  clamp_eq false b i e t = refl

  below_same : (o : ℕ) → ltb (id_below ids done count o) count ≡ ltb (id_of ids done count o) count
  below_same o = clamp_same (ltb o done) (ltb (get_or ids o 0) count) (get_or ids o 0) refl

  below_eq : (o : ℕ) → ltb (id_of ids done count o) count ≡ true → id_below ids done count o ≡ id_of ids done count o
  below_eq o t = clamp_eq (ltb o done) (ltb (get_or ids o 0) count) (get_or ids o 0) refl t

  all_same : (os : List ℕ) → M.all_below count (map (id_below ids done count) os) ≡ M.all_below count (map (id_of ids done count) os)
  all_same [] = refl
  all_same (o ∷ os) = ap₂ (λ (a b : Bool). a && b) (below_same o) (all_same os)

  and_both : (a b : Bool) → (a && b) ≡ true → (a ≡ true) × (b ≡ true)
  and_both true b h = (refl, h)
  and_both false b h = absurd (let n : ◌≡◌ {A = ℕ} 0 1 = cc in omega arith)

  all_eq : (os : List ℕ) → M.all_below count (map (id_of ids done count) os) ≡ true → map (id_below ids done count) os ≡ map (id_of ids done count) os
  all_eq [] h = refl
  all_eq (o ∷ os) h =
      let b = and_both (ltb (id_of ids done count o) count) (M.all_below count (map (id_of ids done count) os)) h in
      ap₂ (λ (x : ℕ) (l : List ℕ). x ∷ l) (below_eq o b.0) (all_eq os b.1)

  -- the id as code finds it
  pub id_late : (o : ℕ) → done ≤ o → count ≡ id_below ids done count o
  id_late o h = sym (ap (λ (b : Bool). cond b (cond (ltb (get_or ids o 0) count) (get_or ids o 0) count) count) (le-ltb o done h))

  pub id_high : (o : ℕ) → o < done → count ≤ get_or ids o 0 → count ≡ id_below ids done count o
  id_high o h k = sym (ap₂ (λ (b c : Bool). cond b (cond c (get_or ids o 0) count) count) (lt-ltb o done h) (le-ltb (get_or ids o 0) count k))

  pub id_noted : (o : ℕ) → o < done → get_or ids o 0 < count → get_or ids o 0 ≡ id_below ids done count o
  id_noted o h k = sym (ap₂ (λ (b c : Bool). cond b (cond c (get_or ids o 0) count) count) (lt-ltb o done h) (lt-ltb (get_or ids o 0) count k))

  -- ---- calls
  module _ (l : Lent) (ns : List Node) (n : length ns ≡ count) where
    stored : (b : Bool) (k p f : ℕ) (os : List ℕ) → M.all_below count (map (id_of ids done count) os) ≡ b → cond b (M.stored_as (intern l ns (node k p f (map (id_below ids done count) os)))) (M.outcome (M.refused bad_operand) ns) ≡ cond b (M.stored_as (intern l ns (node k p f (map (id_of ids done count) os)))) (M.outcome (M.refused bad_operand) ns)
    stored true k p f os e = ap (λ (c : List ℕ). M.stored_as (intern l ns (node k p f c))) (all_eq os e)
    stored false k p f os e = refl

    pub store_same : (b : Bool) (k p f : ℕ) (os : List ℕ) → M.store_call l ns (M.request b (node k p f (map (id_below ids done count) os))) ≡ M.store_call l ns (M.request b (node k p f (map (id_of ids done count) os)))
    unfolding M.store_call
    store_same b k p f os =
        ap₂ (λ (c : ℕ) (o : M.Outcome). cond b (cond (nan_constant k p) (M.outcome (M.refused not_a_number) ns) (cond (child_count_listed k p c) o (M.outcome (M.refused bad_child_count) ns))) (M.outcome (M.refused bad_code) ns))
        (length-map os (id_below ids done count) ∙ sym (length-map os (id_of ids done count)))
        (ap₂ (λ (c : ℕ) (t : Bool). cond t (M.stored_as (intern l ns (node k p f (map (id_below ids done count) os)))) (M.outcome (M.refused bad_operand) ns)) n (ap (λ (c : ℕ). M.all_below c (map (id_below ids done count) os)) n ∙ all_same os)
        ∙ stored (M.all_below count (map (id_of ids done count) os)) k p f os refl
        ∙ ap (λ (c : ℕ). cond (M.all_below c (map (id_of ids done count) os)) (M.stored_as (intern l ns (node k p f (map (id_of ids done count) os)))) (M.outcome (M.refused bad_operand) ns)) (sym n))

    rooted : (b : Bool) (f : ℕ → M.Outcome) (o : ℕ) → ltb (id_of ids done count o) count ≡ b → cond b (f (id_below ids done count o)) (M.outcome (M.refused bad_operand) ns) ≡ cond b (f (id_of ids done count o)) (M.outcome (M.refused bad_operand) ns)
    rooted true f o e = ap f (below_eq o e)
    rooted false f o e = refl

    -- a call on one id that refuses what no node has
    root_same : (f : ℕ → M.Outcome) (o : ℕ) → cond (ltb (id_below ids done count o) (length ns)) (f (id_below ids done count o)) (M.outcome (M.refused bad_operand) ns) ≡ cond (ltb (id_of ids done count o) (length ns)) (f (id_of ids done count o)) (M.outcome (M.refused bad_operand) ns)
    root_same f o =
        ap (λ (b : Bool). cond b (f (id_below ids done count o)) (M.outcome (M.refused bad_operand) ns)) (ap (ltb (id_below ids done count o)) n ∙ below_same o)
        ∙ rooted (ltb (id_of ids done count o) count) f o refl
        ∙ ap (λ (c : ℕ). cond (ltb (id_of ids done count o) c) (f (id_of ids done count o)) (M.outcome (M.refused bad_operand) ns)) (sym n)

    pub simplify_same : (mode : Mode) (o depth budget : ℕ) → M.call l (M.state ns) (M.simplify mode (id_below ids done count o) depth budget) ≡ M.call l (M.state ns) (M.simplify mode (id_of ids done count o) depth budget)
    unfolding M.call M.simplify_call
    simplify_same mode o depth budget =
        ap (λ (x : M.Outcome). M.on_nodes (M.state ns) (cond (leb depth most_depth) x (M.outcome (M.refused bad_code) ns)))
        (root_same (λ i. M.walked_as i (walk_root mode l depth budget ns i)) o)

    pub prune_same : (o threshold : ℕ) → M.call l (M.state ns) (M.prune (id_below ids done count o) threshold) ≡ M.call l (M.state ns) (M.prune (id_of ids done count o) threshold)
    unfolding M.call M.prune_call
    prune_same o threshold = ap (M.on_nodes (M.state ns)) (root_same (λ i. M.prune_at l ns i (given threshold)) o)

    pub setting_same : (o n : ℕ) → M.call l (M.state ns) (M.prune_by_setting (id_below ids done count o) n) ≡ M.call l (M.state ns) (M.prune_by_setting (id_of ids done count o) n)
    unfolding M.call M.prune_call
    setting_same o n = ap (M.on_nodes (M.state ns)) (root_same (λ i. M.prune_at l ns i (setting n)) o)

-- ---- more operands than any node has children

both_false : (c x y : Bool) → x ≡ false → y ≡ false → cond c x y ≡ false
both_false true x y p q = p
both_false false x y p q = q

many : (kind payload n : ℕ) → most_children < n → child_count_listed kind payload n ≡ false
unfolding child_count_listed
many kind payload n h =
    both_false (leb add_kind kind && leb kind neg_kind) _ _
    (both_false (eqb kind add_kind || eqb kind mul_kind) _ _ (ap (λ (b : Bool). leb 1 n && b) (lt-leb n most_operands (omega arith)) ∙ and-false (leb 1 n)) (both_false (eqb kind neg_kind) _ _ (ne_eqb n 1 (λ e. omega arith)) (ne_eqb n 2 (λ e. omega arith))))
    (both_false (eqb kind function_kind) _ _ (lt-leb n most_children h)
    (both_false (eqb kind control_kind) _ _ (both_false (eqb payload for_loop_control) _ _ (ne_eqb n 4 (λ e. omega arith)) (ne_eqb n 3 (λ e. omega arith))) (ne_eqb n 0 (λ e. omega arith))))

module _ (l : Lent) (ns : List Node) (b : Bool) (kind payload flags : ℕ) where
  -- a store call, by whether the number of children is listed
  abbrev by_count : List ℕ → Bool → M.Outcome
  by_count os t =
      cond b
      (cond (nan_constant kind payload) (M.outcome (M.refused not_a_number) ns)
      (cond t (cond (M.all_below (length ns) os) (M.stored_as (intern l ns (node kind payload flags os))) (M.outcome (M.refused bad_operand) ns)) (M.outcome (M.refused bad_child_count) ns)))
      (M.outcome (M.refused bad_code) ns)

  -- two nodes with so many children are refused alike
  pub many_same : (os os' : List ℕ) → most_children < length os → most_children < length os' → M.store_call l ns (M.request b (node kind payload flags os)) ≡ M.store_call l ns (M.request b (node kind payload flags os'))
  unfolding M.store_call
  many_same os os' h k = ap (by_count os) (many kind payload (length os) h) ∙ sym (ap (by_count os') (many kind payload (length os') k))
