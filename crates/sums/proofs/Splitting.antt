-- A balanced sum with halvings that are not done, and how its terms are split.
use Prim.Native.Nat.{ℕ, zero, suc, ◌+◌, ◌-◌, ◌/◌, ◌^◌, ◌<◌, ◌≤◌}
use mathlib.Core.Path.{◌≡◌, refl, sym, ap, ap₂, ◌∙◌, subst}
use mathlib.Core.List.{List}
use lib.ListN.{length, get_or, set, take, length-set}
use lib.Seq.{drop-cons, get_or-set_same, get_or-set_other}
use native.Mathlib.Omega.{arith}
use native.Mathlib.Nat.{pow-suc}
use native.Mathlib.Numerals.{add-one}
use borrow.Author.Count.{below_more}
use Rattle.definitions.specs.Limits.{most_terms}
use Rattle.definitions.specs.Node.{Node}
use Rattle.definitions.specs.Intern.{Lent, Built, built, then}
use Rattle.definitions.specs.Patterns.{intern_add}
use Rattle.definitions.specs.Prune.{sum_of_kept}
use Rattle.sums.specs.Sums.{most_pending, part, Inside, Few, Splits, whole, halved, Summed}
use Rattle.sums.proofs.Parts.{part_length, left_part, right_part}
use Rattle.sums.proofs.Halving.{sum_of_one, sum_of_halves}
use Rattle.sums.proofs.Resuming.{finish, resume, reached, Agree, reached_same, reached_past, resume_same, finish_waiting}

-- ---- sums of parts
module _ (l : Lent) (ns : List Node) (terms : List ℕ) (at n : ℕ) (i : Inside terms at n) where
  pub sum_of_one_part : n ≡ 1 → sum_of_kept l ns (part terms at n) ≡ built ns (get_or terms at 0)
  sum_of_one_part one =
      ap (λ (m : ℕ). sum_of_kept l ns (part terms at m)) one
      ∙ ap (λ (ts : List ℕ). sum_of_kept l ns (take 1 ts)) (drop-cons terms at 0 (omega (arith, i.long, i.fits)))
      ∙ sum_of_one l ns (get_or terms at 0)

  sum_of_half_parts : 1 < n
      → then (sum_of_kept l ns (part terms at (n / 2))) (λ ms x. then (sum_of_kept l ms (part terms (at + n / 2) (n - n / 2))) (λ os y. intern_add l os x y)) ≡ sum_of_kept l ns (part terms at n)
  sum_of_half_parts more =
      let long = part_length terms at n i in
      ap₂ (λ (us vs : List ℕ). then (sum_of_kept l ns us) (λ ms x. then (sum_of_kept l ms vs) (λ os y. intern_add l os x y))) (left_part terms at n i) (right_part terms at n i)
      ∙ sym (sum_of_halves l ns (part terms at n) (omega arith) (omega (arith, i.fits)))

pub sum_of_two_parts : (l : Lent) (ns : List Node) (terms : List ℕ) (at n : ℕ) → Inside terms at n → n ≡ 2
    → sum_of_kept l ns (part terms at n) ≡ intern_add l ns (get_or terms at 0) (get_or terms (at + 1) 0)
sum_of_two_parts l ns terms at n i two =
    ap (λ (m : ℕ). sum_of_kept l ns (part terms at m)) two
    ∙ sym (sum_of_half_parts l ns terms at 2 (within at 2 (omega arith)) (omega arith))
    ∙ ap (λ (m : Built). then m (λ ms x. then (sum_of_kept l ms (part terms (at + 1) 1)) (λ os y. intern_add l os x y))) (sum_of_one_part l ns terms at 1 (within at 1 (omega arith)) refl)
    ∙ ap (λ (m : Built). then m (λ os y. intern_add l os (get_or terms at 0) y)) (sum_of_one_part l ns terms (at + 1) 1 (within (at + 1) 1 (omega arith)) refl)
  where
    within : (from m : ℕ) → from + m ≤ at + n → Inside terms from m
    within from m less = record { long = i.long; fits = omega (arith, i.fits) }

-- ---- places below a depth
-- what is put at a depth changes nothing below
pub agree_set : (depth : ℕ) (a : List ℕ) (x : ℕ) → Agree depth (set a depth x) a
agree_set depth a x place less = get_or-set_other a depth place x 0 (λ e. omega arith)

-- what holds of each value below a depth, and of one that is put there, holds below the next
below_put : (P : ℕ → ℕ → Type 0) (depth : ℕ) (a : List ℕ) (x : ℕ) → depth < length a → ((place : ℕ) → place < depth → P place (get_or a place 0)) → P depth x
    → (place : ℕ) → place < suc depth → P place (get_or (set a depth x) place 0)
below_put P depth a x inside all here place less =
    below_more (λ i. P i (get_or (set a depth x) i 0)) depth
    (λ i m. subst (P i) (sym (agree_set depth a x i m)) (all i m))
    (subst (P depth) (sym (get_or-set_same a depth x 0 inside)) here) place (omega arith)

-- both halves of two or more terms are few at the next depth
pub halves_few : (depth n : ℕ) → Few depth n → 1 < n → (depth < most_pending) × Few (suc depth) (n / 2) × Few (suc depth) (n - n / 2)
halves_few depth n few more = go (most_pending - depth) refl few
  where
    go : (left : ℕ) → most_pending - depth ≡ left → n ≤ 2 ^ left → (depth < most_pending) × Few (suc depth) (n / 2) × Few (suc depth) (n - n / 2)
    go zero e h = absurd (omega arith)
    go (suc left) e h =
        let same : most_pending - suc depth ≡ left = omega arith in
        let p = pow-suc 2 left in
        (omega arith, rw same (omega arith), rw same (omega arith))

-- ---- the sum between turns
-- the second halves of all halvings are few enough for their depth
pub record Sizes (rights : List ℕ) (depth : ℕ) : Type 0 where
  pub long : length rights ≡ most_pending
  pub shallow : depth ≤ most_pending
  pub few : (place : ℕ) → place < depth → Few (suc place) (get_or rights place 0)

pub sizes_put : (rights : List ℕ) (depth : ℕ) → Sizes rights depth → depth < most_pending → (size : ℕ) → Few (suc depth) size → Sizes (set rights depth size) (suc depth)
sizes_put rights depth s room size f = record {
  long = length-set rights depth size ∙ s.long;
  shallow = omega arith;
  few = below_put (λ place n. Few (suc place) n) depth rights size (omega (arith, s.long)) s.few f;
}

-- the sum of so many terms from a place on is what the halvings that are not done wait for
pub record Unfinished (l : Lent) (plain : Built) (terms : List ℕ) (end : ℕ) (ns : List Node) (count : ℕ) (rights lefts : List ℕ) (depth at rest : ℕ) : Type 0 where
  pub some : 1 ≤ rest
  pub few : Few depth rest
  pub sizes : Sizes rights depth
  pub summed : Summed rights lefts depth count
  pub ends : reached depth rights (at + rest) ≡ end
  pub resumes : resume depth l terms rights lefts (at + rest) (sum_of_kept l ns (part terms at rest)) ≡ plain

module _ (l : Lent) (plain : Built) (terms : List ℕ) (end : ℕ) (long : length terms ≡ most_terms) (fits : end ≤ most_terms) (ns : List Node) (count : ℕ) (lefts : List ℕ) (at : ℕ) where
  abbrev Sum : List ℕ → ℕ → ℕ → Type 0
  Sum rights depth rest = Unfinished l plain terms end ns count rights lefts depth at rest

  module _ (rights : List ℕ) (depth rest : ℕ) (u : Sum rights depth rest) where
    pub before_end : at + rest ≤ end
    before_end = omega (arith, reached_past depth rights (at + rest), u.ends)

    inside : Inside terms at rest
    inside = record { long = long; fits = omega (arith, before_end) }

    module _ (more : 1 < rest) where
      abbrev right : ℕ
      right = rest - rest / 2

      abbrev rights' : List ℕ
      rights' = set rights depth right

      abbrev left_sum : Built
      left_sum = sum_of_kept l ns (part terms at (rest / 2))

      fewer : (depth < most_pending) × Few (suc depth) (rest / 2) × Few (suc depth) right
      fewer = halves_few depth rest u.few more

      room : depth < length rights
      room = omega (arith, u.sizes.long, fewer.0)

      is_right : get_or rights' depth 0 ≡ right
      is_right = get_or-set_same rights depth right 0 room

      sum_is : at + rest / 2 + right ≡ at + rest
      sum_is = omega arith

      halve : Sum rights' (suc depth) (rest / 2)
      halve = record {
        some = omega arith;
        few = fewer.1;
        sizes = sizes_put rights depth u.sizes fewer.0 right fewer.2;
        summed = below_put (λ place n. n ≡ 0 → get_or lefts place 0 < count) depth rights right room u.summed (λ e. absurd (omega arith));
        ends =
            ap (λ (n : ℕ). reached depth rights' (at + rest / 2 + n)) is_right
            ∙ reached_same depth rights' rights (agree_set depth rights right) (at + rest / 2 + right)
            ∙ ap (reached depth rights) sum_is
            ∙ u.ends;
        resumes =
            ap (λ (n : ℕ). resume depth l terms rights' lefts (at + rest / 2 + n) (finish l terms n (get_or lefts depth 0) (at + rest / 2) left_sum)) is_right
            ∙ resume_same l terms depth rights' rights lefts lefts (agree_set depth rights right) (λ place less. refl) (at + rest / 2 + right) _
            ∙ ap (λ (n : ℕ). resume depth l terms rights lefts n (finish l terms right (get_or lefts depth 0) (at + rest / 2) left_sum)) sum_is
            ∙ ap (resume depth l terms rights lefts (at + rest))
            (finish_waiting l terms right (get_or lefts depth 0) (at + rest / 2) left_sum (omega arith) ∙ sum_of_half_parts l ns terms at rest inside more)
            ∙ u.resumes;
      }

  -- to one or two terms
  pub splits : {rights : List ℕ} {depth rest : ℕ} {rights' : List ℕ} {to rest' : ℕ} → Splits rights depth rest rights' to rest' → Sum rights depth rest → Sum rights' to rest'
  splits (whole few) u = u
  splits {rights} {depth} {rest} (halved more room s) u = splits s (halve rights depth rest u (omega arith))

pub split_few : {rights : List ℕ} {depth rest : ℕ} {rights' : List ℕ} {to rest' : ℕ} → Splits rights depth rest rights' to rest' → rest' ≤ 2
split_few (whole few) = few
split_few (halved more room s) = split_few s

-- ---- the loop of `split`: how the rest is split from its depth on is how all is
pub record Splitting (rights : List ℕ) (depth n : ℕ) (rights' : List ℕ) (rest to : ℕ) : Type 0 where
  pub few : Few to rest
  pub long : length rights' ≡ most_pending
  pub goes : (rights'' : List ℕ) (end left : ℕ) → Splits rights' to rest rights'' end left → Splits rights depth n rights'' end left

module _ (rights : List ℕ) (depth n : ℕ) (rights' : List ℕ) (rest to : ℕ) (s : Splitting rights depth n rights' rest to) (more : 2 < rest) where
  halves_fit : (to < most_pending) × Few (suc to) (rest / 2) × Few (suc to) (rest - rest / 2)
  halves_fit = halves_few to rest s.few (omega arith)

  pub place_free : to < most_pending
  place_free = halves_fit.0

  pub halves : Splitting rights depth n (set rights' to (rest - rest / 2)) (rest / 2) (to + 1)
  halves = rw (add-one to) record {
    few = halves_fit.1;
    long = length-set rights' to (rest - rest / 2) ∙ s.long;
    goes = λ rights'' end left h. s.goes rights'' end left (halved more (omega (arith, s.long, place_free)) h);
  }
