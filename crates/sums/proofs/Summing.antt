-- The sums of no, one and two terms, and the loop of `sum`.
use Prim.Native.Nat.{ℕ, suc, ◌+◌, ◌-◌, ◌<◌, ◌≤◌}
use mathlib.Core.Path.{◌≡◌, refl, sym, ap, ◌∙◌, subst}
use mathlib.Core.List.{List, [], ◌∷◌}
use lib.ListN.{length, get_or, set, length-set}
use lib.Seq.{get_or-set_same}
use native.Mathlib.Omega.{arith}
use borrow.Author.Count.{below_more}
use Rattle.definitions.specs.Limits.{most_terms}
use Rattle.definitions.specs.Node.{Node}
use Rattle.definitions.specs.Intern as I
use Rattle.definitions.specs.Intern.{Lent, built, then}
use Rattle.definitions.specs.Patterns.{intern_add}
use Rattle.definitions.specs.Prune.{sum_of_kept}
use Rattle.arena.specs.declared.DagArena.{DagArena}
use Rattle.std.specs.Prelude.{Result, Ok, Err}
use Rattle.refusal.specs.declared.Refusal.{Refusal}
use Rattle.refusal.specs.Number.{number_of}
use Rattle.store.specs.View.{nodes_in, lent, Sound, Kept}
use Rattle.store.specs.Memory.{Memory, memory}
use Rattle.store.proofs.Keeping.{kept_refl, kept_trans}
use Rattle.chains.specs.Terms.{AllBelow}
use Rattle.sums.specs.Sums.{most_pending, part, Inside, BuildsIn, Zero, Adds, SumsTerms, Splits, Summed, Joined, JoinsAt, JoinStops, Joins}
use Rattle.sums.proofs.Parts.{part_length, term_below, part_below}
use Rattle.sums.proofs.Halving.{sum_of_none}
use Rattle.sums.proofs.Resuming.{finish, resume, reached, reached_same, resume_same, finish_waiting, resume_stopped, Waiting, joined_shallow, joined_resumes, joined_waits}
use Rattle.sums.proofs.Splitting.{sum_of_one_part, sum_of_two_parts, agree_set, Sizes, sizes_put, Unfinished, before_end, splits, split_few}
use Rattle.sums.proofs.Joining.{lent_same}

-- ---- no terms
empty : (ids : List ℕ) → length ids ≡ 0 → ids ≡ []
empty [] e = refl
empty (a ∷ ids) e = absurd (omega arith)

pub sums_none : (m : Memory) (ts : List ℕ) → length ts ≡ 0 → (answer : Result ℕ Refusal) (m' : Memory) → Zero m answer m' → SumsTerms m ts answer m'
sums_none m ts e answer m' =
    let l = lent m.words m.slots in
    let ns = nodes_in m.words m.arena.count in
    subst (λ (p : I.Built). BuildsIn m p answer m') (sym (ap (sum_of_kept l ns) (empty ts e) ∙ sum_of_none l ns))

-- ---- one or two terms
module _ (words slots : List ℕ) (s : DagArena) (sound : Sound words slots s) (terms : List ℕ) (from n : ℕ) (some : 1 ≤ n) (inside : Inside terms from n) (low : AllBelow s.count (part terms from n)) where
  abbrev first : ℕ
  first = get_or terms from 0

  abbrev second : ℕ
  second = get_or terms (from + 1) 0

  pub first_low : first < s.count
  first_low = term_below terms from n inside s.count low from (omega arith) (omega arith)

  pub sums_one : n ≡ 1 → SumsTerms (memory words slots s) (part terms from n) (Ok first) (memory words slots s)
  sums_one one = record {
    answer = sym (sum_of_one_part (lent words slots) (nodes_in words s.count) terms from n inside one);
    kept = kept_refl words slots s sound;
    low = first_low;
  }

  module _ (few : n ≤ 2) (more : n ≡ 1 → ⊥) where
    two : n ≡ 2
    two = omega arith

    pub addable : (first < s.count) × (second < s.count)
    addable = (first_low, term_below terms from n inside s.count low (from + 1) (omega arith) (omega (arith, two)))

    pub sums_two : (answer : Result ℕ Refusal) (m' : Memory) → Adds (memory words slots s) first second answer m' → SumsTerms (memory words slots s) (part terms from n) answer m'
    sums_two answer m' =
        subst (λ (p : I.Built). BuildsIn (memory words slots s) p answer m') (sym (sum_of_two_parts (lent words slots) (nodes_in words s.count) terms from n inside two))

-- ---- a second half comes next: its first half's sum takes its size's place
module _ (l : Lent) (plain : I.Built) (terms : List ℕ) (end : ℕ) (rights lefts : List ℕ) (depth : ℕ) (sizes : Sizes rights depth) (long : length lefts ≡ most_pending) (place : ℕ) (inside : place < depth) (at : ℕ) (ends : reached depth rights at ≡ end) (ns : List Node) (number : ℕ) (w : Waiting rights depth place (built ns number)) (resumes : resume (suc place) l terms rights lefts at (built ns number) ≡ plain) where
  abbrev right : ℕ
  right = get_or rights place 0

  abbrev rights' : List ℕ
  rights' = set rights place 0

  abbrev lefts' : List ℕ
  lefts' = set lefts place number

  rights_is : get_or rights' place 0 ≡ 0
  rights_is = get_or-set_same rights place 0 0 (omega (arith, sizes.long, sizes.shallow))

  lefts_is : get_or lefts' place 0 ≡ number
  lefts_is = get_or-set_same lefts place number 0 (omega (arith, sizes.shallow))

  place_is : at + right + 0 ≡ at + right
  place_is = omega arith

  pub next_half : (count count' : ℕ) → count ≤ count' → Summed rights lefts depth count → number < count' → Unfinished l plain terms end ns count' rights' lefts' (suc place) at right
  next_half count count' grown summed low = record {
    some = w.right;
    few = sizes.few place inside;
    sizes = sizes_put rights place below (omega (arith, sizes.shallow)) 0 (omega arith);
    summed = λ i less. below_more (λ i. get_or rights' i 0 ≡ 0 → get_or lefts' i 0 < count') place
        (λ i less e. rw (agree_set place lefts number i less) (omega (arith, summed i (omega arith) (sym (agree_set place rights 0 i less) ∙ e))))
        (λ e. rw lefts_is low) i (omega arith);
    ends =
        ap (λ (n : ℕ). reached place rights' (at + right + n)) rights_is
        ∙ reached_same place rights' rights (agree_set place rights 0) (at + right + 0)
        ∙ ap (reached place rights) place_is
        ∙ w.reaches at
        ∙ ends;
    resumes =
        ap (λ (n : ℕ). resume place l terms rights' lefts' (at + right + n) (finish l terms n (get_or lefts' place 0) (at + right) right_sum)) rights_is
        ∙ ap (λ (left : ℕ). resume place l terms rights' lefts' (at + right + 0) (then right_sum (λ ms y. intern_add l ms left y))) lefts_is
        ∙ resume_same l terms place rights' rights lefts' lefts (agree_set place rights 0) (agree_set place lefts number) (at + right + 0) _
        ∙ ap (λ (n : ℕ). resume place l terms rights lefts n (then right_sum (λ ms y. intern_add l ms number y))) place_is
        ∙ ap (resume place l terms rights lefts (at + right)) (sym (finish_waiting l terms right (get_or lefts place 0) at (built ns number) w.right))
        ∙ resumes;
  }
    where
      right_sum : I.Built
      right_sum = sum_of_kept l ns (part terms at right)

      below : Sizes rights place
      below = record { long = sizes.long; shallow = omega (arith, sizes.shallow); few = λ i less. sizes.few i (omega arith) }

-- between turns: some terms are summed, and the sum of those that are left is the whole one
pub record Summing (words slots : List ℕ) (s : DagArena) (terms : List ℕ) (from n : ℕ) (words' slots' : List ℕ) (t : DagArena) (rights lefts : List ℕ) (depth at rest : ℕ) : Type 0 where
  pub kept : Kept words slots s words' slots' t
  pub after : from ≤ at
  pub long : length lefts ≡ most_pending
  pub unfinished :
      Unfinished (lent words slots) (sum_of_kept (lent words slots) (nodes_in words s.count) (part terms from n)) terms (from + n) (nodes_in words' t.count) t.count rights lefts depth at rest

module _ (words slots : List ℕ) (s : DagArena) (sound : Sound words slots s) (terms : List ℕ) (from n : ℕ) (some : 1 ≤ n) (inside : Inside terms from n) (low : AllBelow s.count (part terms from n)) where
  abbrev l : Lent
  l = lent words slots

  abbrev plain : I.Built
  plain = sum_of_kept l (nodes_in words s.count) (part terms from n)

  pub begins : (rights lefts : List ℕ) → length rights ≡ most_pending → length lefts ≡ most_pending → Summing words slots s terms from n words slots s rights lefts 0 from n
  begins rights lefts long long' = record {
    kept = kept_refl words slots s sound;
    after = omega arith;
    long = long';
    unfinished = record {
      some = some;
      few = omega (arith, inside.fits);
      sizes = record { long = long; shallow = omega arith; few = λ place less. absurd (omega arith) };
      summed = λ place less. absurd (omega arith);
      ends = refl;
      resumes = refl;
    };
  }

  -- a turn: the terms that are left are split
  module _ (words' slots' : List ℕ) (t : DagArena) (rights₀ lefts : List ℕ) (depth₀ at rest₀ : ℕ) (i : Summing words slots s terms from n words' slots' t rights₀ lefts depth₀ at rest₀) (rights : List ℕ) (depth rest : ℕ) (sp : Splits rights₀ depth₀ rest₀ rights depth rest) where
    abbrev first_sum : Lent → I.Built
    first_sum k = sum_of_kept k (nodes_in words' t.count) (part terms at rest)

    split : Unfinished l plain terms (from + n) (nodes_in words' t.count) t.count rights lefts depth at rest
    split = splits l plain terms (from + n) inside.long inside.fits (nodes_in words' t.count) t.count lefts at sp i.unfinished

    pub before : (1 ≤ rest) × (at + rest ≤ from + n)
    before = (split.some, before_end l plain terms (from + n) inside.long inside.fits (nodes_in words' t.count) t.count lefts at rights depth rest split)

    pub place_inside : at + rest ≤ most_terms
    place_inside = omega (arith, before.1, inside.fits)

    pub summable : (1 ≤ rest) × (rest ≤ 2) × Inside terms at rest × AllBelow t.count (part terms at rest)
    summable = (
      before.0,
      split_few sp,
      record { long = inside.long; fits = place_inside },
      part_below terms from n inside s.count low at rest i.after before.1 t.count i.kept.count,
    )

    -- the first of them are summed
    module _ (words₁ slots₁ : List ℕ) (v : DagArena) (answer : Result ℕ Refusal) (b : SumsTerms (memory words' slots' t) (part terms at rest) answer (memory words₁ slots₁ v)) where
      resumes_sum : (m : I.Built) → m ≡ first_sum (lent words' slots') → resume depth l terms rights lefts (at + rest) m ≡ plain
      resumes_sum m e =
          ap (resume depth l terms rights lefts (at + rest)) (e ∙ ap first_sum (lent_same words slots s words' slots' t i.kept))
          ∙ split.resumes

      sums : (other : Result ℕ Refusal) → answer ≡ other → BuildsIn (memory words' slots' t) (first_sum (lent words' slots')) other (memory words₁ slots₁ v)
      sums other e = subst (λ (x : Result ℕ Refusal). BuildsIn (memory words' slots' t) (first_sum (lent words' slots')) x (memory words₁ slots₁ v)) e b

      kept₁ : Kept words slots s words₁ slots₁ v
      kept₁ = kept_trans words slots s words' slots' t words₁ slots₁ v i.kept b.kept

      pub stops : (refusal : Refusal) → answer ≡ Err refusal → SumsTerms (memory words slots s) (part terms from n) (Err refusal) (memory words₁ slots₁ v)
      stops refusal e = record {
        answer = sym (resume_stopped l terms depth rights lefts (at + rest) _ (number_of refusal)) ∙ resumes_sum _ (sums (Err refusal) e).answer;
        kept = kept₁;
        low = tt;
      }

      -- their sum is an id
      module _ (id : ℕ) (e : answer ≡ Ok id) where
        abbrev ns : List Node
        ns = nodes_in words₁ v.count

        summed : Summed rights lefts depth v.count
        summed place less none = omega (arith, split.summed place less none, b.kept.count)

        pub joinable : (depth ≤ most_pending) × (length rights ≡ most_pending) × (length lefts ≡ most_pending) × Summed rights lefts depth v.count × (id < v.count)
        joinable = (split.sizes.shallow, split.sizes.long, i.long, summed, (sums (Ok id) e).low)

        -- and is joined
        module _ (words'' slots'' : List ℕ) (u : DagArena) (lefts' : List ℕ) (joined : Result ℕ Refusal) (j : Joins (memory words₁ slots₁ v) rights lefts depth id (memory words'' slots'' u) lefts' joined) where
          joins : (other : Result ℕ Refusal) → joined ≡ other → Joins (memory words₁ slots₁ v) rights lefts depth id (memory words'' slots'' u) lefts' other
          joins other f = subst (λ (x : Result ℕ Refusal). Joins (memory words₁ slots₁ v) rights lefts depth id (memory words'' slots'' u) lefts' x) f j

          resumes : (to : ℕ) (m : I.Built) → Joined (lent words₁ slots₁) rights lefts depth (built ns id) to m → resume to l terms rights lefts (at + rest) m ≡ plain
          resumes to m k =
              joined_resumes l terms rights lefts (subst (λ (k : Lent). Joined k rights lefts depth (built ns id) to m) (lent_same words slots s words₁ slots₁ v kept₁) k) (at + rest)
              ∙ resumes_sum _ (sums (Ok id) e).answer

          pub stops_joining : (refusal : Refusal) → joined ≡ Err refusal → SumsTerms (memory words slots s) (part terms from n) (Err refusal) (memory words'' slots'' u)
          stops_joining refusal f =
              let k : JoinStops (memory words₁ slots₁ v) rights lefts depth id (memory words'' slots'' u) refusal = joins (Err refusal) f in
              record { answer = resumes 0 _ k.joined; kept = kept_trans words slots s words₁ slots₁ v words'' slots'' u kept₁ k.kept; low = tt }

          module _ (to : ℕ) (f : joined ≡ Ok to) where
            k : JoinsAt (memory words₁ slots₁ v) rights lefts depth id (memory words'' slots'' u) lefts' to
            k = joins (Ok to) f

            kept'' : Kept words slots s words'' slots'' u
            kept'' = kept_trans words slots s words₁ slots₁ v words'' slots'' u kept₁ k.kept

            pub shallow : to ≤ most_pending
            shallow = omega (arith, joined_shallow (lent words₁ slots₁) terms rights lefts k.joined, split.sizes.shallow)

            pub ends : to ≡ 0 → SumsTerms (memory words slots s) (part terms from n) (Ok (get_or lefts' 0 0)) (memory words'' slots'' u)
            ends none = subst (λ (sum : ℕ). SumsTerms (memory words slots s) (part terms from n) (Ok sum) (memory words'' slots'' u)) (sym sum_is) record {
              answer = subst (λ (d : ℕ). resume d l terms rights lefts (at + rest) (built (nodes_in words'' u.count) k.sum) ≡ plain) none (resumes to _ k.joined);
              kept = kept'';
              low = k.low;
            }
              where
                sum_is : get_or lefts' 0 0 ≡ k.sum
                sum_is =
                    let first : to - 1 ≡ 0 = omega arith in
                    ap (λ (a : List ℕ). get_or a 0 0) (k.put ∙ ap (λ (place : ℕ). set lefts place k.sum) first)
                    ∙ get_or-set_same lefts 0 k.sum 0 (omega (arith, i.long))

            pub goes_on : (to ≡ 0 → ⊥) → Summing words slots s terms from n words'' slots'' u (set rights (to - 1) 0) lefts' to (at + rest) (get_or rights (to - 1) 0)
            goes_on more = record {
              kept = kept'';
              after = omega (arith, i.after);
              long = ap length k.put ∙ length-set lefts (to - 1) k.sum ∙ i.long;
              unfinished = rw k.put (next (to - 1) to_is);
            }
              where
                to_is : to ≡ suc (to - 1)
                to_is = omega arith

                next : (place : ℕ) → to ≡ suc place → Unfinished l plain terms (from + n) (nodes_in words'' u.count) u.count (set rights place 0) (set lefts place k.sum) to (at + rest) (get_or rights place 0)
                next place g =
                    let h = subst (λ (d : ℕ). Joined (lent words₁ slots₁) rights lefts depth (built ns id) d (built (nodes_in words'' u.count) k.sum)) g k.joined in
                    subst (λ (d : ℕ). Unfinished l plain terms (from + n) (nodes_in words'' u.count) u.count (set rights place 0) (set lefts place k.sum) d (at + rest) (get_or rights place 0)) (sym g)
                    (next_half l plain terms (from + n) rights lefts depth split.sizes i.long place (omega (arith, joined_shallow (lent words₁ slots₁) terms rights lefts h)) (at + rest) split.ends
                    (nodes_in words'' u.count) k.sum
                    (joined_waits (lent words₁ slots₁) terms rights lefts h)
                    (subst (λ (d : ℕ). resume d l terms rights lefts (at + rest) (built (nodes_in words'' u.count) k.sum) ≡ plain) g (resumes to _ k.joined))
                    v.count u.count k.kept.count summed k.low)
