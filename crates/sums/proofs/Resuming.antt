-- How a balanced sum goes on from the halvings that are not done.
use Prim.Native.Nat.{ℕ, zero, suc, ◌+◌, ◌<◌, ◌≤◌}
use mathlib.Core.Path.{◌≡◌, refl, sym, ap, ◌∙◌}
use mathlib.Core.List.{List}
use lib.ListN.{get_or}
use native.Mathlib.Omega.{arith}
use Rattle.definitions.specs.Node.{Node}
use Rattle.definitions.specs.Intern.{Lent, Built, built, stopped, then}
use Rattle.definitions.specs.Patterns.{intern_add}
use Rattle.definitions.specs.Prune.{sum_of_kept}
use Rattle.sums.specs.Sums.{part, Joined, ended, refused, waits, added}

-- one halving ends: the second half was summed, and is added to the first half's sum; or it is summed from a place of the terms on
abbrev pub finish : Lent → List ℕ → ℕ → ℕ → ℕ → Built → Built
finish l terms zero left at b = then b (λ ns y. intern_add l ns left y)
finish l terms (suc right) left at b = then b (λ ns x. then (sum_of_kept l ns (part terms at (suc right))) (λ ms y. intern_add l ms x y))

-- so each does, from the deepest one
abbrev pub resume : ℕ → Lent → List ℕ → List ℕ → List ℕ → ℕ → Built → Built
resume zero l terms rights lefts at b = b
resume (suc depth) l terms rights lefts at b = resume depth l terms rights lefts (at + get_or rights depth 0) (finish l terms (get_or rights depth 0) (get_or lefts depth 0) at b)

-- the place after the last second half
abbrev pub reached : ℕ → List ℕ → ℕ → ℕ
reached zero rights at = at
reached (suc depth) rights at = reached depth rights (at + get_or rights depth 0)

-- not a refusal
abbrev pub Goes : Built → Type 0
Goes (built ns id) = Unit {0}
Goes (stopped ns number) = ⊥

-- ---- the places below a depth are all that count
abbrev pub Agree : ℕ → List ℕ → List ℕ → Type 0
Agree depth a b = (place : ℕ) → place < depth → get_or a place 0 ≡ get_or b place 0

pub reached_same : (depth : ℕ) (a b : List ℕ) → Agree depth a b → (at : ℕ) → reached depth a at ≡ reached depth b at
reached_same zero a b h at = refl
reached_same (suc depth) a b h at =
    ap (λ (right : ℕ). reached depth a (at + right)) (h depth (omega arith))
    ∙ reached_same depth a b (λ place less. h place (omega arith)) (at + get_or b depth 0)

pub reached_past : (depth : ℕ) (rights : List ℕ) (at : ℕ) → at ≤ reached depth rights at
reached_past zero rights at = omega arith
reached_past (suc depth) rights at = omega (arith, reached_past depth rights (at + get_or rights depth 0))

-- ---- where a second half comes next: an id is its first half's sum, and the same terms are left
pub record Waiting (rights : List ℕ) (depth place : ℕ) (b : Built) : Type 0 where
  pub right : 0 < get_or rights place 0
  pub goes : Goes b
  pub reaches : (at : ℕ) → reached (suc place) rights at ≡ reached depth rights at

abbrev Waits : List ℕ → ℕ → ℕ → Built → Type 0
Waits rights depth zero b = Unit {0}
Waits rights depth (suc place) b = Waiting rights depth place b

-- ---- sums that go on
module _ (l : Lent) (terms : List ℕ) where
  pub finish_waiting : (right left at : ℕ) (b : Built) → 0 < right
      → finish l terms right left at b ≡ then b (λ ns x. then (sum_of_kept l ns (part terms at right)) (λ ms y. intern_add l ms x y))
  finish_waiting zero left at b h = absurd (omega arith)
  finish_waiting (suc right) left at b h = refl

  finish_stopped : (right left at : ℕ) (ns : List Node) (number : ℕ) → finish l terms right left at (stopped ns number) ≡ stopped ns number
  finish_stopped zero left at ns number = refl
  finish_stopped (suc right) left at ns number = refl

  pub resume_stopped : (depth : ℕ) (rights lefts : List ℕ) (at : ℕ) (ns : List Node) (number : ℕ) → resume depth l terms rights lefts at (stopped ns number) ≡ stopped ns number
  resume_stopped zero rights lefts at ns number = refl
  resume_stopped (suc depth) rights lefts at ns number =
      ap (resume depth l terms rights lefts (at + get_or rights depth 0)) (finish_stopped (get_or rights depth 0) (get_or lefts depth 0) at ns number)
      ∙ resume_stopped depth rights lefts (at + get_or rights depth 0) ns number

  pub resume_same : (depth : ℕ) (a b x y : List ℕ) → Agree depth a b → Agree depth x y → (at : ℕ) (m : Built) → resume depth l terms a x at m ≡ resume depth l terms b y at m
  resume_same zero a b x y h k at m = refl
  resume_same (suc depth) a b x y h k at m =
      ap (λ (right : ℕ). resume depth l terms a x (at + right) (finish l terms right (get_or x depth 0) at m)) (h depth (omega arith))
      ∙ ap (λ (left : ℕ). resume depth l terms a x (at + get_or b depth 0) (finish l terms (get_or b depth 0) left at m)) (k depth (omega arith))
      ∙ resume_same depth a b x y (λ place less. h place (omega arith)) (λ place less. k place (omega arith)) (at + get_or b depth 0) _

  -- ---- what a join leaves
  module _ (rights lefts : List ℕ) where
    pub joined_shallow : {depth : ℕ} {b : Built} {to : ℕ} {b' : Built} → Joined l rights lefts depth b to b' → to ≤ depth
    joined_shallow ended = omega arith
    joined_shallow refused = omega arith
    joined_shallow (waits more) = omega arith
    joined_shallow (added none j) = omega (arith, joined_shallow j)

    pub joined_resumes : {depth : ℕ} {b : Built} {to : ℕ} {b' : Built} → Joined l rights lefts depth b to b' → (at : ℕ)
        → resume to l terms rights lefts at b' ≡ resume depth l terms rights lefts at b
    joined_resumes ended at = refl
    joined_resumes {depth = depth} (refused {ns = ns} {number = number}) at = sym (resume_stopped depth rights lefts at ns number)
    joined_resumes (waits more) at = refl
    joined_resumes (added {depth = depth} {ns = ns} {id = id} none j) at =
        let same : at ≡ at + 0 = omega arith in
        joined_resumes j at
        ∙ ap (λ (n : ℕ). resume depth l terms rights lefts n (intern_add l ns (get_or lefts depth 0) id)) same
        ∙ ap (λ (right : ℕ). resume depth l terms rights lefts (at + right) (finish l terms right (get_or lefts depth 0) at (built ns id))) (sym none)

    pub joined_waits : {depth : ℕ} {b : Built} {to : ℕ} {b' : Built} → Joined l rights lefts depth b to b' → Waits rights depth to b'
    joined_waits ended = tt
    joined_waits refused = tt
    joined_waits (waits more) = record { right = more; goes = tt; reaches = λ at. refl }
    joined_waits (added {depth = depth} {to = to} {b = b} none j) = go to (joined_waits j)
      where
        go : (to : ℕ) → Waits rights depth to b → Waits rights (suc depth) to b
        go zero w = tt
        go (suc place) w = record {
          right = w.right;
          goes = w.goes;
          reaches = λ at. let same : at ≡ at + get_or rights depth 0 = omega (arith, none) in w.reaches at ∙ ap (reached depth rights) same;
        }
