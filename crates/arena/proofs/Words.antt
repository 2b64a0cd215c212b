-- The words from a place on, and the node that they are.
use Prim.Native.Nat.{ℕ, zero, suc, ◌+◌, ◌-◌, ◌*◌, ◌≤◌, ◌<◌}
use mathlib.Core.Path.{◌≡◌, refl, sym, ap, ◌∙◌}
use mathlib.Core.List.{List}
use lib.ListN.{get_or, length, take, drop, length-drop}
use lib.Seq.{ext_get_or, get_or-take, get_or-drop, length-take-le, take-take}
use native.Mathlib.Omega.{arith}
use Rattle.arena.specs.Layout.{node_words, most_children}
use Rattle.arena.specs.Node.{words_from, node_at}

pub words_length : (n : ℕ) (words : List ℕ) (at : ℕ) → length (words_from n words at) ≡ n
unfolding words_from
words_length zero words at = refl
words_length (suc n) words at = ap suc (words_length n words (suc at))

pub words_at : (n : ℕ) (words : List ℕ) (at k : ℕ) → k < n → get_or (words_from n words at) k 0 ≡ get_or words (at + k) 0
unfolding words_from
words_at zero words at k l = absurd (omega arith)
words_at (suc n) words at zero l = ap (λ (x : ℕ). get_or words x 0) (let e : at ≡ at + 0 = omega arith in e)
words_at (suc n) words at (suc k) l = words_at n words (suc at) k (omega arith) ∙ ap (λ (x : ℕ). get_or words x 0) (let e : suc at + k ≡ at + suc k = omega arith in e)

-- a list that has these words is this list
pub words_are : (n : ℕ) (words : List ℕ) (at : ℕ) (l : List ℕ) → length l ≡ n → ((k : ℕ) → k < n → get_or l k 0 ≡ get_or words (at + k) 0) → l ≡ words_from n words at
words_are n words at l len h = ext_get_or 0 l (words_from n words at) (len ∙ sym (words_length n words at)) (λ k m. let b : k < n = rw len at m in h k b ∙ sym (words_at n words at k b))

-- a part of the words is the words from its start on
module _ (words : List ℕ) (at n to : ℕ) (is : to ≡ at + n) (inside : to ≤ length words) where
  pub part_length : length (take (to - at) (drop at words)) ≡ n
  part_length = length-take-le (to - at) (drop at words) (omega (arith, length-drop at words)) ∙ (let e : to - at ≡ n = omega arith in e)

  pub part_words : take (to - at) (drop at words) ≡ words_from n words at
  part_words = words_are n words at _ part_length (λ k l. get_or-take (to - at) (drop at words) k 0 (omega arith) ∙ get_or-drop at words k 0)

-- and so is a shorter one, a part of these
pub part_taken : (words : List ℕ) (at n few to : ℕ) → few ≤ n → to ≡ at + few → at + n ≤ length words → take (to - at) (drop at words) ≡ take few (words_from n words at)
part_taken words at n few to le is inside =
    let e : to - at ≡ few = omega arith in
    let m : at + n - at ≡ n = omega arith in
    ap (λ (k : ℕ). take k (drop at words)) e
    ∙ sym (take-take few n (drop at words) le)
    ∙ ap (λ (k : ℕ). take few (take k (drop at words))) (sym m)
    ∙ ap (take few) (part_words words at n (at + n) refl inside)

-- a node has its child places
pub children_length : (words : List ℕ) (i : ℕ) → length (node_at words i).children ≡ most_children
unfolding node_at
children_length words i = words_length most_children words _

-- the same words are the same node
pub node_same : (words words' : List ℕ) (i : ℕ) → ((j : ℕ) → j < node_words → get_or words' (i * node_words + j) 0 ≡ get_or words (i * node_words + j) 0) → node_at words' i ≡ node_at words i
unfolding node_at
node_same words words' i h =
    rw (h 0 (omega arith), h 1 (omega arith), h 2 (omega arith), h 3 (omega arith), h 4 (omega arith), h 5 (omega arith), children) refl
  where
    children : words_from most_children words' (i * node_words + 6) ≡ words_from most_children words (i * node_words + 6)
    children = words_are most_children words (i * node_words + 6) _ (words_length most_children words' _) (λ k l.
        words_at most_children words' (i * node_words + 6) k l
        ∙ (let e : i * node_words + 6 + k ≡ i * node_words + (6 + k) = omega arith in rw e (h (6 + k) (omega arith))))
