-- The hash of one list of bytes after another.
use Rattle.std.proofs.Common.{◌≡◌, ℕ, zero, suc, ◌+◌, ◌<◌, ◌≤◌, List, [], ◌∷◌, ◌++◌, length, get_or, take, map, sym, refl, ap, ◌∙◌, add-one, take-suc, take_all, arith}
use Rattle.std.proofs.lemmas.List.{length-map}
use lib.Bits.{bit_xor}
use Rattle.hash.specs.Fnv.{fnv_from, times_prime, children_bytes, bytes32}

pub fnv_append : (h : ℕ) (a b : List ℕ) → fnv_from h (a ++ b) ≡ fnv_from (fnv_from h a) b
unfolding fnv_from
fnv_append h [] b = refl
fnv_append h (x ∷ a) b = fnv_append (times_prime (bit_xor h x)) a b

child_append : (h : ℕ) (a : List ℕ) (k : ℕ) → fnv_from h (children_bytes (a ++ (k ∷ []))) ≡ fnv_from (fnv_from h (children_bytes a)) (bytes32 k)
unfolding fnv_from children_bytes
child_append h [] k = fnv_append h (bytes32 k) []
child_append h (x ∷ a) k =
    fnv_append h (bytes32 x) (children_bytes (a ++ (k ∷ [])))
    ∙ child_append (fnv_from h (bytes32 x)) a k
    ∙ ap (λ (n : ℕ). fnv_from n (bytes32 k)) (sym (fnv_append h (bytes32 x) (children_bytes a)))

-- ---- children of any type that has numbers
module _ {X : Type 0} (value : X → ℕ) where
  -- an item of the children's numbers
  item_value : (xs : List X) (i : ℕ) (x : X) → i < length xs → get_or xs i x ≡ x → get_or (map value xs) i 0 ≡ value x
  item_value [] i x l e = absurd (omega arith)
  item_value (y ∷ xs) zero x l e = ap value e
  item_value (y ∷ xs) (suc i) x l e = item_value xs i x (omega arith) e

  -- one child more
  pub child_more : (h : ℕ) (xs : List X) (i : ℕ) (x : X) → i < length xs → get_or xs i x ≡ x → fnv_from (fnv_from h (children_bytes (take i (map value xs)))) (bytes32 (value x)) ≡ fnv_from h (children_bytes (take (i + 1) (map value xs)))
  child_more h xs i x l e = rw (← item_value xs i x l e, add-one, take-suc (map value xs) i 0 (rw (length-map xs value) l)) (sym (child_append h (take i (map value xs)) (get_or (map value xs) i 0)))

  -- all of them
  pub all_children : (xs : List X) (i : ℕ) → length xs ≤ i → take i (map value xs) ≡ map value xs
  all_children xs i l = take_all i (map value xs) (rw (length-map xs value) l)
