-- Lists of ids that lie below a number.
use Prim.Native.Nat.{ℕ, zero, suc, ◌<◌}
use mathlib.Core.Bool.{Bool, true, false, cond}
use mathlib.Core.List.{List, [], ◌∷◌, ◌++◌, map}
use native.Mathlib.Omega.{arith}
use Rattle.definitions.specs.Prune.{concat, filter}
use Rattle.definitions.proofs.Stable.{Lower}
use Rattle.chains.specs.Terms.{AllBelow}

-- by places and by parts
pub lower_of : (n : ℕ) (ids : List ℕ) → AllBelow n ids → Lower n ids
lower_of n [] h = tt
lower_of n (i ∷ ids) h = (h 0 (omega arith), lower_of n ids (λ j l. h (suc j) (omega arith)))

pub below_of : (n : ℕ) (ids : List ℕ) → Lower n ids → AllBelow n ids
below_of n [] h j l = absurd (omega arith)
below_of n (i ∷ ids) h zero l = h.0
below_of n (i ∷ ids) h (suc j) l = below_of n ids h.1 j (omega arith)

pub lower_append : (n : ℕ) (a b : List ℕ) → Lower n a → Lower n b → Lower n (a ++ b)
lower_append n [] b x y = y
lower_append n (i ∷ a) b x y = (x.0, lower_append n a b x.1 y)

pub lower_parts : (n : ℕ) (a b : List ℕ) → Lower n (a ++ b) → Lower n a × Lower n b
lower_parts n [] b l = (tt, l)
lower_parts n (i ∷ a) b l = let t = lower_parts n a b l.1 in ((l.0, t.0), t.1)

pub lower_concat : (n m : ℕ) (f : ℕ → List ℕ) → ((k : ℕ) → k < m → Lower n (f k)) → (ids : List ℕ) → Lower m ids → Lower n (concat (map f ids))
lower_concat n m f h [] l = tt
lower_concat n m f h (i ∷ ids) l = lower_append n (f i) (concat (map f ids)) (h i l.0) (lower_concat n m f h ids l.1)

pub lower_filter : (n : ℕ) (p : ℕ → Bool) (ids : List ℕ) → Lower n ids → Lower n (filter p ids)
lower_filter n p [] l = tt
lower_filter n p (i ∷ ids) l = go (p i) (lower_filter n p ids l.1)
  where
    go : (b : Bool) → Lower n (filter p ids) → Lower n (cond b (i ∷ filter p ids) (filter p ids))
    go true r = (l.0, r)
    go false r = r
