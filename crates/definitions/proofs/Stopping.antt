-- Building stops by 21 or 22 alone.
use Prim.Native.Nat.{ℕ, suc, min}
use mathlib.Core.Path.{◌≡◌, refl}
use mathlib.Core.Bool.{Bool, true, false, cond}
use mathlib.Core.List.{List}
use mathlib.Core.Logic.{◌⊎◌, inl, inr}
use mathlib.Core.Option.{Option, none, some}
use lib.ListN.{length}
use lib.Dec.{leb, ltb}
use Rattle.definitions.specs.Limits.{most_nodes}
use Rattle.definitions.specs.Refusals.{no_node_place, no_slot_place}
use Rattle.definitions.specs.Node.{Node}
use Rattle.definitions.specs.Intern.{Lent, Built, built, stopped, then, find, table_size, no_place, add_new, found_or_new, intern}

-- "A walk or prune stopped by 21 or 22"
abbrev pub NoPlace : ℕ → Type 0
NoPlace number = (number ≡ no_node_place) ⊎ (number ≡ no_slot_place)

abbrev pub StopsForPlace : Built → Type 0
StopsForPlace (built ns i) = Unit {0}
StopsForPlace (stopped ns number) = NoPlace number

new_stops : (l : Lent) (ns : List Node) (n : Node) → StopsForPlace (add_new ns n (no_place l (length ns)))
unfolding no_place
new_stops l ns n = by (leb (min l.nodes most_nodes) (length ns)) (ltb l.slots (table_size (suc (length ns))))
  where
    by : (a b : Bool) → StopsForPlace (add_new ns n (cond a (some no_node_place) (cond b (some no_slot_place) none)))
    by true b = inl refl
    by false true = inr refl
    by false false = tt

pub intern_stops : (l : Lent) (ns : List Node) (n : Node) → StopsForPlace (intern l ns n)
unfolding intern
intern_stops l ns n = by (find n ns 0)
  where
    by : (o : Option ℕ) → StopsForPlace (found_or_new l ns n o)
    by none = new_stops l ns n
    by (some i) = tt

pub then_stops : (m : Built) (f : List Node → ℕ → Built) → StopsForPlace m → ((ns : List Node) (i : ℕ) → StopsForPlace (f ns i)) → StopsForPlace (then m f)
then_stops (built ns i) f s t = t ns i
then_stops (stopped ns number) f s t = s
