-- The words of a node stored part by part.
use Prim.Native.Nat.{ℕ, ◌+◌, ◌*◌, ◌≤◌}
use mathlib.Core.Path.{◌≡◌}
use mathlib.Core.List.{List}
use lib.ListN.{length, set}
use lib.Seq.{paste}
use Rattle.hash.specs.Fnv.{node_hash_of}
use Rattle.arena.specs.Layout.{node_words, most_children}
use Rattle.arena.specs.Node.{put, coefficient, places_of, node_of}
use Rattle.arena.proofs.Places.{places_length}
use Rattle.arena.proofs.Putting.{stored}

pub stored_parts : (w : List ℕ) (id kind payload flags hash weight : ℕ) (c : List ℕ) → id * node_words + node_words ≤ length w → length c ≤ most_children → hash ≡ node_hash_of kind payload c → weight ≡ coefficient kind payload → paste (set (set (set (set (set (set w (id * node_words + 0) kind) (id * node_words + 1) payload) (id * node_words + 2) hash) (id * node_words + 3) weight) (id * node_words + 4) flags) (id * node_words + 5) (length c)) (id * node_words + 6) (places_of c) most_children ≡ put w id (node_of kind payload flags c)
unfolding node_of
stored_parts w id kind payload flags hash weight c fits few h e = rw (h, e) (stored w id (node_of kind payload flags c) fits (places_length c few))
