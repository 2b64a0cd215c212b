-- The hash of a key is that of its node, and its children have their places.
use Prim.Native.Nat.{ℕ, ◌+◌, ◌%◌}
use mathlib.Core.Path.{◌≡◌, sym, ap, ◌∙◌}
use mathlib.Core.List.{List}
use lib.ListN.{length}
use Rattle.hash.specs.Fnv.{node_hash_of}
use Rattle.arena.specs.declared.key.Key.{Key}
use Rattle.arena.specs.Key.{node_of_key}
use Rattle.arena.specs.Layout.{most_children}
use Rattle.arena.specs.Node.{node_hash, node_of}
use Rattle.slots.specs.Insert.{FirstFree}
use Rattle.slots.proofs.Rounds.{round_from}
use Rattle.arena.proofs.Places.{places_taken, places_length}

module _ (k : Key) where
  pub key_hash : k.hash ≡ (node_of_key k).hash
  unfolding node_of
  key_hash = k.hashed

  pub key_hashed : (node_of_key k).hash ≡ node_hash (node_of_key k)
  unfolding node_of node_hash
  key_hashed = ap (node_hash_of k.parts.kind k.parts.payload) (sym (places_taken k.parts.children.now))

  pub key_places : length (node_of_key k).children ≡ most_children
  unfolding node_of
  key_places = places_length k.parts.children.now k.parts.few

  -- so many places onward from the key's own place is onward from its node's hash
  pub key_round : (home far at size : ℕ) → home ≡ k.hash % size → at ≡ (home + far) % size → at ≡ ((node_of_key k).hash + far) % size
  key_round home far at size is e = e ∙ round_from k.hash home far size is ∙ ap (λ (h : ℕ). (h + far) % size) key_hash

  -- the first free place from the key's hash is that from its node's
  pub free_from_key : (slots : List ℕ) (size place : ℕ) → FirstFree slots size k.hash place → FirstFree slots size (node_of_key k).hash place
  free_from_key slots size place f = rw (← key_hash) f

  pub free_from_node : (slots : List ℕ) (size place : ℕ) → FirstFree slots size (node_of_key k).hash place → FirstFree slots size k.hash place
  free_from_node slots size place f = rw key_hash f
