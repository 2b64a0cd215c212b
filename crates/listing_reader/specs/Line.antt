-- What reading the line of a node finds.
use Rattle.std.specs.Prelude.{ℕ, ◌≤◌, ◌<◌, ◌≡◌, List, ◌∷◌, ◌++◌, length, get_or, take, drop, Option, Some, None}
use Rattle.definitions.specs.Listing.{space, line_feed, decimal, hex, children_part, node_line}
use Rattle.arena.specs.declared.node.DagNode.{DagNode}
use Rattle.arena.specs.Layout.{most_children}
use Rattle.arena.specs.Nodes.{WellFormed}
use Rattle.store.specs.View.{plain_node}
use Rattle.listing_reader.specs.declared.node.Heading.{Heading}
use Rattle.listing_reader.specs.declared.node.Children.{Children}
use Rattle.listing_reader.specs.declared.node.ListedNode.{ListedNode}
use Rattle.listing_reader.specs.Numbers.{word_end, EndsDigits}

-- ---- before the children: "id, kind, payload in 16 capital hex digits, flags"

abbrev pub headed : ℕ → ℕ → ℕ → ℕ → List ℕ → List ℕ
headed id kind payload flags rest = decimal id ++ (space ∷ (decimal kind ++ (space ∷ (hex payload ++ (space ∷ (decimal flags ++ rest))))))

-- each a word of 64 bits
pub record SmallHeading (id kind payload flags : ℕ) : Type 0 where
  pub id_small : id < word_end
  pub kind_small : kind < word_end
  pub payload_small : payload < word_end
  pub flags_small : flags < word_end

-- these numbers stand at a place, and end at the next one
pub record HeadingAt (bytes : List ℕ) (at id kind payload flags next : ℕ) : Type 0 where
  pub text : drop at bytes ≡ headed id kind payload flags (drop next bytes)
  pub follows : EndsDigits (drop next bytes)
  pub small : SmallHeading id kind payload flags

abbrev pub heading : ℕ → ℕ → ℕ → ℕ → ℕ → Heading
heading id kind payload flags next = record { id = id; kind = kind; payload = payload; flags = flags; next = next }

pub record ReadsHeading (bytes : List ℕ) (at : ℕ) (r : Option Heading) : Type 0 where
  pub found : (id kind payload flags next : ℕ) → r ≡ Some (heading id kind payload flags next) → HeadingAt bytes at id kind payload flags next
  pub nothing : r ≡ None → (id kind payload flags : ℕ) (rest : List ℕ) → SmallHeading id kind payload flags → EndsDigits rest → drop at bytes ≡ headed id kind payload flags rest → ⊥

-- ---- the children, and the line's end

-- the line ends at a place, and the children before it are as they were read
pub record ReadsEnd (bytes : List ℕ) (at count : ℕ) (places : List ℕ) (r : Option Children) : Type 0 where
  pub text : (c : Children) → r ≡ Some c → drop at bytes ≡ line_feed ∷ drop c.next bytes
  pub counted : (c : Children) → r ≡ Some c → c.count ≡ count
  pub placed : (c : Children) → r ≡ Some c → c.places ≡ places
  pub nothing : r ≡ None → (rest : List ℕ) → drop at bytes ≡ line_feed ∷ rest → ⊥

-- so many children are read into the places; unused ones are 0
pub record PlacedChildren (places : List ℕ) (count : ℕ) : Type 0 where
  pub four : length places ≡ most_children
  pub few : count ≤ most_children
  pub unused : (j : ℕ) → count ≤ j → get_or places j 0 ≡ 0
  pub small : (j : ℕ) → get_or places j 0 < word_end

pub record ReadsChildren (bytes : List ℕ) (at : ℕ) (r : Option Children) : Type 0 where
  pub text : (c : Children) → r ≡ Some c → drop at bytes ≡ children_part (take c.count c.places) ++ line_feed ∷ drop c.next bytes
  pub placed : (c : Children) → r ≡ Some c → PlacedChildren c.places c.count
  pub nothing : r ≡ None → (cs : List ℕ) (rest : List ℕ) → length cs ≤ most_children → ((j : ℕ) → get_or cs j 0 < word_end) → drop at bytes ≡ children_part cs ++ line_feed ∷ rest → ⊥

-- ---- the line

-- A node of an id as the listing has it, in a text that goes on after its line: `WellFormed` says that kind, payload and child count are as
-- listed, children lower than the id, unused places 0, flags 0 to 7, hash and coefficient as they follow from these. That no two nodes are one
-- is not asked.
pub record LineOf (text : List ℕ) (id : ℕ) (n : DagNode) (rest : List ℕ) : Type 0 where
  pub is : text ≡ node_line id (plain_node n) ++ line_feed ∷ rest
  pub formed : WellFormed id n
  pub four : length n.children ≡ most_children
  pub wide : n.payload < word_end

-- no such line
abbrev pub NoLine : List ℕ → ℕ → Type 0
NoLine text id = (n : DagNode) (rest : List ℕ) → LineOf text id n rest → ⊥

pub record ReadsLine (bytes : List ℕ) (at id : ℕ) (r : Option ListedNode) : Type 0 where
  pub found : (n : ListedNode) → r ≡ Some n → LineOf (drop at bytes) id n.node (drop n.next bytes)
  pub nothing : r ≡ None → id < word_end → NoLine (drop at bytes) id
