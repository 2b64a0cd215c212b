-- What reading a listing answers, and leaves in the lent words.
use Rattle.std.specs.Prelude.{ℕ, ◌+◌, ◌*◌, ◌-◌, ◌/◌, ◌≤◌, ◌<◌, ◌≡◌, List, [], ◌∷◌, ◌++◌, length, take, drop}
use Rattle.definitions.specs.Listing.{line_feed, node_lines}
use Rattle.arena.specs.declared.node.DagNode.{DagNode}
use Rattle.arena.specs.Layout.{node_words, most_nodes}
use Rattle.arena.specs.Node.{node_at}
use Rattle.arena.specs.Nodes.{AllWellFormed}
use Rattle.store.specs.View.{nodes_in}
use Rattle.listing_lines.specs.declared.SheetOutcome.{SheetOutcome}
use Rattle.listing_lines.specs.declared.SheetOutcome.TheVariants.{Ok, Empty, Spent, Refused as RefusedAt}
use Rattle.listing_lines.specs.Outcome.{first_line_of}
use Rattle.listing_reader.specs.declared.ListingAnswer.{ListingAnswer}
use Rattle.listing_reader.specs.declared.ListingAnswer.TheVariants.{Read, Refused, Full}
use Rattle.listing_reader.specs.Numbers.{word_end}
use Rattle.listing_reader.specs.First.{SmallOutcome, NoFirst}
use Rattle.listing_reader.specs.Line.{LineOf, NoLine}

-- Bytes that begin with the first line of an outcome and the lines of so many nodes in memory, each of them as a listing has it.
pub record Begins (bytes : List ℕ) (o : SheetOutcome) (words : List ℕ) (count : ℕ) (rest : List ℕ) : Type 0 where
  pub text : bytes ≡ first_line_of o ++ line_feed ∷ (node_lines 0 (nodes_in words count) ++ rest)
  pub small : SmallOutcome o
  pub formed : AllWellFormed words count
  pub wide : (i : ℕ) → i < count → (node_at words i).payload < word_end

-- the id of an outcome is that of one of so many nodes; an outcome without an id asks for none
abbrev pub AnswerListed : SheetOutcome → ℕ → Type 0
AnswerListed (Ok i) count = i < count
AnswerListed Empty count = Unit {0}
AnswerListed (Spent i) count = i < count
AnswerListed (RefusedAt number at) count = Unit {0}

-- Bytes that are the listing of an outcome and of the nodes in memory, the outcome's id among them. A refusal's numbers are only asked to
-- be words of 64 bits, and the nodes only to be well formed: two of them may be the same.
pub record IsListing (bytes : List ℕ) (o : SheetOutcome) (words : List ℕ) (count : ℕ) : Type 0 where
  pub begins : Begins bytes o words count []
  pub answer : AnswerListed o count

-- The number of the first line that is wrong: 1, where no first line stands; else that of a line that is there, after the lines of so many
-- nodes, and is not the line of the next node as a listing has it, or comes after the 65,536 nodes that a store may have; or that of the line of
-- the next node, where the bytes end before it and the first line's id is none of the nodes before.
pub data Wrong (bytes words : List ℕ) : ℕ → Type 0 where
  first : NoFirst bytes → Wrong bytes words 1
  later : (o : SheetOutcome) (count : ℕ) (rest : List ℕ) → Begins bytes o words count rest → (rest ≡ [] → ⊥) → (count < most_nodes → NoLine rest count) → Wrong bytes words (count + 2)
  missing : (o : SheetOutcome) (count : ℕ) → Begins bytes o words count [] → (AnswerListed o count → ⊥) → Wrong bytes words (count + 2)

-- the lines of so many nodes, and of one more that a store may have, are right
pub record OneMore (bytes words : List ℕ) (count : ℕ) : Type 0 where
  pub many : count < most_nodes
  pub outcome : SheetOutcome
  pub rest : List ℕ
  pub node : DagNode
  pub after : List ℕ
  pub begins : Begins bytes outcome words count rest
  pub line : LineOf rest count node after

-- how many nodes are written
abbrev pub written : ℕ → ListingAnswer → ℕ
written lent (Read o count) = count
written lent (Refused line) = line - 2
written lent Full = lent

-- What is read are the nodes whose listing the bytes are (`right`). Every listing of a store's nodes is read, back to the words of the
-- nodes, if there is place for them (`whole`), and else answered with `Full` (`short`). Bytes that are no listing in the sense of
-- `IsListing` are refused with the number of the first line that is wrong (`refused`), unless more nodes stand before it than there is
-- place for (`full`): never, if 65,536 nodes have place. Words past the nodes stay (`past`).
pub record ListingReading (bytes before : List ℕ) (r : ListingAnswer) (after : List ℕ) : Type 0 where
  pub right : (o : SheetOutcome) (count : ℕ) → r ≡ Read o count → IsListing bytes o after count
  pub whole : (o : SheetOutcome) (words : List ℕ) (count : ℕ) → IsListing bytes o words count → count * node_words ≤ length before → (r ≡ Read o count) × (take (count * node_words) after ≡ take (count * node_words) words)
  pub short : (o : SheetOutcome) (words : List ℕ) (count : ℕ) → IsListing bytes o words count → length before < count * node_words → r ≡ Full
  pub refused : (line : ℕ) → r ≡ Refused line → Wrong bytes after line
  pub full : r ≡ Full → OneMore bytes after (length before / node_words)
  pub past : drop (written (length before / node_words) r * node_words) after ≡ drop (written (length before / node_words) r * node_words) before
  pub long : length after ≡ length before
