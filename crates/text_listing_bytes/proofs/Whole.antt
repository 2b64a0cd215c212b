-- The whole listing, from its parts.
use Prim.Native.Nat.{ℕ, ◌+◌, ◌*◌, ◌/◌, ◌≤◌}
use mathlib.Core.Path.{◌≡◌, refl, sym, ap, ap₂, ◌∙◌, subst}
use mathlib.Core.List.{List, ◌++◌}
use lib.ListN.{length, take, drop, replicate}
use lib.Seq.{take_at, drop_at}
use native.Mathlib.Omega.{arith}
use Rattle.arena.specs.declared.DagArena.{DagArena}
use Rattle.arena.specs.Layout.{node_words}
use Rattle.arena.specs.Nodes.{Nodes}
use Rattle.definitions.specs.Node.{Node}
use Rattle.definitions.specs.Listing.{listing}
use Rattle.definitions.specs.Controller.{LentLists, Controller, AfterCall}
use Rattle.store.specs.declared.NodeAnswer.{NodeAnswer}
use Rattle.store.specs.declared.NodeAnswer.TheVariants.{Id, Refused}
use Rattle.store.specs.View.{nodes_in}
use Rattle.name_entries.specs.Sound.{SoundNames, names_of, lent_entries}
use Rattle.listing_lines.specs.Line.{line_bytes}
use Rattle.listing_lines.specs.Outcome as Shown
use Rattle.listing_lines.specs.Outcome.{all_lines}
use Rattle.listing_lines.specs.Filling.{PutsLine, Fills}
use Rattle.listing_lines.proofs.Lines.{later_rest, listing_of_memory}
use Rattle.text.specs.Memory.{controller_memory}
use Rattle.text_listing_bytes.specs.Names.{name_lines}
use Rattle.listing_lines.specs.declared.SheetOutcome as Outcome
use Rattle.text.specs.Calling.{answered}
use Rattle.text_listing_bytes.specs.declared.TextListing.{TextListing}
use Rattle.text_listing_bytes.specs.Listed.{text_lent, text_listing_bytes, lent_lists, read_text, ReadsFresh, PlaceOf, outcome_of, ran_of, text_listing, Lines, ListedText}

-- how much the program lends
lent_is : (words slots entries : List ℕ) → length words ≡ 512 * node_words → length slots ≡ 1024 → length entries ≡ 4224 → lent_lists words slots entries ≡ text_lent
unfolding lent_lists
lent_is words slots entries w l e =
    ap (λ (n : ℕ). record { store = record { nodes = n / node_words; slots = length slots }; names = lent_entries entries }) w
    ∙ ap (λ (n : ℕ). record { store = record { nodes = 512; slots = n }; names = lent_entries entries }) l
    ∙ ap (λ (n : ℕ). record { store = record { nodes = 512; slots = 1024 }; names = n / 33 }) e

-- the nodes and the names are no more than the lists hold
pub few_nodes : (words : List ℕ) (count : ℕ) → Nodes words count → length words ≡ 512 * node_words → count ≤ 512
few_nodes words count h k = let f = h.formed.fits in omega (arith, f, k)

pub few_names : (entries : List ℕ) (names : ℕ) → SoundNames entries names → length entries ≡ 4224 → names ≤ 128
few_names entries names h k = let f : names ≤ length entries / 33 = h.lent in omega (arith, f, k)

-- and there is room for their lines
pub room_for_nodes : (count long : ℕ) → count ≤ 512 → long ≡ 641 * line_bytes → (count + 1) * line_bytes ≤ long
room_for_nodes count long h k = omega arith

pub room_for_names : (count names n long : ℕ) → n ≤ (count + 1) * line_bytes → count ≤ 512 → names ≤ 128 → long ≡ 641 * line_bytes → n + names * line_bytes ≤ long
room_for_names count names n long f g h k = omega arith

outcome_is : (a : NodeAnswer) (place : ℕ) (ns : List Node) → outcome_of a place ≡ Shown.outcome_of (ran_of a place ns).refusal (ran_of a place ns).answers
outcome_is (Id id) place ns = refl
outcome_is (Refused number) place ns = refl

nodes_left : (a : NodeAnswer) (place : ℕ) (ns : List Node) → (ran_of a place ns).left.nodes ≡ ns
nodes_left (Id id) place ns = refl
nodes_left (Refused number) place ns = refl

module _ (s words slots entries : List ℕ) (a : NodeAnswer) (words' slots' : List ℕ) (arena : DagArena) (entries' : List ℕ) (names : ℕ)
    (h : ReadsFresh s (lent_lists words slots entries) a (controller_memory words' slots' arena entries' names)) (w : length words ≡ 512 * node_words) (l : length slots ≡ 1024) (e : length entries ≡ 4224) where
  after : read_text (lent_lists words slots entries) s ≡ read_text text_lent s
  after = ap (λ (x : LentLists). read_text x s) (lent_is words slots entries w l e)

  module _ (place : ℕ) (p : PlaceOf s a place) (r : TextListing) (q : Lines a place words' arena.count entries' names r) where
    nodes_are : nodes_in words' arena.count ≡ (read_text text_lent s).left.nodes
    nodes_are = ap (λ (x : Controller). x.nodes) h.left ∙ ap (λ (x : AfterCall). x.left.nodes) after

    names_are : names_of entries' names ≡ (read_text text_lent s).left.names
    names_are = ap (λ (x : Controller). x.names) h.left ∙ ap (λ (x : AfterCall). x.left.names) after

    lines_are : all_lines (outcome_of a place) words' arena.count ≡ listing (ran_of a place (read_text text_lent s).left.nodes)
    lines_are =
        listing_of_memory (outcome_of a place) words' arena.count (ran_of a place (read_text text_lent s).left.nodes) (outcome_is a place (read_text text_lent s).left.nodes)
        (nodes_are ∙ sym (nodes_left a place (read_text text_lent s).left.nodes))

    pub listed : ListedText s r
    listed = record {
      answer = ap answered q.answer ∙ h.answer ∙ ap (λ (x : AfterCall). x.answer) after;
      place = subst (λ (x : NodeAnswer). PlaceOf s x r.place) (sym q.answer) (subst (PlaceOf s a) (sym q.place) p);
      is =
          q.is ∙ ap₂ (λ (x y : List ℕ). x ++ y) lines_are (ap name_lines names_are)
          ∙ sym (ap₂ (λ (x : NodeAnswer) (y : ℕ). text_listing x y (read_text text_lent s).left) q.answer q.place);
      within = q.within;
      rest = q.rest;
    }

-- the lines in one array
pub lines_in : (a : NodeAnswer) (place : ℕ) (words : List ℕ) (count : ℕ) (entries : List ℕ) (names : ℕ) (b₁ b₂ : List ℕ) (n r : ℕ) (o : Outcome.SheetOutcome) → o ≡ outcome_of a place
    → Fills (all_lines o words count) n (replicate text_listing_bytes 0) b₁ → PutsLine (name_lines (names_of entries names)) n b₁ r b₂ → r ≤ length b₂
    → Lines a place words count entries names (record { bytes = b₂; length = r; answer = a; place = place })
lines_in a place words count entries names b₁ b₂ n r o e f q k =
    let zeros : List ℕ = replicate text_listing_bytes 0 in
    let start : take n b₁ ≡ all_lines o words count = ap (take n) f.is ∙ take_at (all_lines o words count) (drop n zeros) n (sym f.long) in
    let past : drop n b₁ ≡ drop n zeros = ap (drop n) f.is ∙ drop_at (all_lines o words count) (drop n zeros) n (sym f.long) in
    record {
      answer = refl;
      place = refl;
      is = q.is ∙ ap (λ (x : List ℕ). x ++ name_lines (names_of entries names)) (start ∙ ap (λ (x : Outcome.SheetOutcome). all_lines x words count) e);
      within = k;
      rest = q.rest ∙ later_rest n r b₁ zeros (let p = q.place in omega arith) past;
    }
