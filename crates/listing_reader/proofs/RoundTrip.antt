-- What the listing of a sheet wrote is read back. Nothing calls this: it puts the contract of `read` beside 01's listing.
use Prim.Native.Nat.{ℕ, ◌+◌, ◌*◌, ◌≤◌, ◌<◌}
use mathlib.Core.Path.{◌≡◌, sym, ap, ap₂, ◌∙◌}
use mathlib.Core.List.{List, ◌∷◌, ◌++◌, append-nil}
use lib.ListN.{length, get_or, take}
use Rattle.definitions.specs.Sheet.{Ran, sheet}
use Rattle.definitions.specs.Listing.{line_feed, node_lines, listing}
use Rattle.arena.specs.declared.DagArena.{DagArena}
use Rattle.arena.specs.Layout.{node_words}
use Rattle.arena.specs.Node.{node_at}
use Rattle.store.specs.Sound.{Sound}
use Rattle.store.specs.View.{nodes_in}
use Rattle.store.specs.Memory.{Memory, model}
use Rattle.listing_lines.specs.declared.SheetOutcome.{SheetOutcome}
use Rattle.listing_lines.specs.Outcome.{outcome_of}
use Rattle.listing_lines.proofs.Lines.{first_line_is}
use Rattle.listing_reader.specs.declared.ListingAnswer.{ListingAnswer}
use Rattle.listing_reader.specs.declared.ListingAnswer.TheVariants.{Read}
use Rattle.listing_reader.specs.Numbers.{word_end}
use Rattle.listing_reader.specs.First.{SmallOutcome}
use Rattle.listing_reader.specs.Listing.{AnswerListed, IsListing, ListingReading}
use Rattle.listing_reader.proofs.SheetAnswers.{answer_listed}

module _ (ran : Ran) (words slots : List ℕ) (arena : DagArena) (sound : Sound words slots arena) (wide : (i : ℕ) → get_or words i 0 < word_end) (same : nodes_in words arena.count ≡ ran.left.nodes) (small : SmallOutcome (outcome_of ran.refusal ran.answers)) (listed : AnswerListed (outcome_of ran.refusal ran.answers) arena.count) where
  -- the listing of a result whose nodes a sound store holds is a listing in the reader's sense
  pub listing_is : IsListing (listing ran) (outcome_of ran.refusal ran.answers) words arena.count
  unfolding listing node_at
  listing_is = record {
    begins = record {
      text = ap₂ (λ (x y : List ℕ). x ++ line_feed ∷ y) (sym (first_line_is ran.refusal ran.answers)) (ap (node_lines 0) (sym same) ∙ sym (append-nil (node_lines 0 (nodes_in words arena.count))));
      small = small;
      formed = sound.nodes.formed;
      wide = λ i l. wide (i * node_words + 1);
    };
    answer = listed;
  }

  -- so it is read back: its first line, its count of nodes, and every word of them
  pub read_back : {before after : List ℕ} {r : ListingAnswer} → ListingReading (listing ran) before r after → arena.count * node_words ≤ length before → (r ≡ Read (outcome_of ran.refusal ran.answers) arena.count) × (take (arena.count * node_words) after ≡ take (arena.count * node_words) words)
  read_back d fits = d.whole (outcome_of ran.refusal ran.answers) words arena.count listing_is fits

-- A sheet on a sound store answers one of the nodes that it leaves, so that its listing is read back.
module _ (m : Memory) (good : model.Sound m) (bytes : List ℕ) where
  abbrev result : Ran
  result = sheet (model.lent m) (model.view m) bytes

  abbrev said : SheetOutcome
  said = outcome_of result.refusal result.answers

  pub sheet_read_back : (words slots : List ℕ) (arena : DagArena) → Sound words slots arena → ((i : ℕ) → get_or words i 0 < word_end) → nodes_in words arena.count ≡ result.left.nodes → SmallOutcome said
      → {before after : List ℕ} {r : ListingAnswer} → ListingReading (listing result) before r after → arena.count * node_words ≤ length before
      → (r ≡ Read said arena.count) × (take (arena.count * node_words) after ≡ take (arena.count * node_words) words)
  sheet_read_back words slots arena sound wide same small d fits = read_back result words slots arena sound wide same small (answer_listed m bytes words arena.count good same) d fits
