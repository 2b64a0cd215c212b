-- The listing program's store and room are enough for every sheet.
use Prim.Native.Nat.{ℕ, ◌+◌, ◌*◌, ◌/◌, ◌≤◌}
use mathlib.Core.Path.{◌≡◌, ap, ap₂, ◌∙◌}
use mathlib.Core.Bool.{false}
use mathlib.Core.List.{List, ◌++◌}
use lib.ListN.{length, drop, length-append}
use lib.Dec.{ltb}
use native.Mathlib.Omega.{arith}
use Rattle.arena.specs.Layout.{node_words}
use Rattle.arena.specs.Nodes.{Nodes}
use Rattle.arena.specs.declared.DagArena.{DagArena}
use Rattle.definitions.specs.Intern.{Lent}
use Rattle.definitions.specs.Machine.{empty, fresh_refused}
use Rattle.definitions.specs.Sheet.{sheet}
use Rattle.definitions.specs.Listing.{listing}
use Rattle.store.specs.View.{lent}
use Rattle.listing_lines.specs.Line.{line_bytes}
use Rattle.listing_lines.specs.Outcome.{all_lines}
use Rattle.listing_lines.specs.Filling.{Fills}
use Rattle.sheet.specs.declared.Ran.{Ran}
use Rattle.sheet.specs.Sheets.{RunsFresh}
use Rattle.listing_bytes.specs.Listed.{listing_lent, Listed}

-- the longest line for each node that the words hold, and one more
pub room : (words : List ℕ) (count long : ℕ) → Nodes words count → length words ≡ 512 * node_words → long ≡ 513 * line_bytes → (count + 1) * line_bytes ≤ long
room words count long n w b = let f = n.formed.fits in omega arith

pub listed : (s words slots : List ℕ) (none : DagArena) (r : Ran) (words' slots' before after : List ℕ) (n : ℕ) → none.count ≡ 0 → length words ≡ 512 * node_words → length slots ≡ 1024 → RunsFresh s words slots none r words' slots' → Fills (all_lines r.outcome words' r.arena.count) n before after → Listed s before n after
listed s words slots none r words' slots' before after n z w l p f =
    let opened : fresh_refused (lent words slots) ≡ false = ap (λ (k : ℕ). ltb k 64) l in
    let same : lent words slots ≡ listing_lent = ap₂ (λ (a b : ℕ). record { nodes = a / node_words; slots = b }) w l in
    let text : all_lines r.outcome words' r.arena.count ≡ listing (sheet listing_lent empty s) = p.listing opened z ∙ ap (λ (x : Lent). listing (sheet x empty s)) same in
    record {
      is = f.is ∙ ap (λ (t : List ℕ). t ++ drop n before) text;
      long = f.long ∙ ap length text;
      within = let whole : length after ≡ length (all_lines r.outcome words' r.arena.count) + length (drop n before) = ap length f.is ∙ length-append (all_lines r.outcome words' r.arena.count) (drop n before) in let k = f.long in omega arith;
    }
