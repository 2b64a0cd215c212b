-- A text that a reading reads to a node that is there, without a new name, denotes the node's formula under the names as they are.
use Rattle.std.proofs.Common.{◌≡◌, ℕ, zero, suc, ◌<◌, ◌≤◌, Bool, true, ◌&&◌, List, [], ◌∷◌, length, take, drop, sym, refl, ◌∙◌, subst, ap₂, arith, take_at, le-leb}
use mathlib.Core.Option.{some}
use Rattle.text_language.specs.Reading.{verdict}
use Rattle.text_language.proofs.Reading.{judged}
use Rattle.definitions.specs.Names.{length_allowed}
use Rattle.definitions.specs.Formula.{formula}
use Rattle.definitions.specs.Controller.{LentLists, Controller, controller_call, reading, stored, store_part, names_part}
use Rattle.definitions.specs.Promise.{nth, Spells, ReadTo, ControllerCalled, All}
use Rattle.definitions.specs.Beside.{SoundPart}
use Rattle.definitions.proofs.NameLists.{Listed}
use Rattle.definitions.proofs.Going.{Whole, Goes}
use Rattle.definitions.proofs.Readings.{reading_goes, reading_says}
use Rattle.store.specs.Memory.{model}
use Rattle.names.specs.Memory.{name_model}
use Rattle.name_entries.specs.Sound as NameList
use Rattle.name_entries.specs.Entry.{entry_at}
use Rattle.name_entries.proofs.Entries.{entry_length, name_length}
use Rattle.names.proofs.Listing.{names_length, names_at}
use Rattle.text.specs.Memory.{ControllerMemory, lent_controller, controller_of, lent_of, BothSound}
use Rattle.pruned_again.proofs.Fitting.{fitting}
use Rattle.pruned_again.proofs.SoundStores.{sound_plainly}
use Rattle.expression_text.specs.Written.{bracket_pairs}
use Rattle.writer.specs.Writing.{Writes, unsound, unknown, textless, too_long, written, ReadTexts, FewestRead}
use Rattle.writer.specs.Answers.{WriteAnswer, Length}
use Rattle.writer.proofs.Spelling.{nth_is}
use Rattle.writer.proofs.Leaves.{named_at}

-- ---- sound lists are what the plain machine's laws ask for

nth_below : (names : List (List ℕ)) (i : ℕ) (w : List ℕ) → nth names i ≡ some w → i < length names
nth_below [] i w e = let z : ◌≡◌ {A = ℕ} 0 1 = cc in absurd (omega arith)
nth_below (x ∷ names) zero w e = omega arith
nth_below (x ∷ names) (suc i) w e = let z = nth_below names i w e in omega arith

module _ (es : List ℕ) (named : ℕ) (s : NameList.SoundNames es named) where
  abbrev names : List (List ℕ)
  names = NameList.names_of es named

  listed_below : (i : ℕ) (w : List ℕ) → nth names i ≡ some w → i < named
  listed_below i w e = let z = nth_below names i w e in omega (arith, names_length es named)

  listed_at : (i : ℕ) (w : List ℕ) → nth names i ≡ some w → NameList.name_at es i ≡ w
  listed_at i w e = sym (names_at es named i (listed_below i w e)) ∙ nth_is names i w e

  allowed : (i : ℕ) → i < named → length_allowed (NameList.name_at es i) ≡ true
  allowed i h =
      let e = s.entries i h in
      let l = name_length (entry_at es i) (entry_length es i (named_at es named s i h).fits) e.longest in
      let short = e.shortest in
      let long = e.longest in
      ap₂ (λ (x y : Bool). x && y) (le-leb 1 (length (NameList.name_at es i)) (omega arith)) (le-leb (length (NameList.name_at es i)) 32 (omega arith))

  names_listed : Listed names
  names_listed = record {
    once = λ i j w p q. s.once i j (listed_below i w p) (listed_below j w q) (listed_at i w p ∙ sym (listed_at j w q));
    lengths = λ i w p. subst (λ (x : List ℕ). length_allowed x ≡ true) (listed_at i w p) (allowed i (listed_below i w p));
  }

pub whole : (m : ControllerMemory) → BothSound m → Whole (controller_of m)
whole m h = record {
  nodes = fitting (controller_of m).nodes (sound_plainly m.store h.store);
  names = names_listed m.names.bytes m.names.count h.names;
}

-- ---- the reading

module _ (l : LentLists) (s s' : Controller) (t : List ℕ) (id : ℕ) (w : Whole s) where
  reads_to : (controller_call l s (reading t)).answer ≡ stored id → (controller_call l s (reading t)).left ≡ s' → ReadTo t s' id
  unfolding controller_call
  reads_to a e = reading_says l s s' t id (verdict t) w (judged t) a e

  goes_on : (controller_call l s (reading t)).left ≡ s' → Goes s s'
  unfolding controller_call
  goes_on e = subst (Goes s) e (reading_goes l s (verdict t) w)

taken : (m : ControllerMemory) → BothSound m → All (SoundPart model name_model m) (store_part ∷ names_part ∷ [])
taken m h = (h.store, (h.names, tt))

-- a text that was read on sound lists, whatever is made
pub read_to : (m m' : ControllerMemory) (id : ℕ) (t : List ℕ) → BothSound m → ControllerCalled lent_controller (reading t) m (stored id) m' → ReadTo t (controller_of m') id
read_to m m' id t h c = reads_to (lent_of m) (controller_of m) (controller_of m') t id (whole m h) (sym (c.answer (taken m h))) (sym (c.left (taken m h)))

pub read_texts : ReadTexts
read_texts m m' id t h below c same =
    let s = controller_of m in
    let s' = controller_of m' in
    let r = read_to m m' id t h c in
    let stays = (goes_on (lent_of m) s s' t id (whole m h) (sym (c.left (taken m h)))).step.kept id below in
    record {
      expr = r.expr;
      depth = r.denotes.depth;
      text = r.denotes.text;
      numbers = r.denotes.numbers;
      spells = subst (λ (x : List (List ℕ)). Spells x r.expr (formula s.nodes id)) same (subst (Spells s'.names r.expr) stays r.spells);
    }

-- ---- and a write before it

module _ (m m' : ControllerMemory) (id size : ℕ) (buffer t : List ℕ) (c : ControllerCalled lent_controller (reading t) m (stored id) m')
    (same : (controller_of m').names ≡ (controller_of m).names) where
  goes : {r : WriteAnswer} {buffer' : List ℕ} → Writes m id buffer r buffer' → r ≡ Length size → bracket_pairs (take size buffer') ≤ bracket_pairs t
  goes (unsound n) e = let z : ◌≡◌ {A = ℕ} 0 1 = cc in absurd (omega arith)
  goes (unknown h l) e = let z : ◌≡◌ {A = ℕ} 0 1 = cc in absurd (omega arith)
  goes (textless h l n) e = let z : ◌≡◌ {A = ℕ} 0 1 = cc in absurd (omega arith)
  goes (too_long h l w n) e = let z : ◌≡◌ {A = ℕ} 0 1 = cc in absurd (omega arith)
  goes (written {t = u} h l w n b) e =
      let q : length u ≡ size = cc in
      subst (λ (x : List ℕ). bracket_pairs x ≤ bracket_pairs t) (sym (take_at u (drop (length u) buffer) size q))
      (w.fewest t (read_texts m m' id t h l c same))

pub fewest_read : FewestRead
fewest_read m m' id size buffer buffer' t w c same = goes m m' id size buffer t c same w refl
