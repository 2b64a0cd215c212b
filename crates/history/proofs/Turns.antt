-- Calls in turn: they go on by one call more, and leave store and names as each of them does.
use mathlib.Core.Path.{◌≡◌, refl, ap}
use mathlib.Core.Option.{some}
use mathlib.Core.List.{List, [], ◌∷◌, ◌++◌}
use lib.ListN.{length}
use native.Mathlib.Omega.{arith}
use Rattle.definitions.specs.Controller.{ControllerCall, ControllerAnswer}
use Rattle.definitions.specs.Names.{name_call}
use Rattle.definitions.specs.Listing.{last_of}
use Rattle.definitions.proofs.Listing.{last_more}
use Rattle.definitions.proofs.NameLists.{names_longer}
use Rattle.store.specs.declared.NodeAnswer.{NodeAnswer}
use Rattle.store.proofs.Staying.{stays_refl, leaves_stays}
use Rattle.name_entries.specs.Sound.{names_of, lent_entries}
use Rattle.names.proofs.Listing.{names_length}
use Rattle.names.proofs.Clauses.{equation_gives_clauses, clauses_long}
use Rattle.text.specs.Memory.{ControllerMemory, BothSound, Extends}
use Rattle.text.specs.Reading.{ReadingCases, unsound, refused, read}
use Rattle.text.proofs.Performing.{extends_refl, extends_trans, sound_after}
use Rattle.text.proofs.Cases.{equation_gives_case}
use Rattle.calls.specs.Memory.{CallLeaves, by_store, by_names, by_text, LeavesInTurn, done, next}
use Rattle.history.specs.Replaying.{last}

pub turns_more : {m : ControllerMemory} {cs : List ControllerCall} {al : List ControllerAnswer} {ms : List ControllerMemory} {c : ControllerCall} {a : ControllerAnswer} {m' : ControllerMemory}
    → LeavesInTurn m cs al ms → CallLeaves c (last_of m ms) a m' → LeavesInTurn m (cs ++ c ∷ []) (al ++ a ∷ []) (ms ++ m' ∷ [])
turns_more done h = next h done
turns_more (next k t) h = next k (turns_more t h)

-- each leaves sound lists with at least the names and nodes, and what lies past those in use
left_extends : {c : ControllerCall} {m : ControllerMemory} {a : ControllerAnswer} {m' : ControllerMemory} → CallLeaves c m a m' → BothSound m → Extends m m'
left_extends (by_store {c = c} {s = s} {s' = s'} {a = a} l) h = record { store = leaves_stays c s a s' h.store l; names = h.names; count = omega arith; long = refl; past = refl }
left_extends (by_names {c = c} {s = s} {bytes = bytes} {bytes' = bytes'} {count = count} {count' = count'} {a = a} l) h =
    let clauses = equation_gives_clauses bytes count c a bytes' count' l in
    let after : length (names_of bytes' count') ≡ length (name_call (lent_entries bytes) (names_of bytes count) c).names = ap length (clauses.names h.names) in
    let more = names_longer (lent_entries bytes) (names_of bytes count) c in
    record {
      store = stays_refl s h.store;
      names = clauses.sound h.names;
      count = omega (arith, names_length bytes count, names_length bytes' count');
      long = clauses_long bytes count c a bytes' count' h.names clauses;
      past = clauses.past;
    }
left_extends (by_text {text = text} {m = m} {m' = m'} {a = a} l) h = by (equation_gives_case text m m' a l (yes h))
  where
    by : {b : NodeAnswer} {m'' : ControllerMemory} → ReadingCases text m b m'' → Extends m m''
    by (unsound n) = absurd (n h)
    by (refused k r) = extends_refl m h
    by (read k e x) = x.extends

pub extends_in_turn : {m : ControllerMemory} {cs : List ControllerCall} {al : List ControllerAnswer} {ms : List ControllerMemory} → LeavesInTurn m cs al ms → BothSound m → Extends m (last_of m ms)
extends_in_turn {m = m} done h = extends_refl m h
extends_in_turn {m = m} {ms = m'' ∷ ms} (next {m' = m'} l t) h =
    let one = left_extends l h in
    extends_trans m m' (last_of m' ms) one (extends_in_turn t (sound_after m m' one))

pub last_is : {A : Type 0} (xs : List A) (x : A) → last (xs ++ x ∷ []) ≡ some x
last_is [] x = refl
last_is (y ∷ xs) x = ap some (last_more y xs x)
