-- A text typed by operands, and the reading that its first 8,193 bytes stand for.
use Prim.Native.Nat.{ℕ, ◌≤◌, ◌<◌}
use mathlib.Core.Path.{◌≡◌, sym, ap, ◌∙◌, subst}
use mathlib.Core.List.{List}
use lib.ListN.{length, take}
use lib.Seq.{take_all, length-take-le}
use native.Mathlib.Omega.{arith}
use native.Mathlib.Decide.{dec_le}
use Rattle.store.specs.declared.NodeAnswer.{NodeAnswer}
use Rattle.text_language.specs.Reading.{most_bytes, long}
use Rattle.text.specs.Memory.{ControllerMemory, controller_of, lent_of, BothSound}
use Rattle.text.specs.Reading.{answered, reading_left, reading_left_of, reading_left_by, ReadsText}
use Rattle.text.proofs.Determined.{plain_refused}
use Rattle.encoding.specs.Encoding.{bytes_of}
use Rattle.encoding.specs.Spelling.{most_text_bytes}

-- a longer text is refused whatever stands past its first bytes
both_long : (s t : List ℕ) (d d' : ControllerMemory) (a : NodeAnswer) → most_bytes < length s → most_bytes < length t → ReadsText s d a d' → ReadsText t d a d'
both_long s t d d' a h k r = record { equation = by }
  where
    by : (x : Dec (BothSound d)) → reading_left (answered a) d' ≡ reading_left_by t d x
    by (yes w) = r.equation (yes w) ∙ ap (reading_left_of d) (plain_refused (lent_of d) (controller_of d) (long h) ∙ sym (plain_refused (lent_of d) (controller_of d) (long k)))
    by (no n) = r.equation (no n)

first_long : (text : List ℕ) → (length text ≤ most_text_bytes → ⊥) → most_bytes < length (take most_text_bytes text)
first_long text l = let e : length (take most_text_bytes text) ≡ most_text_bytes = length-take-le most_text_bytes text (omega arith) in omega arith

pub reads_typed : (operands s : List ℕ) (d d' : ControllerMemory) (a : NodeAnswer) → s ≡ take most_text_bytes (bytes_of operands) → ReadsText s d a d' → ReadsText (bytes_of operands) d a d'
reads_typed operands s d d' a e h = go (dec_le (length (bytes_of operands)) most_text_bytes)
  where
    first : ReadsText (take most_text_bytes (bytes_of operands)) d a d'
    first = subst (λ (x : List ℕ). ReadsText x d a d') e h

    go : Dec (length (bytes_of operands) ≤ most_text_bytes) → ReadsText (bytes_of operands) d a d'
    go (yes p) = subst (λ (x : List ℕ). ReadsText x d a d') (take_all most_text_bytes (bytes_of operands) p) first
    go (no p) = both_long (take most_text_bytes (bytes_of operands)) (bytes_of operands) d d' a (first_long (bytes_of operands) p) (omega arith) first
