-- A text read byte by byte: what is read so far, and which bytes may come next.
use Rattle.std.specs.Prelude.{ℕ, zero, suc, Bool, ◌&&◌, cond, List, [], ◌∷◌, leb, ltb, eqb, Option, Some, None}
use Rattle.text_language.specs.Grammar.{is_digit, is_letter, is_word, is_hex}
use Rattle.text_language.specs.Scan.{joins}
use Rattle.text_place.specs.declared.ScanProgress.{ScanProgress}
use Rattle.text_place.specs.declared.ScanProgress.TheVariants.{Wanted, Digits, Name, Bits, Ended}

-- a number has 1 to 9 digits, a name at most 32 bytes, bits have 16 hex digits
abbrev pub most_digits : ℕ
most_digits = 9

abbrev pub longest_name : ℕ
longest_name = 32

abbrev pub bits_digits : ℕ
bits_digits = 16

-- the open brackets
abbrev pub open_in : ScanProgress → ℕ
open_in (Wanted brackets) = brackets
open_in (Digits length brackets) = brackets
open_in (Name length brackets) = brackets
open_in (Bits length brackets) = brackets
open_in (Ended brackets) = brackets

-- where an operand is wanted: a blank, a minus, a bracket that opens, a digit, a letter or #
unfoldable pub operand_byte : ℕ → ℕ → Option ScanProgress
operand_byte brackets byte =
    cond (eqb byte 32) (Some (Wanted brackets))
    (cond (eqb byte 45) (Some (Wanted brackets))
    (cond (eqb byte 40) (Some (Wanted (suc brackets)))
    (cond (is_digit byte) (Some (Digits 1 brackets))
    (cond (is_letter byte) (Some (Name 1 brackets))
    (cond (eqb byte 35) (Some (Bits 0 brackets)) None)))))

-- one bracket less, if one is open
abbrev pub closed : ℕ → Option ScanProgress
closed zero = None
closed (suc brackets) = Some (Ended brackets)

-- after an operand: a blank, a sign, or a bracket that closes
unfoldable pub byte_after : ℕ → ℕ → Option ScanProgress
unfolding joins
byte_after brackets byte = cond (eqb byte 32) (Some (Ended brackets)) (cond (joins byte) (Some (Wanted brackets)) (cond (eqb byte 41) (closed brackets) None))

-- a number or a name goes on by a byte that passes, up to so many
abbrev pub longer : Bool → ℕ → ℕ → Bool
longer passes length most = passes && ltb length most

-- after #: 16 hex digits, and then what may stand after an operand
unfoldable pub bits_byte : ℕ → ℕ → ℕ → Option ScanProgress
unfolding byte_after
bits_byte length brackets byte = cond (leb bits_digits length) (byte_after brackets byte) (cond (is_hex byte) (Some (Bits (suc length) brackets)) None)

unfoldable pub advance : ScanProgress → ℕ → Option ScanProgress
unfolding operand_byte byte_after bits_byte
advance (Wanted brackets) byte = operand_byte brackets byte
advance (Digits length brackets) byte = cond (longer (is_digit byte) length most_digits) (Some (Digits (suc length) brackets)) (byte_after brackets byte)
advance (Name length brackets) byte = cond (longer (is_word byte) length longest_name) (Some (Name (suc length) brackets)) (byte_after brackets byte)
advance (Bits length brackets) byte = bits_byte length brackets byte
advance (Ended brackets) byte = byte_after brackets byte

-- all bytes of a list, one after another
unfoldable pub reach : Option ScanProgress → List ℕ → Option ScanProgress
unfolding advance
reach p [] = p
reach None (c ∷ s) = None
reach (Some p) (c ∷ s) = reach (advance p c) s
