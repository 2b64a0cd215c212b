use mathlib.Core.Path.{refl}
use native.Mathlib.Omega.{arith}
use Rattle.records.proofs.Whole.{open_empty, open_long, open_byte, open_right}
use Rattle.records.proofs.open.Goals as goal

pub returns-then-sheet-eq0 : goal.returns-then-sheet-eq0
returns-then-sheet-eq0 c = open_empty _ c.if-sheet-eq0.true

pub returns-then-sheet-gt-MOST_SHEET_BYTES : goal.returns-then-sheet-gt-MOST_SHEET_BYTES
returns-then-sheet-gt-MOST_SHEET_BYTES c = open_long _ c.if-sheet-gt-MOST_SHEET_BYTES.true

pub returns-then-sheet-ne-FIRST_BYTE : goal.returns-then-sheet-ne-FIRST_BYTE
returns-then-sheet-ne-FIRST_BYTE c = open_byte _ c.if-sheet-ne-FIRST_BYTE.true

pub returns : goal.returns
returns c = open_right _ _ refl (omega arith) c.if-sheet-gt-MOST_SHEET_BYTES.false c.if-sheet-ne-FIRST_BYTE.false
