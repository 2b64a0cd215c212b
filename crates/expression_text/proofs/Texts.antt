-- What is said of the text of a proper expression.
use Prim.Native.Nat.{◌<◌}
use lib.ListN.{length}
use native.Mathlib.Omega.{arith}
use Rattle.text_language.specs.Grammar.{Expr, Text}
use Rattle.text_language.proofs.Complete.{shorter}
use Rattle.expression_text.specs.Written.{text_of, depth_of}
use Rattle.expression_text.specs.Listed.{ProperTexts}
use Rattle.expression_text.proofs.Bracketing.{written, fewest, shallowest}
use Rattle.expression_text.proofs.Forms.{spelled, numbers}
use Rattle.expression_text.proofs.Blanks.{no_blanks}

some : (e : Expr) → Text (text_of e) e (depth_of e) → 0 < length (text_of e)
some e t = let z = shorter t.reads in omega arith

pub writes : ProperTexts
writes e h = record {
  reads = written e (spelled e h);
  numbers = numbers e h;
  some = some e (written e (spelled e h));
  no_blanks = no_blanks e h;
  fewest = λ s d t. fewest e (spelled e h) t;
  shallowest = λ s d t. shallowest e t;
}
