-- What the readers say of a text, and of the program that they emit for it.
use Rattle.std.specs.Prelude.{ℕ, ◌+◌, ◌-◌, ◌*◌, ◌≤◌, ◌<◌, ◌≡◌, Bool, List, ◌++◌, length, drop, Option, Some, None, Result, Ok, Err}
use Rattle.text_language.specs.Grammar.{Expr, Level, Chain, sums, products}
use Rattle.text_language.specs.Reader.{Got, got, bad, atom_of, level, read, rank}
use Rattle.text_language.specs.Places.{Behind, TooDeep}
use Rattle.text_language.specs.Program as P
use Rattle.text_language.specs.Reading.{most_bytes}
use Rattle.text_language.specs.Program.{postfix}
use Rattle.refusal.specs.declared.Refusal.{Refusal}
use Rattle.refusal.specs.declared.Refusal.TheVariants.{OutsideLanguage, NestedTooDeep}
use Rattle.text_program.specs.declared.readers.Parsed.{Parsed}
use Rattle.text_program.specs.declared.readers.ChainKind.{ChainKind}
use Rattle.text_program.specs.declared.readers.ChainKind.TheVariants as code

-- a name is a letter, and at most so many letters or digits after it
abbrev pub later_name_bytes : ℕ
later_name_bytes = 31

-- what a test of bytes may answer is what p says of the byte
abbrev pub Decides : (ℕ → Bool → Type 0) → (ℕ → Bool) → Type 0
Decides answers p = (c : ℕ) → c < 256 → (b : Bool) → answers c b → b ≡ p c

-- a number or a name that starts at a place ends there
abbrev pub AtomEnds : List ℕ → ℕ → Option ℕ → Type 0
AtomEnds s at (Some i) = Behind s 0 (atom_of (drop at s)) i
AtomEnds s at None = atom_of (drop at s) ≡ bad

-- the chain of the grammar
abbrev pub chain_of : ChainKind → Chain
chain_of code.Sums = sums
chain_of code.Products = products

-- a reader starts inside a text that is not too long, and the program, not longer than a text, has a word for every byte left
pub record ReaderStarts (s : List ℕ) (at : ℕ) (program : List ℕ) (size : ℕ) : Type 0 where
  pub inside : at ≤ length s
  pub short : length s ≤ most_bytes
  pub small : length program ≤ most_bytes
  pub room : size + (length s - at) ≤ length program

-- from `at` to i the program grew by the postfix of e, by at most a word a byte
pub record AppendsWords (s program : List ℕ) (size : ℕ) (e : Expr) (at i : ℕ) (program' : List ℕ) (size' : ℕ) : Type 0 where
  pub tokens : P.tokens s program' size' ≡ P.tokens s program size ++ postfix e
  pub room : size' + at ≤ size + i

-- the reading that stands behind a place, and its program
pub record Emitted (s : List ℕ) (left at : ℕ) (program : List ℕ) (size : ℕ) (g : Got) (i : ℕ) (program' : List ℕ) (size' : ℕ)
    : Type 0 where
  pub expr : Expr
  pub depth : ℕ
  pub is : g ≡ got expr depth (drop i s)
  pub shallow : depth ≤ left
  pub high : i ≤ length s
  pub appends : AppendsWords s program size expr at i program' size'

-- why a reader gives up: the text is outside the language, or nests deeper than was allowed
pub data GivesUp (left : ℕ) (g : Got) : Refusal → Type 0 where
  outside : g ≡ bad → GivesUp left g OutsideLanguage
  deep : TooDeep left g → GivesUp left g NestedTooDeep

abbrev pub AgreesWith : List ℕ → ℕ → ℕ → List ℕ → ℕ → Got → List ℕ → Result Parsed Refusal → Type 0
AgreesWith s left at program size g program' (Ok r) = Emitted s left at program size g r.next program' r.size
AgreesWith s left at program size g program' (Err e) = GivesUp left g e

-- whatever fuel the reader of the language has, if enough, the answer agrees with its answer
pub record Agrees (s : List ℕ) (at left : ℕ) (l : Level) (program : List ℕ) (size : ℕ) (program' : List ℕ) (r : Result Parsed Refusal) : Type 0 where
  pub agrees : (n : ℕ) → 4 * (length s - at) + rank l ≤ n → AgreesWith s left at program size (read n (level l) (drop at s)) program' r
