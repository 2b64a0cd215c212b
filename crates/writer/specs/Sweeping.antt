-- What the functions say that decide which nodes have a text.
use Rattle.std.specs.Prelude.{◌≡◌, ℕ, ◌<◌, ◌≤◌, ◌⊎◌, List, length, ◌≢◌, slice_index}
use Rattle.std.proofs.Math.Option.{Option, none, some}
use Rattle.text_language.specs.Grammar.{Expr}
use Rattle.text_language.specs.Reading.{most_bytes, most_nested}
use Rattle.definitions.specs.Refusals.{no_text, text_too_long}
use Rattle.definitions.specs.Limits.{most_nodes}
use Rattle.expression_text.specs.Written.{text_of, depth_of}
use Rattle.writer.specs.Writing.{in_buffer}
use Rattle.writer.specs.declared.sweeping.Form.{Form}
use Rattle.writer.specs.Answers.{WriteAnswer, Length, Refused}

-- more children than a node has
abbrev pub no_form : ℕ
no_form = 255

-- how many children and which flags a node has that a text can read to; `no_form` children where no text does
pub record FormOf (kind : ℕ) (r : Form) : Type 0 where
  pub leaf : kind ≤ 1 → r.arity ≡ 0
  pub leaf_flags : kind ≤ 1 → r.flags ≡ 0
  pub minus : kind ≡ 8 → r.arity ≡ 1
  pub minus_flags : kind ≡ 8 → r.flags ≡ 0
  pub pair : 2 ≤ kind → kind ≤ 6 → r.arity ≡ 2
  pub add_flags : kind ≡ 2 → r.flags ≡ 3
  pub sub_flags : kind ≡ 3 → r.flags ≡ 0
  pub mul_flags : kind ≡ 4 → r.flags ≡ 3
  pub div_flags : kind ≡ 5 → r.flags ≡ 0
  pub pow_flags : kind ≡ 6 → r.flags ≡ 0
  pub other : 6 < kind → (kind ≢ 8) → r.arity ≡ no_form

-- a list of ids: each of them is marked now, and what is marked was so or is one of them
pub record Marks (ids : List ℕ) (reached reached' : List ℕ) : Type 0 where
  pub long : length reached' ≡ length reached
  pub marked : (j : ℕ) → j < length ids → slice_index reached' (slice_index ids j) ≡ 1
  pub old : (i : ℕ) → (slice_index reached i ≢ 0) → slice_index reached' i ≢ 0
  pub only : (i : ℕ) → (slice_index reached' i ≢ 0) → ((j : ℕ) → j < length ids → i ≢ slice_index ids j) → slice_index reached i ≢ 0

-- a place for each id, all 0
pub record Unreached (reached : List ℕ) : Type 0 where
  pub long : length reached ≡ most_nodes
  pub zeros : (i : ℕ) → slice_index reached i ≡ 0

-- ---- the text in the lent buffer

pub record Texted (e : Expr) (buffer : List ℕ) (r : WriteAnswer) (buffer' : List ℕ) : Type 0 where
  pub refused : (most_bytes < length (text_of e)) ⊎ ((length buffer < length (text_of e)) ⊎ (most_nested < depth_of e)) → (r ≡ Refused text_too_long) × (buffer' ≡ buffer)
  pub written : length (text_of e) ≤ most_bytes → length (text_of e) ≤ length buffer → depth_of e ≤ most_nested
      → (r ≡ Length (length (text_of e))) × (buffer' ≡ in_buffer (text_of e) buffer)

-- no text, then a text too long, and all bytes stay; or the text at the start of the lent buffer, and its length
unfoldable pub WritesExpression : Option Expr → List ℕ → WriteAnswer → List ℕ → Type 0
WritesExpression none buffer r buffer' = (r ≡ Refused no_text) × (buffer' ≡ buffer)
WritesExpression (some e) buffer r buffer' = Texted e buffer r buffer'
