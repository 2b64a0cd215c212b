-- The first call of some words, by its header, its operands and what stands behind it.
use Prim.Native.Nat.{ℕ, ◌+◌, ◌-◌, ◌≤◌, ◌<◌}
use mathlib.Core.Path.{◌≡◌, refl, sym, ap, ◌∙◌}
use mathlib.Core.Bool.{Bool, true, false, cond}
use mathlib.Core.Option.{Option, none}
use mathlib.Core.List.{List, [], ◌∷◌}
use lib.ListN.{length, get_or, take, drop, length-drop}
use lib.Seq.{drop-drop, take_all, length-take-le}
use lib.Dec.{leb}
use native.Mathlib.Omega.{arith}
use borrow.Author.Tests.{le-leb, lt-leb}
use denote.Ref.{Bor}
use Rattle.definitions.specs.Controller.{ControllerCall}
use Rattle.encoding.specs.declared.codes.CallCode.{CallCode}
use Rattle.encoding.specs.Codes.{code_of}
use Rattle.encoding.specs.Encoding.{with_rest, header_words, last_code, call_of_code, first_call}
use Rattle.encoding.specs.Finding.{WholeCall}
use Rattle.encoding.proofs.CodeTable.{known_has, unknown_has_none}

module _ (ws : List ℕ) where
  -- the operands as many as the header says
  abbrev many : ℕ
  many = get_or ws 5 0

  abbrev header : List ℕ → Option ControllerCall
  header operands = call_of_code (get_or ws 0 0) (get_or ws 1 0) (get_or ws 2 0) (get_or ws 3 0) (get_or ws 4 0) operands

  -- the first call by the two tests
  first_is : (b d : Bool) → leb header_words (length ws) ≡ b → leb many (length ws - header_words) ≡ d
      → first_call ws ≡ cond b (cond d (with_rest (header (take many (drop header_words ws))) (drop (header_words + many) ws)) none) none
  unfolding first_call
  first_is b d e f = λ i. cond (e i) (cond (f i) (with_rest (header (take many (drop header_words ws))) (drop (header_words + many) ws)) none) none

  pub short_header : length ws < header_words → first_call ws ≡ none
  short_header h = first_is false _ (lt-leb header_words (length ws) h) refl

  -- the words behind the header
  abbrev behind : List ℕ
  behind = take (length ws - header_words) (drop header_words ws)

  behind_is : behind ≡ drop header_words ws
  behind_is = take_all (length ws - header_words) (drop header_words ws) (omega (arith, length-drop header_words ws))

  behind_long : length behind ≡ length ws - header_words
  behind_long = ap length behind_is ∙ length-drop header_words ws

  pub short_operands : header_words ≤ length ws → length behind < many → first_call ws ≡ none
  short_operands k l =
      let e = behind_long in
      first_is true false (le-leb header_words (length ws) k) (lt-leb many (length ws - header_words) (omega arith))

  first_whole : header_words ≤ length ws → many ≤ length behind → first_call ws ≡ with_rest (header (take many (drop header_words ws))) (drop (header_words + many) ws)
  first_whole k l =
      let e = behind_long in
      first_is true true (le-leb header_words (length ws) k) (le-leb many (length ws - header_words) (omega arith))

  pub unknown_code : header_words ≤ length ws → many ≤ length behind → last_code < get_or ws 0 0 → first_call ws ≡ none
  unknown_code k l u = first_whole k l ∙ ap (λ o. with_rest o (drop (header_words + many) ws)) (unknown_has_none (get_or ws 0 0) _ _ _ _ _ (lt-leb (get_or ws 0 0) last_code u))

  pub whole_call : (code : CallCode) (operands rest : Bor (List ℕ)) → header_words ≤ length ws → many ≤ length behind → code_of code ≡ get_or ws 0 0 → get_or ws 0 0 ≤ last_code
      → operands.now ≡ take many behind → rest.now ≡ drop many behind
      → WholeCall ws (record { header = record { code = code; numbers = get_or ws 1 0 ∷ get_or ws 2 0 ∷ get_or ws 3 0 ∷ get_or ws 4 0 ∷ [] }; operands = operands; rest = rest })
  whole_call code operands rest k l e u o r =
      let long = behind_long in
      let many_is : length operands.now ≡ many = ap length o ∙ length-take-le many behind l in
      let taken : take many (drop header_words ws) ≡ operands.now = ap (take many) (sym behind_is) ∙ sym o in
      let left : drop (header_words + many) ws ≡ rest.now = sym (drop-drop many header_words ws) ∙ ap (drop many) (sym behind_is) ∙ sym r in
      let (c, is) = known_has (get_or ws 0 0) (get_or ws 1 0) (get_or ws 2 0) (get_or ws 3 0) (get_or ws 4 0) operands.now (le-leb (get_or ws 0 0) last_code u) in
      record {
        call = c;
        is = ap (λ n. call_of_code n (get_or ws 1 0) (get_or ws 2 0) (get_or ws 3 0) (get_or ws 4 0) operands.now) e ∙ is;
        first = first_whole k l ∙ (λ i. with_rest (header (taken i)) (left i)) ∙ ap (λ x. with_rest x rest.now) is;
        whole = let n = many_is in omega arith;
        behind = sym left ∙ ap (λ n. drop (header_words + n) ws) (sym many_is);
      }
