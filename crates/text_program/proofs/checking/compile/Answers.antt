use mathlib.Core.Path.{sym, ◌∙◌}
use Rattle.std.proofs.lemmas.Result.{err_from_is_err_and}
use borrow.Author.Tests.{eqb-true, eqb-false}
use borrow.Author.Rules.{rules}
use Rattle.text_language.specs.Reading.{empty, long}
use Rattle.text_program.proofs.Compiling.{sized, scanned_out, parse_ended, parse_refused, longs}
use Rattle.text_program.proofs.checking.compile.Goals.{then-is_empty-via-then-is_empty, then-is_empty-via-else-is_empty+then-text-gt-MOST_BYTES}
use Rattle.text_program.proofs.checking.compile.Goals as goal

pub returns-then-is_empty : goal.returns-then-is_empty
returns-then-is_empty c = elim c.then-is_empty.branch [
  | then-is_empty-via-then-is_empty w ↦ empty (eqb-true _ 0 (sym w.if-is_empty.ensures))
  | then-is_empty-via-else-is_empty+then-text-gt-MOST_BYTES w ↦ long w.if-text-gt-MOST_BYTES.true
]

pub returns-then-not-scan : goal.returns-then-not-scan
returns-then-not-scan c = scanned_out c.args.text.now (sized c.args.text.now (eqb-false _ 0 (sym c.is_empty.ensures ∙ c.if-is_empty.false)) c.if-text-gt-MOST_BYTES.false) (sym c.scan.ensures ∙ c.if-not-scan.true)

pub returns-in_err-whole : goal.returns-in_err-whole
returns-in_err-whole c =
    let p = err_from_is_err_and c.from_residual.result c.from_residual.ensures.1 in
    rw (p.1, p.2) (parse_refused c.args.text.now (sized c.args.text.now (eqb-false _ 0 (sym c.is_empty.ensures ∙ c.if-is_empty.false)) c.if-text-gt-MOST_BYTES.false) (sym c.scan.ensures ∙ c.if-not-scan.false) _ _ _ c.in_err-whole.ensures)

pub returns : goal.returns
returns c = parse_ended c.args.text.now (sized c.args.text.now (eqb-false _ 0 (sym c.is_empty.ensures ∙ c.if-is_empty.false)) c.if-text-gt-MOST_BYTES.false) (sym c.scan.ensures ∙ c.if-not-scan.false) _ _ _ c.in_ok-whole.ensures (longs c.chain.new.program c.args.program.now (search rules) c.requires)
