use mathlib.Core.Path.{refl}
use native.Mathlib.Omega.{arith}
use Rattle.names.proofs.Listing.{names_length}
use Rattle.name_entries.specs.Sound.{names_of}
use Rattle.text_listing_bytes.proofs.NameLines.{written_none, written_more, written_all}
use borrow.Author.Rules.{rules}
use Rattle.text_listing_bytes.proofs.naming.put_names.Goals as goal

pub loop-i-init : goal.loop-i-init
loop-i-init c = (refl, written_none _ _ _ _)

pub overflow_cast-i : goal.overflow_cast-i
overflow_cast-i c = let m = c.requires.0.many in let t = c.loop-i-test in omega arith

pub name_line-requires : goal.name_line-requires
name_line-requires c = (c.requires.0, omega (arith, c.loop-i-test))

pub put_line-place-requires : goal.put_line-place-requires
put_line-place-requires c = (c.name_line.ensures.within, let p = c.requires.1 in let v = c.loop-i.invariant in let g = v.1.low in let l = v.0 in let t = c.loop-i-test in omega arith)

pub loop-i-preserved : goal.loop-i-preserved
loop-i-preserved c = (let l = c.loop-i.invariant.0 in search rules, written_more _ _ _ _ _ _ _ c.loop-i.invariant.1 (omega arith) _ c.name_line.ensures _ _ c.put_line-place.ensures)

pub shape_of-out : goal.shape_of-out
shape_of-out c = let l = c.loop-i.invariant.0 in search rules

pub returns : goal.returns
returns c = let p = c.requires.1 in let v = c.loop-i.invariant in let g = v.1.low in let l = v.0 in let k = v.1.some in let a = c.args in record { puts_line = written_all (names_of a.entries.now a.count) _ _ _ _ _ _ (names_length a.entries.now a.count) v.1 (omega arith); in_array = omega arith }
