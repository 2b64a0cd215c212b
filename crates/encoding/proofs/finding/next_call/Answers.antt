use Prim.Native.Nat.{◌<◌, ◌≤◌}
use native.Mathlib.Omega.{arith}
use lib.ListN.{get_or}
use Rattle.encoding.specs.Encoding.{last_code}
use Rattle.encoding.proofs.FirstCalls.{short_header, short_operands, unknown_code, whole_call}
use Rattle.std.proofs.lemmas.Grind.{common_steps}
use Rattle.encoding.proofs.finding.next_call.Goals as goal

pub returns-in_default : goal.returns-in_default
returns-in_default c = short_header _ c.in_default.len_below

pub returns-then-behind-many : goal.returns-then-behind-many
returns-then-behind-many c = short_operands _ c.in-len6-up.len_at_least c.if-behind-many.true

pub returns-in_default-try_from : goal.returns-in_default-try_from
returns-in_default-try_from c =
    let u : last_code < get_or c.args.words.now 0 0 = grind (arith, common_steps, c.in_default-try_from.ensures.listed) in
    unknown_code _ c.in-len6-up.len_at_least c.if-behind-many.false u

pub returns : goal.returns
returns c =
    let k : get_or c.args.words.now 0 0 ≤ last_code = grind (arith, common_steps, c.in-Ok.ensures.listed) in
    whole_call _ _ _ _ c.in-len6-up.len_at_least c.if-behind-many.false c.in-Ok.ensures.ok k c.split_at.ensures.front c.split_at.ensures.back
