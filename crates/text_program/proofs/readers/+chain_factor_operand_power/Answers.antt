use Rattle.std.proofs.Common.{arith, rules, subst}
use Rattle.std.proofs.lemmas.Result.{err_from_is_err_and}
use Rattle.text_program.specs.Readers.{AtomEnds, chain_of}
use Rattle.text_program.proofs.Steps.{not_zero, moved, power_stuck, power_base, power_ready, power_full, power_on_stuck, power_raise, minus_full, minus_stuck, minus_on, bracket_full, bracket_stuck, bracket_on, bracket_open, atom_none, atom_place, atom_on, chain_stuck, chain_start, loop_end, loop_ready, loop_inside, loop_stuck, loop_later, loop_within, loop_on, room_on, room_raised}
use Rattle.text_program.proofs.readers.+chain_factor_operand_power.Goals as goal

pub chain-returns-in_err-read : goal.chain-returns-in_err-read
chain-returns-in_err-read t c = let p = err_from_is_err_and c.from_residual.result c.from_residual.ensures.1 in rw (p.1, p.2) (chain_stuck _ _ c.args.left (chain_of c.args.kind) _ _ c.requires _ _ c.in_err-read.ensures)

pub chain-loop-kind-init : goal.chain-loop-kind-init
chain-loop-kind-init t c = chain_start _ _ c.args.left (chain_of c.args.kind) _ _ c.requires _ c.in_ok-read.read.next c.in_ok-read.read.size c.in_ok-read.ensures (search rules)

pub chain-returns-then-not-links : goal.chain-returns-then-not-links
chain-returns-then-not-links t c = loop_end _ _ c.args.left (chain_of c.args.kind) _ _ c.requires _ c.loop-kind.read.next c.loop-kind.read.size _ _ _ c.loop-kind.invariant c.next_byte-sign.ensures c.links.ensures c.if-not-links.true

pub chain-operand-requires-in-loop-kind : goal.chain-operand-requires-in-loop-kind
chain-operand-requires-in-loop-kind t c = let h = loop_inside _ _ c.args.left (chain_of c.args.kind) _ _ c.requires _ c.loop-kind.read.next c.loop-kind.read.size _ _ _ c.loop-kind.invariant c.next_byte-sign.ensures c.links.ensures c.if-not-links.false in let p = c.decreases in (omega (arith, h.0, h.1, p), loop_ready _ _ c.args.left (chain_of c.args.kind) _ _ c.requires _ c.loop-kind.read.next c.loop-kind.read.size _ _ _ c.loop-kind.invariant c.next_byte-sign.ensures c.links.ensures c.if-not-links.false)

pub chain-returns-in_err-more : goal.chain-returns-in_err-more
chain-returns-in_err-more t c = let p = err_from_is_err_and c.from_residual-in_err-more.result c.from_residual-in_err-more.ensures.1 in rw (p.1, p.2) (loop_stuck _ _ c.args.left (chain_of c.args.kind) _ _ c.requires _ c.loop-kind.read.next c.loop-kind.read.size _ _ _ c.loop-kind.invariant c.next_byte-sign.ensures c.links.ensures c.if-not-links.false _ _ c.in_err-more.ensures)

pub chain-loop-kind-smaller : goal.chain-loop-kind-smaller
chain-loop-kind-smaller t c = let a = loop_later _ _ c.args.left (chain_of c.args.kind) _ _ c.requires _ c.loop-kind.read.next c.loop-kind.read.size _ _ _ c.loop-kind.invariant c.next_byte-sign.ensures c.links.ensures c.if-not-links.false _ c.in_ok-more.more.next c.in_ok-more.more.size c.in_ok-more.ensures (search rules) in let b = loop_within _ _ c.args.left (chain_of c.args.kind) _ _ c.requires _ c.loop-kind.read.next c.loop-kind.read.size _ _ _ c.loop-kind.invariant c.next_byte-sign.ensures c.links.ensures c.if-not-links.false _ c.in_ok-more.more.next c.in_ok-more.more.size c.in_ok-more.ensures (search rules) in omega (arith, a, b)

pub chain-loop-kind-preserved : goal.chain-loop-kind-preserved
chain-loop-kind-preserved t c = loop_on _ _ c.args.left (chain_of c.args.kind) _ _ c.requires _ c.loop-kind.read.next c.loop-kind.read.size _ _ _ c.loop-kind.invariant c.next_byte-sign.ensures c.links.ensures c.if-not-links.false _ c.in_ok-more.more.next c.in_ok-more.more.size c.in_ok-more.ensures (search rules) _ c.join_word.ensures

pub power-returns-in_err-base : goal.power-returns-in_err-base
power-returns-in_err-base t c = let p = err_from_is_err_and c.from_residual.result c.from_residual.ensures.1 in rw (p.1, p.2) (power_stuck _ _ c.args.left _ _ c.requires _ _ c.in_err-base.ensures)

pub power-returns-then-sign-ne94 : goal.power-returns-then-sign-ne94
power-returns-then-sign-ne94 t c = power_base _ _ c.args.left _ _ c.requires _ c.in_ok-base.base.next c.in_ok-base.base.size c.in_ok-base.ensures _ _ c.next_byte-sign.ensures c.if-sign-ne94.true

pub power-returns-then-left-eq0 : goal.power-returns-then-left-eq0
power-returns-then-left-eq0 t c = power_full _ _ c.args.left _ _ c.requires _ c.in_ok-base.base.next c.in_ok-base.base.size c.in_ok-base.ensures _ _ c.next_byte-sign.ensures c.if-sign-ne94.false c.if-left-eq0.true

pub power-power-requires : goal.power-power-requires
power-power-requires t c = let h = c.next_byte-sign.ensures.inside (not_zero _ 94 c.if-sign-ne94.false (omega arith)) in let l = c.next_byte-sign.ensures.low in let p = c.decreases in let v = (moved _ _ _ _ _ _ _ c.in_ok-base.base.next c.in_ok-base.base.size c.in_ok-base.ensures).later in (omega (arith, h, l, p, v), power_ready _ _ c.args.left _ _ c.requires _ c.in_ok-base.base.next c.in_ok-base.base.size c.in_ok-base.ensures _ _ c.next_byte-sign.ensures c.if-sign-ne94.false (search rules))

pub power-returns-in_err-exponent : goal.power-returns-in_err-exponent
power-returns-in_err-exponent t c = let p = err_from_is_err_and c.from_residual-in_err-exponent.result c.from_residual-in_err-exponent.ensures.1 in rw (p.1, p.2) (power_on_stuck _ _ c.args.left _ _ c.requires _ c.in_ok-base.base.next c.in_ok-base.base.size c.in_ok-base.ensures _ _ c.next_byte-sign.ensures c.if-sign-ne94.false (omega arith) _ _ c.in_err-exponent.ensures)

pub power-returns : goal.power-returns
power-returns t c = power_raise _ _ c.args.left _ _ c.requires _ c.in_ok-base.base.next c.in_ok-base.base.size c.in_ok-base.ensures _ _ c.next_byte-sign.ensures c.if-sign-ne94.false (omega arith) _ c.in_ok-exponent.exponent.next c.in_ok-exponent.exponent.size c.in_ok-exponent.ensures (room_raised _ _ c.args.left _ _ c.requires _ c.in_ok-base.base.next c.in_ok-base.base.size c.in_ok-base.ensures _ _ c.next_byte-sign.ensures c.if-sign-ne94.false _ c.in_ok-exponent.exponent.next c.in_ok-exponent.exponent.size c.in_ok-exponent.ensures (search rules) (search rules)).0

pub factor-returns-then-left-eq0 : goal.factor-returns-then-left-eq0
factor-returns-then-left-eq0 t c = minus_full _ _ c.args.left _ _ c.requires _ _ c.next_byte-first.ensures _ c.if-first-eq45.true c.if-left-eq0.true

pub factor-returns-in_err-inner : goal.factor-returns-in_err-inner
factor-returns-in_err-inner t c = let p = err_from_is_err_and c.from_residual.result c.from_residual.ensures.1 in rw (p.1, p.2) (minus_stuck _ _ c.args.left _ _ c.requires _ _ c.next_byte-first.ensures _ _ c.if-first-eq45.true (omega arith) c.in_err-inner.ensures)

pub factor-returns-then-first-eq45 : goal.factor-returns-then-first-eq45
factor-returns-then-first-eq45 t c = minus_on _ _ c.args.left _ _ c.requires _ _ c.next_byte-first.ensures _ c.in_ok-inner.inner.next c.in_ok-inner.inner.size c.if-first-eq45.true (omega arith) c.in_ok-inner.ensures (room_on _ _ _ _ c.requires _ _ c.next_byte-first.ensures (not_zero _ 45 c.if-first-eq45.true (omega arith)) _ _ _ c.in_ok-inner.inner.next c.in_ok-inner.inner.size c.in_ok-inner.ensures (search rules)).0

pub factor-returns-then-left-eq0-2 : goal.factor-returns-then-left-eq0-2
factor-returns-then-left-eq0-2 t c = bracket_full _ _ c.args.left _ _ c.requires _ _ c.next_byte-first.ensures _ c.if-first-eq45.false c.if-first-eq40.true c.if-left-eq0-2.true

pub factor-returns-in_err-inner-2 : goal.factor-returns-in_err-inner-2
factor-returns-in_err-inner-2 t c = let p = err_from_is_err_and c.from_residual-in_err-inner-2.result c.from_residual-in_err-inner-2.ensures.1 in rw (p.1, p.2) (bracket_stuck _ _ c.args.left _ _ c.requires _ _ c.next_byte-first.ensures c.if-first-eq45.false c.if-first-eq40.true (omega arith) _ _ c.in_err-inner-2.ensures)

pub factor-returns-then-close-ne41 : goal.factor-returns-then-close-ne41
factor-returns-then-close-ne41 t c = bracket_open _ _ c.args.left _ _ c.requires _ _ c.next_byte-first.ensures c.if-first-eq45.false c.if-first-eq40.true (omega arith) _ c.in_ok-inner-2.inner.next c.in_ok-inner-2.inner.size _ _ c.in_ok-inner-2.ensures c.next_byte-close.ensures c.if-close-ne41.true

pub factor-returns-then-first-eq40 : goal.factor-returns-then-first-eq40
factor-returns-then-first-eq40 t c = bracket_on _ _ c.args.left _ _ c.requires _ _ c.next_byte-first.ensures c.if-first-eq45.false c.if-first-eq40.true (omega arith) _ c.in_ok-inner-2.inner.next c.in_ok-inner-2.inner.size _ _ c.in_ok-inner-2.ensures c.next_byte-close.ensures c.if-close-ne41.false

pub factor-returns-in_default : goal.factor-returns-in_default
factor-returns-in_default t c = atom_none _ _ c.args.left _ _ c.requires _ _ c.next_byte-first.ensures c.if-first-eq45.false c.if-first-eq40.false _ (subst (AtomEnds c.args.text.now c.next_byte-first.result.at) c.in_default.is c.atom_end.ensures)

pub factor-bounds-program-size : goal.factor-bounds-program-size
factor-bounds-program-size t c = let q = atom_place _ _ c.args.left _ _ c.requires _ _ c.next_byte-first.ensures c.if-first-eq45.false c.if-first-eq40.false _ c.in-Some.ensures in let l = c.next_byte-first.ensures.low in let r = c.requires.room in omega (arith, q.0, l, r)

pub factor-returns : goal.factor-returns
factor-returns t c = let q = atom_place _ _ c.args.left _ _ c.requires _ _ c.next_byte-first.ensures c.if-first-eq45.false c.if-first-eq40.false _ c.in-Some.ensures in let l = c.next_byte-first.ensures.low in let r = c.requires.room in atom_on _ _ c.args.left _ _ c.requires _ _ c.next_byte-first.ensures c.if-first-eq45.false c.if-first-eq40.false _ c.in-Some.ensures (omega (arith, q.0, l, r))
