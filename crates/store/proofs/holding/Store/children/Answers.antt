use Rattle.std.proofs.Common.{arith, rules, ◌∙◌, ap, ◌≤◌, ◌+◌, ◌*◌, ℕ, length, get_or}
use Rattle.store.specs.Lookup.{Lookup}
use Rattle.arena.specs.Node.{words_from}
use Rattle.arena.proofs.Words.{part_words}
use Rattle.store.proofs.Reading as R
use Rattle.store.proofs.holding.Store.children.Goals as goal

pub overflow_add-result : goal.overflow_add-result
overflow_add-result c =
    let s = c.args.self.now in
    let look : Lookup s.nodes.now s.count c.args.id = record { below = c.requires; nodes = s.sound.nodes } in
    let few = R.few _ _ _ look in let e = R.arity_is _ _ _ look in let f = look.nodes.formed.fits in let m = look.nodes.formed.many in omega arith

pub slice_bounds-result-end : goal.slice_bounds-result-end
slice_bounds-result-end c =
    let s = c.args.self.now in
    let look : Lookup s.nodes.now s.count c.args.id = record { below = c.requires; nodes = s.sound.nodes } in
    let few = R.few _ _ _ look in let e = R.arity_is _ _ _ look in let f = look.nodes.formed.fits in let m = look.nodes.formed.many in omega arith

pub returns : goal.returns
returns c =
    let s = c.args.self.now in
    let look : Lookup s.nodes.now s.count c.args.id = record { below = c.requires; nodes = s.sound.nodes } in
    let few = R.few _ _ _ look in let e = R.arity_is _ _ _ look in let f = look.nodes.formed.fits in
    let i : c.args.id * 22 + 6 + get_or s.nodes.now (c.args.id * 22 + 5) 0 ≤ length s.nodes.now = omega arith in
    part_words s.nodes.now (c.args.id * 22 + 6) _ (c.args.id * 22 + 6 + get_or s.nodes.now (c.args.id * 22 + 5) 0) (search rules) i
    ∙ ap (λ (k : ℕ). words_from k s.nodes.now (c.args.id * 22 + 6)) e
    ∙ R.used_are s.nodes.now s.count c.args.id look
