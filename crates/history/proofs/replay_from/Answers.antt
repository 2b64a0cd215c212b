use mathlib.Core.Path.{refl, ◌∙◌}
use Rattle.history.proofs.Replaying.{none_run, one_more, all_run, from_first}
use Rattle.history.proofs.replay_from.Goals as goal

pub loop-next-init : goal.loop-next-init
loop-next-init c = record { nodes = refl; slots = refl; entries = refl; run = none_run _ _ _ c.at_first-last.ensures.reply c.at_first-last.ensures.name }

pub loop-next-preserved : goal.loop-next-preserved
loop-next-preserved c = record {
  nodes = c.call-last.auto.nodes ∙ c.loop-next.invariant.nodes;
  slots = c.call-last.auto.slots ∙ c.loop-next.invariant.slots;
  entries = c.call-last.auto.entries ∙ c.loop-next.invariant.entries;
  run = one_more _ _ _ c.in-Some.next _ _ _ _ _ c.in-Some.ensures c.loop-next.invariant.run c.call-last.ensures;
}

pub returns : goal.returns
returns c =
    let h = c.at_first-last.ensures in
    from_first _ _ _ _ c.at_first-last.result _ _ _ h.arena h.names (all_run _ _ _ c.loop-next.rest.now _ refl c.in_default.ensures c.loop-next.invariant.run)
