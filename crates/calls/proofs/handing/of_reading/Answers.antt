use mathlib.Core.Path.{◌∙◌, ap}
use mathlib.Core.Option.{some}
use Rattle.definitions.specs.Machine as M
use Rattle.definitions.specs.Controller.{from_store}
use Rattle.calls.specs.Calling.{last_reply_of}
use Rattle.calls.proofs.CodeCalls.{store_beside}
use Rattle.calls.proofs.handing.of_reading.Goals as goal

pub returns : goal.returns
returns c =
    let made = c.of_built-performed.ensures in
    let handed = c.of_store.ensures in
    record {
      reply = ap (λ x. last_reply_of x c.of_store.result.name) handed.reply ∙ ap (λ (a : M.Answer). some (from_store a)) made.0;
      name = store_beside _ _ _ handed.reply handed.name;
      arena = handed.arena ∙ made.1;
      names = handed.names;
    }
