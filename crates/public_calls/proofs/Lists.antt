-- What the equation of a list of calls gives of the memory after it.
use Prim.Native.Nat.{◌*◌}
use mathlib.Core.Path.{◌≡◌, sym, ◌∙◌, subst}
use lib.ListN.{drop}
use Rattle.definitions.specs.Names.{entry_bytes}
use Rattle.definitions.specs.Controller.{store_part, names_part}
use Rattle.text.specs.Memory.{ControllerMemory, BothSound}
use Rattle.calls.specs.Memory.{fresh_controller_memory}
use Rattle.history.proofs.Turns.{extends_in_turn}
use Rattle.public_calls.specs.Lists.{BytesPastStay, ListsOneWay}

pub bytes_past_stay : BytesPastStay
bytes_past_stay words slots bytes cs r words' slots' bytes' p =
    let both : BothSound (fresh_controller_memory words slots bytes) = record { store = p.fresh.sound store_part; names = p.fresh.sound names_part } in
    subst (λ (m : ControllerMemory). drop (m.names.count * entry_bytes) m.names.bytes ≡ drop (m.names.count * entry_bytes) bytes) p.run.last_memory
    (extends_in_turn p.run.left both).past

pub lists_one_way : ListsOneWay
lists_one_way words slots bytes cs r r' words' slots' bytes' words'' slots'' bytes'' p q = p.memory ∙ sym q.memory
