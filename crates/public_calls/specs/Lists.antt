-- What the equation of a list of calls gives of the memory after it.
use Rattle.std.specs.Prelude.{ℕ, ◌*◌, ◌≡◌, List, drop}
use Rattle.definitions.specs.Names.{entry_bytes}
use Rattle.definitions.specs.Controller.{ControllerCall}
use Rattle.calls.specs.declared.handing.CallResult.{CallResult}
use Rattle.history.specs.Replaying.{after, Promised}

-- bytes past the used entries stay
abbrev pub BytesPastStay : Type 0
BytesPastStay = (words slots bytes : List ℕ) (cs : List ControllerCall) (r : CallResult) (words' slots' bytes' : List ℕ)
    → Promised words slots bytes cs r words' slots' bytes' → drop (r.names * entry_bytes) bytes' ≡ drop (r.names * entry_bytes) bytes

-- two runs of one list in one lent memory leave one memory, every word, slot and byte and the counts
abbrev pub ListsOneWay : Type 0
ListsOneWay = (words slots bytes : List ℕ) (cs : List ControllerCall)
    (r r' : CallResult) (words' slots' bytes' words'' slots'' bytes'' : List ℕ)
    → Promised words slots bytes cs r words' slots' bytes' → Promised words slots bytes cs r' words'' slots'' bytes''
    → after words' slots' bytes' r ≡ after words'' slots'' bytes'' r'
