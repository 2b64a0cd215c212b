-- The public calls keep the promise: each contract, lifted to the whole memory, is what the promise of a list of calls takes.
use mathlib.Core.List.{List}
use Rattle.definitions.specs.Controller.{ControllerCall, ControllerAnswer}
use Rattle.definitions.specs.Promise as Promise
use Rattle.definitions.specs.Promise.{ControllerCalled, History}
use Rattle.definitions.proofs.Histories.{demand3}
use Rattle.definitions.proofs.Lifting.{lift_store, lift_names, fresh_beside}
use Rattle.store.specs.Memory.{memory, model}
use Rattle.names.specs.Memory.{name_memory, name_model}
use Rattle.names.proofs.Modelled.{names_called, no_names}
use Rattle.text.proofs.Calling.{read_called}
use Rattle.text.specs.Memory.{ControllerMemory, lent_controller}
use Rattle.calls.specs.Memory.{CallLeaves, by_store, by_names, by_text, LeavesInTurn, done, next, KeepsPromise, OpenedFresh}

pub called : {c : ControllerCall} {m : ControllerMemory} {a : ControllerAnswer} {m' : ControllerMemory} → CallLeaves c m a m' → ControllerCalled lent_controller c m a m'
called (by_store {c = c} {s = s} {s' = s'} {a = a} {n = n} h) = lift_store model name_model c s s' a n h.called
called (by_names {c = c} {s = s} {bytes = bytes} {bytes' = bytes'} {count = count} {count' = count'} {a = a} h) =
    lift_names model name_model c s (name_memory bytes count) (name_memory bytes' count') a (names_called c bytes count a bytes' count' h)
called (by_text {text = text} {m = m} {m' = m'} {a = a} h) = read_called text m m' a h

pub history_of : {m : ControllerMemory} {cs : List ControllerCall} {al : List ControllerAnswer} {ms : List ControllerMemory} → LeavesInTurn m cs al ms → History lent_controller m cs al ms
history_of done = Promise.done
history_of (next k t) = Promise.next (called k) (history_of t)

pub keeps_promise : KeepsPromise
keeps_promise m cs al ms f h = demand3 lent_controller m cs al ms f (history_of h)

pub opened_fresh : OpenedFresh
opened_fresh words slots slots' bytes r arena o e = fresh_beside model name_model (memory words slots' arena) (name_memory bytes 0) (o.fresh arena e) (no_names bytes)
