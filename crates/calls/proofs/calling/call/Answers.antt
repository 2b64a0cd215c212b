use mathlib.Core.Path.{refl}
use Rattle.encoding.specs.Encoding.{call_of_code}
use Rattle.calls.proofs.CodeCalls.{of_the_store, header_is, runs_store, runs_naming, runs_reading}
use Rattle.calls.proofs.calling.call.Goals as goal

pub call_store-requires : goal.call_store-requires
call_store-requires c = of_the_store _ c.in_default.not-Intern c.in_default.not-Lookup c.in_default.not-NameOf c.in_default.not-Read

pub returns-in-Intern : goal.returns-in-Intern
unfolding call_of_code
returns-in-Intern c = let h = c.of_names.ensures in runs_naming _ _ _ _ _ _ _ _ _ _ _ (header_is c.args.header c.args.operands.now _ c.in-Intern.is) refl c.intern.ensures h.reply h.name h.arena h.names

pub returns-in-Lookup : goal.returns-in-Lookup
unfolding call_of_code
returns-in-Lookup c = let h = c.of_names-in-Lookup.ensures in runs_naming _ _ _ _ _ _ _ _ _ _ _ (header_is c.args.header c.args.operands.now _ c.in-Lookup.is) refl c.lookup.ensures h.reply h.name h.arena h.names

pub returns-in-NameOf : goal.returns-in-NameOf
unfolding call_of_code
returns-in-NameOf c = let h = c.of_names-in-NameOf.ensures in runs_naming _ _ _ _ _ _ _ _ _ _ _ (header_is c.args.header c.args.operands.now _ c.in-NameOf.is) refl c.name_of.ensures h.reply h.name h.arena h.names

pub returns-in-Read : goal.returns-in-Read
unfolding call_of_code
returns-in-Read c = let h = c.of_reading.ensures in runs_reading _ c.args.operands.now _ _ _ _ _ _ (header_is c.args.header c.args.operands.now _ c.in-Read.is) c.call_reading.ensures h.reply h.name h.arena h.names

pub returns-in_default : goal.returns-in_default
returns-in_default c = let h = c.of_store.ensures in runs_store _ _ _ _ _ _ _ _ c.call_store.ensures h.reply h.name h.arena h.names
