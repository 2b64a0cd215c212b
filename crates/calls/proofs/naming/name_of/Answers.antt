use Rattle.names.proofs.Clauses.{name_equation_gives_clauses}
use Rattle.calls.proofs.naming.name_of.Goals as goal

pub returns : goal.returns
returns c = let name = name_equation_gives_clauses _ _ _ _ c.name-told.ensures in record { called = name.called; name = (name.beside, name.fits) }
