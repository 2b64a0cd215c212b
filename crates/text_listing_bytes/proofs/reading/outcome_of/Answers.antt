use Rattle.text_listing_bytes.proofs.FreshReading.{ok_outcome, refused_outcome}
use Rattle.text_listing_bytes.proofs.reading.outcome_of.Goals as goal

pub returns-in-Id : goal.returns-in-Id
returns-in-Id c = ok_outcome _ _ _ c.in-Id.is

pub returns-in-Refused : goal.returns-in-Refused
returns-in-Refused c = refused_outcome _ _ _ c.in-Refused.is
