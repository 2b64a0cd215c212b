use Rattle.std.proofs.Common.{ap}
use Rattle.refusal.specs.Number.{by_number}
use Rattle.text_listing_bytes.proofs.FreshReading.{never_refused, read_fresh}
use Rattle.text_listing_bytes.proofs.reading.read_fresh.Goals as goal

pub returns-in-Ok : goal.returns-in-Ok
returns-in-Ok c = read_fresh _ _ _ _ _ _ _ _ _ c.requires c.fresh.ensures (ap by_number c.in-Ok.is) c.read.ensures

pub returns-in-Err : goal.returns-in-Err
returns-in-Err c = absurd (never_refused _ _ _ _ _ c.requires c.fresh.ensures (ap by_number c.in-Err.is))
