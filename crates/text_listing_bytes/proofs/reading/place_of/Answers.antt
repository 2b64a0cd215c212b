use Rattle.text_listing_bytes.proofs.FreshReading.{place_none, place_outside, place_other}
use Rattle.text_listing_bytes.proofs.reading.place_of.Goals as goal

pub returns-then-number-eq-OUTSIDE_LANGUAGE : goal.returns-then-number-eq-OUTSIDE_LANGUAGE
returns-then-number-eq-OUTSIDE_LANGUAGE c = place_outside _ _ _ _ c.in-Refused.is c.if-number-eq-OUTSIDE_LANGUAGE.true c.stops_at.ensures

pub returns-in-Id : goal.returns-in-Id
returns-in-Id c = place_none _ _ _ c.in-Id.is

pub returns-else-number-eq-OUTSIDE_LANGUAGE : goal.returns-else-number-eq-OUTSIDE_LANGUAGE
returns-else-number-eq-OUTSIDE_LANGUAGE c = place_other _ _ _ c.in-Refused.is c.if-number-eq-OUTSIDE_LANGUAGE.false
