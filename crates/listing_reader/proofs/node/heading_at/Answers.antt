-- `listing_reader::node::heading_at` meets its contract.
use mathlib.Core.Path.{refl}
use Rattle.listing_reader.proofs.Headings.{no_id, no_kind, no_payload, no_flags, heading_found}
use Rattle.listing_reader.proofs.node.heading_at.Goals as goal

pub returns-in_err-id : goal.returns-in_err-id
returns-in_err-id c = rw c.from_residual.ensures (no_id c.in_err-id.ensures refl)

pub returns-in_err-kind : goal.returns-in_err-kind
returns-in_err-kind c = rw c.from_residual-in_err-kind.ensures (no_kind c.in_ok-id.ensures refl c.in_err-kind.ensures refl)

pub returns-in_err-payload : goal.returns-in_err-payload
returns-in_err-payload c = rw c.from_residual-in_err-payload.ensures (no_payload c.in_ok-id.ensures refl c.in_ok-kind.ensures refl c.in_err-payload.ensures refl)

pub returns-in_err-flags : goal.returns-in_err-flags
returns-in_err-flags c = rw c.from_residual-in_err-flags.ensures (no_flags c.in_ok-id.ensures refl c.in_ok-kind.ensures refl c.in_ok-payload.ensures refl c.in_err-flags.ensures refl)

pub returns : goal.returns
returns c = heading_found c.in_ok-id.ensures refl c.in_ok-kind.ensures refl c.in_ok-payload.ensures refl c.in_ok-flags.ensures refl
