use Rattle.definitions.proofs.Deciding.{says_map}
use Rattle.store.proofs.audit.Goals as goal

pub returns : goal.returns
returns c = says_map _ (λ h. record { nodes = h.0; table = h.1 }) (λ h. (h.nodes, h.table)) c.audit.ensures
