use Rattle.amqp_shared.proofs.Found.{if_err-map}
use Rattle.amqp_shared.proofs.shared.Shared.close.Goals as goal

pub returns-clause-back : goal.returns-clause-back
returns-clause-back g c = if_err-map _ _ c.close.result (λ e h. (h.1, h.2)) c.close.ensures.back
