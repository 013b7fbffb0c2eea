use Rattle.amqp_messages.proofs.LendingLaws.{canonical_fit}
use Rattle.amqp_messages.proofs.lent.built_fields_fit.Goals as goal

pub returns : goal.returns
returns c = canonical_fit
