use Rattle.amqp_policy.proofs.CreditLaws.{all_within}
use Rattle.amqp_policy.proofs.credit.credit_laws.Goals as goal

pub returns : goal.returns
returns c = record { within = all_within }
