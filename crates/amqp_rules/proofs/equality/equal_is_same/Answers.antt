use Rattle.amqp_rules.proofs.Same.{ops_alike, replies_alike}
use Rattle.amqp_rules.proofs.equality.equal_is_same.Goals as goal

pub returns : goal.returns
returns c = record { operations = ops_alike; replies = replies_alike }
