use Rattle.amqp_rules.specs.declared.refusal.Refusal.TheVariants.{NoMemory}
use Rattle.amqp_rules.specs.Answer.{own_answer}
use Rattle.amqp_journal.proofs.Due.{refused-or}
use Rattle.amqp_journal.proofs.logged.own_refused.Goals as goal

pub returns : goal.returns
returns c = rw c.unwrap_or.ensures (refused-or NoMemory (own_answer c.args.endpoint.now c.args.op.now) c.refusal.result c.refusal.ensures)
