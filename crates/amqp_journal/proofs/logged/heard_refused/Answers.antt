use Rattle.amqp_rules.specs.Answer.{heard_answer}
use Rattle.amqp_rules.specs.Refusing.{no_memory}
use Rattle.amqp_journal.proofs.Due.{refused-or}
use Rattle.amqp_journal.proofs.logged.heard_refused.Goals as goal

pub returns : goal.returns
returns c = rw (c.unwrap_or.ensures, c.unlinked-wanting.ensures) (refused-or no_memory (heard_answer c.args.endpoint.now c.args.frame.now) c.violation.result c.violation.ensures)
