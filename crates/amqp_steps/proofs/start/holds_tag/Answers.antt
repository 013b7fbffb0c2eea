use Rattle.amqp_events.specs.Tags.{is_tagged}
use Rattle.amqp_steps.proofs.Plans.{any-of}
use Rattle.amqp_steps.proofs.start.holds_tag.Goals as goal

pub returns : goal.returns
returns c = rw c.has_tag.ensures (any-of (is_tagged c.args.link c.args.tag.now) (λ x. x.item) c.args.tables.now.sent)
