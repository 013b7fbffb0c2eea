use Rattle.amqp_caller.proofs.Writing.{is-over}
use Rattle.amqp_caller.proofs.rest.Rest.is_empty.Goals as goal

pub returns : goal.returns
returns c = is-over c.self.inside.from c.len.result c.self.inside.bytes c.args.self.now c.len.ensures c.self.invariant c.self.view_is
