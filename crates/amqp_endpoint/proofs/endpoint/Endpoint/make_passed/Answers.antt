use Rattle.amqp_steps.proofs.Transfers.{passed-plan}
use Rattle.amqp_endpoint.proofs.endpoint.Endpoint.make_passed.Goals as goal

pub returns : goal.returns
returns c =
    rw (← c.self.view_is, c.passed_expected.ensures)
    (passed-plan c.self.inside.steps c.self.inside.session c.self.inside.stores c.args.b.now c.args.payload.now c.args.l.now c.self.invariant (rw (← c.self.view_is) at c.requires.heard) c.requires.left)
