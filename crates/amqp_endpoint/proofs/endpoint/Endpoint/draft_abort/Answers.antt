use Rattle.amqp_steps.proofs.Carried.{draft_aborted}
use Rattle.amqp_endpoint.proofs.endpoint.Endpoint.draft_abort.Goals as goal

pub returns : goal.returns
returns c =
    let t = rw (← c.self.view_is) at c.in_ok-aborted.ensures.taken in
    rw (← c.self.view_is, c.sent.ensures, c.fate.ensures)
    (draft_aborted c.self.inside.steps c.self.inside.session c.self.inside.stores c.args.link c.in_ok-aborted.aborted c.later_body.result c.self.invariant t c.later_body.ensures)
