use Rattle.amqp_endpoint.proofs.endpoint.Endpoint.foretell_transfer.Goals as goal

pub returns-in-Ok : goal.returns-in-Ok
returns-in-Ok c = rw (c.in-Ok.ensures c.args.payload.now) (rw c.in-Ok-Comes.field-0-is at c.in-Ok-Comes.ensures.plan.due)
