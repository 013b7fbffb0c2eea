use Rattle.amqp_endpoint.proofs.endpoint.Endpoint.make_resumed.Goals as goal

pub returns-in-Ok-resume_body-clause-change : goal.returns-in-Ok-resume_body-clause-change
returns-in-Ok-resume_body-clause-change c = rw (← c.self.view_is) (rw c.next_delivery-id.ensures at c.in-Ok.ensures)

pub returns-in-Ok-resume_body-clause-body : goal.returns-in-Ok-resume_body-clause-body
returns-in-Ok-resume_body-clause-body c = rw (← c.self.view_is) (rw c.next_delivery-id.ensures at c.in-Ok-resume_body.ensures)
