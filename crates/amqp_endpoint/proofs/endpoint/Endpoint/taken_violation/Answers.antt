use Rattle.amqp_steps.proofs.Transfers.{named-first}
use Rattle.amqp_rules.specs.PeerTransfer.{name_violations}
use Rattle.amqp_steps.specs.Transferring.{delivery_rows}
use Rattle.amqp_endpoint.proofs.endpoint.Endpoint.taken_violation.Goals as goal

pub returns-in-Some : goal.returns-in-Some
returns-in-Some c =
    named-first (name_violations c.args.self.now c.args.b.now c.args.l.now c.args.l.now.receiving) (delivery_rows c.args.b.now c.args.payload.now c.args.l.now) c.name_violation.result c.in-Some.violation
    c.name_violation.ensures c.in-Some.is
