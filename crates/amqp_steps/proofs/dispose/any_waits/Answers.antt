use Rattle.amqp_steps.specs.Disposing.{said_in}
use Rattle.amqp_steps.proofs.Disposing.{sender_waits, receiver_waits}
use Rattle.amqp_steps.proofs.dispose.any_waits.Goals as goal

pub returns-in-Sender : goal.returns-in-Sender
returns-in-Sender c = rw c.in-Sender.is (sender_waits (said_in c.args.said) c.args.held.now)

pub returns-in-Receiver : goal.returns-in-Receiver
returns-in-Receiver c = rw c.in-Receiver.is (receiver_waits (said_in c.args.said) c.args.held.now c.args.span c.any_second.result c.requires c.any_second.ensures)
