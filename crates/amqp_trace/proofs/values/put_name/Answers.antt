use Rattle.amqp_trace.proofs.Showing.{name_put}
use Rattle.amqp_trace.proofs.values.put_name.Goals as goal

pub returns-clause-text : goal.returns-clause-text
returns-clause-text c = rw (name_put c.args.names.now c.args.place _ c.args.line.now c.put.new.self c.if-place-names.false c.in_ok-put.ensures.text) c.put-2.ensures.text
