use Rattle.std.proofs.Common.{subst}
use Rattle.amqp_conn.specs.Connection.{Core}
use Rattle.amqp_conn.specs.Calling.{Performs}
use Rattle.amqp_conn.specs.contracts.treating.Machine.{the_view}
use Rattle.amqp_conn.proofs.Performing.{performs}
use Rattle.amqp_conn.proofs.treating.Machine.perform.Goals as goal

pub returns-in-Running : goal.returns-in-Running
returns-in-Running c =
    let k = the_view c.self.inside in
    let done = c.perform.ensures in
    subst (λ (x : Core). Performs x c.args.op c.perform.result (record k { log = c.perform.new.self })) c.self.view_is
    (performs k c.perform.new.self c.args.op c.perform.result c.in-Running.is done.step done.refusal done.err)
