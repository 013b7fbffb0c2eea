use Rattle.std.proofs.Common.{sym, ◌∙◌, subst}
use Rattle.amqp_conn.specs.Treating.{Treatment}
use Rattle.amqp_conn.specs.Treats.{TreatsAs}
use Rattle.amqp_conn.proofs.Running.{session-runs}
use Rattle.amqp_conn.proofs.treating.Machine.run.Goals as goal

pub returns-in-Session : goal.returns-in-Session
returns-in-Session c =
    let runs = session-runs c.args.self.now c.args.slot.now c.args.slot.now.body (sym c.kind_of.ensures ∙ c.in-Session.is) in
    subst (λ (t : Treatment). TreatsAs t c.args.self.now c.args.slot.now c.args.used c.hear_on.result c.hear_on.new.self) (sym runs) c.hear_on.ensures
