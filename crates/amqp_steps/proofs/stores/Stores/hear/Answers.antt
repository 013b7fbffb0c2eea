use Rattle.amqp_steps.proofs.Heard.{heard-told}
use Rattle.amqp_steps.proofs.stores.Stores.hear.Goals as goal

pub returns-in-Ok-clause-ok : goal.returns-in-Ok-clause-ok
returns-in-Ok-clause-ok c =
    rw (← c.self.view_is)
    (heard-told c.args.role c.args.said.now (record { links = c.self.inside.links; tables = c.self.inside.tables }) c.tell.new.self c.in_ok-told-in-Sender.told.items c.hear-in-Sender.new.self
    c.in-Sender.is c.in_ok-links-in-Sender.ensures.next c.in_ok-told-in-Sender.ensures c.in-Ok.ensures.ok)
