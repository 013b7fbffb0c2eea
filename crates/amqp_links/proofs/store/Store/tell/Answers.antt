use Rattle.amqp_links.proofs.Tellings.{told-none}
use Rattle.amqp_links.proofs.store.Store.tell.Goals as goal

pub loop-telling-init : goal.loop-telling-init
loop-telling-init c = (told-none c.args.self.now, c.new-links.ensures.items)
