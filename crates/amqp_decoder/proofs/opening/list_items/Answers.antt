use Rattle.amqp_decoder.proofs.DescribedLists.{finds_items, cut_twice, no_items}
use Rattle.amqp_decoder.proofs.opening.list_items.Goals as goal

pub returns-in-Some : goal.returns-in-Some
returns-in-Some c = let h = c.in-Some.head in finds_items c.args.octets.now h.count h.start h.end c.in-Some.ensures _ (cut_twice h.start h.end c.args.octets.now c.in-Some.ensures.0)

pub returns-in-None : goal.returns-in-None
returns-in-None c = no_items c.args.octets.now c.in-None.ensures
