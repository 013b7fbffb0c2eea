use Rattle.std.proofs.Common.{◌≡◌, ◌++◌, map, filter, take}
use Rattle.amqp_deliveries.specs.Held.{items_of}
use Rattle.amqp_rules.specs.Suspend.{is_put_aside, item_aside, waiting_aside}
use Rattle.amqp_links.proofs.link.Link.put_aside.Given as goal

abbrev pub invariant-loop-place : goal.invariant-loop-place
invariant-loop-place l = l.items.items ≡ map waiting_aside l.self.waiting ++ map item_aside (filter (is_put_aside l.self) (take l.place (items_of l.held)))
