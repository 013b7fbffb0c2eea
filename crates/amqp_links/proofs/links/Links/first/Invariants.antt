use Rattle.std.proofs.Common.{◌≡◌, find, drop}
use Rattle.amqp_links.specs.Index.{stands_as}
use Rattle.amqp_links.proofs.Sought.{seek}
use Rattle.amqp_links.proofs.links.Links.first.Given as goal

abbrev pub invariant-loop-number : goal.invariant-loop-number
invariant-loop-number l = find (stands_as l.standing l.role l.name) l.self.list ≡ seek (stands_as l.standing l.role l.name) l.self.list (drop l.number-index l.number-items)
