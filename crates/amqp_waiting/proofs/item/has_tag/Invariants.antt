use Rattle.std.proofs.Common.{◌≡◌, drop}
use Rattle.amqp_waiting.specs.Kept.{has_tag}
use Rattle.amqp_waiting.proofs.item.has_tag.Given as goal

abbrev pub invariant-loop-next : goal.invariant-loop-next
invariant-loop-next l = has_tag l.tag (drop l.next l.items) ≡ has_tag l.tag (drop l.place l.items)
