use Rattle.std.proofs.Common.{rules}
use Rattle.amqp_journal.proofs.Keeping.{kept-put-parts, steps-are}
use Rattle.amqp_journal.proofs.Counting.{counted-same}
use Rattle.amqp_journal.proofs.logged.Logged.put_unit.Goals as goal

pub invariant_of-self-2 : goal.invariant_of-self-2
invariant_of-self-2 c = (
  kept-put-parts
      c.self.inside.config
      c.self.inside.gone.items
      c.self.inside.journal.items
      c.self.inside.put.items
      c.push_reserved.new.self.items
      c.self.inside.popped
      c.self.inside.endpoint.steps
      c.self.inside.left.items
      c.self.inside.endpoint
      c.self.inside.waiting.items
      c.queue.new.waiting.items
      c.args.octets
      c.self.invariant.0
      (steps-are _ c.self.inside.endpoint c.self.inside.waiting.items c.self.invariant.0)
      (search rules)
      (search rules),
  c.queue.ensures.counted (counted-same c.self.inside.octets c.self.inside.waiting.items c.room_for_put.new.waiting.items (search rules) c.self.invariant.1),
)
