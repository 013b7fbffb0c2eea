use Rattle.std.proofs.Common.{sym, ◌∙◌}
use Rattle.amqp_shared.proofs.Growth.{feed_grows, pushed-stands}
use Rattle.amqp_shared.specs.Passes.{steps_fed}
use Rattle.amqp_shared.proofs.locked.Locked.feed.Goals as goal

pub push_units-requires : goal.push_units-requires
push_units-requires g c =
    let v = c.self.invariant in
    let fed = c.feed-result in
    record { pushed = v.pushed_is ∙ sym (pushed-stands c.self.inside.conn.core fed.new.self.core (steps_fed fed.result) (feed_grows c.self.inside.conn fed.new.self c.args.octets.now fed.result c.recall.ensures.within fed.ensures.fed) v.no_more_moved) }
