use Rattle.amqp_world.proofs.HeardMore.{both-heard, one-waits}
use Rattle.amqp_world.proofs.world.World.at_rest.Goals as goal

pub returns-then-has_heard_all : goal.returns-then-has_heard_all
returns-then-has_heard_all c =
    both-heard c.self.inside.a_hears c.self.inside.b_hears c.args.self.now (record { a = c.self.inside.a; b = c.self.inside.b }) c.has_heard_all.result c.has_heard_all-then-has_heard_all.result c.self.invariant c.self.view_is
    c.has_heard_all.ensures c.has_heard_all-then-has_heard_all.ensures c.if-has_heard_all.true

pub returns-else-has_heard_all : goal.returns-else-has_heard_all
returns-else-has_heard_all c =
    one-waits c.self.inside.a_hears c.self.inside.b_hears c.args.self.now (record { a = c.self.inside.a; b = c.self.inside.b }) c.has_heard_all.result c.self.invariant c.self.view_is c.has_heard_all.ensures c.if-has_heard_all.false
