use Rattle.amqp_world.proofs.Promising.{start-pair}
use Rattle.amqp_world.proofs.world.World.new.Goals as goal

pub invariant_of-result : goal.invariant_of-result
invariant_of-result c =
    start-pair c.new.result c.new-2.result c.in_ok-a_logged.a_logged c.in_ok-b_logged.b_logged c.args.a.now.session c.args.b.now.session c.args.a.now.max_frame c.args.b.now.max_frame c.requires.a c.requires.b c.new.ensures c.new-2.ensures
    c.in_ok-a_logged.ensures c.in_ok-b_logged.ensures
