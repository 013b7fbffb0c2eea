use Rattle.amqp_waiting.specs.PeerUnsettled.{told_in}
use Rattle.amqp_waiting.proofs.Growing.{told-more}
use Rattle.amqp_waiting.proofs.heard.told_by.Goals as goal

pub loop-pair-preserved : goal.loop-pair-preserved
loop-pair-preserved c = told-more told_in c.args.pairs.now c.loop-pair.pair-index c.pair-item.result c.loop-pair.told.items _ c.loop-pair-test.true c.pair-item.is c.loop-pair.invariant c.in_ok-put_told.ensures
