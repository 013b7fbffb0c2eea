use Rattle.std.specs.Prelude.{slice_index_or}
use Rattle.amqp_shared.proofs.Rounds.{one-by-one}
use Rattle.amqp_shared.proofs.Found.{if_ok-map}
use Rattle.amqp_shared.proofs.consumers.run_consumers_with.Goals as goal

pub returns-clause-each : goal.returns-clause-each
returns-clause-each g c =
    if_ok-map _ _ c.run_consumers_in_batches.result (λ v h i p w d low.
    let done = slice_index_or v.items i d in
    one-by-one g.W.Work.consumes _ _ done.count done.left done.stopped _ (h i p w d low)) c.run_consumers_in_batches.ensures.each
