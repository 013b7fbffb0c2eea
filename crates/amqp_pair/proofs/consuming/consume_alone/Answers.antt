use denote.Param.{param}
use denote.Param.Send.{sendable}
use Rattle.std.proofs.Crossing.{crosses}
use Rattle.amqp_pair.proofs.Crossing.{end_sync}
use Rattle.amqp_pair.proofs.consuming.consume_alone.Goals as goal

pub run_consumers_in_batches-requires-send-W : goal.run_consumers_in_batches-requires-send-W
run_consumers_in_batches-requires-send-W g c κs within =
    let end = end_sync (param 0 g.row.N) g.N.Name g.N.Ledger in
    let rt = c.type_bounds.sync-R in
    search (sendable, crosses, end, rt) depth 40 fits 20000
