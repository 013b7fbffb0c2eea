use denote.Param.{param}
use denote.Param.Send.{sendable}
use Rattle.std.proofs.Crossing.{crosses}
use Rattle.amqp_shared.proofs.Crossing.{shared_sync}
use Rattle.amqp_shared_tests.proofs.shared.consuming.Own.TheSendSync as own
use Rattle.amqp_shared_tests.proofs.shared.consuming.run.Goals as goal

pub run_consumers-requires-send-W : goal.run_consumers-requires-send-W
run_consumers-requires-send-W g c κs within =
    let shared = shared_sync (param 0 g.row.N) g.N.Name g.N.Ledger in
    let rt = c.type_bounds.sync-R in
    search (sendable, crosses, shared, rt, own.the_field_send) depth 40 fits 20000

pub run_consumers_in_batches-requires-send-W : goal.run_consumers_in_batches-requires-send-W
run_consumers_in_batches-requires-send-W g c κs within =
    let shared = shared_sync (param 0 g.row.N) g.N.Name g.N.Ledger in
    let rt = c.type_bounds.sync-R in
    search (sendable, crosses, shared, rt, own.the_field_send) depth 40 fits 20000
