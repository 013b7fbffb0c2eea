use denote.Param.{param}
use denote.Param.Send.{sendable}
use Rattle.std.proofs.Crossing.{crosses}
use Rattle.amqp_pair.proofs.Crossing.{end_sync}
use Rattle.amqp_pair.proofs.threads.write_and_work.Goals as goal

-- what the writer takes along
pub beside-done-requires-send-F : goal.beside-done-requires-send-F
beside-done-requires-send-F g c κs within =
    let end = end_sync (param 0 g.row.N) g.N.Name g.N.Ledger in
    let rt = c.type_bounds.sync-R in
    search (sendable, crosses, end, rt) depth 60 fits 100000
