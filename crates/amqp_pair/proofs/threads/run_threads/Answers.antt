use denote.Param.{param}
use denote.Param.Send.{sendable}
use Rattle.std.proofs.Crossing.{crosses}
use Rattle.amqp_pair.proofs.Crossing.{end_sync}
use Rattle.amqp_pair.proofs.reading.Reader.TheSendSync as reader
use Rattle.amqp_pair.proofs.threads.run_threads.Goals as goal

-- what the reader takes along
pub beside-read-requires-send-F : goal.beside-read-requires-send-F
beside-read-requires-send-F g c κs within =
    let end = end_sync (param 0 g.row.N) g.N.Name g.N.Ledger in
    let rt = c.type_bounds.sync-R in
    search (sendable, crosses, end, rt, reader.the_send) depth 60 fits 100000
