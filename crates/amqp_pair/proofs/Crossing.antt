-- What the threads of an end share may be shared by them.
use denote.RattleType.{RattleType}
use denote.Param.Send.{IsSend, IsSync, sendable}
use Rattle.std.proofs.Crossing.{crosses}
use Rattle.std.proofs.alloc.Global.TheSendSync as heap
use Rattle.std.specs.declared.sync.ledger.Ledger as ledger
use Rattle.amqp_shared.specs.declared.name.Name as name
use Rattle.amqp_shared.proofs.writer.WriterEnd.TheSendSync as writer_end
use Rattle.amqp_shared.proofs.Crossing.{bytes_send, locked_send}
use Rattle.amqp_pair.specs.contracts.writing.Long as long
use Rattle.amqp_pair.specs.contracts.writing.Batch as batch
use Rattle.amqp_pair.specs.contracts.writing.Outgoing as outgoing
use Rattle.amqp_pair.specs.contracts.end.End as end

long_send : IsSend (long.the_field).row
long_send = search (sendable, crosses, bytes_send) depth 40 fits 20000

batch_send : IsSend (batch.the_field).row
batch_send = search (sendable, crosses, long_send, heap.the_send) depth 40 fits 20000

outgoing_send : (N : RattleType) (n : name.Ghosts N.Denot) (l : ledger.Ghosts N.Denot) → IsSend (outgoing.the_row N n l)
outgoing_send N n l = search (sendable, crosses, writer_end.the_send, batch_send) depth 40 fits 20000

pub end_sync : (N : RattleType) (n : name.Ghosts N.Denot) (l : ledger.Ghosts N.Denot) → IsSync (end.the_row N n l)
end_sync N n l = search (sendable, crosses, locked_send, outgoing_send) depth 40 fits 100000
