use Rattle.std.proofs.Common.{◌≤◌, length, take}
use Rattle.std.specs.Io.KnownBytes.{Appends}
use Rattle.amqp_conn.proofs.device.write_whole.Given as goal

abbrev pub invariant-loop : goal.invariant-loop
invariant-loop g l =
    (l.written ≤ length l.fn.octets) × Appends (g.T.Write.contents l.fn.device) (g.T.Write.contents l.device) (take l.written l.fn.octets)
