use Rattle.std.proofs.Common.{◌≡◌}
use Rattle.amqp_ready.proofs.device.SocketNonBlocking.write_two.Given as goal

abbrev pub invariant-loop : goal.invariant-loop
invariant-loop l = l.self.has_failed ≡ l.fn.self.has_failed
