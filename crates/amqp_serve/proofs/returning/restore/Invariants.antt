use Rattle.std.proofs.Common.{◌≡◌, ◌+◌, length}
use Rattle.amqp_serve.specs.Returning.{restored}
use Rattle.amqp_serve.proofs.returning.restore.Given as goal

abbrev pub invariant-loop : goal.invariant-loop
invariant-loop l = (length l.back.items + l.counter ≡ length l.initial.back.items) × (l.lost ≡ 0 → restored l.back.items l.queues ≡ restored l.initial.back.items l.initial.queues)
