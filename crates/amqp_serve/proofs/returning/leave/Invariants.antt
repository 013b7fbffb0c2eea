use Rattle.std.proofs.Common.{◌≡◌, ◌+◌, ◌++◌, IsTrue, filter, length}
use Rattle.amqp_serve.specs.Returning.{goes_back, stays}
use Rattle.amqp_serve.proofs.returning.leave.Given as goal

abbrev pub invariant-loop : goal.invariant-loop
invariant-loop l = (length l.sent.items + l.counter ≡ length l.initial.sent.items) × (IsTrue l.is_whole → l.back.items ++ filter (goes_back l.link) l.sent.items ≡ l.initial.back.items ++ filter (goes_back l.link) l.initial.sent.items) × (IsTrue l.is_whole → l.kept.items ++ filter (stays l.link) l.sent.items ≡ filter (stays l.link) l.initial.sent.items)
