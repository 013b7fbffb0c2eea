use Rattle.std.proofs.Common.{◌≡◌, drop}
use Rattle.amqp_waiting.specs.PeerUnsettled.{all_null}
use Rattle.amqp_waiting.proofs.heard.ends_at.Given as goal

abbrev pub invariant-loop-next : goal.invariant-loop-next
invariant-loop-next l = all_null (drop l.next l.values) ≡ all_null (drop l.place l.values)
