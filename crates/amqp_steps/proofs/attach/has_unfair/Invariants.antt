use Rattle.std.proofs.Common.{◌≡◌, drop}
use Rattle.amqp_steps.specs.Attaching.{has_unfair}
use Rattle.amqp_steps.proofs.attach.has_unfair.Given as goal

abbrev pub invariant-loop-next : goal.invariant-loop-next
invariant-loop-next l = has_unfair (drop l.next l.items) ≡ has_unfair l.items
