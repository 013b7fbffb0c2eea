use Rattle.std.proofs.Common.{◌≡◌, take}
use Rattle.amqp_rules.proofs.reply.copy_ended.Given as goal

abbrev pub invariant-loop-named : goal.invariant-loop-named
invariant-loop-named l = l.copies.items ≡ take l.named-index l.named-items
