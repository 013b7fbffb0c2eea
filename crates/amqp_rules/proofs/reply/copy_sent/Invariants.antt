use Rattle.std.proofs.Common.{◌≡◌, take}
use Rattle.amqp_rules.proofs.reply.copy_sent.Given as goal

abbrev pub invariant-loop-frame : goal.invariant-loop-frame
invariant-loop-frame l = l.copies.items ≡ take l.frame-index l.frame-items
