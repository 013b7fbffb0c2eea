use Rattle.std.proofs.Common.{◌≡◌, ◌&&◌, ◌||◌, drop}
use Rattle.amqp_messages.specs.Messages.{are_ordered, has_body, seen_all}
use Rattle.amqp_messages.specs.Written.{is_message}
use Rattle.amqp_messages.proofs.write.are_ordered.Given as goal

abbrev pub invariant-loop-section : goal.invariant-loop-section
invariant-loop-section l = (are_ordered l.last (seen_all (drop l.section-index l.sections)) && (l.has_body || has_body (seen_all (drop l.section-index l.sections)))) ≡ is_message (seen_all l.sections)
