use Rattle.std.proofs.Common.{◌≡◌, drop}
use Rattle.amqp_messages.specs.Messages.{first_of, seen_all}
use Rattle.amqp_messages.proofs.message.find_in.Given as goal

abbrev pub invariant-loop-section : goal.invariant-loop-section
invariant-loop-section l = first_of l.kind (seen_all (drop l.section-index l.sections)) ≡ first_of l.kind (seen_all l.sections)
