use Rattle.std.proofs.Common.{◌≡◌, drop}
use Rattle.amqp_types.proofs.Contents.{behind}
use Rattle.amqp_messages.specs.Messages.{seen_all}
use Rattle.amqp_messages.specs.Written.{bare_forms}
use Rattle.amqp_messages.proofs.write.put_sections.Given as goal

abbrev pub invariant-loop-section : goal.invariant-loop-section
invariant-loop-section l = behind l.out.items (bare_forms (seen_all (drop l.section-index l.sections))) ≡ behind l.initial.out.items (bare_forms (seen_all l.sections))
