use Rattle.std.proofs.Common.{◌≡◌, ◌-◌, ◌≤◌, ◌^◌, drop}
use Rattle.amqp_types.specs.Canon.{capped}
use Rattle.amqp_types.proofs.Lengths.{capped_behind}
use Rattle.amqp_messages.specs.Messages.{seen_all}
use Rattle.amqp_messages.specs.Written.{sections_form}
use Rattle.amqp_messages.proofs.write.sections_size.Given as goal

abbrev pub invariant-loop-section : goal.invariant-loop-section
invariant-loop-section l = record {
  within : l.size ≤ 2 ^ 64 - 1;
  so_far : capped_behind l.size (sections_form (seen_all (drop l.section-index l.sections))) ≡ capped (sections_form (seen_all l.sections));
}
