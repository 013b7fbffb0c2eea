use Rattle.std.proofs.Common.{◌≡◌, drop, reverse}
use Rattle.amqp_types.specs.View.{views}
use Rattle.amqp_performatives.specs.Part.{canonical_fields}
use Rattle.amqp_messages.specs.Lending.{fields_at}
use Rattle.amqp_messages.proofs.lent.list_of.Given as goal

abbrev pub invariant-loop-i : goal.invariant-loop-i
invariant-loop-i l = views (reverse l.values.items) ≡ canonical_fields (fields_at (drop l.i l.fields))
