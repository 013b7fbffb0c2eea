use Rattle.std.proofs.Common.{◌≡◌, drop}
use Rattle.amqp_types.specs.Datum.{none}
use Rattle.amqp_performatives.specs.Listed.{shown_fields}
use Rattle.amqp_performatives.proofs.listed.shown_count.Given as goal

abbrev pub invariant-loop-i : goal.invariant-loop-i
invariant-loop-i l = shown_fields (drop l.i l.fields) ≡ none
