use Rattle.std.proofs.Common.{ap, not}
use Rattle.amqp_types.specs.Datum.{Datum}
use Rattle.amqp_performatives.specs.Fair.{is_null}
use Rattle.amqp_performatives.specs.Part.{value}
use Rattle.amqp_decoder.proofs.SeenValues.{owned_same}
use Rattle.amqp_decoder.proofs.parts.keep_value.Goals as goal

pub returns-in_ok-value-in-Some-clause-part : goal.returns-in_ok-value-in-Some-clause-part
returns-in_ok-value-in-Some-clause-part c = rw c.in-Some.is (ap value (owned_same c.in_ok-value-in-Some.value c.in-Some.borrowed.octets.now c.in-Some.borrowed.whole c.in_ok-value-in-Some.ensures))

pub returns-in_ok-value-in-Some-clause-fair : goal.returns-in_ok-value-in-Some-clause-fair
returns-in_ok-value-in-Some-clause-fair c = rw c.in-Some.is (ap (λ (d : Datum). not (is_null d)) (owned_same c.in_ok-value-in-Some.value c.in-Some.borrowed.octets.now c.in-Some.borrowed.whole c.in_ok-value-in-Some.ensures))
