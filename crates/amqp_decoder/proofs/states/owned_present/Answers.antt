use Rattle.std.proofs.Common.{ap}
use Rattle.amqp_types.specs.Datum.{Datum}
use Rattle.amqp_performatives.specs.Fair.{is_other_state}
use Rattle.amqp_performatives.specs.Part.{value}
use Rattle.amqp_decoder.proofs.SeenValues.{owned_same}
use Rattle.amqp_decoder.proofs.states.owned_present.Goals as goal

pub returns-in_ok-value-in-Other-clause-part : goal.returns-in_ok-value-in-Other-clause-part
returns-in_ok-value-in-Other-clause-part c = rw c.in-Other.is (ap value (owned_same c.in_ok-value-in-Other.value c.in-Other.borrowed.octets.now c.in-Other.borrowed.whole c.in_ok-value-in-Other.ensures))

pub returns-in_ok-value-in-Other-clause-fair : goal.returns-in_ok-value-in-Other-clause-fair
returns-in_ok-value-in-Other-clause-fair c = rw c.in-Other.is (ap (λ (d : Datum). is_other_state d) (owned_same c.in_ok-value-in-Other.value c.in-Other.borrowed.octets.now c.in-Other.borrowed.whole c.in_ok-value-in-Other.ensures))
