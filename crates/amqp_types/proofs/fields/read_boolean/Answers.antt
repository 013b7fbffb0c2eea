use Rattle.std.proofs.Common.{refl}
use Rattle.amqp_types.specs.declared.class.Kind.{Kind}
use Rattle.amqp_types.specs.declared.class.Conversion.{Conversion}
use Rattle.amqp_types.specs.declared.class.Width.{Width}
use Rattle.amqp_types.specs.Codes.{class_of}
use Rattle.amqp_types.proofs.Octets.{no_octets}
use Rattle.amqp_types.proofs.Fronts.{front_found}
use Rattle.amqp_types.proofs.fields.read_boolean.Goals as goal

pub returns-in-65 : goal.returns-in-65
unfolding class_of
returns-in-65 c = front_found Kind.Bool Width.Zero Conversion.One c.in_ok-code.code.now 65 c.in_ok-code.field-0-1.now c.args.bytes.now c.in_ok-code.ensures.cases c.in-65.is refl (λ i. (c.type_inv.bytes i).fits) 0 c.in_ok-code.field-0-1.now (no_octets c.in_ok-code.field-0-1.now) 1 refl (λ lt. refl)

pub returns-in-66 : goal.returns-in-66
unfolding class_of
returns-in-66 c = front_found Kind.Bool Width.Zero Conversion.Plain c.in_ok-code.code.now 66 c.in_ok-code.field-0-1.now c.args.bytes.now c.in_ok-code.ensures.cases c.in-66.is refl (λ i. (c.type_inv.bytes i).fits) 0 c.in_ok-code.field-0-1.now (no_octets c.in_ok-code.field-0-1.now) 0 refl (λ lt. refl)
