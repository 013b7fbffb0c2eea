use Rattle.std.proofs.Common.{[], ◌∷◌, refl}
use Rattle.amqp_types.specs.declared.class.Kind.{Kind}
use Rattle.amqp_types.specs.declared.class.Conversion.{Conversion}
use Rattle.amqp_types.specs.declared.class.Width.{Width}
use Rattle.amqp_types.specs.Codes.{class_of}
use Rattle.amqp_types.proofs.Octets.{no_octets}
use Rattle.amqp_types.proofs.Fronts.{front_found, front_other, not_code}
use Rattle.amqp_types.proofs.fields.read_null.Goals as goal

pub returns-then-code-eq64 : goal.returns-then-code-eq64
unfolding class_of
returns-then-code-eq64 c = front_found Kind.Null Width.Zero Conversion.Plain c.in_ok-code.code.now 64 c.in_ok-code.field-0-1.now c.args.bytes.now c.in_ok-code.ensures.cases c.if-code-eq64.true refl (λ i. (c.type_inv.bytes i).fits) 0 c.in_ok-code.field-0-1.now (no_octets c.in_ok-code.field-0-1.now) 0 refl (λ lt. refl)

pub returns-else-code-eq64 : goal.returns-else-code-eq64
returns-else-code-eq64 c = λ u. front_other Kind.Null (64 ∷ []) c.in_ok-code.code.now c.in_ok-code.field-0-1.now c.args.bytes.now refl c.in_ok-code.ensures.cases (not_code c.in_ok-code.code.now 64 [] c.if-code-eq64.false refl) 0
