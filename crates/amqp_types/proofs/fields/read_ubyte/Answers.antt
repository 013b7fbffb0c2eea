use Rattle.std.proofs.Common.{[], ◌∷◌, refl, arith}
use Rattle.std.proofs.lemmas.Bool.{lt-ltb}
use Rattle.amqp_types.specs.declared.class.Kind.{Kind}
use Rattle.amqp_types.specs.declared.class.Conversion.{Conversion}
use Rattle.amqp_types.specs.declared.class.Width.{Width}
use Rattle.amqp_types.specs.Codes.{class_of}
use Rattle.amqp_types.proofs.Fronts.{front_found, front_short, front_other, not_code}
use Rattle.amqp_types.proofs.fields.read_ubyte.Goals as goal

pub returns-in_err-n-in-80 : goal.returns-in_err-n-in-80
unfolding class_of
returns-in_err-n-in-80 c = rw c.from_residual-in_err-n-in-80.ensures (front_short Kind.Ubyte Width.One Conversion.Plain c.in_ok-code.code.now 80 c.in_ok-code.rest.now c.args.bytes.now c.in_ok-code.ensures.cases c.in-80.is refl c.in_err-n-in-80.ensures)

pub returns-in_ok-n-in-80 : goal.returns-in_ok-n-in-80
unfolding class_of
returns-in_ok-n-in-80 c = front_found Kind.Ubyte Width.One Conversion.Plain c.in_ok-code.code.now 80 c.in_ok-code.rest.now c.args.bytes.now c.in_ok-code.ensures.cases c.in-80.is refl (λ i. (c.type_inv.bytes i).fits) c.in_ok-n-in-80.n c.in_ok-n-in-80.field-0-1.now c.in_ok-n-in-80.ensures c.in_ok-n-in-80.n refl (λ lt. lt-ltb _ _ (omega (arith, lt)))

pub returns-in_default : goal.returns-in_default
returns-in_default c = front_other Kind.Ubyte (80 ∷ []) c.in_ok-code.code.now c.in_ok-code.rest.now c.args.bytes.now refl c.in_ok-code.ensures.cases (not_code c.in_ok-code.code.now 80 ([]) (λ e. omega (arith, e)) refl)
