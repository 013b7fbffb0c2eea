use Rattle.std.proofs.Common.{[], ◌∷◌, refl, arith}
use Rattle.std.proofs.lemmas.Bool.{lt-ltb}
use Rattle.amqp_types.specs.declared.class.Kind.{Kind}
use Rattle.amqp_types.specs.declared.class.Conversion.{Conversion}
use Rattle.amqp_types.specs.declared.class.Width.{Width}
use Rattle.amqp_types.specs.Codes.{class_of}
use Rattle.amqp_types.proofs.Fronts.{front_found, front_short, front_other, not_code}
use Rattle.amqp_types.proofs.fields.read_ushort.Goals as goal

pub returns-in_err-n-in-96 : goal.returns-in_err-n-in-96
unfolding class_of
returns-in_err-n-in-96 c = rw c.from_residual-in_err-n-in-96.ensures (front_short Kind.Ushort Width.Two Conversion.Plain c.in_ok-code.code.now 96 c.in_ok-code.rest.now c.args.bytes.now c.in_ok-code.ensures.cases c.in-96.is refl c.in_err-n-in-96.ensures)

pub returns-in_ok-n-in-96 : goal.returns-in_ok-n-in-96
unfolding class_of
returns-in_ok-n-in-96 c = front_found Kind.Ushort Width.Two Conversion.Plain c.in_ok-code.code.now 96 c.in_ok-code.rest.now c.args.bytes.now c.in_ok-code.ensures.cases c.in-96.is refl (λ i. (c.type_inv.bytes i).fits) c.in_ok-n-in-96.n c.in_ok-n-in-96.field-0-1.now c.in_ok-n-in-96.ensures c.in_ok-n-in-96.n refl (λ lt. lt-ltb _ _ (omega (arith, lt)))

pub returns-in_default : goal.returns-in_default
returns-in_default c = front_other Kind.Ushort (96 ∷ []) c.in_ok-code.code.now c.in_ok-code.rest.now c.args.bytes.now refl c.in_ok-code.ensures.cases (not_code c.in_ok-code.code.now 96 ([]) (λ e. omega (arith, e)) refl)
