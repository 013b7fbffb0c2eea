use Rattle.std.proofs.Common.{[], ◌∷◌, refl, sym, arith}
use Rattle.std.proofs.lemmas.Bool.{lt-ltb}
use Rattle.amqp_types.specs.declared.class.Kind.{Kind}
use Rattle.amqp_types.specs.declared.class.Conversion.{Conversion}
use Rattle.amqp_types.specs.declared.class.Width.{Width}
use Rattle.amqp_types.specs.Codes.{class_of}
use Rattle.amqp_types.proofs.Octets.{no_octets}
use Rattle.amqp_types.proofs.Fronts.{front_found, front_short, front_other, not_code}
use Rattle.amqp_types.proofs.fields.read_ulong.Goals as goal

pub returns-in-68 : goal.returns-in-68
unfolding class_of
returns-in-68 c = front_found Kind.Ulong Width.Zero Conversion.Plain c.in_ok-code.code.now 68 c.in_ok-code.rest.now c.args.bytes.now c.in_ok-code.ensures.cases c.in-68.is refl (λ i. (c.type_inv.bytes i).fits) 0 c.in_ok-code.rest.now (no_octets c.in_ok-code.rest.now) 0 refl (λ lt. refl)

pub returns-in_err-n-in-83 : goal.returns-in_err-n-in-83
unfolding class_of
returns-in_err-n-in-83 c = rw c.from_residual-in_err-n-in-83.ensures (front_short Kind.Ulong Width.One Conversion.Plain c.in_ok-code.code.now 83 c.in_ok-code.rest.now c.args.bytes.now c.in_ok-code.ensures.cases c.in-83.is refl c.in_err-n-in-83.ensures)

pub returns-in_ok-n-in-83 : goal.returns-in_ok-n-in-83
unfolding class_of
returns-in_ok-n-in-83 c = front_found Kind.Ulong Width.One Conversion.Plain c.in_ok-code.code.now 83 c.in_ok-code.rest.now c.args.bytes.now c.in_ok-code.ensures.cases c.in-83.is refl (λ i. (c.type_inv.bytes i).fits) c.in_ok-n-in-83.n c.in_ok-n-in-83.field-0-1.now c.in_ok-n-in-83.ensures c.from.result (sym c.from.ensures) (λ lt. lt-ltb _ _ (omega (arith, lt)))

pub returns-in_err-n-in-128 : goal.returns-in_err-n-in-128
unfolding class_of
returns-in_err-n-in-128 c = rw c.from_residual-in_err-n-in-128.ensures (front_short Kind.Ulong Width.Eight Conversion.Plain c.in_ok-code.code.now 128 c.in_ok-code.rest.now c.args.bytes.now c.in_ok-code.ensures.cases c.in-128.is refl c.in_err-n-in-128.ensures)

pub returns-in_ok-n-in-128 : goal.returns-in_ok-n-in-128
unfolding class_of
returns-in_ok-n-in-128 c = front_found Kind.Ulong Width.Eight Conversion.Plain c.in_ok-code.code.now 128 c.in_ok-code.rest.now c.args.bytes.now c.in_ok-code.ensures.cases c.in-128.is refl (λ i. (c.type_inv.bytes i).fits) c.in_ok-n-in-128.n c.in_ok-n-in-128.field-0-1.now c.in_ok-n-in-128.ensures c.in_ok-n-in-128.n refl (λ lt. lt-ltb _ _ (omega (arith, lt)))

pub returns-in_default : goal.returns-in_default
returns-in_default c = front_other Kind.Ulong (68 ∷ 83 ∷ 128 ∷ []) c.in_ok-code.code.now c.in_ok-code.rest.now c.args.bytes.now refl c.in_ok-code.ensures.cases (not_code c.in_ok-code.code.now 68 (83 ∷ 128 ∷ []) (λ e. omega (arith, e)) (not_code c.in_ok-code.code.now 83 (128 ∷ []) (λ e. omega (arith, e)) (not_code c.in_ok-code.code.now 128 ([]) (λ e. omega (arith, e)) refl)))
