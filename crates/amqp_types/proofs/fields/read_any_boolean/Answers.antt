use Rattle.std.proofs.Common.{[], ◌∷◌, cond, refl, arith}
use Rattle.std.proofs.lemmas.Bool.{le-ltb}
use Rattle.amqp_types.specs.declared.class.Kind.{Kind}
use Rattle.amqp_types.specs.declared.class.Conversion.{Conversion}
use Rattle.amqp_types.specs.declared.class.Width.{Width}
use Rattle.amqp_types.specs.Codes.{class_of}
use Rattle.amqp_types.proofs.Octets.{no_octets}
use Rattle.amqp_types.proofs.Fronts.{front_found, front_short, front_unfit, front_other, not_code}
use Rattle.amqp_types.proofs.fields.read_any_boolean.Goals as goal

pub returns-in-65 : goal.returns-in-65
unfolding class_of
returns-in-65 c = front_found Kind.Bool Width.Zero Conversion.One c.in_ok-code.code.now 65 c.in_ok-code.rest.now c.args.bytes.now c.in_ok-code.ensures.cases c.in-65.is refl (λ i. (c.type_inv.bytes i).fits) 0 c.in_ok-code.rest.now (no_octets c.in_ok-code.rest.now) 1 refl (λ lt. refl)

pub returns-in-66 : goal.returns-in-66
unfolding class_of
returns-in-66 c = front_found Kind.Bool Width.Zero Conversion.Plain c.in_ok-code.code.now 66 c.in_ok-code.rest.now c.args.bytes.now c.in_ok-code.ensures.cases c.in-66.is refl (λ i. (c.type_inv.bytes i).fits) 0 c.in_ok-code.rest.now (no_octets c.in_ok-code.rest.now) 0 refl (λ lt. refl)

pub returns-in_err-octet-in-86 : goal.returns-in_err-octet-in-86
unfolding class_of
returns-in_err-octet-in-86 c = rw c.from_residual-in_err-octet-in-86.ensures (λ b. front_short Kind.Bool Width.One Conversion.Plain c.in_ok-code.code.now 86 c.in_ok-code.rest.now c.args.bytes.now c.in_ok-code.ensures.cases c.in-86.is refl c.in_err-octet-in-86.ensures (cond b 1 0))

pub returns-in-0 : goal.returns-in-0
unfolding class_of
returns-in-0 c = front_found Kind.Bool Width.One Conversion.Plain c.in_ok-code.code.now 86 c.in_ok-code.rest.now c.args.bytes.now c.in_ok-code.ensures.cases c.in-86.is refl (λ i. (c.type_inv.bytes i).fits) c.in_ok-octet-in-86.octet c.in_ok-octet-in-86.field-0-1.now c.in_ok-octet-in-86.ensures 0 c.in-0.is (λ lt. refl)

pub returns-in-1 : goal.returns-in-1
unfolding class_of
returns-in-1 c = front_found Kind.Bool Width.One Conversion.Plain c.in_ok-code.code.now 86 c.in_ok-code.rest.now c.args.bytes.now c.in_ok-code.ensures.cases c.in-86.is refl (λ i. (c.type_inv.bytes i).fits) c.in_ok-octet-in-86.octet c.in_ok-octet-in-86.field-0-1.now c.in_ok-octet-in-86.ensures 1 c.in-1.is (λ lt. refl)

pub returns-in_default-octet : goal.returns-in_default-octet
unfolding class_of
returns-in_default-octet c = λ b. front_unfit Kind.Bool Width.One Conversion.Plain c.in_ok-code.code.now 86 c.in_ok-code.rest.now c.args.bytes.now c.in_ok-code.ensures.cases c.in-86.is refl c.in_ok-octet-in-86.octet c.in_ok-octet-in-86.field-0-1.now c.in_ok-octet-in-86.ensures (le-ltb c.in_ok-octet-in-86.octet 2 (omega arith)) (cond b 1 0)

pub returns-in_default : goal.returns-in_default
returns-in_default c = λ b. front_other Kind.Bool (65 ∷ 66 ∷ 86 ∷ []) c.in_ok-code.code.now c.in_ok-code.rest.now c.args.bytes.now refl c.in_ok-code.ensures.cases (not_code c.in_ok-code.code.now 65 (66 ∷ 86 ∷ []) (λ e. omega (arith, e)) (not_code c.in_ok-code.code.now 66 (86 ∷ []) (λ e. omega (arith, e)) (not_code c.in_ok-code.code.now 86 [] (λ e. omega (arith, e)) refl))) (cond b 1 0)
