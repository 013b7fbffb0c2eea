use Rattle.std.proofs.Common.{[], ◌∷◌, refl, sym, arith}
use Rattle.std.proofs.lemmas.Bool.{lt-ltb}
use Rattle.amqp_types.specs.declared.class.Kind.{Kind}
use Rattle.amqp_types.specs.declared.class.Conversion.{Conversion}
use Rattle.amqp_types.specs.declared.class.Width.{Width}
use Rattle.amqp_types.specs.Codes.{class_of}
use Rattle.amqp_types.proofs.Octets.{no_octets}
use Rattle.amqp_types.proofs.Fronts.{front_found, front_short, front_other, not_code}
use Rattle.amqp_types.proofs.fields.read_uint.Goals as goal

pub returns-in-67 : goal.returns-in-67
unfolding class_of
returns-in-67 c = front_found Kind.Uint Width.Zero Conversion.Plain c.in_ok-code.code.now 67 c.in_ok-code.rest.now c.args.bytes.now c.in_ok-code.ensures.cases c.in-67.is refl (λ i. (c.type_inv.bytes i).fits) 0 c.in_ok-code.rest.now (no_octets c.in_ok-code.rest.now) 0 refl (λ lt. refl)

pub returns-in_err-n-in-82 : goal.returns-in_err-n-in-82
unfolding class_of
returns-in_err-n-in-82 c = rw c.from_residual-in_err-n-in-82.ensures (front_short Kind.Uint Width.One Conversion.Plain c.in_ok-code.code.now 82 c.in_ok-code.rest.now c.args.bytes.now c.in_ok-code.ensures.cases c.in-82.is refl c.in_err-n-in-82.ensures)

pub returns-in_ok-n-in-82 : goal.returns-in_ok-n-in-82
unfolding class_of
returns-in_ok-n-in-82 c = front_found Kind.Uint Width.One Conversion.Plain c.in_ok-code.code.now 82 c.in_ok-code.rest.now c.args.bytes.now c.in_ok-code.ensures.cases c.in-82.is refl (λ i. (c.type_inv.bytes i).fits) c.in_ok-n-in-82.n c.in_ok-n-in-82.field-0-1.now c.in_ok-n-in-82.ensures c.from.result (sym c.from.ensures) (λ lt. lt-ltb _ _ (omega (arith, lt)))

pub returns-in_err-n-in-112 : goal.returns-in_err-n-in-112
unfolding class_of
returns-in_err-n-in-112 c = rw c.from_residual-in_err-n-in-112.ensures (front_short Kind.Uint Width.Four Conversion.Plain c.in_ok-code.code.now 112 c.in_ok-code.rest.now c.args.bytes.now c.in_ok-code.ensures.cases c.in-112.is refl c.in_err-n-in-112.ensures)

pub returns-in_ok-n-in-112 : goal.returns-in_ok-n-in-112
unfolding class_of
returns-in_ok-n-in-112 c = front_found Kind.Uint Width.Four Conversion.Plain c.in_ok-code.code.now 112 c.in_ok-code.rest.now c.args.bytes.now c.in_ok-code.ensures.cases c.in-112.is refl (λ i. (c.type_inv.bytes i).fits) c.in_ok-n-in-112.n c.in_ok-n-in-112.field-0-1.now c.in_ok-n-in-112.ensures c.in_ok-n-in-112.n refl (λ lt. lt-ltb _ _ (omega (arith, lt)))

pub returns-in_default : goal.returns-in_default
returns-in_default c = front_other Kind.Uint (67 ∷ 82 ∷ 112 ∷ []) c.in_ok-code.code.now c.in_ok-code.rest.now c.args.bytes.now refl c.in_ok-code.ensures.cases (not_code c.in_ok-code.code.now 67 (82 ∷ 112 ∷ []) (λ e. omega (arith, e)) (not_code c.in_ok-code.code.now 82 (112 ∷ []) (λ e. omega (arith, e)) (not_code c.in_ok-code.code.now 112 ([]) (λ e. omega (arith, e)) refl)))
