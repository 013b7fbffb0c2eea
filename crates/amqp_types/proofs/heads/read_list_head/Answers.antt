use Rattle.std.proofs.Common.{[], ◌∷◌, refl, ap, arith}
use Rattle.amqp_types.specs.declared.class.Width.{Width}
use Rattle.amqp_types.specs.Codes.{class_of}
use Rattle.amqp_types.proofs.Fronts.{not_code}
use Rattle.amqp_types.proofs.ListHeads.{empty_head, compound_answer, no_list_code}
use Rattle.amqp_types.proofs.heads.read_list_head.Goals as goal

pub returns-in-69 : goal.returns-in-69
unfolding class_of
returns-in-69 c = empty_head c.in_ok-code.code.now c.in_ok-code.rest.now c.args.bytes.now c.in_ok-code.ensures.cases (ap class_of c.in-69.is)

pub returns-in-192 : goal.returns-in-192
unfolding class_of
returns-in-192 c = compound_answer c.in_ok-code.code.now 192 Width.One c.in_ok-code.rest.now c.args.bytes.now c.in_ok-code.ensures.cases c.in-192.is refl _ (omega arith) c.read_compound_head.result c.read_compound_head.ensures

pub returns-in-208 : goal.returns-in-208
unfolding class_of
returns-in-208 c = compound_answer c.in_ok-code.code.now 208 Width.Four c.in_ok-code.rest.now c.args.bytes.now c.in_ok-code.ensures.cases c.in-208.is refl _ (omega arith) c.wide_head.result c.wide_head.ensures

pub returns-in_default : goal.returns-in_default
returns-in_default c =
    no_list_code c.in_ok-code.code.now c.in_ok-code.rest.now c.args.bytes.now c.in_ok-code.ensures.cases
    (not_code c.in_ok-code.code.now 69 (192 ∷ 208 ∷ []) (λ e. omega (arith, e)) (not_code c.in_ok-code.code.now 192 (208 ∷ []) (λ e. omega (arith, e)) (not_code c.in_ok-code.code.now 208 [] (λ e. omega (arith, e)) refl)))
