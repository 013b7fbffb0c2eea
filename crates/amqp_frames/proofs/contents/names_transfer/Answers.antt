use Rattle.std.proofs.Common.{ap, sym, eqb, ◌∙◌}
use Rattle.std.specs.Str.{bytes_eq}
use Rattle.amqp_types.specs.Heads.{datum_of}
use Rattle.amqp_frames.proofs.Performatives.{names_transfer, named_front, none_named}
use Rattle.amqp_frames.proofs.contents.names_transfer.Goals as goal

pub returns-in-Some-Number-default : goal.returns-in-Some-Number-default
returns-in-Some-Number-default c p x rest h e =
    ap (λ n. eqb c.in-Some-Number-default.number n) (c.from.ensures ∙ c.number.ensures.value) ∙ ap (λ d. names_transfer (datum_of d)) (sym c.in-Some-Number-default.field-0-0-is) ∙ named_front p x rest _ _ _ c.in-Some-Number-default.ensures h e

pub returns-in-Some-Name-default : goal.returns-in-Some-Name-default
returns-in-Some-Name-default c p x rest h e =
    c.eq.ensures ∙ ap (λ t. bytes_eq c.in-Some-Name-default.name.now t) c.name.ensures ∙ ap (λ d. names_transfer (datum_of d)) (sym c.in-Some-Name-default.field-0-0-is) ∙ named_front p x rest _ _ _ c.in-Some-Name-default.ensures h e

pub returns-in-None : goal.returns-in-None
returns-in-None c p x rest h e = absurd (none_named p x rest c.args.octets c.in-None.ensures h e)
