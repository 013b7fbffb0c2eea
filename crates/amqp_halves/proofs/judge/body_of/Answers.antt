use Rattle.std.proofs.Common.{◌∙◌, sym, ap, Some}
use Rattle.amqp_types.specs.Datum.{Datum}
use Rattle.amqp_halves.specs.Judging.{body_of}
use Rattle.amqp_halves.proofs.FieldRows.{is_described}
use Rattle.amqp_halves.proofs.judge.body_of.Goals as goal

pub returns-in-Some : goal.returns-in-Some
returns-in-Some c d rest e =
    let l = is_described _ d c.in-Some-Described.field-0-is (c.in-Some-Described.ensures 32 d rest e) in
    let o = c.in-Some.ensures.value l.0 l.1 rest (e ∙ ap (λ (x : Datum). Some (x, rest)) l.2) in
    c.first_body.ensures l.0 l.1 o.1 o.0 o.2 ∙ ap body_of (sym l.2)
