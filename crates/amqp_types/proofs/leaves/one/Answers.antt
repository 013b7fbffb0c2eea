use Rattle.amqp_types.specs.declared.class.Width.{Width}
use Rattle.amqp_types.proofs.Octets.{IsCut, cut_length, field_cut, number_of_one}
use Rattle.amqp_types.proofs.leaves.one.Goals as goal

pub returns : goal.returns
returns c =
    let cut : IsCut 1 c.args.octets.now c.in_ok-first.first.now c.in_ok-first.rest.now = record { front_is = c.in_ok-first.ensures.cases.0; rest_is = c.in_ok-first.ensures.cases.1; whole = c.in_ok-first.ensures.cases.2 } in
    field_cut Width.One c.args.octets.now c.in_ok-first.first.now c.in_ok-first.rest.now _ cut (number_of_one c.in_ok-first.first.now (cut_length 1 c.args.octets.now c.in_ok-first.first.now c.in_ok-first.rest.now cut))
