use Rattle.std.proofs.Common.{◌++◌, ◌-◌, arith}
use Rattle.amqp_halves.specs.Halves.{whole}
use Rattle.amqp_halves.proofs.Nine.{none_scanned, none_found, one_found, rest_within}
use Rattle.amqp_halves.proofs.judge.find_performative.Goals as goal

pub overflow_sub-result : goal.overflow_sub-result
overflow_sub-result c = omega (arith, rest_within (c.args.front.now ++ c.args.back.now) (whole c.in-Some.rest) c.in-Some.ensures, c.len.ensures, c.len-in-Some-body_of.ensures)

pub returns-in-None : goal.returns-in-None
returns-in-None c = none_scanned (c.args.front.now ++ c.args.back.now) c.in-None.ensures

pub returns-in-None-body_of : goal.returns-in-None-body_of
returns-in-None-body_of c = none_found (c.args.front.now ++ c.args.back.now) (whole c.in-Some.rest) c.in-Some.ensures c.in-None-body_of.ensures

pub returns-in-Some-body_of : goal.returns-in-Some-body_of
returns-in-Some-body_of c =
    let f = one_found (c.args.front.now ++ c.args.back.now) (whole c.in-Some.rest) c.in-Some-body_of.composite c.is_transfer.result (c.len.result - c.len-in-Some-body_of.result) (omega (arith, c.len.ensures, c.len-in-Some-body_of.ensures)) c.is_transfer.ensures c.in-Some.ensures c.in-Some-body_of.ensures in
    (f.within, f.p, f.is, f.transfer)
