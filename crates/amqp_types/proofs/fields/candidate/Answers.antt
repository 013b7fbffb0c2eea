use Rattle.amqp_types.specs.declared.class.Width.{Width}
use Rattle.amqp_types.proofs.Fronts.{candidate_other, candidate_no_size, candidate_short, candidate_after, candidate_found}
use Rattle.amqp_types.proofs.fields.candidate.Goals as goal

pub returns-in_err-len : goal.returns-in_err-len
returns-in_err-len c = rw c.from_residual-in_err-len.ensures (candidate_no_size c.args.run Width.One c.in_ok-code.code.now c.args.small c.in_ok-code.rest.now c.args.bytes.now c.in_ok-code.ensures.cases c.if-code-small.true c.requires.1 c.in_err-len.ensures)

pub returns-in_err-octets : goal.returns-in_err-octets
returns-in_err-octets c = rw c.from_residual-in_err-octets.ensures (candidate_short c.args.run Width.One c.in_ok-code.code.now c.args.small c.in_ok-code.rest.now c.args.bytes.now c.in_ok-code.ensures.cases c.if-code-small.true c.requires.1 c.in_ok-len.len c.in_ok-len.rest.now c.in_ok-len.ensures c.in_err-octets.ensures)

pub overflow_sub-result : goal.overflow_sub-result
overflow_sub-result c = candidate_after Width.One c.in_ok-code.code.now c.in_ok-code.rest.now c.args.bytes.now c.in_ok-code.ensures.cases c.in_ok-len.len c.in_ok-len.rest.now c.in_ok-octets.octets.now c.in_ok-octets.after.now c.in_ok-len.ensures c.in_ok-octets.ensures

pub returns-in_ok-octets : goal.returns-in_ok-octets
returns-in_ok-octets c = candidate_found c.args.run Width.One c.in_ok-code.code.now c.args.small c.in_ok-code.rest.now c.args.bytes.now c.in_ok-code.ensures.cases c.if-code-small.true c.requires.1 c.in_ok-len.len c.in_ok-len.rest.now c.in_ok-octets.octets.now c.in_ok-octets.after.now c.in_ok-len.ensures c.in_ok-octets.ensures

pub returns-in_err-len-2 : goal.returns-in_err-len-2
returns-in_err-len-2 c = rw c.from_residual-in_err-len-2.ensures (candidate_no_size c.args.run Width.Four c.in_ok-code.code.now c.args.large c.in_ok-code.rest.now c.args.bytes.now c.in_ok-code.ensures.cases c.if-code-large.true c.requires.2 c.in_err-len-2.ensures)

pub returns-in_err-octets-2 : goal.returns-in_err-octets-2
returns-in_err-octets-2 c = rw c.from_residual-in_err-octets-2.ensures (candidate_short c.args.run Width.Four c.in_ok-code.code.now c.args.large c.in_ok-code.rest.now c.args.bytes.now c.in_ok-code.ensures.cases c.if-code-large.true c.requires.2 c.in_ok-len-2.len c.in_ok-len-2.rest.now c.in_ok-len-2.ensures c.in_err-octets-2.ensures)

pub overflow_sub-result-then-code-large : goal.overflow_sub-result-then-code-large
overflow_sub-result-then-code-large c = candidate_after Width.Four c.in_ok-code.code.now c.in_ok-code.rest.now c.args.bytes.now c.in_ok-code.ensures.cases c.in_ok-len-2.len c.in_ok-len-2.rest.now c.in_ok-octets-2.octets.now c.in_ok-octets-2.after.now c.in_ok-len-2.ensures c.in_ok-octets-2.ensures

pub returns-in_ok-octets-2 : goal.returns-in_ok-octets-2
returns-in_ok-octets-2 c = candidate_found c.args.run Width.Four c.in_ok-code.code.now c.args.large c.in_ok-code.rest.now c.args.bytes.now c.in_ok-code.ensures.cases c.if-code-large.true c.requires.2 c.in_ok-len-2.len c.in_ok-len-2.rest.now c.in_ok-octets-2.octets.now c.in_ok-octets-2.after.now c.in_ok-len-2.ensures c.in_ok-octets-2.ensures

pub returns-else-code-large : goal.returns-else-code-large
returns-else-code-large c = candidate_other c.args.run c.args.small c.args.large c.in_ok-code.code.now c.in_ok-code.rest.now c.args.bytes.now c.requires c.in_ok-code.ensures.cases c.if-code-small.false c.if-code-large.false
