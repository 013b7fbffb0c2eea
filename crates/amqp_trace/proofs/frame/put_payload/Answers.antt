use Rattle.std.proofs.Common.{◌<◌, length, arith}
use Rattle.std.proofs.lemmas.Bool.Decides.{nat_tests}
use Rattle.amqp_trace.proofs.Entering.{payload_put}
use Rattle.amqp_trace.proofs.frame.put_payload.Goals as goal

pub returns : goal.returns
returns c =
    let some : 0 < length c.args.payload.now = grind (arith, nat_tests, c.if-is_empty.ensures) in
    payload_put c.args.payload.now c.args.line.now c.put_length.new.line c.escape.new.self c.put_dots.new.line some c.in_ok-put_length.ensures (rw c.front.ensures at c.in_ok-escape.ensures.text) c.in_ok-put_dots.ensures
