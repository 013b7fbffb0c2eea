use Rattle.std.proofs.Common.{◌+◌, drop, ap, ◌∙◌}
use Rattle.amqp_caller.proofs.Writing.{skips}
use Rattle.amqp_caller.proofs.rest.Rest.advance.Goals as goal

pub returns : goal.returns
returns c =
    let from = c.self.inside.from in
    let bytes = c.self.inside.bytes in
    ap (λ k. drop (from + k) bytes) c.min.ensures ∙ skips from c.args.count c.len-len.result bytes c.args.self.now c.len-len.ensures c.self.view_is
