use Rattle.amqp_shared.proofs.Rounds.{noted}
use Rattle.std.proofs.Common.{◌∙◌}
use Rattle.amqp_shared.proofs.shared.Shared.call.Goals as goal

pub returns-clause-pass : goal.returns-clause-pass
returns-clause-pass g c =
    let a = c.attempt-answer in
    c.note.ensures ∙ noted c.args.op.now a.result c.args.pass.now a.new.pass a.ensures.pass a.ensures.rests
