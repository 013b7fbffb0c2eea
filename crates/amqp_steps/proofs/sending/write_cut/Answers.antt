use Rattle.std.proofs.Common.{inr, refl, ◌∙◌}
use Rattle.amqp_steps.proofs.Sent.{refused-so, sent-so, kept-so}
use Rattle.amqp_steps.proofs.sending.write_cut.Goals as goal

pub returns-in_default : goal.returns-in_default
returns-in_default c =
    let h = sent-so c.args.max c.args.body c.args.payload c.append_frame.new.out.items (rw c.clear.ensures.items at c.in-Ok.ensures) in
    inr (h.0, refl)

pub returns-in-Ok-cut : goal.returns-in-Ok-cut
returns-in-Ok-cut c =
    let h = sent-so c.args.max c.args.body c.args.payload c.append_frame.new.out.items (rw c.clear.ensures.items at c.in-Ok.ensures) in
    kept-so c.args.max c.args.body c.args.payload c.in-Ok-cut.octets c.keep_short.result (h.0, c.in-Ok-cut.ensures ∙ h.1) c.keep_short.ensures

pub returns-in-Err : goal.returns-in-Err
returns-in-Err c =
    rw c.from.ensures (refused-so c.args.max c.args.body c.args.payload c.append_frame.new.out.items c.in-Err.fault (rw c.clear.ensures.items at c.in-Err.ensures))
