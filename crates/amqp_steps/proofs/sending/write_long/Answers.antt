use Rattle.std.proofs.Common.{◌++◌, inr, refl, ap, ◌∙◌}
use Rattle.amqp_steps.proofs.Sent.{refused-so, sent-so, kept-so}
use Rattle.amqp_steps.proofs.sending.write_long.Goals as goal

pub returns-in_default-cut : goal.returns-in_default-cut
returns-in_default-cut c =
    let h = sent-so c.args.max c.args.body c.args.payload (c.append_head.new.out.items ++ c.args.payload) (rw (c.clear.ensures.items, c.in-Ok.is) at c.in-Some.ensures.some) in
    inr (h.0, refl)

pub returns-in-Ok-cut : goal.returns-in-Ok-cut
returns-in-Ok-cut c =
    let h = sent-so c.args.max c.args.body c.args.payload (c.append_head.new.out.items ++ c.args.payload) (rw (c.clear.ensures.items, c.in-Ok.is) at c.in-Some.ensures.some) in
    kept-so c.args.max c.args.body c.args.payload (c.in-Ok-cut.head ++ c.args.payload) c.keep_long.result (h.0, ap (λ x. x ++ c.args.payload) c.in-Ok-cut.ensures ∙ h.1) c.keep_long.ensures

pub returns-in-Err : goal.returns-in-Err
returns-in-Err c =
    rw c.from.ensures (refused-so c.args.max c.args.body c.args.payload c.append_head.new.out.items c.in-Err.fault (rw (c.clear.ensures.items, c.in-Err.is) at c.in-Some.ensures.some))
