use Rattle.std.proofs.Common.{sym, ◌∙◌}
use Rattle.amqp_messages.proofs.Sequences.{begun-next, stops, disordered}
use Rattle.amqp_messages.proofs.order.check_octets.Goals as goal

pub loop-at-preserved : goal.loop-at-preserved
loop-at-preserved c = rw c.is_of_body-has_body.ensures (begun-next c.args.octets.now c.loop-at.at c.loop-at.last c.loop-at.has_body c.in-Some.place c.loop-at.invariant c.in-Some.ensures (sym c.may_follow.ensures ∙ c.if-not-may_follow.false))

pub returns-in_default : goal.returns-in_default
returns-in_default c = stops c.args.octets.now c.loop-at.at c.loop-at.last c.loop-at.has_body c.loop-at.invariant c.loop-at-test.true c.in_default.ensures

pub returns-then-not-may_follow : goal.returns-then-not-may_follow
returns-then-not-may_follow c = disordered c.args.octets.now c.loop-at.at c.loop-at.last c.loop-at.has_body c.in-Some.place c.loop-at.invariant c.in-Some.ensures (sym c.may_follow.ensures ∙ c.if-not-may_follow.true)
