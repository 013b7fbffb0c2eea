use Rattle.std.proofs.Common.{◌-◌, sym, ◌∙◌, arith}
use Rattle.amqp_performatives.proofs.Shown.{last_field}
use Rattle.amqp_performatives.proofs.listed.shown_count.Goals as goal

pub returns-then-not-is_absent-clause-count : goal.returns-then-not-is_absent-clause-count
returns-then-not-is_absent-clause-count c =
    sym (last_field c.args.fields.now (c.loop-i.i - 1) c.loop-i.i c.index-fields-i.result (omega arith) (omega arith) c.index-fields-i.is (sym c.is_absent.ensures ∙ c.if-not-is_absent.true) c.loop-i.invariant)
