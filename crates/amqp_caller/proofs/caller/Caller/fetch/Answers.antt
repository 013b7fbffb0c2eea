use Rattle.std.proofs.Common.{◌++◌, ap, ◌∙◌, sym}
use Rattle.amqp_caller.specs.Calls.{to_come}
use Rattle.amqp_caller.proofs.Writing.{pops, nothing-before}
use Rattle.amqp_caller.proofs.caller.Caller.fetch.Goals as goal

pub returns-clause-octets : goal.returns-clause-octets
returns-clause-octets c =
    ap (λ y. y ++ to_come c.pop_unit.new.self) c.of.ensures
    ∙ sym (pops c.args.self.now.conn c.pop_unit.new.self c.in-Some.unit.bytes c.in-Some.ensures.some.1 c.in-Some.ensures.some.2)
    ∙ nothing-before c.args.self.now.rest (to_come c.args.self.now.conn) (c.is_empty.ensures.0 c.if-not-is_empty.false)
