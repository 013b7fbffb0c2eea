use Rattle.std.proofs.Common.{◌++◌}
use Rattle.amqp_ready.proofs.Gathering.{gathers-one, copied-behind, head-behind, both-none}
use Rattle.amqp_ready.proofs.outbox.Outbox.gather_one.Goals as goal

pub returns-then-copies-clause-gathers : goal.returns-then-copies-clause-gathers
returns-then-copies-clause-gathers c =
    let none = both-none c.self.inside.long c.self.inside.last c.if-not-has_none.ensures c.if-not-has_none-2.ensures in
    gathers-one c.args.self.now _ c.in-Some.unit.bytes c.args.conn.now c.pop_unit.new.self c.in-Some.ensures.some.1 c.in-Some.ensures.some.2
    (copied-behind c.self.inside.sent c.self.inside.short.items c.copies.new.short.items (c.self.inside.long ++ c.self.inside.last) c.in-Some.unit.bytes c.args.self.now c.self.invariant c.self.view_is none c.if-copies.ensures.copied)

pub returns-clause-gathers : goal.returns-clause-gathers
returns-clause-gathers c =
    let none = both-none c.self.inside.long c.self.inside.last c.if-not-has_none.ensures c.if-not-has_none-2.ensures in
    gathers-one c.args.self.now _ c.in-Some.unit.bytes c.args.conn.now c.pop_unit.new.self c.in-Some.ensures.some.1 c.in-Some.ensures.some.2
    (head-behind c.self.inside.sent c.self.inside.short.items c.copies.new.short.items c.copies_head-long.new.short.items (c.self.inside.long ++ c.self.inside.last) c.copies_head-long.ensures.0 (c.copies_head-long.result.0 ++ c.copies_head-long.result.1) c.in-Some.unit.bytes c.args.self.now c.self.invariant c.self.view_is none
    c.if-copies.ensures.still c.copies_head-long.ensures.1 c.copies_head-long.ensures.2)
