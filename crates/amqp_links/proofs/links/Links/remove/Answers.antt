use Rattle.std.proofs.Common.{sym}
use Rattle.amqp_links.proofs.Indexing.{gone-indexed, gone-room, left-indexed, whole-indexed, numbered-within}
use Rattle.amqp_links.proofs.links.Links.remove.Goals as goal

pub invariant_of-self : goal.invariant_of-self
invariant_of-self c =
    rw c.in_default.ensures.list (whole-indexed c.self.inside.names c.self.inside.handles c.self.inside.store c.args.number c.self.invariant (sym c.in_default.ensures.link))

pub give-requires : goal.give-requires
give-requires c =
    gone-room c.self.inside.names c.self.inside.handles c.self.inside.store c.args.number c.in-Some.link c.self.invariant (sym c.in-Some.ensures.link) (rw (← c.is_ours.ensures) c.if-is_ours.true)

pub invariant_of-self-then-is_ours : goal.invariant_of-self-then-is_ours
invariant_of-self-then-is_ours c =
    rw c.in-Some.ensures.list
    (gone-indexed c.self.inside.names c.remove-2.new.self c.self.inside.handles c.give.new.self c.self.inside.store c.args.number c.our_handle.result c.in-Some.link c.self.invariant
    (numbered-within c.self.inside.store.list 0 c.self.inside.store.made c.rising.ensures) (sym c.in-Some.ensures.link) (rw (← c.is_ours.ensures) c.if-is_ours.true)
    c.our_handle.ensures (rw c.name.ensures at c.remove-2.ensures) c.give.ensures.handled c.give.ensures.next)

pub invariant_of-self-else-is_ours : goal.invariant_of-self-else-is_ours
invariant_of-self-else-is_ours c =
    rw c.in-Some.ensures.list
    (left-indexed c.self.inside.names c.remove-2.new.self c.self.inside.handles c.self.inside.store c.args.number c.in-Some.link c.self.invariant
    (numbered-within c.self.inside.store.list 0 c.self.inside.store.made c.rising.ensures) (sym c.in-Some.ensures.link) (rw (← c.is_ours.ensures) c.if-is_ours.false)
    (rw c.name.ensures at c.remove-2.ensures))
