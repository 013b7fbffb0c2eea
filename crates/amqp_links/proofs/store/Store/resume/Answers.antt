use Rattle.std.proofs.Common.{refl}
use Rattle.amqp_links.specs.Fate.{with_resumed}
use Rattle.amqp_links.proofs.Written.{there-some, write-stored, write-changes, unchanged}
use Rattle.amqp_links.proofs.store.Store.resume.Goals as goal

pub returns-in_default : goal.returns-in_default
returns-in_default c =
    rw (← c.self.view_is, unchanged c.self.inside.slab c.self.inside.numbers c.self.inside.peers c.self.inside.made c.args.number (with_resumed c.args.marks.now c.args.tag.now) c.self.invariant (rw (← c.key_of.ensures) c.in_default.is)) refl

pub index_mut-link-requires : goal.index_mut-link-requires
index_mut-link-requires c =
    there-some c.self.inside.slab c.self.inside.numbers c.self.inside.peers c.self.inside.made c.in-Some.key c.args.number c.self.invariant (rw (← c.key_of.ensures) c.in-Some.is)

pub invariant_of-self : goal.invariant_of-self
invariant_of-self c =
    write-stored c.self.inside.slab c.self.inside.numbers c.self.inside.peers c.self.inside.made c.in-Some.key c.index_mut-link.result.now _ c.self.invariant c.index_mut-link.ensures.value (rw c.set_resumed.ensures refl) (rw c.set_resumed.ensures refl)

pub returns : goal.returns
returns c =
    rw (
      ← c.self.view_is,
      c.set_resumed.ensures,
      write-changes c.self.inside.slab c.self.inside.numbers c.self.inside.peers c.self.inside.made c.in-Some.key c.args.number c.index_mut-link.result.now
          (with_resumed c.args.marks.now c.args.tag.now c.index_mut-link.result.now) (with_resumed c.args.marks.now c.args.tag.now)
          c.self.invariant (rw (← c.key_of.ensures) c.in-Some.is) c.index_mut-link.ensures.value refl refl refl,
    ) refl
