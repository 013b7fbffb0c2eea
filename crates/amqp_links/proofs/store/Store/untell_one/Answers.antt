use Rattle.std.proofs.Common.{refl}
use Rattle.amqp_links.specs.Fate.{without_last_told}
use Rattle.amqp_links.proofs.Written.{there-some, write-stored, write-changes, unchanged}
use Rattle.amqp_links.proofs.Stored.{numbered}
use Rattle.amqp_links.proofs.store.Store.untell_one.Goals as goal

pub returns-in_default-clause-changed : goal.returns-in_default-clause-changed
returns-in_default-clause-changed c =
    rw (← c.self.view_is, unchanged c.self.inside.slab c.self.inside.numbers c.self.inside.peers c.self.inside.made c.args.number without_last_told c.self.invariant (rw (← c.key_at.ensures) c.in_default.is)) refl

pub returns-in_default-clause-numbered : goal.returns-in_default-clause-numbered
returns-in_default-clause-numbered c = rw (← c.self.view_is) (numbered c.self.inside.slab c.self.inside.numbers c.self.inside.peers c.self.inside.made c.self.invariant)

pub index_mut-link-requires : goal.index_mut-link-requires
index_mut-link-requires c =
    there-some c.self.inside.slab c.self.inside.numbers c.self.inside.peers c.self.inside.made c.in-Some.key c.args.number c.self.invariant (rw (← c.key_at.ensures) c.in-Some.is)

pub invariant_of-self : goal.invariant_of-self
invariant_of-self c =
    write-stored c.self.inside.slab c.self.inside.numbers c.self.inside.peers c.self.inside.made c.in-Some.key c.index_mut-link.result.now _ c.self.invariant c.index_mut-link.ensures.value (rw c.untell.ensures refl) (rw c.untell.ensures refl)

pub returns-clause-changed : goal.returns-clause-changed
returns-clause-changed c =
    rw (
      ← c.self.view_is,
      c.untell.ensures,
      write-changes c.self.inside.slab c.self.inside.numbers c.self.inside.peers c.self.inside.made c.in-Some.key c.args.number c.index_mut-link.result.now
          (without_last_told c.index_mut-link.result.now) without_last_told
          c.self.invariant (rw (← c.key_at.ensures) c.in-Some.is) c.index_mut-link.ensures.value refl refl refl,
    ) refl

pub returns-clause-numbered : goal.returns-clause-numbered
returns-clause-numbered c = rw (← c.self.view_is) (numbered c.self.inside.slab c.self.inside.numbers c.self.inside.peers c.self.inside.made c.self.invariant)
