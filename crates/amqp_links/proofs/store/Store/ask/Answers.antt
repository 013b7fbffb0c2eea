use Rattle.std.proofs.Common.{refl}
use Rattle.amqp_links.proofs.Offered.{list-added, stored-same, kept-vacant, kept-updates}
use Rattle.amqp_links.proofs.Asked.{stored-asked}
use Rattle.amqp_links.proofs.store.Store.ask.Goals as goal

pub invariant_of-self : goal.invariant_of-self
invariant_of-self c =
    stored-same c.self.inside.slab c.reserve.new.self c.self.inside.numbers c.self.inside.peers c.self.inside.numbers c.self.inside.peers c.self.inside.made c.self.invariant c.reserve.ensures.rest_kept refl (λ h. refl)

pub invariant_of-self-in-Err : goal.invariant_of-self-in-Err
invariant_of-self-in-Err c =
    stored-same c.self.inside.slab c.reserve.new.self c.self.inside.numbers c.self.inside.peers c.insert.new.self c.self.inside.peers c.self.inside.made c.self.invariant c.reserve.ensures.rest_kept
    c.in-Err.ensures.err (λ h. refl)

pub invariant_of-self-2 : goal.invariant_of-self-2
invariant_of-self-2 c =
    stored-asked c.self.inside.slab c.insert_reserved.new.self c.self.inside.numbers c.self.inside.peers c.insert.new.self c.self.inside.made c.vacant_key-key.result
    c.asked-link.result c.self.invariant
    (kept-vacant c.self.inside.slab c.reserve.new.self c.vacant_key-key.result c.reserve.ensures.rest_kept c.vacant_key-key.ensures.vacant)
    (kept-updates c.self.inside.slab c.reserve.new.self c.insert_reserved.new.self c.insert_reserved.result c.vacant_key-key.result c.asked-link.result c.reserve.ensures.rest_kept
    c.insert_reserved.ensures.key c.vacant_key-key.ensures.value c.insert_reserved.ensures.updates)
    (rw c.asked-link.ensures refl) (rw c.asked-link.ensures refl) c.in-Ok.ensures.updates c.in-Ok.ensures.entries

pub returns-clause-next : goal.returns-clause-next
returns-clause-next c =
    rw (
      ← c.self.view_is,
      list-added c.self.inside.slab c.insert_reserved.new.self c.self.inside.numbers c.self.inside.peers c.insert.new.self c.self.inside.made c.vacant_key-key.result c.asked-link.result c.self.invariant
          (kept-vacant c.self.inside.slab c.reserve.new.self c.vacant_key-key.result c.reserve.ensures.rest_kept c.vacant_key-key.ensures.vacant)
          (kept-updates c.self.inside.slab c.reserve.new.self c.insert_reserved.new.self c.insert_reserved.result c.vacant_key-key.result c.asked-link.result c.reserve.ensures.rest_kept
          c.insert_reserved.ensures.key c.vacant_key-key.ensures.value c.insert_reserved.ensures.updates)
          c.in-Ok.ensures.entries,
      c.asked-link.ensures,
    ) refl
