use Rattle.std.proofs.Common.{◌≡◌, refl, None, find}
use Rattle.std.specs.Ordering.{nat_cmp}
use Rattle.std.specs.BTreeMap.{get}
use Rattle.amqp_rules.specs.View.{has_peer_handle}
use Rattle.amqp_links.specs.Links.{links_of}
use Rattle.amqp_links.proofs.Offered.{stored-added, list-added, stored-same, taken-back, handle-free, kept-vacant, kept-updates}
use Rattle.amqp_links.proofs.store.Store.offer.Goals as goal

pub invariant_of-self : goal.invariant_of-self
invariant_of-self c =
    stored-same c.self.inside.slab c.reserve.new.self c.self.inside.numbers c.self.inside.peers c.self.inside.numbers c.self.inside.peers c.self.inside.made c.self.invariant c.reserve.ensures.rest_kept refl (λ h. refl)

pub invariant_of-self-in-Err : goal.invariant_of-self-in-Err
invariant_of-self-in-Err c =
    stored-same c.self.inside.slab c.reserve.new.self c.self.inside.numbers c.self.inside.peers c.self.inside.numbers c.insert.new.self c.self.inside.made c.self.invariant c.reserve.ensures.rest_kept refl (λ h. rw c.in-Err.ensures.err refl)

pub invariant_of-self-in-Err-insert : goal.invariant_of-self-in-Err-insert
invariant_of-self-in-Err-insert c =
    let fit : find (has_peer_handle c.args.end.handle) (links_of c.self.inside.slab c.self.inside.numbers.entries) ≡ None = rw (← c.self.view_is) at c.requires.fit in
    let free : get nat_cmp c.self.inside.peers c.handle-handle.result ≡ None =
    rw c.handle-handle.ensures (handle-free c.self.inside.slab c.self.inside.numbers c.self.inside.peers c.self.inside.made c.args.end.handle c.self.invariant fit) in
    stored-same c.self.inside.slab c.reserve.new.self c.self.inside.numbers c.self.inside.peers c.insert-2.new.self c.remove.new.self c.self.inside.made c.self.invariant c.reserve.ensures.rest_kept
    c.in-Err-insert.ensures.err
    (taken-back c.self.inside.peers c.insert.new.self c.remove.new.self c.handle-handle.result c.vacant_key-key.result free c.in-Ok.ensures.updates c.remove.ensures.updates)

pub invariant_of-self-2 : goal.invariant_of-self-2
invariant_of-self-2 c =
    let fit : find (has_peer_handle c.args.end.handle) (links_of c.self.inside.slab c.self.inside.numbers.entries) ≡ None = rw (← c.self.view_is) at c.requires.fit in
    stored-added c.self.inside.slab c.insert_reserved.new.self c.self.inside.numbers c.self.inside.peers c.insert-2.new.self c.insert.new.self c.self.inside.made c.vacant_key-key.result
    c.offered-link.result c.args.end c.self.invariant
    (kept-vacant c.self.inside.slab c.reserve.new.self c.vacant_key-key.result c.reserve.ensures.rest_kept c.vacant_key-key.ensures.vacant)
    (kept-updates c.self.inside.slab c.reserve.new.self c.insert_reserved.new.self c.insert_reserved.result c.vacant_key-key.result c.offered-link.result c.reserve.ensures.rest_kept
    c.insert_reserved.ensures.key c.vacant_key-key.ensures.value c.insert_reserved.ensures.updates)
    (rw c.offered-link.ensures refl) (rw c.offered-link.ensures refl) fit c.in-Ok-insert.ensures.updates c.in-Ok-insert.ensures.entries
    (rw c.handle-handle.ensures at c.in-Ok.ensures.updates)

pub returns-clause-next : goal.returns-clause-next
returns-clause-next c =
    rw (
      ← c.self.view_is,
      list-added c.self.inside.slab c.insert_reserved.new.self c.self.inside.numbers c.self.inside.peers c.insert-2.new.self c.self.inside.made c.vacant_key-key.result c.offered-link.result c.self.invariant
          (kept-vacant c.self.inside.slab c.reserve.new.self c.vacant_key-key.result c.reserve.ensures.rest_kept c.vacant_key-key.ensures.vacant)
          (kept-updates c.self.inside.slab c.reserve.new.self c.insert_reserved.new.self c.insert_reserved.result c.vacant_key-key.result c.offered-link.result c.reserve.ensures.rest_kept
          c.insert_reserved.ensures.key c.vacant_key-key.ensures.value c.insert_reserved.ensures.updates)
          c.in-Ok-insert.ensures.entries,
      c.offered-link.ensures,
    ) refl
