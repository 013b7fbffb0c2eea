use Rattle.std.proofs.Common.{◌≡◌, None, Some, refl, sym}
use Rattle.amqp_links.proofs.Stored.{by-number}
use Rattle.std.specs.Ordering.{nat_cmp}
use Rattle.std.specs.BTreeMap.{get}
use Rattle.amqp_links.proofs.Written.{there-some, kept-whole}
use Rattle.amqp_links.proofs.Removed.{stored-without, list-without, handle-out, no-handle-out}
use Rattle.amqp_links.proofs.store.Store.remove.Goals as goal

pub returns-in_default-clause-list : goal.returns-in_default-clause-list
returns-in_default-clause-list c =
    rw (← c.self.view_is, kept-whole c.self.inside.slab c.self.inside.numbers c.self.inside.peers c.self.inside.made c.args.number c.self.invariant (rw (← c.key_of.ensures) c.in_default.is)) refl

pub returns-in_default-clause-link : goal.returns-in_default-clause-link
returns-in_default-clause-link c =
    rw (← c.self.view_is)
    (by-number c.self.inside.slab c.self.inside.numbers c.self.inside.peers c.self.inside.made c.args.number None None c.self.invariant (sym (rw (← c.key_of.ensures) c.in_default.is)) refl)

pub remove-link-requires : goal.remove-link-requires
remove-link-requires c =
    there-some c.self.inside.slab c.self.inside.numbers c.self.inside.peers c.self.inside.made c.in-Some.key c.args.number c.self.invariant (rw (← c.key_of.ensures) c.in-Some.is)

pub invariant_of-self : goal.invariant_of-self
invariant_of-self c =
    let k : get nat_cmp c.self.inside.numbers c.args.number ≡ Some c.in-Some.key = rw (← c.key_of.ensures) c.in-Some.is in
    stored-without c.self.inside.slab c.remove-link.new.self c.self.inside.numbers c.self.inside.peers c.remove.new.self c.remove-in-Some-handle.new.self c.self.inside.made c.in-Some.key c.args.number
    c.remove-link.result c.self.invariant k c.remove-link.ensures.value c.remove-link.ensures.updates c.remove.ensures.updates c.remove.ensures.entries
    (handle-out c.self.inside.peers c.remove-in-Some-handle.new.self c.remove-link.result c.in-Some-handle.handle (rw (← c.peer_handle-handle.ensures) c.in-Some-handle.is) c.remove-in-Some-handle.ensures.updates)

pub invariant_of-self-in-None : goal.invariant_of-self-in-None
invariant_of-self-in-None c =
    let k : get nat_cmp c.self.inside.numbers c.args.number ≡ Some c.in-Some.key = rw (← c.key_of.ensures) c.in-Some.is in
    stored-without c.self.inside.slab c.remove-link.new.self c.self.inside.numbers c.self.inside.peers c.remove.new.self c.self.inside.peers c.self.inside.made c.in-Some.key c.args.number
    c.remove-link.result c.self.invariant k c.remove-link.ensures.value c.remove-link.ensures.updates c.remove.ensures.updates c.remove.ensures.entries
    (no-handle-out c.self.inside.peers c.remove-link.result (rw (← c.peer_handle-handle.ensures) c.in-None.is))

pub returns-in-Some-handle-clause-list : goal.returns-in-Some-handle-clause-list
returns-in-Some-handle-clause-list c =
    let k : get nat_cmp c.self.inside.numbers c.args.number ≡ Some c.in-Some.key = rw (← c.key_of.ensures) c.in-Some.is in
    rw (
      ← c.self.view_is,
      list-without c.self.inside.slab c.remove-link.new.self c.self.inside.numbers c.self.inside.peers c.remove.new.self c.self.inside.made c.in-Some.key c.args.number
          c.remove-link.result c.self.invariant k c.remove-link.ensures.value c.remove-link.ensures.updates c.remove.ensures.entries,
    ) refl

pub returns-in-Some-handle-clause-link : goal.returns-in-Some-handle-clause-link
returns-in-Some-handle-clause-link c =
    rw (← c.self.view_is)
    (by-number c.self.inside.slab c.self.inside.numbers c.self.inside.peers c.self.inside.made c.args.number (Some c.in-Some.key) (Some c.remove-link.result) c.self.invariant
    (sym (rw (← c.key_of.ensures) c.in-Some.is)) (sym c.remove-link.ensures.value))

pub returns-in-None-clause-list : goal.returns-in-None-clause-list
returns-in-None-clause-list c =
    let k : get nat_cmp c.self.inside.numbers c.args.number ≡ Some c.in-Some.key = rw (← c.key_of.ensures) c.in-Some.is in
    rw (
      ← c.self.view_is,
      list-without c.self.inside.slab c.remove-link.new.self c.self.inside.numbers c.self.inside.peers c.remove.new.self c.self.inside.made c.in-Some.key c.args.number
          c.remove-link.result c.self.invariant k c.remove-link.ensures.value c.remove-link.ensures.updates c.remove.ensures.entries,
    ) refl

pub returns-in-None-clause-link : goal.returns-in-None-clause-link
returns-in-None-clause-link c =
    rw (← c.self.view_is)
    (by-number c.self.inside.slab c.self.inside.numbers c.self.inside.peers c.self.inside.made c.args.number (Some c.in-Some.key) (Some c.remove-link.result) c.self.invariant
    (sym (rw (← c.key_of.ensures) c.in-Some.is)) (sym c.remove-link.ensures.value))
