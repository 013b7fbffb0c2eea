use Rattle.std.proofs.Common.{◌≡◌, Some, refl}
use Rattle.std.specs.Ordering.{nat_cmp}
use Rattle.std.specs.BTreeMap.{get}
use Rattle.amqp_links.specs.Fate.{with_theirs}
use Rattle.amqp_links.proofs.Written.{there-some, unchanged}
use Rattle.amqp_links.proofs.Answered.{stored-joined, joined, found-key, answer-changes}
use Rattle.amqp_links.proofs.store.Store.answer.Goals as goal

pub returns-in_default-clause-next : goal.returns-in_default-clause-next
returns-in_default-clause-next c =
    rw (← c.self.view_is, unchanged c.self.inside.slab c.self.inside.numbers c.self.inside.peers c.self.inside.made c.args.number (with_theirs c.args.end c.args.marks.now c.args.resuming) c.self.invariant (rw (← c.key_of.ensures) c.in_default.is)) refl

pub index_mut-link-requires : goal.index_mut-link-requires
index_mut-link-requires c =
    there-some c.self.inside.slab c.self.inside.numbers c.self.inside.peers c.self.inside.made c.in-Some.key c.args.number c.self.invariant (rw (← c.key_of.ensures) c.in-Some.is)

pub invariant_of-self-2 : goal.invariant_of-self-2
invariant_of-self-2 c =
    let r = rw (← c.self.view_is) at c.requires in
    let k : get nat_cmp c.self.inside.numbers c.args.number ≡ Some c.in-Some.key = rw (← c.key_of.ensures) c.in-Some.is in
    let was = c.index_mut-link.ensures.value in
    let free = r.1 c.index_mut-link.result.now (found-key c.self.inside.slab c.self.inside.numbers c.self.inside.peers c.self.inside.made c.in-Some.key c.args.number c.index_mut-link.result.now c.self.invariant k was) in
    rw c.set_theirs.ensures
    (stored-joined c.self.inside.slab _ c.self.inside.numbers c.self.inside.peers c.insert.new.self c.self.inside.made c.args.number c.in-Some.key c.index_mut-link.result.now _ c.args.end
    c.self.invariant k (joined c.self.inside.slab c.in-Some.key c.index_mut-link.result.now (with_theirs c.args.end c.args.marks.now c.args.resuming c.index_mut-link.result.now) c.args.end was refl free refl) r.0 (rw c.handle-handle.ensures at c.in-Ok.ensures.updates))

pub returns-clause-next : goal.returns-clause-next
returns-clause-next c =
    let r = rw (← c.self.view_is) at c.requires in
    let k : get nat_cmp c.self.inside.numbers c.args.number ≡ Some c.in-Some.key = rw (← c.key_of.ensures) c.in-Some.is in
    let was = c.index_mut-link.ensures.value in
    let free = r.1 c.index_mut-link.result.now (found-key c.self.inside.slab c.self.inside.numbers c.self.inside.peers c.self.inside.made c.in-Some.key c.args.number c.index_mut-link.result.now c.self.invariant k was) in
    rw (
      ← c.self.view_is,
      c.set_theirs.ensures,
      answer-changes c.self.inside.slab c.self.inside.numbers c.self.inside.peers c.self.inside.made c.in-Some.key c.args.number c.index_mut-link.result.now
          (with_theirs c.args.end c.args.marks.now c.args.resuming c.index_mut-link.result.now) c.args.end (with_theirs c.args.end c.args.marks.now c.args.resuming) c.self.invariant k was refl free refl refl,
    ) refl
