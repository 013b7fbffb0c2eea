use Rattle.std.proofs.Common.{◌≡◌, Result, Ok, Err, OnOk, refl}
use Rattle.amqp_links.specs.Fate.{with_one_told}
use Rattle.amqp_links.proofs.Written.{there-some, write-stored, write-changes, unchanged}
use Rattle.amqp_links.proofs.Stored.{numbered}
use Rattle.amqp_links.proofs.store.Store.tell_one.Goals as goal

pub returns-in_default-clause-next : goal.returns-in_default-clause-next
returns-in_default-clause-next c =
    rw (← c.self.view_is, unchanged c.self.inside.slab c.self.inside.numbers c.self.inside.peers c.self.inside.made c.args.telling.link (with_one_told c.args.telling) c.self.invariant (rw (← c.telling.view_is, ← c.key_at.ensures) c.in_default.is)) refl

pub returns-in_default-clause-numbered : goal.returns-in_default-clause-numbered
returns-in_default-clause-numbered c = rw (← c.self.view_is) (numbered c.self.inside.slab c.self.inside.numbers c.self.inside.peers c.self.inside.made c.self.invariant)

pub index_mut-link-requires : goal.index_mut-link-requires
index_mut-link-requires c =
    there-some c.self.inside.slab c.self.inside.numbers c.self.inside.peers c.self.inside.made c.in-Some.key c.telling.inside.link c.self.invariant (rw (← c.key_at.ensures) c.in-Some.is)

pub invariant_of-self : goal.invariant_of-self
invariant_of-self c =
    write-stored c.self.inside.slab c.self.inside.numbers c.self.inside.peers c.self.inside.made c.in-Some.key c.index_mut-link.result.now _ c.self.invariant c.index_mut-link.ensures.value c.tell.ensures.number c.tell.ensures.theirs

on-ok : {A E : Type 0} (r : Result A E) (P Q : Type 0) → (P → Q) → OnOk r P → OnOk r Q
on-ok (Ok x) P Q f h = f h
on-ok (Err e) P Q f h = tt

pub returns-clause-next : goal.returns-clause-next
returns-clause-next c =
    on-ok c.tell.result _ _
    (λ e. rw (
      ← c.self.view_is,
      write-changes c.self.inside.slab c.self.inside.numbers c.self.inside.peers c.self.inside.made c.in-Some.key c.telling.inside.link c.index_mut-link.result.now
          c.tell.new.self (with_one_told c.args.telling)
          c.self.invariant (rw (← c.key_at.ensures) c.in-Some.is) c.index_mut-link.ensures.value c.tell.ensures.number c.tell.ensures.theirs (flip e),
      ← c.telling.view_is,
    ) refl)
    c.tell.ensures.ok
  where
    flip : {A : Type 0} {x y : A} → x ≡ y → y ≡ x
    flip h = cc

pub returns-clause-numbered : goal.returns-clause-numbered
returns-clause-numbered c = rw (← c.self.view_is) (numbered c.self.inside.slab c.self.inside.numbers c.self.inside.peers c.self.inside.made c.self.invariant)
