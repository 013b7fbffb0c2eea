use Rattle.std.proofs.Common.{◌≡◌, Result, Ok, Err, OnOk, refl}
use Rattle.amqp_links.specs.Fate.{with_heard}
use Rattle.amqp_links.proofs.Written.{there-some, write-stored, write-changes, unchanged}
use Rattle.amqp_links.proofs.store.Store.hear.Goals as goal

pub returns-in_default-clause-next : goal.returns-in_default-clause-next
returns-in_default-clause-next c =
    rw (← c.self.view_is, unchanged c.self.inside.slab c.self.inside.numbers c.self.inside.peers c.self.inside.made c.args.number (with_heard c.args.marks.now c.args.piece) c.self.invariant (rw (← c.key_of.ensures) c.in_default.is)) refl

pub index_mut-link-requires : goal.index_mut-link-requires
index_mut-link-requires c =
    there-some c.self.inside.slab c.self.inside.numbers c.self.inside.peers c.self.inside.made c.in-Some.key c.args.number c.self.invariant (rw (← c.key_of.ensures) c.in-Some.is)

pub invariant_of-self : goal.invariant_of-self
invariant_of-self c =
    write-stored c.self.inside.slab c.self.inside.numbers c.self.inside.peers c.self.inside.made c.in-Some.key c.index_mut-link.result.now _ c.self.invariant c.index_mut-link.ensures.value c.hear_with.ensures.number c.hear_with.ensures.theirs

on-ok : {A E : Type 0} (r : Result A E) (P Q : Type 0) → (P → Q) → OnOk r P → OnOk r Q
on-ok (Ok x) P Q f h = f h
on-ok (Err e) P Q f h = tt

pub returns-clause-next : goal.returns-clause-next
returns-clause-next c =
    on-ok c.hear_with.result _ _
    (λ e. rw (
      ← c.self.view_is,
      write-changes c.self.inside.slab c.self.inside.numbers c.self.inside.peers c.self.inside.made c.in-Some.key c.args.number c.index_mut-link.result.now
          c.hear_with.new.self (with_heard c.args.marks.now c.args.piece)
          c.self.invariant (rw (← c.key_of.ensures) c.in-Some.is) c.index_mut-link.ensures.value c.hear_with.ensures.number c.hear_with.ensures.theirs (flip e),
    ) refl)
    c.hear_with.ensures.ok
  where
    flip : {A : Type 0} {x y : A} → x ≡ y → y ≡ x
    flip h = cc
