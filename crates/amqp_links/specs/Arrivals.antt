-- A transfer that is heard on a link: it begins a delivery or goes on with the unfinished one, and completes it or not.
use Rattle.std.specs.Prelude.{ℕ, ◌≡◌, ◌++◌, ◌||◌, false, Option, Some, None, List, length, min}
use Rattle.amqp_events.specs.Joined.{Transferred, Delivery, Open, Complete, unless_resumed, next_delivery, next_unfinished, completed}
use Rattle.amqp_rules.specs.PeerTransfer.{waiting_after}
use Rattle.amqp_rules.specs.View.{LinkView}
use Rattle.amqp_links.specs.declared.arrival.Progress.{Progress}

-- the unfinished delivery, once it is complete
abbrev pub completed_as : Delivery → Delivery
completed_as d = record d { status = Complete }

-- the delivery that a first transfer begins, and one with a further transfer, while more is to come
abbrev pub opened_by : Transferred → Delivery
opened_by t =
    record { id = t.id; tag = t.tag; format = t.format; second = t.second; settled = t.settled; resumed = t.resumed; payload = unless_resumed t.resumed t.payload; status = Open }

abbrev pub goes_on_with : Transferred → Delivery → Delivery
goes_on_with t d = record d { settled = d.settled || t.settled; payload = d.payload ++ unless_resumed d.resumed t.payload; status = Open }

abbrev pub opened_after : Transferred → Option Delivery → Delivery
opened_after t None = opened_by t
opened_after t (Some d) = goes_on_with t d

-- the transfer begins a delivery on the link, or goes on with the unfinished one
abbrev pub with_joined : Transferred → LinkView → LinkView
with_joined t l = record l { receiving = next_unfinished t l.receiving; ready = l.ready ++ completed (next_delivery t l.receiving) }

-- the link after the transfer, its credit aside
abbrev pub with_piece : Transferred → LinkView → LinkView
with_piece t l = record (with_joined t l) { waiting = waiting_after t l.receiving l.waiting }

-- it is all of a delivery that is not brought in, where it is a first one
pub record IsWhole (t : Transferred) : Type 0 where
  pub last : t.more ≡ false
  pub kept : t.aborted ≡ false
  pub new : t.resumed ≡ false

-- how long a payload is, told as 2^128 - 1 where it is longer
abbrev pub size_told : List ℕ → ℕ
size_told payload = min (length payload) 340282366920938463463374607431768211455

-- the unfinished delivery has come so far
pub record IsProgressOf (d : Delivery) (p : Progress) : Type 0 where
  pub id : p.id ≡ d.id
  pub settled : p.settled ≡ d.settled
  pub resumed : p.resumed ≡ d.resumed
  pub size : p.size ≡ size_told d.payload

pub record IsProgress (o : Option Delivery) (p : Progress) : Type 0 where
  pub of : Delivery
  pub is : o ≡ Some of
  pub far : IsProgressOf of p
