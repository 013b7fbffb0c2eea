-- What one entry of a journal says of the deliveries of one direction: of those that we send, or of those that we receive
-- (part 2, 2.6.12, 2.7.5 and 2.7.6).
use Rattle.std.specs.Prelude.{ℕ, Bool, Option, List}
use Rattle.amqp_performatives.specs.declared.state.DeliveryState.{DeliveryState}

-- a disposition (part 2, 2.7.6) speaks of the deliveries from first to last
pub record Disposition : Type 0 where
  pub first : ℕ
  pub last : ℕ
  pub settled : Bool
  pub state : Option DeliveryState

-- an unsettled delivery: its receiver settles second where `second` is set; the last state that we said, and that the peer did
pub record Item : Type 0 where
  pub id : ℕ
  pub link : ℕ
  pub tag : List ℕ
  pub second : Bool
  pub local : Option DeliveryState
  pub remote : Option DeliveryState

pub data Event : Type 0 where
  -- a first transfer begins a delivery, which is unsettled unless that transfer settled or aborted it
  Begins : (item : Item) (unsettled : Bool) → Event
  -- a later transfer of this delivery gives a state, or none; it ends the delivery where it settles or aborts it
  Continues : (id : ℕ) (state : Option DeliveryState) (over : Bool) → Event
  -- a transfer that is heard on a link that we have left, with its delivery-id
  PassesOver : (id : Option ℕ) → Event
  -- a disposition of ours, and one of the peer's
  Says : Disposition → Event
  Hears : Disposition → Event
  -- a detach of the link, by either end
  Leaves : (link : ℕ) → Event
  -- an end of the session, by either end
  Over : Event
  -- the application takes what is told, or what is ready
  Learns : (link : ℕ) → Event
  Takes : (link : ℕ) → Event
  Nothing : Event
