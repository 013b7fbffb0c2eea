-- Frames that can always be written, in at most the 512 octets that each peer accepts (part 2, 2.4.1).
use Rattle.std.specs.Prelude.{ℕ, ◌≡◌, ◌^◌, ◌<◌, ◌≤◌, Option, Some, None, Ok, List, [], length}
use Rattle.amqp_performatives.specs.declared.performative.Performative.{Performative}
use Rattle.amqp_performatives.specs.declared.bodies.FlowBody.{FlowBody}
use Rattle.amqp_frames.specs.Written.{write_answer}

-- a uint, if it is there
abbrev pub Is32 : Option ℕ → Type 0
Is32 None = Unit {0}
Is32 (Some n) = n < 2 ^ 32

-- a flow of 32-bit numbers and without properties
pub record IsBriefFlow (b : FlowBody) : Type 0 where
  pub next_incoming_id : Is32 b.next_incoming_id
  pub incoming_window : b.incoming_window < 2 ^ 32
  pub next_outgoing_id : b.next_outgoing_id < 2 ^ 32
  pub outgoing_window : b.outgoing_window < 2 ^ 32
  pub handle : Is32 b.handle
  pub delivery_count : Is32 b.delivery_count
  pub link_credit : Is32 b.link_credit
  pub available : Is32 b.available
  pub properties : b.properties ≡ None

-- a frame of only the performative is written in at most 512 octets, if the peer accepts 512 or more
abbrev pub IsBrief : Performative → Type 0
IsBrief p = (channel max : ℕ) → 512 ≤ max → (octets : List ℕ) × (write_answer (record { channel = channel; body = Some p; payload = [] }) max ≡ Ok octets) × (length octets ≤ 512)
