-- The numbers by which callers name what the connection names by enums.
use Rattle.std.specs.Prelude.{ℕ, Option, Some, None}
use Rattle.amqp_performatives.specs.declared.bodies.Role.{Role}
use Rattle.amqp_performatives.specs.declared.bodies.Role.TheVariants as role
use Rattle.amqp_performatives.specs.declared.state.DeliveryState.{DeliveryState}
use Rattle.amqp_performatives.specs.declared.state.DeliveryState.TheVariants as state
use Rattle.amqp_performatives.specs.declared.performative.Performative.{Performative}
use Rattle.amqp_performatives.specs.declared.performative.Performative.TheVariants as performative
use Rattle.amqp_waiting.specs.declared.item.Verdict.{Verdict}
use Rattle.amqp_waiting.specs.declared.item.Verdict.TheVariants as verdict
use Rattle.amqp_frames.specs.declared.frame.Frame.{Frame}
use Rattle.amqp_conn.specs.declared.phase.Phase.{Phase}
use Rattle.amqp_conn.specs.declared.phase.Phase.TheVariants as phase

abbrev pub phase_number : Phase → ℕ
phase_number phase.AwaitHeader = 1
phase_number phase.AwaitOpen = 2
phase_number phase.Running = 3
phase_number phase.Closing = 4
phase_number phase.Closed = 5

abbrev pub role_number : Role → ℕ
role_number role.Sender = 0
role_number role.Receiver = 1

abbrev pub state_number : Option DeliveryState → ℕ
state_number None = 0
state_number (Some (state.Received n o)) = 1
state_number (Some state.Accepted) = 2
state_number (Some (state.Rejected e)) = 3
state_number (Some state.Released) = 4
state_number (Some (state.Modified f u m)) = 5
state_number (Some (state.Other v)) = 6

abbrev pub verdict_number : Verdict → ℕ
verdict_number verdict.Unclear = 0
verdict_number verdict.Absent = 1
verdict_number verdict.Partial = 2
verdict_number verdict.Held = 3
verdict_number verdict.Outcome = 4

-- the largest number stands for none
abbrev pub id_number : Option ℕ → ℕ
id_number None = 4294967295
id_number (Some i) = i

abbrev pub body_number : Option Performative → ℕ
body_number None = 0
body_number (Some (performative.Open b)) = 1
body_number (Some (performative.Begin b)) = 2
body_number (Some (performative.Attach b)) = 3
body_number (Some (performative.Flow b)) = 4
body_number (Some (performative.Transfer b)) = 5
body_number (Some (performative.Disposition b)) = 6
body_number (Some (performative.Detach b)) = 7
body_number (Some (performative.End b)) = 8
body_number (Some (performative.Close b)) = 9

-- the handle of the link that a flow is of
abbrev pub body_handle : Option Performative → ℕ
body_handle (Some (performative.Flow b)) = id_number b.handle
body_handle _ = 4294967295

abbrev pub frame_number : Option Frame → ℕ
frame_number None = 0
frame_number (Some f) = body_number f.body

abbrev pub frame_handle : Option Frame → ℕ
frame_handle None = 4294967295
frame_handle (Some f) = body_handle f.body
