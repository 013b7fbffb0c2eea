-- Which bodies the borrowed forms of open, begin and attach stand for.
use Rattle.std.specs.Prelude.{Option, List, option_map}
use Rattle.amqp_types.specs.declared.value.Value.{Value}
use Rattle.amqp_performatives.specs.declared.bodies.OpenBody.{OpenBody}
use Rattle.amqp_performatives.specs.declared.bodies.BeginBody.{BeginBody}
use Rattle.amqp_performatives.specs.declared.bodies.AttachBody.{AttachBody}
use Rattle.amqp_decoder.specs.declared.borrowed.ValueRef.{ValueRef}
use Rattle.amqp_decoder.specs.declared.setup.OpenRef.{OpenRef}
use Rattle.amqp_decoder.specs.declared.setup.BeginRef.{BeginRef}
use Rattle.amqp_decoder.specs.declared.setup.AttachRef.{AttachRef}
use Rattle.amqp_decoder.specs.Borrowed.{pairs_in}
use Rattle.amqp_decoder.specs.Parts.{values_in}

abbrev pub map_in : Option ValueRef → Option (List (Value × Value))
map_in v = option_map (λ r. pairs_in r.octets.now) v

abbrev pub open_in : OpenRef → OpenBody
open_in r = record { container_id = r.container_id.now; hostname = option_map (λ t. t.now) r.hostname; max_frame_size = r.max_frame_size; channel_max = r.channel_max; idle_time_out = r.idle_time_out; outgoing_locales = values_in r.outgoing_locales; incoming_locales = values_in r.incoming_locales; offered_capabilities = values_in r.offered_capabilities; desired_capabilities = values_in r.desired_capabilities; properties = values_in r.properties }

abbrev pub begin_in : BeginRef → BeginBody
begin_in r = record { remote_channel = r.remote_channel; next_outgoing_id = r.next_outgoing_id; incoming_window = r.incoming_window; outgoing_window = r.outgoing_window; handle_max = r.handle_max; offered_capabilities = values_in r.offered_capabilities; desired_capabilities = values_in r.desired_capabilities; properties = values_in r.properties }

abbrev pub attach_in : AttachRef → AttachBody
attach_in r = record { name = r.name.now; handle = r.handle; role = r.role; snd_settle_mode = r.snd_settle_mode; rcv_settle_mode = r.rcv_settle_mode; source = values_in r.source; target = values_in r.target; unsettled = map_in r.unsettled; incomplete_unsettled = r.incomplete_unsettled; initial_delivery_count = r.initial_delivery_count; max_message_size = r.max_message_size; offered_capabilities = values_in r.offered_capabilities; desired_capabilities = values_in r.desired_capabilities; properties = values_in r.properties }
