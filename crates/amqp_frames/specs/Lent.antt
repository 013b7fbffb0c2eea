-- The bodies made of borrowed parts; a field that is not among the parts is absent.
use Rattle.std.specs.Prelude.{ℕ, Bool, true, Option, Some, None}
use Rattle.amqp_performatives.specs.declared.bodies.Role.{Role}
use Rattle.amqp_performatives.specs.declared.bodies.AttachBody.{AttachBody}
use Rattle.amqp_performatives.specs.declared.bodies.DispositionBody.{DispositionBody}
use Rattle.amqp_performatives.specs.declared.bodies.DetachBody.{DetachBody}
use Rattle.amqp_performatives.specs.declared.bodies.EndBody.{EndBody}
use Rattle.amqp_performatives.specs.declared.error.AmqpError.{AmqpError}
use Rattle.amqp_performatives.specs.declared.state.DeliveryState.{DeliveryState}
use Rattle.amqp_performatives.specs.declared.bodies.TransferBody.{TransferBody}
use Rattle.amqp_frames.specs.declared.lent.AttachParts.{AttachParts}
use Rattle.amqp_frames.specs.declared.lent.ResumingParts.{ResumingParts}

abbrev pub attach_of : AttachParts → AttachBody
attach_of p = record {
  name = p.name.now;
  handle = p.handle;
  role = p.role;
  snd_settle_mode = p.snd_settle_mode;
  rcv_settle_mode = p.rcv_settle_mode;
  source = p.source.now;
  target = p.target.now;
  unsettled = p.unsettled.now;
  incomplete_unsettled = None;
  initial_delivery_count = p.initial_delivery_count;
  max_message_size = p.max_message_size;
  offered_capabilities = None;
  desired_capabilities = None;
  properties = None;
}

abbrev pub resuming_of : ResumingParts → TransferBody
resuming_of p = record {
  handle = p.handle;
  delivery_id = Some p.delivery_id;
  delivery_tag = Some p.delivery_tag.now;
  message_format = None;
  settled = p.settled;
  more = None;
  rcv_settle_mode = None;
  state = p.state.now;
  resume = Some true;
  aborted = p.aborted;
  batchable = None;
}

abbrev pub disposition_of : Role → ℕ → Option ℕ → Option Bool → Option DeliveryState → DispositionBody
disposition_of role first last settled state = record { role = role; first = first; last = last; settled = settled; state = state; batchable = None }

abbrev pub detach_of : ℕ → Option Bool → Option AmqpError → DetachBody
detach_of handle closed error = record { handle = handle; closed = closed; error = error }

abbrev pub end_of : Option AmqpError → EndBody
end_of error = record { error = error }
