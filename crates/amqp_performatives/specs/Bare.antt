-- Bodies that have their mandatory fields alone (part 2, 2.7): every other is absent.
use Rattle.std.specs.Prelude.{ℕ, None, List}
use Rattle.amqp_performatives.specs.declared.bodies.Role.{Role}
use Rattle.amqp_performatives.specs.declared.bodies.OpenBody.{OpenBody}
use Rattle.amqp_performatives.specs.declared.bodies.BeginBody.{BeginBody}
use Rattle.amqp_performatives.specs.declared.bodies.AttachBody.{AttachBody}
use Rattle.amqp_performatives.specs.declared.bodies.FlowBody.{FlowBody}
use Rattle.amqp_performatives.specs.declared.bodies.TransferBody.{TransferBody}
use Rattle.amqp_performatives.specs.declared.bodies.DispositionBody.{DispositionBody}
use Rattle.amqp_performatives.specs.declared.bodies.DetachBody.{DetachBody}
use Rattle.amqp_performatives.specs.declared.bodies.EndBody.{EndBody}
use Rattle.amqp_performatives.specs.declared.bodies.CloseBody.{CloseBody}

abbrev pub bare_open : List ℕ → OpenBody
bare_open container_id =
    record {
      container_id = container_id;
      hostname = None;
      max_frame_size = None;
      channel_max = None;
      idle_time_out = None;
      outgoing_locales = None;
      incoming_locales = None;
      offered_capabilities = None;
      desired_capabilities = None;
      properties = None;
    }

abbrev pub bare_begin : ℕ → ℕ → ℕ → BeginBody
bare_begin next_outgoing_id incoming_window outgoing_window =
    record {
      remote_channel = None;
      next_outgoing_id = next_outgoing_id;
      incoming_window = incoming_window;
      outgoing_window = outgoing_window;
      handle_max = None;
      offered_capabilities = None;
      desired_capabilities = None;
      properties = None;
    }

abbrev pub bare_attach : List ℕ → ℕ → Role → AttachBody
bare_attach name handle role =
    record {
      name = name;
      handle = handle;
      role = role;
      snd_settle_mode = None;
      rcv_settle_mode = None;
      source = None;
      target = None;
      unsettled = None;
      incomplete_unsettled = None;
      initial_delivery_count = None;
      max_message_size = None;
      offered_capabilities = None;
      desired_capabilities = None;
      properties = None;
    }

abbrev pub bare_flow : ℕ → ℕ → ℕ → FlowBody
bare_flow incoming_window next_outgoing_id outgoing_window =
    record {
      next_incoming_id = None;
      incoming_window = incoming_window;
      next_outgoing_id = next_outgoing_id;
      outgoing_window = outgoing_window;
      handle = None;
      delivery_count = None;
      link_credit = None;
      available = None;
      drain = None;
      echo = None;
      properties = None;
    }

abbrev pub bare_transfer : ℕ → TransferBody
bare_transfer handle =
    record {
      handle = handle;
      delivery_id = None;
      delivery_tag = None;
      message_format = None;
      settled = None;
      more = None;
      rcv_settle_mode = None;
      state = None;
      resume = None;
      aborted = None;
      batchable = None;
    }

abbrev pub bare_disposition : Role → ℕ → DispositionBody
bare_disposition role first =
    record {
      role = role;
      first = first;
      last = None;
      settled = None;
      state = None;
      batchable = None;
    }

abbrev pub bare_detach : ℕ → DetachBody
bare_detach handle = record { handle = handle; closed = None; error = None }

abbrev pub bare_end : EndBody
bare_end = record { error = None }

abbrev pub bare_close : CloseBody
bare_close = record { error = None }
