-- The bodies whose last part is still in octets.
use Rattle.std.specs.Prelude.{Option, option_map}
use Rattle.amqp_performatives.specs.declared.bodies.FlowBody.{FlowBody}
use Rattle.amqp_performatives.specs.declared.bodies.TransferBody.{TransferBody}
use Rattle.amqp_performatives.specs.declared.bodies.DispositionBody.{DispositionBody}
use Rattle.amqp_performatives.specs.declared.bodies.DetachBody.{DetachBody}
use Rattle.amqp_decoder.specs.declared.borrowed.ValueRef.{ValueRef}
use Rattle.amqp_decoder.specs.declared.borrowed.ErrorRef.{ErrorRef}
use Rattle.amqp_decoder.specs.declared.borrowed.StateRef.{StateRef}
use Rattle.amqp_decoder.specs.Parts.{values_in, error_in, state_in}

-- a body without its last part, and that
abbrev pub flow_in : FlowBody × Option ValueRef → FlowBody
flow_in r = record r.0 { properties = values_in r.1 }

abbrev pub transfer_in : TransferBody × Option StateRef → TransferBody
transfer_in r = record r.0 { state = option_map state_in r.1 }

abbrev pub disposition_in : DispositionBody × Option StateRef → DispositionBody
disposition_in r = record r.0 { state = option_map state_in r.1 }

abbrev pub detach_in : DetachBody × Option ErrorRef → DetachBody
detach_in r = record r.0 { error = option_map error_in r.1 }
