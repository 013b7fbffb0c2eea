use Rattle.std.proofs.Common.{refl}
use Rattle.amqp_performatives.specs.Part.{no_field}
use Rattle.amqp_decoder.specs.Reading.{AreFields}
use Rattle.amqp_decoder.proofs.DescribedLists.{not_named}
use Rattle.amqp_decoder.proofs.FirstField.{always}
use Rattle.amqp_decoder.proofs.Conjunctions.{and_left, and_right, and_both}
use Rattle.amqp_decoder.proofs.setup.begin_fields.Goals as goal

pub returns-in_err-remote_channel : goal.returns-in_err-remote_channel
returns-in_err-remote_channel c = rw c.from_residual.ensures (λ b fair h. c.in_err-remote_channel.ensures b.remote_channel _ (always b.remote_channel) h)

pub returns-in_err-next_outgoing_id : goal.returns-in_err-next_outgoing_id
returns-in_err-next_outgoing_id c = rw c.from_residual-in_err-next_outgoing_id.ensures (λ b fair h. c.in_err-next_outgoing_id.ensures b.next_outgoing_id _ refl (c.in_ok-remote_channel.ensures.only b.remote_channel _ (always b.remote_channel) h))

pub returns-in_err-incoming_window : goal.returns-in_err-incoming_window
returns-in_err-incoming_window c = rw c.from_residual-in_err-incoming_window.ensures (λ b fair h. c.in_err-incoming_window.ensures b.incoming_window _ refl (c.in_ok-next_outgoing_id.ensures.only b.next_outgoing_id _ refl (c.in_ok-remote_channel.ensures.only b.remote_channel _ (always b.remote_channel) h)))

pub returns-in_err-outgoing_window : goal.returns-in_err-outgoing_window
returns-in_err-outgoing_window c = rw c.from_residual-in_err-outgoing_window.ensures (λ b fair h. c.in_err-outgoing_window.ensures b.outgoing_window _ refl (c.in_ok-incoming_window.ensures.only b.incoming_window _ refl (c.in_ok-next_outgoing_id.ensures.only b.next_outgoing_id _ refl (c.in_ok-remote_channel.ensures.only b.remote_channel _ (always b.remote_channel) h))))

pub returns-in_err-handle_max : goal.returns-in_err-handle_max
returns-in_err-handle_max c = rw c.from_residual-in_err-handle_max.ensures (λ b fair h. c.in_err-handle_max.ensures b.handle_max _ (always b.handle_max) (c.in_ok-outgoing_window.ensures.only b.outgoing_window _ refl (c.in_ok-incoming_window.ensures.only b.incoming_window _ refl (c.in_ok-next_outgoing_id.ensures.only b.next_outgoing_id _ refl (c.in_ok-remote_channel.ensures.only b.remote_channel _ (always b.remote_channel) h)))))

pub returns-in_err-offered_capabilities : goal.returns-in_err-offered_capabilities
returns-in_err-offered_capabilities c = rw c.from_residual-in_err-offered_capabilities.ensures (λ b fair h. c.in_err-offered_capabilities.ensures b.offered_capabilities _ (and_left _ _ (and_left _ _ fair)) (c.in_ok-handle_max.ensures.only b.handle_max _ (always b.handle_max) (c.in_ok-outgoing_window.ensures.only b.outgoing_window _ refl (c.in_ok-incoming_window.ensures.only b.incoming_window _ refl (c.in_ok-next_outgoing_id.ensures.only b.next_outgoing_id _ refl (c.in_ok-remote_channel.ensures.only b.remote_channel _ (always b.remote_channel) h))))))

pub returns-in_err-desired_capabilities : goal.returns-in_err-desired_capabilities
returns-in_err-desired_capabilities c = rw c.from_residual-in_err-desired_capabilities.ensures (λ b fair h. c.in_err-desired_capabilities.ensures b.desired_capabilities _ (and_right _ _ (and_left _ _ fair)) (c.in_ok-offered_capabilities.ensures.only b.offered_capabilities _ (and_left _ _ (and_left _ _ fair)) (c.in_ok-handle_max.ensures.only b.handle_max _ (always b.handle_max) (c.in_ok-outgoing_window.ensures.only b.outgoing_window _ refl (c.in_ok-incoming_window.ensures.only b.incoming_window _ refl (c.in_ok-next_outgoing_id.ensures.only b.next_outgoing_id _ refl (c.in_ok-remote_channel.ensures.only b.remote_channel _ (always b.remote_channel) h)))))))

pub returns-in_err-properties : goal.returns-in_err-properties
returns-in_err-properties c = rw c.from_residual-in_err-properties.ensures (λ b fair h. c.in_err-properties.ensures b.properties _ (and_right _ _ fair) (c.in_ok-desired_capabilities.ensures.only b.desired_capabilities _ (and_right _ _ (and_left _ _ fair)) (c.in_ok-offered_capabilities.ensures.only b.offered_capabilities _ (and_left _ _ (and_left _ _ fair)) (c.in_ok-handle_max.ensures.only b.handle_max _ (always b.handle_max) (c.in_ok-outgoing_window.ensures.only b.outgoing_window _ refl (c.in_ok-incoming_window.ensures.only b.incoming_window _ refl (c.in_ok-next_outgoing_id.ensures.only b.next_outgoing_id _ refl (c.in_ok-remote_channel.ensures.only b.remote_channel _ (always b.remote_channel) h))))))))

pub returns-then-not-is_at_end : goal.returns-then-not-is_at_end
returns-then-not-is_at_end c = λ b fair h. not_named c.is_at_end.result (AreFields c.in_ok-properties.fields.depth c.in_ok-properties.fields.left no_field c.in_ok-properties.fields.octets.now) c.is_at_end.ensures c.if-not-is_at_end.true (c.in_ok-properties.ensures.only b.properties _ (and_right _ _ fair) (c.in_ok-desired_capabilities.ensures.only b.desired_capabilities _ (and_right _ _ (and_left _ _ fair)) (c.in_ok-offered_capabilities.ensures.only b.offered_capabilities _ (and_left _ _ (and_left _ _ fair)) (c.in_ok-handle_max.ensures.only b.handle_max _ (always b.handle_max) (c.in_ok-outgoing_window.ensures.only b.outgoing_window _ refl (c.in_ok-incoming_window.ensures.only b.incoming_window _ refl (c.in_ok-next_outgoing_id.ensures.only b.next_outgoing_id _ refl (c.in_ok-remote_channel.ensures.only b.remote_channel _ (always b.remote_channel) h))))))))

pub returns : goal.returns
returns c = ((and_both _ _ (and_both _ _ c.in_ok-offered_capabilities.ensures.fair c.in_ok-desired_capabilities.ensures.fair) c.in_ok-properties.ensures.fair), (c.in_ok-remote_channel.ensures.found _ (c.in_ok-next_outgoing_id.ensures.found _ (c.in_ok-incoming_window.ensures.found _ (c.in_ok-outgoing_window.ensures.found _ (c.in_ok-handle_max.ensures.found _ (c.in_ok-offered_capabilities.ensures.found _ (c.in_ok-desired_capabilities.ensures.found _ (c.in_ok-properties.ensures.found _ (c.is_at_end.ensures.0 c.if-not-is_at_end.false))))))))))
