use Rattle.std.proofs.Common.{refl}
use Rattle.amqp_performatives.specs.Part.{no_field}
use Rattle.amqp_decoder.specs.Reading.{AreFields}
use Rattle.amqp_decoder.proofs.DescribedLists.{not_named}
use Rattle.amqp_decoder.proofs.FirstField.{always}
use Rattle.amqp_decoder.proofs.Conjunctions.{and_left, and_right, and_both}
use Rattle.amqp_decoder.proofs.setup.open_fields.Goals as goal

pub returns-in_err-container_id : goal.returns-in_err-container_id
returns-in_err-container_id c = rw c.from_residual.ensures (λ b fair h. c.in_err-container_id.ensures b.container_id _ refl h)

pub returns-in_err-hostname : goal.returns-in_err-hostname
returns-in_err-hostname c = rw c.from_residual-in_err-hostname.ensures (λ b fair h. c.in_err-hostname.ensures b.hostname _ (always b.hostname) (c.in_ok-container_id.ensures.only b.container_id _ refl h))

pub returns-in_err-max_frame_size : goal.returns-in_err-max_frame_size
returns-in_err-max_frame_size c = rw c.from_residual-in_err-max_frame_size.ensures (λ b fair h. c.in_err-max_frame_size.ensures b.max_frame_size _ (always b.max_frame_size) (c.in_ok-hostname.ensures.only b.hostname _ (always b.hostname) (c.in_ok-container_id.ensures.only b.container_id _ refl h)))

pub returns-in_err-channel_max : goal.returns-in_err-channel_max
returns-in_err-channel_max c = rw c.from_residual-in_err-channel_max.ensures (λ b fair h. c.in_err-channel_max.ensures b.channel_max _ (always b.channel_max) (c.in_ok-max_frame_size.ensures.only b.max_frame_size _ (always b.max_frame_size) (c.in_ok-hostname.ensures.only b.hostname _ (always b.hostname) (c.in_ok-container_id.ensures.only b.container_id _ refl h))))

pub returns-in_err-idle_time_out : goal.returns-in_err-idle_time_out
returns-in_err-idle_time_out c = rw c.from_residual-in_err-idle_time_out.ensures (λ b fair h. c.in_err-idle_time_out.ensures b.idle_time_out _ (always b.idle_time_out) (c.in_ok-channel_max.ensures.only b.channel_max _ (always b.channel_max) (c.in_ok-max_frame_size.ensures.only b.max_frame_size _ (always b.max_frame_size) (c.in_ok-hostname.ensures.only b.hostname _ (always b.hostname) (c.in_ok-container_id.ensures.only b.container_id _ refl h)))))

pub returns-in_err-outgoing_locales : goal.returns-in_err-outgoing_locales
returns-in_err-outgoing_locales c = rw c.from_residual-in_err-outgoing_locales.ensures (λ b fair h. c.in_err-outgoing_locales.ensures b.outgoing_locales _ (and_left _ _ (and_left _ _ (and_left _ _ (and_left _ _ fair)))) (c.in_ok-idle_time_out.ensures.only b.idle_time_out _ (always b.idle_time_out) (c.in_ok-channel_max.ensures.only b.channel_max _ (always b.channel_max) (c.in_ok-max_frame_size.ensures.only b.max_frame_size _ (always b.max_frame_size) (c.in_ok-hostname.ensures.only b.hostname _ (always b.hostname) (c.in_ok-container_id.ensures.only b.container_id _ refl h))))))

pub returns-in_err-incoming_locales : goal.returns-in_err-incoming_locales
returns-in_err-incoming_locales c = rw c.from_residual-in_err-incoming_locales.ensures (λ b fair h. c.in_err-incoming_locales.ensures b.incoming_locales _ (and_right _ _ (and_left _ _ (and_left _ _ (and_left _ _ fair)))) (c.in_ok-outgoing_locales.ensures.only b.outgoing_locales _ (and_left _ _ (and_left _ _ (and_left _ _ (and_left _ _ fair)))) (c.in_ok-idle_time_out.ensures.only b.idle_time_out _ (always b.idle_time_out) (c.in_ok-channel_max.ensures.only b.channel_max _ (always b.channel_max) (c.in_ok-max_frame_size.ensures.only b.max_frame_size _ (always b.max_frame_size) (c.in_ok-hostname.ensures.only b.hostname _ (always b.hostname) (c.in_ok-container_id.ensures.only b.container_id _ refl h)))))))

pub returns-in_err-offered_capabilities : goal.returns-in_err-offered_capabilities
returns-in_err-offered_capabilities c = rw c.from_residual-in_err-offered_capabilities.ensures (λ b fair h. c.in_err-offered_capabilities.ensures b.offered_capabilities _ (and_right _ _ (and_left _ _ (and_left _ _ fair))) (c.in_ok-incoming_locales.ensures.only b.incoming_locales _ (and_right _ _ (and_left _ _ (and_left _ _ (and_left _ _ fair)))) (c.in_ok-outgoing_locales.ensures.only b.outgoing_locales _ (and_left _ _ (and_left _ _ (and_left _ _ (and_left _ _ fair)))) (c.in_ok-idle_time_out.ensures.only b.idle_time_out _ (always b.idle_time_out) (c.in_ok-channel_max.ensures.only b.channel_max _ (always b.channel_max) (c.in_ok-max_frame_size.ensures.only b.max_frame_size _ (always b.max_frame_size) (c.in_ok-hostname.ensures.only b.hostname _ (always b.hostname) (c.in_ok-container_id.ensures.only b.container_id _ refl h))))))))

pub returns-in_err-desired_capabilities : goal.returns-in_err-desired_capabilities
returns-in_err-desired_capabilities c = rw c.from_residual-in_err-desired_capabilities.ensures (λ b fair h. c.in_err-desired_capabilities.ensures b.desired_capabilities _ (and_right _ _ (and_left _ _ fair)) (c.in_ok-offered_capabilities.ensures.only b.offered_capabilities _ (and_right _ _ (and_left _ _ (and_left _ _ fair))) (c.in_ok-incoming_locales.ensures.only b.incoming_locales _ (and_right _ _ (and_left _ _ (and_left _ _ (and_left _ _ fair)))) (c.in_ok-outgoing_locales.ensures.only b.outgoing_locales _ (and_left _ _ (and_left _ _ (and_left _ _ (and_left _ _ fair)))) (c.in_ok-idle_time_out.ensures.only b.idle_time_out _ (always b.idle_time_out) (c.in_ok-channel_max.ensures.only b.channel_max _ (always b.channel_max) (c.in_ok-max_frame_size.ensures.only b.max_frame_size _ (always b.max_frame_size) (c.in_ok-hostname.ensures.only b.hostname _ (always b.hostname) (c.in_ok-container_id.ensures.only b.container_id _ refl h)))))))))

pub returns-in_err-properties : goal.returns-in_err-properties
returns-in_err-properties c = rw c.from_residual-in_err-properties.ensures (λ b fair h. c.in_err-properties.ensures b.properties _ (and_right _ _ fair) (c.in_ok-desired_capabilities.ensures.only b.desired_capabilities _ (and_right _ _ (and_left _ _ fair)) (c.in_ok-offered_capabilities.ensures.only b.offered_capabilities _ (and_right _ _ (and_left _ _ (and_left _ _ fair))) (c.in_ok-incoming_locales.ensures.only b.incoming_locales _ (and_right _ _ (and_left _ _ (and_left _ _ (and_left _ _ fair)))) (c.in_ok-outgoing_locales.ensures.only b.outgoing_locales _ (and_left _ _ (and_left _ _ (and_left _ _ (and_left _ _ fair)))) (c.in_ok-idle_time_out.ensures.only b.idle_time_out _ (always b.idle_time_out) (c.in_ok-channel_max.ensures.only b.channel_max _ (always b.channel_max) (c.in_ok-max_frame_size.ensures.only b.max_frame_size _ (always b.max_frame_size) (c.in_ok-hostname.ensures.only b.hostname _ (always b.hostname) (c.in_ok-container_id.ensures.only b.container_id _ refl h))))))))))

pub returns-then-not-is_at_end : goal.returns-then-not-is_at_end
returns-then-not-is_at_end c = λ b fair h. not_named c.is_at_end.result (AreFields c.in_ok-properties.fields.depth c.in_ok-properties.fields.left no_field c.in_ok-properties.fields.octets.now) c.is_at_end.ensures c.if-not-is_at_end.true (c.in_ok-properties.ensures.only b.properties _ (and_right _ _ fair) (c.in_ok-desired_capabilities.ensures.only b.desired_capabilities _ (and_right _ _ (and_left _ _ fair)) (c.in_ok-offered_capabilities.ensures.only b.offered_capabilities _ (and_right _ _ (and_left _ _ (and_left _ _ fair))) (c.in_ok-incoming_locales.ensures.only b.incoming_locales _ (and_right _ _ (and_left _ _ (and_left _ _ (and_left _ _ fair)))) (c.in_ok-outgoing_locales.ensures.only b.outgoing_locales _ (and_left _ _ (and_left _ _ (and_left _ _ (and_left _ _ fair)))) (c.in_ok-idle_time_out.ensures.only b.idle_time_out _ (always b.idle_time_out) (c.in_ok-channel_max.ensures.only b.channel_max _ (always b.channel_max) (c.in_ok-max_frame_size.ensures.only b.max_frame_size _ (always b.max_frame_size) (c.in_ok-hostname.ensures.only b.hostname _ (always b.hostname) (c.in_ok-container_id.ensures.only b.container_id _ refl h))))))))))

pub returns : goal.returns
returns c = ((and_both _ _ (and_both _ _ (and_both _ _ (and_both _ _ c.in_ok-outgoing_locales.ensures.fair c.in_ok-incoming_locales.ensures.fair) c.in_ok-offered_capabilities.ensures.fair) c.in_ok-desired_capabilities.ensures.fair) c.in_ok-properties.ensures.fair), (c.in_ok-container_id.ensures.found _ (c.in_ok-hostname.ensures.found _ (c.in_ok-max_frame_size.ensures.found _ (c.in_ok-channel_max.ensures.found _ (c.in_ok-idle_time_out.ensures.found _ (c.in_ok-outgoing_locales.ensures.found _ (c.in_ok-incoming_locales.ensures.found _ (c.in_ok-offered_capabilities.ensures.found _ (c.in_ok-desired_capabilities.ensures.found _ (c.in_ok-properties.ensures.found _ (c.is_at_end.ensures.0 c.if-not-is_at_end.false))))))))))))
