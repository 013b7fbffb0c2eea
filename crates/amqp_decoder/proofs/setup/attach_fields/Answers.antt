use Rattle.std.proofs.Common.{refl}
use Rattle.amqp_performatives.specs.Part.{no_field}
use Rattle.amqp_decoder.specs.Reading.{AreFields}
use Rattle.amqp_decoder.proofs.DescribedLists.{not_named}
use Rattle.amqp_decoder.proofs.FirstField.{always}
use Rattle.amqp_decoder.proofs.Conjunctions.{and_left, and_right, and_both}
use Rattle.amqp_decoder.proofs.setup.attach_fields.Goals as goal

pub returns-in_err-name : goal.returns-in_err-name
returns-in_err-name c = rw c.from_residual.ensures (λ b fair h. c.in_err-name.ensures b.name _ refl h)

pub returns-in_err-handle : goal.returns-in_err-handle
returns-in_err-handle c = rw c.from_residual-in_err-handle.ensures (λ b fair h. c.in_err-handle.ensures b.handle _ refl (c.in_ok-name.ensures.only b.name _ refl h))

pub returns-in_err-role : goal.returns-in_err-role
returns-in_err-role c = rw c.from_residual-in_err-role.ensures (λ b fair h. c.in_err-role.ensures b.role _ refl (c.in_ok-handle.ensures.only b.handle _ refl (c.in_ok-name.ensures.only b.name _ refl h)))

pub returns-in_err-snd_settle_mode : goal.returns-in_err-snd_settle_mode
returns-in_err-snd_settle_mode c = rw c.from_residual-in_err-snd_settle_mode.ensures (λ b fair h. c.in_err-snd_settle_mode.ensures b.snd_settle_mode _ (and_left _ _ (and_left _ _ (and_left _ _ (and_left _ _ (and_left _ _ (and_left _ _ fair)))))) (c.in_ok-role.ensures.only b.role _ refl (c.in_ok-handle.ensures.only b.handle _ refl (c.in_ok-name.ensures.only b.name _ refl h))))

pub returns-in_err-rcv_settle_mode : goal.returns-in_err-rcv_settle_mode
returns-in_err-rcv_settle_mode c = rw c.from_residual-in_err-rcv_settle_mode.ensures (λ b fair h. c.in_err-rcv_settle_mode.ensures b.rcv_settle_mode _ (and_right _ _ (and_left _ _ (and_left _ _ (and_left _ _ (and_left _ _ (and_left _ _ fair)))))) (c.in_ok-snd_settle_mode.ensures.only b.snd_settle_mode _ (and_left _ _ (and_left _ _ (and_left _ _ (and_left _ _ (and_left _ _ (and_left _ _ fair)))))) (c.in_ok-role.ensures.only b.role _ refl (c.in_ok-handle.ensures.only b.handle _ refl (c.in_ok-name.ensures.only b.name _ refl h)))))

pub returns-in_err-source : goal.returns-in_err-source
returns-in_err-source c = rw c.from_residual-in_err-source.ensures (λ b fair h. c.in_err-source.ensures b.source _ (and_right _ _ (and_left _ _ (and_left _ _ (and_left _ _ (and_left _ _ fair))))) (c.in_ok-rcv_settle_mode.ensures.only b.rcv_settle_mode _ (and_right _ _ (and_left _ _ (and_left _ _ (and_left _ _ (and_left _ _ (and_left _ _ fair)))))) (c.in_ok-snd_settle_mode.ensures.only b.snd_settle_mode _ (and_left _ _ (and_left _ _ (and_left _ _ (and_left _ _ (and_left _ _ (and_left _ _ fair)))))) (c.in_ok-role.ensures.only b.role _ refl (c.in_ok-handle.ensures.only b.handle _ refl (c.in_ok-name.ensures.only b.name _ refl h))))))

pub returns-in_err-target : goal.returns-in_err-target
returns-in_err-target c = rw c.from_residual-in_err-target.ensures (λ b fair h. c.in_err-target.ensures b.target _ (and_right _ _ (and_left _ _ (and_left _ _ (and_left _ _ fair)))) (c.in_ok-source.ensures.only b.source _ (and_right _ _ (and_left _ _ (and_left _ _ (and_left _ _ (and_left _ _ fair))))) (c.in_ok-rcv_settle_mode.ensures.only b.rcv_settle_mode _ (and_right _ _ (and_left _ _ (and_left _ _ (and_left _ _ (and_left _ _ (and_left _ _ fair)))))) (c.in_ok-snd_settle_mode.ensures.only b.snd_settle_mode _ (and_left _ _ (and_left _ _ (and_left _ _ (and_left _ _ (and_left _ _ (and_left _ _ fair)))))) (c.in_ok-role.ensures.only b.role _ refl (c.in_ok-handle.ensures.only b.handle _ refl (c.in_ok-name.ensures.only b.name _ refl h)))))))

pub returns-in_err-unsettled : goal.returns-in_err-unsettled
returns-in_err-unsettled c = rw c.from_residual-in_err-unsettled.ensures (λ b fair h. c.in_err-unsettled.ensures b.unsettled _ (always b.unsettled) (c.in_ok-target.ensures.only b.target _ (and_right _ _ (and_left _ _ (and_left _ _ (and_left _ _ fair)))) (c.in_ok-source.ensures.only b.source _ (and_right _ _ (and_left _ _ (and_left _ _ (and_left _ _ (and_left _ _ fair))))) (c.in_ok-rcv_settle_mode.ensures.only b.rcv_settle_mode _ (and_right _ _ (and_left _ _ (and_left _ _ (and_left _ _ (and_left _ _ (and_left _ _ fair)))))) (c.in_ok-snd_settle_mode.ensures.only b.snd_settle_mode _ (and_left _ _ (and_left _ _ (and_left _ _ (and_left _ _ (and_left _ _ (and_left _ _ fair)))))) (c.in_ok-role.ensures.only b.role _ refl (c.in_ok-handle.ensures.only b.handle _ refl (c.in_ok-name.ensures.only b.name _ refl h))))))))

pub returns-in_err-incomplete_unsettled : goal.returns-in_err-incomplete_unsettled
returns-in_err-incomplete_unsettled c = rw c.from_residual-in_err-incomplete_unsettled.ensures (λ b fair h. c.in_err-incomplete_unsettled.ensures b.incomplete_unsettled _ (always b.incomplete_unsettled) (c.in_ok-unsettled.ensures.only b.unsettled _ (always b.unsettled) (c.in_ok-target.ensures.only b.target _ (and_right _ _ (and_left _ _ (and_left _ _ (and_left _ _ fair)))) (c.in_ok-source.ensures.only b.source _ (and_right _ _ (and_left _ _ (and_left _ _ (and_left _ _ (and_left _ _ fair))))) (c.in_ok-rcv_settle_mode.ensures.only b.rcv_settle_mode _ (and_right _ _ (and_left _ _ (and_left _ _ (and_left _ _ (and_left _ _ (and_left _ _ fair)))))) (c.in_ok-snd_settle_mode.ensures.only b.snd_settle_mode _ (and_left _ _ (and_left _ _ (and_left _ _ (and_left _ _ (and_left _ _ (and_left _ _ fair)))))) (c.in_ok-role.ensures.only b.role _ refl (c.in_ok-handle.ensures.only b.handle _ refl (c.in_ok-name.ensures.only b.name _ refl h)))))))))

pub returns-in_err-initial_delivery_count : goal.returns-in_err-initial_delivery_count
returns-in_err-initial_delivery_count c = rw c.from_residual-in_err-initial_delivery_count.ensures (λ b fair h. c.in_err-initial_delivery_count.ensures b.initial_delivery_count _ (always b.initial_delivery_count) (c.in_ok-incomplete_unsettled.ensures.only b.incomplete_unsettled _ (always b.incomplete_unsettled) (c.in_ok-unsettled.ensures.only b.unsettled _ (always b.unsettled) (c.in_ok-target.ensures.only b.target _ (and_right _ _ (and_left _ _ (and_left _ _ (and_left _ _ fair)))) (c.in_ok-source.ensures.only b.source _ (and_right _ _ (and_left _ _ (and_left _ _ (and_left _ _ (and_left _ _ fair))))) (c.in_ok-rcv_settle_mode.ensures.only b.rcv_settle_mode _ (and_right _ _ (and_left _ _ (and_left _ _ (and_left _ _ (and_left _ _ (and_left _ _ fair)))))) (c.in_ok-snd_settle_mode.ensures.only b.snd_settle_mode _ (and_left _ _ (and_left _ _ (and_left _ _ (and_left _ _ (and_left _ _ (and_left _ _ fair)))))) (c.in_ok-role.ensures.only b.role _ refl (c.in_ok-handle.ensures.only b.handle _ refl (c.in_ok-name.ensures.only b.name _ refl h))))))))))

pub returns-in_err-max_message_size : goal.returns-in_err-max_message_size
returns-in_err-max_message_size c = rw c.from_residual-in_err-max_message_size.ensures (λ b fair h. c.in_err-max_message_size.ensures b.max_message_size _ (always b.max_message_size) (c.in_ok-initial_delivery_count.ensures.only b.initial_delivery_count _ (always b.initial_delivery_count) (c.in_ok-incomplete_unsettled.ensures.only b.incomplete_unsettled _ (always b.incomplete_unsettled) (c.in_ok-unsettled.ensures.only b.unsettled _ (always b.unsettled) (c.in_ok-target.ensures.only b.target _ (and_right _ _ (and_left _ _ (and_left _ _ (and_left _ _ fair)))) (c.in_ok-source.ensures.only b.source _ (and_right _ _ (and_left _ _ (and_left _ _ (and_left _ _ (and_left _ _ fair))))) (c.in_ok-rcv_settle_mode.ensures.only b.rcv_settle_mode _ (and_right _ _ (and_left _ _ (and_left _ _ (and_left _ _ (and_left _ _ (and_left _ _ fair)))))) (c.in_ok-snd_settle_mode.ensures.only b.snd_settle_mode _ (and_left _ _ (and_left _ _ (and_left _ _ (and_left _ _ (and_left _ _ (and_left _ _ fair)))))) (c.in_ok-role.ensures.only b.role _ refl (c.in_ok-handle.ensures.only b.handle _ refl (c.in_ok-name.ensures.only b.name _ refl h)))))))))))

pub returns-in_err-offered_capabilities : goal.returns-in_err-offered_capabilities
returns-in_err-offered_capabilities c = rw c.from_residual-in_err-offered_capabilities.ensures (λ b fair h. c.in_err-offered_capabilities.ensures b.offered_capabilities _ (and_right _ _ (and_left _ _ (and_left _ _ fair))) (c.in_ok-max_message_size.ensures.only b.max_message_size _ (always b.max_message_size) (c.in_ok-initial_delivery_count.ensures.only b.initial_delivery_count _ (always b.initial_delivery_count) (c.in_ok-incomplete_unsettled.ensures.only b.incomplete_unsettled _ (always b.incomplete_unsettled) (c.in_ok-unsettled.ensures.only b.unsettled _ (always b.unsettled) (c.in_ok-target.ensures.only b.target _ (and_right _ _ (and_left _ _ (and_left _ _ (and_left _ _ fair)))) (c.in_ok-source.ensures.only b.source _ (and_right _ _ (and_left _ _ (and_left _ _ (and_left _ _ (and_left _ _ fair))))) (c.in_ok-rcv_settle_mode.ensures.only b.rcv_settle_mode _ (and_right _ _ (and_left _ _ (and_left _ _ (and_left _ _ (and_left _ _ (and_left _ _ fair)))))) (c.in_ok-snd_settle_mode.ensures.only b.snd_settle_mode _ (and_left _ _ (and_left _ _ (and_left _ _ (and_left _ _ (and_left _ _ (and_left _ _ fair)))))) (c.in_ok-role.ensures.only b.role _ refl (c.in_ok-handle.ensures.only b.handle _ refl (c.in_ok-name.ensures.only b.name _ refl h))))))))))))

pub returns-in_err-desired_capabilities : goal.returns-in_err-desired_capabilities
returns-in_err-desired_capabilities c = rw c.from_residual-in_err-desired_capabilities.ensures (λ b fair h. c.in_err-desired_capabilities.ensures b.desired_capabilities _ (and_right _ _ (and_left _ _ fair)) (c.in_ok-offered_capabilities.ensures.only b.offered_capabilities _ (and_right _ _ (and_left _ _ (and_left _ _ fair))) (c.in_ok-max_message_size.ensures.only b.max_message_size _ (always b.max_message_size) (c.in_ok-initial_delivery_count.ensures.only b.initial_delivery_count _ (always b.initial_delivery_count) (c.in_ok-incomplete_unsettled.ensures.only b.incomplete_unsettled _ (always b.incomplete_unsettled) (c.in_ok-unsettled.ensures.only b.unsettled _ (always b.unsettled) (c.in_ok-target.ensures.only b.target _ (and_right _ _ (and_left _ _ (and_left _ _ (and_left _ _ fair)))) (c.in_ok-source.ensures.only b.source _ (and_right _ _ (and_left _ _ (and_left _ _ (and_left _ _ (and_left _ _ fair))))) (c.in_ok-rcv_settle_mode.ensures.only b.rcv_settle_mode _ (and_right _ _ (and_left _ _ (and_left _ _ (and_left _ _ (and_left _ _ (and_left _ _ fair)))))) (c.in_ok-snd_settle_mode.ensures.only b.snd_settle_mode _ (and_left _ _ (and_left _ _ (and_left _ _ (and_left _ _ (and_left _ _ (and_left _ _ fair)))))) (c.in_ok-role.ensures.only b.role _ refl (c.in_ok-handle.ensures.only b.handle _ refl (c.in_ok-name.ensures.only b.name _ refl h)))))))))))))

pub returns-in_err-properties : goal.returns-in_err-properties
returns-in_err-properties c = rw c.from_residual-in_err-properties.ensures (λ b fair h. c.in_err-properties.ensures b.properties _ (and_right _ _ fair) (c.in_ok-desired_capabilities.ensures.only b.desired_capabilities _ (and_right _ _ (and_left _ _ fair)) (c.in_ok-offered_capabilities.ensures.only b.offered_capabilities _ (and_right _ _ (and_left _ _ (and_left _ _ fair))) (c.in_ok-max_message_size.ensures.only b.max_message_size _ (always b.max_message_size) (c.in_ok-initial_delivery_count.ensures.only b.initial_delivery_count _ (always b.initial_delivery_count) (c.in_ok-incomplete_unsettled.ensures.only b.incomplete_unsettled _ (always b.incomplete_unsettled) (c.in_ok-unsettled.ensures.only b.unsettled _ (always b.unsettled) (c.in_ok-target.ensures.only b.target _ (and_right _ _ (and_left _ _ (and_left _ _ (and_left _ _ fair)))) (c.in_ok-source.ensures.only b.source _ (and_right _ _ (and_left _ _ (and_left _ _ (and_left _ _ (and_left _ _ fair))))) (c.in_ok-rcv_settle_mode.ensures.only b.rcv_settle_mode _ (and_right _ _ (and_left _ _ (and_left _ _ (and_left _ _ (and_left _ _ (and_left _ _ fair)))))) (c.in_ok-snd_settle_mode.ensures.only b.snd_settle_mode _ (and_left _ _ (and_left _ _ (and_left _ _ (and_left _ _ (and_left _ _ (and_left _ _ fair)))))) (c.in_ok-role.ensures.only b.role _ refl (c.in_ok-handle.ensures.only b.handle _ refl (c.in_ok-name.ensures.only b.name _ refl h))))))))))))))

pub returns-then-not-is_at_end : goal.returns-then-not-is_at_end
returns-then-not-is_at_end c = λ b fair h. not_named c.is_at_end.result (AreFields c.in_ok-properties.fields.depth c.in_ok-properties.fields.left no_field c.in_ok-properties.fields.octets.now) c.is_at_end.ensures c.if-not-is_at_end.true (c.in_ok-properties.ensures.only b.properties _ (and_right _ _ fair) (c.in_ok-desired_capabilities.ensures.only b.desired_capabilities _ (and_right _ _ (and_left _ _ fair)) (c.in_ok-offered_capabilities.ensures.only b.offered_capabilities _ (and_right _ _ (and_left _ _ (and_left _ _ fair))) (c.in_ok-max_message_size.ensures.only b.max_message_size _ (always b.max_message_size) (c.in_ok-initial_delivery_count.ensures.only b.initial_delivery_count _ (always b.initial_delivery_count) (c.in_ok-incomplete_unsettled.ensures.only b.incomplete_unsettled _ (always b.incomplete_unsettled) (c.in_ok-unsettled.ensures.only b.unsettled _ (always b.unsettled) (c.in_ok-target.ensures.only b.target _ (and_right _ _ (and_left _ _ (and_left _ _ (and_left _ _ fair)))) (c.in_ok-source.ensures.only b.source _ (and_right _ _ (and_left _ _ (and_left _ _ (and_left _ _ (and_left _ _ fair))))) (c.in_ok-rcv_settle_mode.ensures.only b.rcv_settle_mode _ (and_right _ _ (and_left _ _ (and_left _ _ (and_left _ _ (and_left _ _ (and_left _ _ fair)))))) (c.in_ok-snd_settle_mode.ensures.only b.snd_settle_mode _ (and_left _ _ (and_left _ _ (and_left _ _ (and_left _ _ (and_left _ _ (and_left _ _ fair)))))) (c.in_ok-role.ensures.only b.role _ refl (c.in_ok-handle.ensures.only b.handle _ refl (c.in_ok-name.ensures.only b.name _ refl h))))))))))))))

pub returns : goal.returns
returns c = ((and_both _ _ (and_both _ _ (and_both _ _ (and_both _ _ (and_both _ _ (and_both _ _ c.in_ok-snd_settle_mode.ensures.fair c.in_ok-rcv_settle_mode.ensures.fair) c.in_ok-source.ensures.fair) c.in_ok-target.ensures.fair) c.in_ok-offered_capabilities.ensures.fair) c.in_ok-desired_capabilities.ensures.fair) c.in_ok-properties.ensures.fair), (c.in_ok-name.ensures.found _ (c.in_ok-handle.ensures.found _ (c.in_ok-role.ensures.found _ (c.in_ok-snd_settle_mode.ensures.found _ (c.in_ok-rcv_settle_mode.ensures.found _ (c.in_ok-source.ensures.found _ (c.in_ok-target.ensures.found _ (c.in_ok-unsettled.ensures.found _ (c.in_ok-incomplete_unsettled.ensures.found _ (c.in_ok-initial_delivery_count.ensures.found _ (c.in_ok-max_message_size.ensures.found _ (c.in_ok-offered_capabilities.ensures.found _ (c.in_ok-desired_capabilities.ensures.found _ (c.in_ok-properties.ensures.found _ (c.is_at_end.ensures.0 c.if-not-is_at_end.false))))))))))))))))
