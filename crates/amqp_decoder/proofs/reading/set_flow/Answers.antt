use Rattle.std.proofs.Common.{refl}
use Rattle.amqp_performatives.specs.Part.{no_field}
use Rattle.amqp_decoder.specs.Reading.{AreFields}
use Rattle.amqp_decoder.proofs.DescribedLists.{not_named}
use Rattle.amqp_decoder.proofs.FirstField.{always}
use Rattle.amqp_decoder.proofs.reading.set_flow.Goals as goal

pub returns-in_err-next_incoming_id : goal.returns-in_err-next_incoming_id
returns-in_err-next_incoming_id c = rw c.from_residual.ensures (λ b fair h. c.in_err-next_incoming_id.ensures b.next_incoming_id _ (always b.next_incoming_id) h)

pub returns-in_err-incoming_window : goal.returns-in_err-incoming_window
returns-in_err-incoming_window c = rw c.from_residual-in_err-incoming_window.ensures (λ b fair h. c.in_err-incoming_window.ensures b.incoming_window _ refl (c.in_ok-next_incoming_id.ensures.only b.next_incoming_id _ (always b.next_incoming_id) h))

pub returns-in_err-next_outgoing_id : goal.returns-in_err-next_outgoing_id
returns-in_err-next_outgoing_id c = rw c.from_residual-in_err-next_outgoing_id.ensures (λ b fair h. c.in_err-next_outgoing_id.ensures b.next_outgoing_id _ refl (c.in_ok-incoming_window.ensures.only b.incoming_window _ refl (c.in_ok-next_incoming_id.ensures.only b.next_incoming_id _ (always b.next_incoming_id) h)))

pub returns-in_err-outgoing_window : goal.returns-in_err-outgoing_window
returns-in_err-outgoing_window c = rw c.from_residual-in_err-outgoing_window.ensures (λ b fair h. c.in_err-outgoing_window.ensures b.outgoing_window _ refl (c.in_ok-next_outgoing_id.ensures.only b.next_outgoing_id _ refl (c.in_ok-incoming_window.ensures.only b.incoming_window _ refl (c.in_ok-next_incoming_id.ensures.only b.next_incoming_id _ (always b.next_incoming_id) h))))

pub returns-in_err-handle : goal.returns-in_err-handle
returns-in_err-handle c = rw c.from_residual-in_err-handle.ensures (λ b fair h. c.in_err-handle.ensures b.handle _ (always b.handle) (c.in_ok-outgoing_window.ensures.only b.outgoing_window _ refl (c.in_ok-next_outgoing_id.ensures.only b.next_outgoing_id _ refl (c.in_ok-incoming_window.ensures.only b.incoming_window _ refl (c.in_ok-next_incoming_id.ensures.only b.next_incoming_id _ (always b.next_incoming_id) h)))))

pub returns-in_err-delivery_count : goal.returns-in_err-delivery_count
returns-in_err-delivery_count c = rw c.from_residual-in_err-delivery_count.ensures (λ b fair h. c.in_err-delivery_count.ensures b.delivery_count _ (always b.delivery_count) (c.in_ok-handle.ensures.only b.handle _ (always b.handle) (c.in_ok-outgoing_window.ensures.only b.outgoing_window _ refl (c.in_ok-next_outgoing_id.ensures.only b.next_outgoing_id _ refl (c.in_ok-incoming_window.ensures.only b.incoming_window _ refl (c.in_ok-next_incoming_id.ensures.only b.next_incoming_id _ (always b.next_incoming_id) h))))))

pub returns-in_err-link_credit : goal.returns-in_err-link_credit
returns-in_err-link_credit c = rw c.from_residual-in_err-link_credit.ensures (λ b fair h. c.in_err-link_credit.ensures b.link_credit _ (always b.link_credit) (c.in_ok-delivery_count.ensures.only b.delivery_count _ (always b.delivery_count) (c.in_ok-handle.ensures.only b.handle _ (always b.handle) (c.in_ok-outgoing_window.ensures.only b.outgoing_window _ refl (c.in_ok-next_outgoing_id.ensures.only b.next_outgoing_id _ refl (c.in_ok-incoming_window.ensures.only b.incoming_window _ refl (c.in_ok-next_incoming_id.ensures.only b.next_incoming_id _ (always b.next_incoming_id) h)))))))

pub returns-in_err-available : goal.returns-in_err-available
returns-in_err-available c = rw c.from_residual-in_err-available.ensures (λ b fair h. c.in_err-available.ensures b.available _ (always b.available) (c.in_ok-link_credit.ensures.only b.link_credit _ (always b.link_credit) (c.in_ok-delivery_count.ensures.only b.delivery_count _ (always b.delivery_count) (c.in_ok-handle.ensures.only b.handle _ (always b.handle) (c.in_ok-outgoing_window.ensures.only b.outgoing_window _ refl (c.in_ok-next_outgoing_id.ensures.only b.next_outgoing_id _ refl (c.in_ok-incoming_window.ensures.only b.incoming_window _ refl (c.in_ok-next_incoming_id.ensures.only b.next_incoming_id _ (always b.next_incoming_id) h))))))))

pub returns-in_err-drain : goal.returns-in_err-drain
returns-in_err-drain c = rw c.from_residual-in_err-drain.ensures (λ b fair h. c.in_err-drain.ensures b.drain _ (always b.drain) (c.in_ok-available.ensures.only b.available _ (always b.available) (c.in_ok-link_credit.ensures.only b.link_credit _ (always b.link_credit) (c.in_ok-delivery_count.ensures.only b.delivery_count _ (always b.delivery_count) (c.in_ok-handle.ensures.only b.handle _ (always b.handle) (c.in_ok-outgoing_window.ensures.only b.outgoing_window _ refl (c.in_ok-next_outgoing_id.ensures.only b.next_outgoing_id _ refl (c.in_ok-incoming_window.ensures.only b.incoming_window _ refl (c.in_ok-next_incoming_id.ensures.only b.next_incoming_id _ (always b.next_incoming_id) h)))))))))

pub returns-in_err-echo : goal.returns-in_err-echo
returns-in_err-echo c = rw c.from_residual-in_err-echo.ensures (λ b fair h. c.in_err-echo.ensures b.echo _ (always b.echo) (c.in_ok-drain.ensures.only b.drain _ (always b.drain) (c.in_ok-available.ensures.only b.available _ (always b.available) (c.in_ok-link_credit.ensures.only b.link_credit _ (always b.link_credit) (c.in_ok-delivery_count.ensures.only b.delivery_count _ (always b.delivery_count) (c.in_ok-handle.ensures.only b.handle _ (always b.handle) (c.in_ok-outgoing_window.ensures.only b.outgoing_window _ refl (c.in_ok-next_outgoing_id.ensures.only b.next_outgoing_id _ refl (c.in_ok-incoming_window.ensures.only b.incoming_window _ refl (c.in_ok-next_incoming_id.ensures.only b.next_incoming_id _ (always b.next_incoming_id) h))))))))))

pub returns-in_err-properties : goal.returns-in_err-properties
returns-in_err-properties c = rw c.from_residual-in_err-properties.ensures (λ b fair h. c.in_err-properties.ensures b.properties _ fair (c.in_ok-echo.ensures.only b.echo _ (always b.echo) (c.in_ok-drain.ensures.only b.drain _ (always b.drain) (c.in_ok-available.ensures.only b.available _ (always b.available) (c.in_ok-link_credit.ensures.only b.link_credit _ (always b.link_credit) (c.in_ok-delivery_count.ensures.only b.delivery_count _ (always b.delivery_count) (c.in_ok-handle.ensures.only b.handle _ (always b.handle) (c.in_ok-outgoing_window.ensures.only b.outgoing_window _ refl (c.in_ok-next_outgoing_id.ensures.only b.next_outgoing_id _ refl (c.in_ok-incoming_window.ensures.only b.incoming_window _ refl (c.in_ok-next_incoming_id.ensures.only b.next_incoming_id _ (always b.next_incoming_id) h)))))))))))

pub returns-then-not-is_at_end : goal.returns-then-not-is_at_end
returns-then-not-is_at_end c = λ b fair h. not_named c.is_at_end.result (AreFields c.in_ok-properties.fields.depth c.in_ok-properties.fields.left no_field c.in_ok-properties.fields.octets.now) c.is_at_end.ensures c.if-not-is_at_end.true (c.in_ok-properties.ensures.only b.properties _ fair (c.in_ok-echo.ensures.only b.echo _ (always b.echo) (c.in_ok-drain.ensures.only b.drain _ (always b.drain) (c.in_ok-available.ensures.only b.available _ (always b.available) (c.in_ok-link_credit.ensures.only b.link_credit _ (always b.link_credit) (c.in_ok-delivery_count.ensures.only b.delivery_count _ (always b.delivery_count) (c.in_ok-handle.ensures.only b.handle _ (always b.handle) (c.in_ok-outgoing_window.ensures.only b.outgoing_window _ refl (c.in_ok-next_outgoing_id.ensures.only b.next_outgoing_id _ refl (c.in_ok-incoming_window.ensures.only b.incoming_window _ refl (c.in_ok-next_incoming_id.ensures.only b.next_incoming_id _ (always b.next_incoming_id) h)))))))))))

pub returns : goal.returns
returns c = (c.in_ok-properties.ensures.fair, (c.in_ok-next_incoming_id.ensures.found _ (c.in_ok-incoming_window.ensures.found _ (c.in_ok-next_outgoing_id.ensures.found _ (c.in_ok-outgoing_window.ensures.found _ (c.in_ok-handle.ensures.found _ (c.in_ok-delivery_count.ensures.found _ (c.in_ok-link_credit.ensures.found _ (c.in_ok-available.ensures.found _ (c.in_ok-drain.ensures.found _ (c.in_ok-echo.ensures.found _ (c.in_ok-properties.ensures.found _ (c.is_at_end.ensures.0 c.if-not-is_at_end.false)))))))))))))
