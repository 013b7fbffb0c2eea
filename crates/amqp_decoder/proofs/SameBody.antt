-- What a body, an error or a state says is told by its octets.
use Rattle.std.proofs.Common.{◌≡◌, ℕ, Bool, true, false, not, Option, refl, sym, ap, subst, ◌∙◌}
use Rattle.std.specs.Prelude.{IsTrue}
use Rattle.amqp_types.specs.declared.value.Value.{Value}
use Rattle.amqp_types.specs.Datum.{Datum}
use Rattle.amqp_types.specs.View.{view}
use Rattle.amqp_performatives.specs.declared.bodies.OpenBody.{OpenBody}
use Rattle.amqp_performatives.specs.declared.bodies.BeginBody.{BeginBody}
use Rattle.amqp_performatives.specs.declared.bodies.AttachBody.{AttachBody}
use Rattle.amqp_performatives.specs.declared.bodies.FlowBody.{FlowBody}
use Rattle.amqp_performatives.specs.declared.bodies.TransferBody.{TransferBody}
use Rattle.amqp_performatives.specs.declared.bodies.DispositionBody.{DispositionBody}
use Rattle.amqp_performatives.specs.declared.bodies.DetachBody.{DetachBody}
use Rattle.amqp_performatives.specs.declared.bodies.EndBody.{EndBody}
use Rattle.amqp_performatives.specs.declared.bodies.CloseBody.{CloseBody}
use Rattle.amqp_performatives.specs.declared.error.AmqpError.{AmqpError}
use Rattle.amqp_performatives.specs.declared.state.DeliveryState.{DeliveryState}
use Rattle.amqp_performatives.specs.declared.state.DeliveryState.TheVariants.{Received, Accepted, Rejected, Released, Modified, Other}
use Rattle.amqp_performatives.specs.declared.performative.Performative.TheVariants.{Open, Begin, Attach, Flow, Transfer, Disposition, Detach, End, Close}
use Rattle.amqp_performatives.specs.Part.{Fields, composite, null, Fits}
use Rattle.amqp_performatives.specs.Bodies.{optional, error, state, error_type, received_type, rejected_type, modified_type, open_fields, begin_fields, attach_fields, flow_fields, transfer_fields, disposition_fields, detach_fields, end_fields, close_fields}
use Rattle.amqp_performatives.specs.Fair.{where_present, is_present, names_state, is_other_state, is_fair_error, is_fair_state, is_fair}
use Rattle.amqp_decoder.specs.declared.states.StateKind.{StateKind}
use Rattle.amqp_decoder.specs.declared.states.StateKind.TheVariants as kind
use Rattle.amqp_decoder.specs.States.{type_of, state_fields}
use Rattle.amqp_decoder.specs.Parts.{error_fields}
use Rattle.amqp_decoder.proofs.Conjunctions.{and_left, and_right}
use Rattle.amqp_decoder.proofs.StateTypes.{untrue}
use Rattle.amqp_decoder.proofs.OfKind.{kind_named}
use Rattle.amqp_decoder.proofs.SameField.{IsSpelled, Same, Present, Both, every, optional_same, step, both, other_type, composite_there, role_same, any_same, uint_same, ulong_same, string_same, symbol_same, optional_boolean_same, optional_ubyte_same, optional_ushort_same, optional_uint_same, optional_ulong_same, optional_binary_same, optional_string_same, optional_mapping_same, optional_any_same}

error_one : (a b : AmqpError) (d : Datum) → IsSpelled d → is_fair_error a ≡ true → is_fair_error b ≡ true → Fits (error a) d → Fits (error b) d → a ≡ b
error_one a b d s m n f g =
    let w = both error_type (error_fields a) (error_fields b) d s f g in
    let t1 = step symbol_same a.condition b.condition refl refl w in
    let t2 = step optional_string_same a.description b.description refl refl t1.1 in
    let t3 = step optional_any_same a.info b.info m n t2.1 in
    λ i. record { condition = t1.0 i; description = t2.0 i; info = t3.0 i }

error_present : Present error is_fair_error
error_present = record { same = record { one = error_one }; there = λ a m f. composite_there error_type (error_fields a) f }

optional_error_same : Same (optional error) (where_present is_fair_error)
optional_error_same = optional_same error is_fair_error error_present

received_one : (a b : ℕ) (c e : ℕ) (d : Datum) → IsSpelled d → Fits (state (Received a c)) d → Fits (state (Received b e)) d → Received a c ≡ Received b e
received_one a b c e d s f g =
    let w = both received_type (state_fields (Received a c)) (state_fields (Received b e)) d s f g in
    let t1 = step uint_same a b refl refl w in
    let t2 = step ulong_same c e refl refl t1.1 in
    λ i. Received (t1.0 i) (t2.0 i)

rejected_one : (a b : Option AmqpError) (d : Datum) → IsSpelled d → IsTrue (where_present is_fair_error a) → IsTrue (where_present is_fair_error b) → Fits (state (Rejected a)) d → Fits (state (Rejected b)) d → Rejected a ≡ Rejected b
rejected_one a b d s m n f g =
    let w = both rejected_type (state_fields (Rejected a)) (state_fields (Rejected b)) d s f g in
    ap Rejected (step optional_error_same a b m n w).0

modified_one : (a b a' b' : Option Bool) (c c' : Option Value) (d : Datum) → IsSpelled d → IsTrue (where_present is_present c) → IsTrue (where_present is_present c') → Fits (state (Modified a b c)) d → Fits (state (Modified a' b' c')) d → Modified a b c ≡ Modified a' b' c'
modified_one a b a' b' c c' d s m n f g =
    let w = both modified_type (state_fields (Modified a b c)) (state_fields (Modified a' b' c')) d s f g in
    let t1 = step optional_boolean_same a a' refl refl w in
    let t2 = step optional_boolean_same b b' refl refl t1.1 in
    let t3 = step optional_any_same c c' m n t2.1 in
    λ i. Modified (t1.0 i) (t2.0 i) (t3.0 i)

-- the kind of a state with a name of its own
abbrev kind_of : DeliveryState → StateKind
kind_of (Received a c) = kind.Received
kind_of Accepted = kind.Accepted
kind_of (Rejected e) = kind.Rejected
kind_of Released = kind.Released
kind_of (Modified a b c) = kind.Modified
kind_of (Other v) = kind.Accepted

-- another state is not described as one of the five
not_named : (k : StateKind) (fs : Fields) (v : Value) (d : Datum) → is_other_state (view v) ≡ true → Fits (composite (type_of k) fs) d → d ≡ view v → ⊥
not_named k fs v d fair (p, ds, i, f, e) h =
    let n : not (names_state p) ≡ true = subst (λ (x : Datum). is_other_state x ≡ true) (sym h ∙ e) fair in
    untrue (names_state p) n (kind_named k p i)

state_one : (a b : DeliveryState) (d : Datum) → IsSpelled d → is_fair_state a ≡ true → is_fair_state b ≡ true → Fits (state a) d → Fits (state b) d → a ≡ b
state_one (Received a c) (Received b e) d s m n f g = received_one a b c e d s f g
state_one Accepted Accepted d s m n f g = refl
state_one (Rejected a) (Rejected b) d s m n f g = rejected_one a b d s m n f g
state_one Released Released d s m n f g = refl
state_one (Modified a b c) (Modified a' b' c') d s m n f g = modified_one a b a' b' c c' d s m n f g
state_one (Other v) (Other w) d s m n f g = let any = any_same every in ap Other (any.one v w d s refl refl f g)
state_one a (Other v) d s m n f g = absurd (not_named (kind_of a) (state_fields a) v d n f g)
state_one (Other v) b d s m n f g = absurd (not_named (kind_of b) (state_fields b) v d m g f)
state_one a b d s m n f g = other_type (type_of (kind_of a)) (type_of (kind_of b)) (state_fields a) (state_fields b) d refl s f g

state_there : (a : DeliveryState) → is_fair_state a ≡ true → Fits (state a) null → ⊥
state_there (Other v) m f = let q : is_other_state null ≡ true = subst (λ (x : Datum). is_other_state x ≡ true) (sym f) m in let r : false ≡ true = q in absurd cc
state_there a m f = composite_there (type_of (kind_of a)) (state_fields a) f

optional_state_same : Same (optional state) (where_present is_fair_state)
optional_state_same = optional_same state is_fair_state (record { same = record { one = state_one }; there = state_there })

-- ---- the bodies

pub open_one : (b c : OpenBody) → is_fair (Open b) ≡ true → is_fair (Open c) ≡ true → Both (open_fields b) (open_fields c) → b ≡ c
open_one b c m n w =
    let t1 = step string_same b.container_id c.container_id refl refl w in
    let t2 = step optional_string_same b.hostname c.hostname refl refl t1.1 in
    let t3 = step optional_uint_same b.max_frame_size c.max_frame_size refl refl t2.1 in
    let t4 = step optional_ushort_same b.channel_max c.channel_max refl refl t3.1 in
    let t5 = step optional_uint_same b.idle_time_out c.idle_time_out refl refl t4.1 in
    let t6 = step optional_any_same b.outgoing_locales c.outgoing_locales (and_left _ _ (and_left _ _ (and_left _ _ (and_left _ _ m)))) (and_left _ _ (and_left _ _ (and_left _ _ (and_left _ _ n)))) t5.1 in
    let t7 = step optional_any_same b.incoming_locales c.incoming_locales (and_right _ _ (and_left _ _ (and_left _ _ (and_left _ _ m)))) (and_right _ _ (and_left _ _ (and_left _ _ (and_left _ _ n)))) t6.1 in
    let t8 = step optional_any_same b.offered_capabilities c.offered_capabilities (and_right _ _ (and_left _ _ (and_left _ _ m))) (and_right _ _ (and_left _ _ (and_left _ _ n))) t7.1 in
    let t9 = step optional_any_same b.desired_capabilities c.desired_capabilities (and_right _ _ (and_left _ _ m)) (and_right _ _ (and_left _ _ n)) t8.1 in
    let t10 = step optional_any_same b.properties c.properties (and_right _ _ m) (and_right _ _ n) t9.1 in
    λ i. record { container_id = t1.0 i; hostname = t2.0 i; max_frame_size = t3.0 i; channel_max = t4.0 i; idle_time_out = t5.0 i; outgoing_locales = t6.0 i; incoming_locales = t7.0 i; offered_capabilities = t8.0 i; desired_capabilities = t9.0 i; properties = t10.0 i }

pub begin_one : (b c : BeginBody) → is_fair (Begin b) ≡ true → is_fair (Begin c) ≡ true → Both (begin_fields b) (begin_fields c) → b ≡ c
begin_one b c m n w =
    let t1 = step optional_ushort_same b.remote_channel c.remote_channel refl refl w in
    let t2 = step uint_same b.next_outgoing_id c.next_outgoing_id refl refl t1.1 in
    let t3 = step uint_same b.incoming_window c.incoming_window refl refl t2.1 in
    let t4 = step uint_same b.outgoing_window c.outgoing_window refl refl t3.1 in
    let t5 = step optional_uint_same b.handle_max c.handle_max refl refl t4.1 in
    let t6 = step optional_any_same b.offered_capabilities c.offered_capabilities (and_left _ _ (and_left _ _ m)) (and_left _ _ (and_left _ _ n)) t5.1 in
    let t7 = step optional_any_same b.desired_capabilities c.desired_capabilities (and_right _ _ (and_left _ _ m)) (and_right _ _ (and_left _ _ n)) t6.1 in
    let t8 = step optional_any_same b.properties c.properties (and_right _ _ m) (and_right _ _ n) t7.1 in
    λ i. record { remote_channel = t1.0 i; next_outgoing_id = t2.0 i; incoming_window = t3.0 i; outgoing_window = t4.0 i; handle_max = t5.0 i; offered_capabilities = t6.0 i; desired_capabilities = t7.0 i; properties = t8.0 i }

pub attach_one : (b c : AttachBody) → is_fair (Attach b) ≡ true → is_fair (Attach c) ≡ true → Both (attach_fields b) (attach_fields c) → b ≡ c
attach_one b c m n w =
    let t1 = step string_same b.name c.name refl refl w in
    let t2 = step uint_same b.handle c.handle refl refl t1.1 in
    let t3 = step role_same b.role c.role refl refl t2.1 in
    let t4 = step optional_ubyte_same b.snd_settle_mode c.snd_settle_mode refl refl t3.1 in
    let t5 = step optional_ubyte_same b.rcv_settle_mode c.rcv_settle_mode refl refl t4.1 in
    let t6 = step optional_any_same b.source c.source (and_right _ _ (and_left _ _ (and_left _ _ (and_left _ _ (and_left _ _ m))))) (and_right _ _ (and_left _ _ (and_left _ _ (and_left _ _ (and_left _ _ n))))) t5.1 in
    let t7 = step optional_any_same b.target c.target (and_right _ _ (and_left _ _ (and_left _ _ (and_left _ _ m)))) (and_right _ _ (and_left _ _ (and_left _ _ (and_left _ _ n)))) t6.1 in
    let t8 = step optional_mapping_same b.unsettled c.unsettled refl refl t7.1 in
    let t9 = step optional_boolean_same b.incomplete_unsettled c.incomplete_unsettled refl refl t8.1 in
    let t10 = step optional_uint_same b.initial_delivery_count c.initial_delivery_count refl refl t9.1 in
    let t11 = step optional_ulong_same b.max_message_size c.max_message_size refl refl t10.1 in
    let t12 = step optional_any_same b.offered_capabilities c.offered_capabilities (and_right _ _ (and_left _ _ (and_left _ _ m))) (and_right _ _ (and_left _ _ (and_left _ _ n))) t11.1 in
    let t13 = step optional_any_same b.desired_capabilities c.desired_capabilities (and_right _ _ (and_left _ _ m)) (and_right _ _ (and_left _ _ n)) t12.1 in
    let t14 = step optional_any_same b.properties c.properties (and_right _ _ m) (and_right _ _ n) t13.1 in
    λ i. record { name = t1.0 i; handle = t2.0 i; role = t3.0 i; snd_settle_mode = t4.0 i; rcv_settle_mode = t5.0 i; source = t6.0 i; target = t7.0 i; unsettled = t8.0 i; incomplete_unsettled = t9.0 i; initial_delivery_count = t10.0 i; max_message_size = t11.0 i; offered_capabilities = t12.0 i; desired_capabilities = t13.0 i; properties = t14.0 i }

pub flow_one : (b c : FlowBody) → is_fair (Flow b) ≡ true → is_fair (Flow c) ≡ true → Both (flow_fields b) (flow_fields c) → b ≡ c
flow_one b c m n w =
    let t1 = step optional_uint_same b.next_incoming_id c.next_incoming_id refl refl w in
    let t2 = step uint_same b.incoming_window c.incoming_window refl refl t1.1 in
    let t3 = step uint_same b.next_outgoing_id c.next_outgoing_id refl refl t2.1 in
    let t4 = step uint_same b.outgoing_window c.outgoing_window refl refl t3.1 in
    let t5 = step optional_uint_same b.handle c.handle refl refl t4.1 in
    let t6 = step optional_uint_same b.delivery_count c.delivery_count refl refl t5.1 in
    let t7 = step optional_uint_same b.link_credit c.link_credit refl refl t6.1 in
    let t8 = step optional_uint_same b.available c.available refl refl t7.1 in
    let t9 = step optional_boolean_same b.drain c.drain refl refl t8.1 in
    let t10 = step optional_boolean_same b.echo c.echo refl refl t9.1 in
    let t11 = step optional_any_same b.properties c.properties m n t10.1 in
    λ i. record { next_incoming_id = t1.0 i; incoming_window = t2.0 i; next_outgoing_id = t3.0 i; outgoing_window = t4.0 i; handle = t5.0 i; delivery_count = t6.0 i; link_credit = t7.0 i; available = t8.0 i; drain = t9.0 i; echo = t10.0 i; properties = t11.0 i }

pub transfer_one : (b c : TransferBody) → is_fair (Transfer b) ≡ true → is_fair (Transfer c) ≡ true → Both (transfer_fields b) (transfer_fields c) → b ≡ c
transfer_one b c m n w =
    let t1 = step uint_same b.handle c.handle refl refl w in
    let t2 = step optional_uint_same b.delivery_id c.delivery_id refl refl t1.1 in
    let t3 = step optional_binary_same b.delivery_tag c.delivery_tag refl refl t2.1 in
    let t4 = step optional_uint_same b.message_format c.message_format refl refl t3.1 in
    let t5 = step optional_boolean_same b.settled c.settled refl refl t4.1 in
    let t6 = step optional_boolean_same b.more c.more refl refl t5.1 in
    let t7 = step optional_ubyte_same b.rcv_settle_mode c.rcv_settle_mode refl refl t6.1 in
    let t8 = step optional_state_same b.state c.state (and_right _ _ m) (and_right _ _ n) t7.1 in
    let t9 = step optional_boolean_same b.resume c.resume refl refl t8.1 in
    let t10 = step optional_boolean_same b.aborted c.aborted refl refl t9.1 in
    let t11 = step optional_boolean_same b.batchable c.batchable refl refl t10.1 in
    λ i. record { handle = t1.0 i; delivery_id = t2.0 i; delivery_tag = t3.0 i; message_format = t4.0 i; settled = t5.0 i; more = t6.0 i; rcv_settle_mode = t7.0 i; state = t8.0 i; resume = t9.0 i; aborted = t10.0 i; batchable = t11.0 i }

pub disposition_one : (b c : DispositionBody) → is_fair (Disposition b) ≡ true → is_fair (Disposition c) ≡ true → Both (disposition_fields b) (disposition_fields c) → b ≡ c
disposition_one b c m n w =
    let t1 = step role_same b.role c.role refl refl w in
    let t2 = step uint_same b.first c.first refl refl t1.1 in
    let t3 = step optional_uint_same b.last c.last refl refl t2.1 in
    let t4 = step optional_boolean_same b.settled c.settled refl refl t3.1 in
    let t5 = step optional_state_same b.state c.state m n t4.1 in
    let t6 = step optional_boolean_same b.batchable c.batchable refl refl t5.1 in
    λ i. record { role = t1.0 i; first = t2.0 i; last = t3.0 i; settled = t4.0 i; state = t5.0 i; batchable = t6.0 i }

pub detach_one : (b c : DetachBody) → is_fair (Detach b) ≡ true → is_fair (Detach c) ≡ true → Both (detach_fields b) (detach_fields c) → b ≡ c
detach_one b c m n w =
    let t1 = step uint_same b.handle c.handle refl refl w in
    let t2 = step optional_boolean_same b.closed c.closed refl refl t1.1 in
    let t3 = step optional_error_same b.error c.error m n t2.1 in
    λ i. record { handle = t1.0 i; closed = t2.0 i; error = t3.0 i }

pub end_one : (b c : EndBody) → is_fair (End b) ≡ true → is_fair (End c) ≡ true → Both (end_fields b) (end_fields c) → b ≡ c
end_one b c m n w =
    let t1 = step optional_error_same b.error c.error m n w in
    λ i. record { error = t1.0 i }

pub close_one : (b c : CloseBody) → is_fair (Close b) ≡ true → is_fair (Close c) ≡ true → Both (close_fields b) (close_fields c) → b ≡ c
close_one b c m n w =
    let t1 = step optional_error_same b.error c.error m n w in
    λ i. record { error = t1.0 i }
