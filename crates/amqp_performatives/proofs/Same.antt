-- Errors, states and performatives that `==` finds equal are one.
use Rattle.std.proofs.Common.{◌≡◌, Bool, true, false, ◌&&◌, nat_eq, Option, Some, None, List, [], ◌∷◌, refl, sym, ap, ◌∙◌}
use Rattle.std.specs.Option.{option_eq}
use Rattle.std.specs.Bool.{beq}
use Rattle.std.specs.Cmp.{unsigned_Decides, booleans_Decides, first_so, second_so}
use Rattle.std.specs.Cmp.Lexicographic.{pointwise, bytes_decides}
use Rattle.amqp_types.specs.contracts.value.ValuePartialEq.TheImpl.{ghosts as values}
use Rattle.amqp_types.proofs.Equal.{equal_same}
use Rattle.amqp_performatives.specs.declared.bodies.Role.{Role}
use Rattle.amqp_performatives.specs.declared.bodies.Role.TheVariants.{Sender, Receiver}
use Rattle.amqp_performatives.specs.declared.error.AmqpError.{AmqpError}
use Rattle.amqp_performatives.specs.declared.state.DeliveryState.{DeliveryState}
use Rattle.amqp_performatives.specs.declared.state.DeliveryState.TheVariants.{Received, Accepted, Rejected, Released, Modified, Other}
use Rattle.amqp_performatives.specs.declared.performative.Performative.{Performative}
use Rattle.amqp_performatives.specs.declared.performative.Performative.TheVariants as P
use Rattle.amqp_performatives.specs.contracts.bodies.RolePartialEq.TheImpl.{ghosts as roles}
use Rattle.amqp_performatives.specs.contracts.error.AmqpErrorPartialEq.TheImpl.{ghosts as errors}
use Rattle.amqp_performatives.specs.contracts.error.AmqpErrorEq.TheImpl.Laws as errors_whole
use Rattle.amqp_performatives.specs.contracts.state.DeliveryStatePartialEq.TheImpl.{ghosts as states}
use Rattle.amqp_performatives.specs.contracts.state.DeliveryStateEq.TheImpl.Laws as states_whole
use Rattle.amqp_performatives.specs.contracts.performative.PerformativePartialEq.TheImpl.{ghosts as performatives}
use Rattle.amqp_performatives.specs.contracts.performative.PerformativeEq.TheImpl.Laws as performatives_whole
use Rattle.amqp_performatives.specs.contracts.bodies.OpenBodyPartialEq.TheImpl.{ghosts as opens}
use Rattle.amqp_performatives.specs.contracts.bodies.BeginBodyPartialEq.TheImpl.{ghosts as begins}
use Rattle.amqp_performatives.specs.contracts.bodies.AttachBodyPartialEq.TheImpl.{ghosts as attachs}
use Rattle.amqp_performatives.specs.contracts.bodies.FlowBodyPartialEq.TheImpl.{ghosts as flows}
use Rattle.amqp_performatives.specs.contracts.bodies.TransferBodyPartialEq.TheImpl.{ghosts as transfers}
use Rattle.amqp_performatives.specs.contracts.bodies.DispositionBodyPartialEq.TheImpl.{ghosts as dispositions}
use Rattle.amqp_performatives.specs.contracts.bodies.DetachBodyPartialEq.TheImpl.{ghosts as detachs}
use Rattle.amqp_performatives.specs.contracts.bodies.EndBodyPartialEq.TheImpl.{ghosts as ends}
use Rattle.amqp_performatives.specs.contracts.bodies.CloseBodyPartialEq.TheImpl.{ghosts as closes}

-- the test holds of equal things alone
record Tells {A : Type 0} (test : A → A → Bool) : Type 0 where
  is : (x y : A) → test x y ≡ true → x ≡ y

no : {G : Type 0} → false ≡ true → G
no h = absurd cc

abbrev each : {A B : Type 0} → (A → A → Bool) → (B → B → Bool) → A × B → A × B → Bool
each E F p q = E p.0 q.0 && F p.1 q.1

infixr 20 ◌⊗◌
◌⊗◌ : {A B : Type 0} {E : A → A → Bool} {F : B → B → Bool} → Tells E → Tells F → Tells (each E F)
◌⊗◌ {A} {B} {E} {F} e f = record { is = λ p q h. λ i. (e.is p.0 q.0 (first_so (E p.0 q.0) (F p.1 q.1) h) i, f.is p.1 q.1 (second_so (E p.0 q.0) (F p.1 q.1) h) i) }

some_same : {A : Type 0} (E : A → A → Bool) → Tells E → (o p : Option A) → option_eq E o p ≡ true → o ≡ p
some_same E e None None h = refl
some_same E e (Some x) (Some y) h = ap Some (e.is x y h)
some_same E e _ _ h = no h

maybe : {A : Type 0} {E : A → A → Bool} → Tells E → Tells (option_eq E)
maybe {A} {E} e = record { is = some_same E e }

items_same : {A : Type 0} (E : A → A → Bool) → Tells E → (xs ys : List A) → pointwise E xs ys ≡ true → xs ≡ ys
items_same E e [] [] h = refl
items_same E e (x ∷ xs) (y ∷ ys) h = λ i. e.is x y (first_so (E x y) (pointwise E xs ys) h) i ∷ items_same E e xs ys (second_so (E x y) (pointwise E xs ys) h) i
items_same E e _ _ h = no h

items : {A : Type 0} {E : A → A → Bool} → Tells E → Tells (pointwise E)
items {A} {E} e = record { is = items_same E e }

text : Tells (pointwise nat_eq)
text = record { is = λ x y h. (bytes_decides x y).0 h }

number : Tells nat_eq
number = record { is = λ x y h. (unsigned_Decides x y).0 h }

boolean : Tells beq
boolean = record { is = λ x y h. (booleans_Decides x y).0 h }

any : Tells values.eq
any = record { is = equal_same }

mapping : Tells (pointwise (each values.eq values.eq))
mapping = items (any ⊗ any)

role_same : (x y : Role) → roles.eq x y ≡ true → x ≡ y
role_same Sender Sender h = refl
role_same Receiver Receiver h = refl
role_same _ _ h = no h

role : Tells roles.eq
role = record { is = role_same }

error : Tells errors.eq
error = record {
  is = λ x y h.
      let e = (text ⊗ maybe text ⊗ maybe any).is (x.condition, (x.description, x.info)) (y.condition, (y.description, y.info)) h in
      λ i. record { condition = (e i).0; description = (e i).1.0; info = (e i).1.1 };
}

state_same : (a b : DeliveryState) → states.eq a b ≡ true → a ≡ b
state_same (Received m n) (Received k l) h = let e = (number ⊗ number).is (m, n) (k, l) h in λ i. Received (e i).0 (e i).1
state_same Accepted Accepted h = refl
state_same (Rejected e) (Rejected f) h = ap Rejected ((maybe error).is e f h)
state_same Released Released h = refl
state_same (Modified a b c) (Modified d e f) h = let s = (maybe boolean ⊗ maybe boolean ⊗ maybe any).is (a, (b, c)) (d, (e, f)) h in λ i. Modified (s i).0 (s i).1.0 (s i).1.1
state_same (Other v) (Other w) h = ap Other (any.is v w h)
state_same _ _ h = no h

state : Tells states.eq
state = record { is = state_same }

open_body : Tells opens.eq
open_body = record {
  is = λ x y h.
      let e =
      (text ⊗ maybe text ⊗ maybe number ⊗ maybe number ⊗ maybe number ⊗ maybe any ⊗ maybe any ⊗ maybe any ⊗ maybe any ⊗ maybe any).is
      (x.container_id, (x.hostname, (x.max_frame_size, (x.channel_max, (x.idle_time_out, (x.outgoing_locales, (x.incoming_locales, (x.offered_capabilities, (x.desired_capabilities, x.properties)))))))))
      (y.container_id, (y.hostname, (y.max_frame_size, (y.channel_max, (y.idle_time_out, (y.outgoing_locales, (y.incoming_locales, (y.offered_capabilities, (y.desired_capabilities, y.properties))))))))) h in
      λ i. record {
        container_id = (e i).0;
        hostname = (e i).1.0;
        max_frame_size = (e i).1.1.0;
        channel_max = (e i).1.1.1.0;
        idle_time_out = (e i).1.1.1.1.0;
        outgoing_locales = (e i).1.1.1.1.1.0;
        incoming_locales = (e i).1.1.1.1.1.1.0;
        offered_capabilities = (e i).1.1.1.1.1.1.1.0;
        desired_capabilities = (e i).1.1.1.1.1.1.1.1.0;
        properties = (e i).1.1.1.1.1.1.1.1.1;
      };
}

begin_body : Tells begins.eq
begin_body = record {
  is = λ x y h.
      let e =
      (maybe number ⊗ number ⊗ number ⊗ number ⊗ maybe number ⊗ maybe any ⊗ maybe any ⊗ maybe any).is
      (x.remote_channel, (x.next_outgoing_id, (x.incoming_window, (x.outgoing_window, (x.handle_max, (x.offered_capabilities, (x.desired_capabilities, x.properties)))))))
      (y.remote_channel, (y.next_outgoing_id, (y.incoming_window, (y.outgoing_window, (y.handle_max, (y.offered_capabilities, (y.desired_capabilities, y.properties))))))) h in
      λ i. record {
        remote_channel = (e i).0;
        next_outgoing_id = (e i).1.0;
        incoming_window = (e i).1.1.0;
        outgoing_window = (e i).1.1.1.0;
        handle_max = (e i).1.1.1.1.0;
        offered_capabilities = (e i).1.1.1.1.1.0;
        desired_capabilities = (e i).1.1.1.1.1.1.0;
        properties = (e i).1.1.1.1.1.1.1;
      };
}

attach_body : Tells attachs.eq
attach_body = record {
  is = λ x y h.
      let e =
      (text ⊗ number ⊗ role ⊗ maybe number ⊗ maybe number ⊗ maybe any ⊗ maybe any ⊗ maybe mapping ⊗ maybe boolean ⊗ maybe number ⊗ maybe number ⊗ maybe any ⊗ maybe any ⊗ maybe any).is
      (x.name, (x.handle, (x.role, (x.snd_settle_mode, (x.rcv_settle_mode, (x.source, (x.target, (x.unsettled, (x.incomplete_unsettled, (x.initial_delivery_count, (x.max_message_size, (x.offered_capabilities, (x.desired_capabilities, x.properties)))))))))))))
      (y.name, (y.handle, (y.role, (y.snd_settle_mode, (y.rcv_settle_mode, (y.source, (y.target, (y.unsettled, (y.incomplete_unsettled, (y.initial_delivery_count, (y.max_message_size, (y.offered_capabilities, (y.desired_capabilities, y.properties))))))))))))) h in
      λ i. record {
        name = (e i).0;
        handle = (e i).1.0;
        role = (e i).1.1.0;
        snd_settle_mode = (e i).1.1.1.0;
        rcv_settle_mode = (e i).1.1.1.1.0;
        source = (e i).1.1.1.1.1.0;
        target = (e i).1.1.1.1.1.1.0;
        unsettled = (e i).1.1.1.1.1.1.1.0;
        incomplete_unsettled = (e i).1.1.1.1.1.1.1.1.0;
        initial_delivery_count = (e i).1.1.1.1.1.1.1.1.1.0;
        max_message_size = (e i).1.1.1.1.1.1.1.1.1.1.0;
        offered_capabilities = (e i).1.1.1.1.1.1.1.1.1.1.1.0;
        desired_capabilities = (e i).1.1.1.1.1.1.1.1.1.1.1.1.0;
        properties = (e i).1.1.1.1.1.1.1.1.1.1.1.1.1;
      };
}

flow_body : Tells flows.eq
flow_body = record {
  is = λ x y h.
      let e =
      (maybe number ⊗ number ⊗ number ⊗ number ⊗ maybe number ⊗ maybe number ⊗ maybe number ⊗ maybe number ⊗ maybe boolean ⊗ maybe boolean ⊗ maybe any).is
      (x.next_incoming_id, (x.incoming_window, (x.next_outgoing_id, (x.outgoing_window, (x.handle, (x.delivery_count, (x.link_credit, (x.available, (x.drain, (x.echo, x.properties))))))))))
      (y.next_incoming_id, (y.incoming_window, (y.next_outgoing_id, (y.outgoing_window, (y.handle, (y.delivery_count, (y.link_credit, (y.available, (y.drain, (y.echo, y.properties)))))))))) h in
      λ i. record {
        next_incoming_id = (e i).0;
        incoming_window = (e i).1.0;
        next_outgoing_id = (e i).1.1.0;
        outgoing_window = (e i).1.1.1.0;
        handle = (e i).1.1.1.1.0;
        delivery_count = (e i).1.1.1.1.1.0;
        link_credit = (e i).1.1.1.1.1.1.0;
        available = (e i).1.1.1.1.1.1.1.0;
        drain = (e i).1.1.1.1.1.1.1.1.0;
        echo = (e i).1.1.1.1.1.1.1.1.1.0;
        properties = (e i).1.1.1.1.1.1.1.1.1.1;
      };
}

transfer_body : Tells transfers.eq
transfer_body = record {
  is = λ x y h.
      let e =
      (number ⊗ maybe number ⊗ maybe text ⊗ maybe number ⊗ maybe boolean ⊗ maybe boolean ⊗ maybe number ⊗ maybe state ⊗ maybe boolean ⊗ maybe boolean ⊗ maybe boolean).is
      (x.handle, (x.delivery_id, (x.delivery_tag, (x.message_format, (x.settled, (x.more, (x.rcv_settle_mode, (x.state, (x.resume, (x.aborted, x.batchable))))))))))
      (y.handle, (y.delivery_id, (y.delivery_tag, (y.message_format, (y.settled, (y.more, (y.rcv_settle_mode, (y.state, (y.resume, (y.aborted, y.batchable)))))))))) h in
      λ i. record {
        handle = (e i).0;
        delivery_id = (e i).1.0;
        delivery_tag = (e i).1.1.0;
        message_format = (e i).1.1.1.0;
        settled = (e i).1.1.1.1.0;
        more = (e i).1.1.1.1.1.0;
        rcv_settle_mode = (e i).1.1.1.1.1.1.0;
        state = (e i).1.1.1.1.1.1.1.0;
        resume = (e i).1.1.1.1.1.1.1.1.0;
        aborted = (e i).1.1.1.1.1.1.1.1.1.0;
        batchable = (e i).1.1.1.1.1.1.1.1.1.1;
      };
}

disposition_body : Tells dispositions.eq
disposition_body = record {
  is = λ x y h.
      let e =
      (role ⊗ number ⊗ maybe number ⊗ maybe boolean ⊗ maybe state ⊗ maybe boolean).is
      (x.role, (x.first, (x.last, (x.settled, (x.state, x.batchable)))))
      (y.role, (y.first, (y.last, (y.settled, (y.state, y.batchable))))) h in
      λ i. record {
        role = (e i).0;
        first = (e i).1.0;
        last = (e i).1.1.0;
        settled = (e i).1.1.1.0;
        state = (e i).1.1.1.1.0;
        batchable = (e i).1.1.1.1.1;
      };
}

detach_body : Tells detachs.eq
detach_body = record {
  is = λ x y h.
      let e =
      (number ⊗ maybe boolean ⊗ maybe error).is
      (x.handle, (x.closed, x.error))
      (y.handle, (y.closed, y.error)) h in
      λ i. record {
        handle = (e i).0;
        closed = (e i).1.0;
        error = (e i).1.1;
      };
}

end_body : Tells ends.eq
end_body = record {
  is = λ x y h.
      let e = (maybe error).is x.error y.error h in λ i. record { error = e i };
}

close_body : Tells closes.eq
close_body = record {
  is = λ x y h.
      let e = (maybe error).is x.error y.error h in λ i. record { error = e i };
}

performative_same : (a b : Performative) → performatives.eq a b ≡ true → a ≡ b
performative_same (P.Open x) (P.Open y) h = ap P.Open (open_body.is x y h)
performative_same (P.Begin x) (P.Begin y) h = ap P.Begin (begin_body.is x y h)
performative_same (P.Attach x) (P.Attach y) h = ap P.Attach (attach_body.is x y h)
performative_same (P.Flow x) (P.Flow y) h = ap P.Flow (flow_body.is x y h)
performative_same (P.Transfer x) (P.Transfer y) h = ap P.Transfer (transfer_body.is x y h)
performative_same (P.Disposition x) (P.Disposition y) h = ap P.Disposition (disposition_body.is x y h)
performative_same (P.Detach x) (P.Detach y) h = ap P.Detach (detach_body.is x y h)
performative_same (P.End x) (P.End y) h = ap P.End (end_body.is x y h)
performative_same (P.Close x) (P.Close y) h = ap P.Close (close_body.is x y h)
performative_same _ _ h = no h

pub errors_alike : (a b : AmqpError) → (errors.eq a b ≡ true → a ≡ b) × (a ≡ b → errors.eq a b ≡ true)
errors_alike a b = (error.is a b, λ e. sym (ap (errors.eq a) e) ∙ errors_whole.laws-law.refl a)

pub states_alike : (a b : DeliveryState) → (states.eq a b ≡ true → a ≡ b) × (a ≡ b → states.eq a b ≡ true)
states_alike a b = (state_same a b, λ e. sym (ap (states.eq a) e) ∙ states_whole.laws-law.refl a)

pub performatives_alike : (a b : Performative) → (performatives.eq a b ≡ true → a ≡ b) × (a ≡ b → performatives.eq a b ≡ true)
performatives_alike a b = (performative_same a b, λ e. sym (ap (performatives.eq a) e) ∙ performatives_whole.laws-law.refl a)
