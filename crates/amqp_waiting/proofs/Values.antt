-- Values that are made: what they are as plain data, and what is in them.
use Rattle.std.proofs.Common.{◌≡◌, ℕ, Bool, true, false, cond, Option, None, Some, List, [], ◌∷◌, refl, ap, subst, ◌∙◌, option_map}
use Rattle.amqp_types.specs.declared.class.Kind.TheVariants as Kind
use Rattle.amqp_types.specs.declared.class.Run.TheVariants as Run
use Rattle.amqp_types.specs.declared.value.Value.{Value}
use Rattle.amqp_types.specs.declared.value.Value.TheVariants as W
use Rattle.amqp_types.specs.declared.value.Value.TheOpen.{Value-F}
use Rattle.amqp_types.specs.declared.value.Value.TheFolds.{fold-roll-Value}
use Rattle.amqp_types.specs.declared.value.Value.TheViews as V
use Rattle.amqp_types.specs.Datum.{Datum, number, octets, list, described, Data, none, item}
use Rattle.amqp_types.specs.View.{view_step, view, views}
use Rattle.amqp_types.proofs.Views.{view_list}
use Rattle.amqp_performatives.specs.declared.composite.Composite.{Composite}
use Rattle.amqp_performatives.specs.declared.error.AmqpError.{AmqpError}
use Rattle.amqp_performatives.specs.declared.state.DeliveryState.{DeliveryState}
use Rattle.amqp_performatives.specs.declared.state.DeliveryState.TheVariants.{Received, Accepted, Rejected, Released, Modified, Other}
use Rattle.amqp_performatives.specs.Composite.{type_of}
use Rattle.amqp_performatives.specs.Part.{Part, absent, value, composite, null, shown, canonical}
use Rattle.amqp_performatives.specs.Bodies.{state, error, error_type, optional, boolean, string, any}
use Rattle.amqp_waiting.specs.OurUnsettled.{composite_of, in_front, error_value, state_value}

-- # As plain data

view_null : view W.Null ≡ null
unfolding V.roll-Value denote.Hole.Carrier.roll
view_null = fold-roll-Value Datum view_step Value-F.Null

view_bool : (b : Bool) → view (W.Bool b) ≡ number Kind.Bool (cond b 1 0)
unfolding V.roll-Value denote.Hole.Carrier.roll
view_bool b = fold-roll-Value Datum view_step (Value-F.Bool b)

view_uint : (n : ℕ) → view (W.Uint n) ≡ number Kind.Uint n
unfolding V.roll-Value denote.Hole.Carrier.roll
view_uint n = fold-roll-Value Datum view_step (Value-F.Uint n)

pub view_ulong : (n : ℕ) → view (W.Ulong n) ≡ number Kind.Ulong n
unfolding V.roll-Value denote.Hole.Carrier.roll
view_ulong n = fold-roll-Value Datum view_step (Value-F.Ulong n)

view_string : (os : List ℕ) → view (W.Str os) ≡ octets Run.Str os
unfolding V.roll-Value denote.Hole.Carrier.roll
view_string os = fold-roll-Value Datum view_step (Value-F.Str os)

view_symbol : (os : List ℕ) → view (W.Symbol os) ≡ octets Run.Symbol os
unfolding V.roll-Value denote.Hole.Carrier.roll
view_symbol os = fold-roll-Value Datum view_step (Value-F.Symbol os)

view_described : (d v : Value) → view (V.Described d v) ≡ described (view d) (view v)
unfolding V.roll-Value denote.Hole.Carrier.roll
view_described d v = fold-roll-Value Datum view_step (Value-F.Described d v)

view_composite : (c : Composite) (vs : List Value) → view (composite_of c vs) ≡ described (number Kind.Ulong (type_of c).0) (list (views vs))
view_composite c vs =
    view_described (W.Ulong (type_of c).0) (V.List vs)
    ∙ ap (λ (x : Datum). described x (view (V.List vs))) (view_ulong (type_of c).0)
    ∙ ap (λ (x : Datum). described (number Kind.Ulong (type_of c).0) x) (view_list vs)

-- # Fields, one in front of the others

-- the value is the part that is there
abbrev IsSeen : Part → Option Value → Type 0
IsSeen absent None = Unit {0}
IsSeen absent (Some v) = ⊥
IsSeen p None = ⊥
IsSeen p (Some v) = view v ≡ canonical p

front_seen : (p : Part) (o : Option Value) (vs : List Value) (ds : Data) → IsSeen p o → views vs ≡ ds → views (in_front o vs) ≡ shown p (canonical p) ds
front_seen absent None [] ds s h = subst (λ (e : Data). none ≡ shown absent null e) h refl
front_seen absent None (v ∷ vs) ds s h = ap (λ (d : Datum). item d (views (v ∷ vs))) view_null ∙ subst (λ (e : Data). item null (views (v ∷ vs)) ≡ shown absent null e) h refl
front_seen absent (Some v) vs ds s h = absurd s
front_seen (value w) None vs ds s h = absurd s
front_seen (value w) (Some v) vs ds s h = ap (λ (d : Datum). item d (views vs)) s ∙ ap (item w) h
front_seen (composite type fs) None vs ds s h = absurd s
front_seen (composite type fs) (Some v) vs ds s h = ap (λ (d : Datum). item d (views vs)) s ∙ ap (item (canonical (composite type fs))) h

seen_any : (o : Option Value) → IsSeen (optional any o) o
seen_any None = tt
seen_any (Some v) = refl

seen_string : (o : Option (List ℕ)) → IsSeen (optional string o) (option_map W.Str o)
seen_string None = tt
seen_string (Some os) = view_string os

seen_boolean : (o : Option Bool) → IsSeen (optional boolean o) (option_map W.Bool o)
seen_boolean None = tt
seen_boolean (Some true) = view_bool true
seen_boolean (Some false) = view_bool false

-- # Errors and states are written in their canonical form

error_seen : (e : AmqpError) → view (error_value e) ≡ canonical (error e)
error_seen e =
    view_composite Composite.Error _
    ∙ ap (λ (ds : Data). described (number Kind.Ulong error_type.0) (list ds))
    ((λ i. item (view_symbol e.condition i) (views (in_front (option_map W.Str e.description) (in_front e.info []))))
    ∙ ap (item (octets Run.Symbol e.condition)) (front_seen (optional string e.description) (option_map W.Str e.description) (in_front e.info []) _ (seen_string e.description) (front_seen (optional any e.info) e.info [] none (seen_any e.info) refl)))

seen_error : (o : Option AmqpError) → IsSeen (optional error o) (option_map error_value o)
seen_error None = tt
seen_error (Some e) = error_seen e

pub state_seen : (s : DeliveryState) → view (state_value s) ≡ canonical (state s)
state_seen (Received n m) = view_composite Composite.Received _ ∙ (λ i. described (number Kind.Ulong 0x23) (list (item (view_uint n i) (item (view_ulong m i) none))))
state_seen Accepted = view_composite Composite.Accepted []
state_seen (Rejected e) = view_composite Composite.Rejected _ ∙ ap (λ (ds : Data). described (number Kind.Ulong 0x25) (list ds)) (front_seen (optional error e) (option_map error_value e) [] none (seen_error e) refl)
state_seen Released = view_composite Composite.Released []
state_seen (Modified failed undeliverable annotations) =
    view_composite Composite.Modified _
    ∙ ap (λ (ds : Data). described (number Kind.Ulong 0x27) (list ds))
    (front_seen (optional boolean failed) (option_map W.Bool failed) _ _ (seen_boolean failed)
    (front_seen (optional boolean undeliverable) (option_map W.Bool undeliverable) _ _ (seen_boolean undeliverable)
    (front_seen (optional any annotations) annotations [] none (seen_any annotations) refl)))
state_seen (Other v) = refl
