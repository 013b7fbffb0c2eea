-- The map of unsettled deliveries that an attach of ours tells (part 2, 2.7.3), from tags to states (part 3, 3.4).
use Rattle.std.specs.Prelude.{◌&&◌, Bool, true, Option, Some, None, List, [], ◌∷◌, map, option_map}
use Rattle.amqp_types.specs.declared.value.Value.{Value}
use Rattle.amqp_types.specs.declared.value.Value.TheVariants as W
use Rattle.amqp_types.specs.declared.value.Value.TheViews as V
use Rattle.amqp_performatives.specs.declared.composite.Composite.{Composite}
use Rattle.amqp_performatives.specs.declared.error.AmqpError.{AmqpError}
use Rattle.amqp_performatives.specs.declared.state.DeliveryState.{DeliveryState}
use Rattle.amqp_performatives.specs.declared.state.DeliveryState.TheVariants.{Received, Accepted, Rejected, Released, Modified, Other}
use Rattle.amqp_performatives.specs.Composite.{type_of}
use Rattle.amqp_performatives.specs.Fair.{is_fair_state, is_tag, where_present}
use Rattle.amqp_waiting.specs.declared.item.SuspendedItem.{SuspendedItem}
use Rattle.amqp_waiting.specs.declared.peer.Told.{Told}

-- # A state as a value, as a disposition would have it

abbrev pub composite_of : Composite → List Value → Value
composite_of c fields = V.Described (W.Ulong (type_of c).0) (V.List fields)

-- absent fields at the end are left off
abbrev pub in_front : Option Value → List Value → List Value
in_front None [] = []
in_front None (v ∷ vs) = W.Null ∷ v ∷ vs
in_front (Some v) vs = v ∷ vs

abbrev pub error_value : AmqpError → Value
error_value e = composite_of Composite.Error (W.Symbol e.condition ∷ in_front (option_map W.Str e.description) (in_front e.info []))

abbrev pub state_value : DeliveryState → Value
state_value (Received section_number section_offset) = composite_of Composite.Received (W.Uint section_number ∷ W.Ulong section_offset ∷ [])
state_value Accepted = composite_of Composite.Accepted []
state_value (Rejected e) = composite_of Composite.Rejected (in_front (option_map error_value e) [])
state_value Released = composite_of Composite.Released []
state_value (Modified delivery_failed undeliverable_here message_annotations) =
    composite_of Composite.Modified (in_front (option_map W.Bool delivery_failed) (in_front (option_map W.Bool undeliverable_here) (in_front message_annotations [])))
state_value (Other v) = v

-- the state, or null
abbrev pub value_told : Option DeliveryState → Value
value_told None = W.Null
value_told (Some s) = state_value s

-- # The map

abbrev pub pair_of : SuspendedItem → Value × Value
pair_of i = (W.Binary i.tag, value_told i.state)

-- absent where there is no item
abbrev pub map_of : List SuspendedItem → Option (List (Value × Value))
map_of [] = None
map_of (i ∷ is) = Some (map pair_of (i ∷ is))

-- a disposition could carry its state
abbrev pub is_fair_item : SuspendedItem → Bool
is_fair_item i = where_present is_fair_state i.state

-- # What the peer reads of it

abbrev pub told_as : SuspendedItem → Told
told_as i = record { tag = i.tag; state = i.state }

-- their tags and states can be told
abbrev pub are_sendable : List SuspendedItem → Bool
are_sendable [] = true
are_sendable (i ∷ is) = (is_tag i.tag && is_fair_item i) && are_sendable is
