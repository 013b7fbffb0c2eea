-- The unsettled deliveries that an attach of the peer's tells (part 2, 2.7.3): a map from tags to states (part 3, 3.4), read from its values.
use Rattle.std.specs.Prelude.{ℕ, ◌&&◌, Bool, true, false, cond, Option, Some, None, List, [], ◌∷◌, drop, filter_map, unwrap_or, option_map, slice_get}
use Rattle.amqp_types.specs.declared.value.Value.{Value}
use Rattle.amqp_types.specs.declared.value.Value.TheOpen.{Value-F}
use Rattle.amqp_types.specs.declared.value.Value.TheViews.{out-Value}
use Rattle.amqp_types.specs.View.{view}
use Rattle.amqp_performatives.specs.declared.bodies.AttachBody.{AttachBody}
use Rattle.amqp_performatives.specs.declared.error.AmqpError.{AmqpError}
use Rattle.amqp_performatives.specs.declared.state.DeliveryState.{DeliveryState}
use Rattle.amqp_performatives.specs.declared.state.DeliveryState.TheVariants.{Received, Accepted, Rejected, Released, Modified, Other}
use Rattle.amqp_performatives.specs.Bodies.{error_type, received_type, accepted_type, rejected_type, released_type}
use Rattle.amqp_performatives.specs.Fair.{is_null, is_descriptor, names_state, is_tag}
use Rattle.amqp_waiting.specs.declared.peer.Told.{Told}
use Rattle.amqp_waiting.specs.declared.peer.Unsettled.{Unsettled}

-- # Fields of a list: one that is left off is as one that is null

abbrev pub all_null : List Value → Bool
all_null [] = true
all_null (v ∷ vs) = is_null (view v) && all_null vs

-- a mandatory field: none where it is absent or of another type
abbrev pub uint_in : Option (Value-F Value) → Option ℕ
uint_in (Some (Value-F.Uint n)) = Some n
uint_in _ = None

abbrev pub ulong_in : Option (Value-F Value) → Option ℕ
ulong_in (Some (Value-F.Ulong n)) = Some n
ulong_in _ = None

abbrev pub symbol_in : Option (Value-F Value) → Option (List ℕ)
symbol_in (Some (Value-F.Symbol os)) = Some os
symbol_in _ = None

-- a field that may be absent: none where it is of another type, none in it where it is absent
abbrev pub boolean_in : Option (Value-F Value) → Option (Option Bool)
boolean_in None = Some None
boolean_in (Some Value-F.Null) = Some None
boolean_in (Some (Value-F.Bool b)) = Some (Some b)
boolean_in _ = None

abbrev pub string_in : Option (Value-F Value) → Option (Option (List ℕ))
string_in None = Some None
string_in (Some Value-F.Null) = Some None
string_in (Some (Value-F.Str os)) = Some (Some os)
string_in _ = None

-- a field of any type, none where it is absent
abbrev pub any_in : Option Value → Option Value
any_in None = None
any_in (Some v) = cond (is_null (view v)) None (Some v)

-- the field at a place, as its type's constructor
abbrev pub field_at : ℕ → List Value → Option (Value-F Value)
field_at n vs = option_map out-Value (slice_get vs n)

-- # The states, by their fields

abbrev pub error_with : Option (List ℕ) → Option (Option (List ℕ)) → Option Value → Option AmqpError
error_with (Some condition) (Some description) info = Some (record { condition = condition; description = description; info = info })
error_with _ _ info = None

abbrev pub error_fields : List Value → Option AmqpError
error_fields vs = cond (all_null (drop 3 vs)) (error_with (symbol_in (field_at 0 vs)) (string_in (field_at 1 vs)) (any_in (slice_get vs 2))) None

abbrev pub error_listed : Value-F Value → Option AmqpError
error_listed (Value-F.List vs) = error_fields vs
error_listed _ = None

-- an error that may be absent
abbrev pub error_in : Option (Value-F Value) → Option (Option AmqpError)
error_in None = Some None
error_in (Some Value-F.Null) = Some None
error_in (Some (Value-F.Described descriptor v)) = cond (is_descriptor error_type (view descriptor)) (option_map Some (error_listed (out-Value v))) None
error_in _ = None

abbrev pub received_with : Option ℕ → Option ℕ → Option DeliveryState
received_with (Some section_number) (Some section_offset) = Some (Received section_number section_offset)
received_with _ _ = None

abbrev pub received_fields : List Value → Option DeliveryState
received_fields vs = cond (all_null (drop 2 vs)) (received_with (uint_in (field_at 0 vs)) (ulong_in (field_at 1 vs))) None

abbrev pub bare_fields : DeliveryState → List Value → Option DeliveryState
bare_fields state vs = cond (all_null vs) (Some state) None

abbrev pub rejected_fields : List Value → Option DeliveryState
rejected_fields vs = cond (all_null (drop 1 vs)) (option_map Rejected (error_in (field_at 0 vs))) None

abbrev pub modified_with : Option (Option Bool) → Option (Option Bool) → Option Value → Option DeliveryState
modified_with (Some failed) (Some undeliverable) annotations = Some (Modified failed undeliverable annotations)
modified_with _ _ annotations = None

abbrev pub modified_fields : List Value → Option DeliveryState
modified_fields vs = cond (all_null (drop 3 vs)) (modified_with (boolean_in (field_at 0 vs)) (boolean_in (field_at 1 vs)) (any_in (slice_get vs 2))) None

-- the state of the descriptor's type that has these fields; none where they are not its fields
abbrev pub state_with : Value → List Value → Option DeliveryState
state_with descriptor vs =
    cond (is_descriptor received_type (view descriptor)) (received_fields vs)
    (cond (is_descriptor accepted_type (view descriptor)) (bare_fields Accepted vs)
    (cond (is_descriptor rejected_type (view descriptor)) (rejected_fields vs)
    (cond (is_descriptor released_type (view descriptor)) (bare_fields Released vs)
    (modified_fields vs))))

abbrev pub state_listed : Value → Value-F Value → Option DeliveryState
state_listed descriptor (Value-F.List vs) = state_with descriptor vs
state_listed descriptor _ = None

-- The state that a value of the map is. Null is none, and so is what has the descriptor of one of the five and not its fields; any other value is a state that is none of them.
abbrev pub state_opened : Value-F Value → Value → Option DeliveryState
state_opened Value-F.Null v = None
state_opened (Value-F.Described descriptor described) v = cond (names_state (view descriptor)) (state_listed descriptor (out-Value described)) (Some (Other v))
state_opened _ v = Some (Other v)

abbrev pub state_in : Value → Option DeliveryState
state_in v = state_opened (out-Value v) v

-- # The map

-- the tag that a key is: a binary of at most 32 octets
abbrev pub tag_in : Value-F Value → Option (List ℕ)
tag_in (Value-F.Binary os) = cond (is_tag os) (Some os) None
tag_in _ = None

-- a key that is no tag is not read
abbrev pub told_in : Value × Value → Option Told
told_in p = option_map (λ tag. record { tag = tag; state = state_in p.1 }) (tag_in (out-Value p.0))

-- the unsettled deliveries that an attach tells
abbrev pub unsettled_of : AttachBody → Unsettled
unsettled_of b = record { told = filter_map told_in (unwrap_or b.unsettled []); incomplete = unwrap_or b.incomplete_unsettled false }
