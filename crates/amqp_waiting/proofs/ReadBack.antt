-- What an attach of ours tells of an item is read as that item.
use Rattle.std.proofs.Common.{◌≡◌, ℕ, Bool, true, false, not, ◌&&◌, cond, Option, None, Some, List, [], ◌∷◌, refl, sym, ap, ◌∙◌, option_map, map, unwrap_or}
use Rattle.std.specs.Prelude.{filter_map}
use Rattle.std.specs.List.{cons_option}
use Rattle.amqp_types.specs.declared.class.Kind.TheVariants as Kind
use Rattle.amqp_types.specs.declared.value.Value.{Value}
use Rattle.amqp_types.specs.declared.value.Value.TheVariants as W
use Rattle.amqp_types.specs.declared.value.Value.TheVariants.{rolls-List}
use Rattle.amqp_types.specs.declared.value.Value.TheFolds.{fold-roll-Value}
use Rattle.amqp_types.specs.declared.value.Value.TheOpen.{Value-F}
use Rattle.amqp_types.specs.declared.value.Value.TheViews as V
use Rattle.amqp_types.specs.Datum.{Datum, number}
use Rattle.amqp_types.specs.View.{view_step, view}
use Rattle.amqp_performatives.specs.declared.composite.Composite.{Composite}
use Rattle.amqp_performatives.specs.declared.error.AmqpError.{AmqpError}
use Rattle.amqp_performatives.specs.declared.state.DeliveryState.{DeliveryState}
use Rattle.amqp_performatives.specs.declared.state.DeliveryState.TheVariants.{Received, Accepted, Rejected, Released, Modified, Other}
use Rattle.amqp_performatives.specs.Composite.{type_of}
use Rattle.amqp_performatives.specs.Bodies.{error_type, received_type, accepted_type, rejected_type, released_type}
use Rattle.amqp_performatives.specs.Fair.{is_null, is_descriptor, names_state, is_other_state, is_tag, is_fair_state, is_fair_error, is_present, where_present}
use Rattle.amqp_waiting.specs.declared.item.SuspendedItem.{SuspendedItem}
use Rattle.amqp_waiting.specs.OurUnsettled.{composite_of, in_front, error_value, state_value, value_told, pair_of, map_of, is_fair_item, told_as, are_sendable}
use Rattle.amqp_waiting.specs.PeerUnsettled.{uint_in, ulong_in, symbol_in, string_in, boolean_in, any_in, error_with, error_in, error_listed, error_fields, received_with, received_fields, bare_fields, rejected_fields, modified_with, modified_fields, state_with, state_listed, state_opened, state_in, tag_in, told_in}
use Rattle.amqp_waiting.proofs.Values.{view_ulong}

-- # One level of a value that is made

out_described : (d v : Value) → V.out-Value (V.Described d v) ≡ Value-F.Described d v
unfolding V.roll-Value denote.Hole.Carrier.roll
out_described d v = V.out-roll-Value (Value-F.Described d v)

out_list : (vs : List Value) → V.out-Value (V.List vs) ≡ Value-F.List vs
out_list vs = ap V.out-Value (sym (rolls-List vs)) ∙ V.out-roll-Value (Value-F.List vs)

out_uint : (n : ℕ) → V.out-Value (W.Uint n) ≡ Value-F.Uint n
unfolding V.roll-Value V.out-Value denote.Hole.Carrier.roll denote.Hole.Carrier.out
out_uint n = refl

out_ulong : (n : ℕ) → V.out-Value (W.Ulong n) ≡ Value-F.Ulong n
unfolding V.roll-Value V.out-Value denote.Hole.Carrier.roll denote.Hole.Carrier.out
out_ulong n = refl

out_bool : (b : Bool) → V.out-Value (W.Bool b) ≡ Value-F.Bool b
unfolding V.roll-Value V.out-Value denote.Hole.Carrier.roll denote.Hole.Carrier.out
out_bool b = refl

out_null : V.out-Value W.Null ≡ Value-F.Null
unfolding V.roll-Value V.out-Value denote.Hole.Carrier.roll denote.Hole.Carrier.out
out_null = refl

out_string : (os : List ℕ) → V.out-Value (W.Str os) ≡ Value-F.Str os
unfolding V.roll-Value V.out-Value denote.Hole.Carrier.roll denote.Hole.Carrier.out
out_string os = refl

out_symbol : (os : List ℕ) → V.out-Value (W.Symbol os) ≡ Value-F.Symbol os
unfolding V.roll-Value V.out-Value denote.Hole.Carrier.roll denote.Hole.Carrier.out
out_symbol os = refl

out_binary : (os : List ℕ) → V.out-Value (W.Binary os) ≡ Value-F.Binary os
unfolding V.roll-Value V.out-Value denote.Hole.Carrier.roll denote.Hole.Carrier.out
out_binary os = refl

-- # Fields

-- a field of any type that is fair is read as it is
any_back : (o : Option Value) → where_present is_present o ≡ true → any_in o ≡ o
any_back None h = refl
any_back (Some v) h = kept (is_null (view v)) h where
  kept : (b : Bool) → not b ≡ true → cond b None (Some v) ≡ Some v
  kept true h = absurd cc
  kept false h = refl

-- # States

abbrev number_of : Composite → Value
number_of c = W.Ulong (type_of c).0

in_composite : (c : Composite) (vs : List Value) → names_state (number Kind.Ulong (type_of c).0) ≡ true → state_in (composite_of c vs) ≡ state_with (number_of c) vs
in_composite c vs h =
    let named : names_state (view (number_of c)) ≡ true = ap names_state (view_ulong (type_of c).0) ∙ h in
    ap (λ o. state_opened o (composite_of c vs)) (out_described (number_of c) (V.List vs))
    ∙ (λ i. cond (named i) (state_listed (number_of c) (out_list vs i)) (Some (Other (composite_of c vs))))

abbrev fields_of : ℕ → List Value → Option DeliveryState
fields_of n vs =
    cond (is_descriptor received_type (number Kind.Ulong n)) (received_fields vs)
    (cond (is_descriptor accepted_type (number Kind.Ulong n)) (bare_fields Accepted vs)
    (cond (is_descriptor rejected_type (number Kind.Ulong n)) (rejected_fields vs)
    (cond (is_descriptor released_type (number Kind.Ulong n)) (bare_fields Released vs)
    (modified_fields vs))))

by_number : (n : ℕ) (vs : List Value) → state_with (W.Ulong n) vs ≡ fields_of n vs
by_number n vs = λ i.
    cond (is_descriptor received_type (view_ulong n i)) (received_fields vs)
    (cond (is_descriptor accepted_type (view_ulong n i)) (bare_fields Accepted vs)
    (cond (is_descriptor rejected_type (view_ulong n i)) (rejected_fields vs)
    (cond (is_descriptor released_type (view_ulong n i)) (bare_fields Released vs)
    (modified_fields vs))))

read_as : (c : Composite) (vs : List Value) → names_state (number Kind.Ulong (type_of c).0) ≡ true → state_in (composite_of c vs) ≡ fields_of (type_of c).0 vs
read_as c vs h = in_composite c vs h ∙ by_number (type_of c).0 vs

-- an error's fields
error_fields_back : (c : List ℕ) (d : Option (List ℕ)) (v : Option Value) → where_present is_present v ≡ true
    → error_fields (W.Symbol c ∷ in_front (option_map W.Str d) (in_front v [])) ≡ Some (record { condition = c; description = d; info = v })
error_fields_back c None None h = λ i. error_with (symbol_in (Some (out_symbol c i))) (Some None) None
error_fields_back c None (Some v) h = λ i. error_with (symbol_in (Some (out_symbol c i))) (string_in (Some (out_null i))) (any_back (Some v) h i)
error_fields_back c (Some d) None h = λ i. error_with (symbol_in (Some (out_symbol c i))) (string_in (Some (out_string d i))) None
error_fields_back c (Some d) (Some v) h = λ i. error_with (symbol_in (Some (out_symbol c i))) (string_in (Some (out_string d i))) (any_back (Some v) h i)

abbrev error_list : AmqpError → List Value
error_list e = W.Symbol e.condition ∷ in_front (option_map W.Str e.description) (in_front e.info [])

error_back : (e : AmqpError) → is_fair_error e ≡ true → error_in (Some (V.out-Value (error_value e))) ≡ Some (Some e)
error_back e h =
    ap (λ o. error_in (Some o)) (out_described (number_of Composite.Error) (V.List (error_list e)))
    ∙ (λ i. cond (is_descriptor error_type (view_ulong 0x1d i)) (option_map Some (error_listed (out_list (error_list e) i))) None)
    ∙ ap (option_map Some) (error_fields_back e.condition e.description e.info h)

rejected_back : (o : Option AmqpError) → where_present is_fair_error o ≡ true → rejected_fields (in_front (option_map error_value o) []) ≡ Some (Rejected o)
rejected_back None h = refl
rejected_back (Some e) h = ap (option_map Rejected) (error_back e h)

modified_back : (f u : Option Bool) (a : Option Value) → where_present is_present a ≡ true
    → modified_fields (in_front (option_map W.Bool f) (in_front (option_map W.Bool u) (in_front a []))) ≡ Some (Modified f u a)
modified_back None None None h = refl
modified_back None None (Some v) h = λ i. modified_with (boolean_in (Some (out_null i))) (boolean_in (Some (out_null i))) (any_back (Some v) h i)
modified_back None (Some u) None h = λ i. modified_with (boolean_in (Some (out_null i))) (boolean_in (Some (out_bool u i))) None
modified_back None (Some u) (Some v) h = λ i. modified_with (boolean_in (Some (out_null i))) (boolean_in (Some (out_bool u i))) (any_back (Some v) h i)
modified_back (Some f) None None h = λ i. modified_with (boolean_in (Some (out_bool f i))) (Some None) None
modified_back (Some f) None (Some v) h = λ i. modified_with (boolean_in (Some (out_bool f i))) (boolean_in (Some (out_null i))) (any_back (Some v) h i)
modified_back (Some f) (Some u) None h = λ i. modified_with (boolean_in (Some (out_bool f i))) (boolean_in (Some (out_bool u i))) None
modified_back (Some f) (Some u) (Some v) h = λ i. modified_with (boolean_in (Some (out_bool f i))) (boolean_in (Some (out_bool u i))) (any_back (Some v) h i)

-- a state that is none of the five
other_by : (b : Bool) (v : Value) (rest : Option DeliveryState) → not b ≡ true → cond b rest (Some (Other v)) ≡ Some (Other v)
other_by true v rest h = absurd cc
other_by false v rest h = refl

other_opened : (x : Value-F Value) (v : Value) → is_other_state (view (V.roll-Value x)) ≡ true → state_opened x v ≡ Some (Other v)
other_opened Value-F.Null v h =
    let no : false ≡ true = sym (ap is_other_state (fold-roll-Value Datum view_step Value-F.Null)) ∙ h in
    absurd cc
other_opened (Value-F.Described d w) v h = other_by (names_state (view d)) v (state_listed d (V.out-Value w)) (sym (ap is_other_state (fold-roll-Value Datum view_step (Value-F.Described d w))) ∙ h)
other_opened _ v h = refl

other_back : (v : Value) → is_other_state (view v) ≡ true → state_in v ≡ Some (Other v)
other_back v h = other_opened (V.out-Value v) v (ap (λ w. is_other_state (view w)) (V.roll-out-Value v) ∙ h)

state_back : (s : DeliveryState) → is_fair_state s ≡ true → state_in (state_value s) ≡ Some s
state_back (Received n m) h = read_as Composite.Received _ refl ∙ (λ i. received_with (uint_in (Some (out_uint n i))) (ulong_in (Some (out_ulong m i))))
state_back Accepted h = read_as Composite.Accepted [] refl
state_back (Rejected e) h = read_as Composite.Rejected _ refl ∙ rejected_back e h
state_back Released h = read_as Composite.Released [] refl
state_back (Modified f u a) h = read_as Composite.Modified _ refl ∙ modified_back f u a h
state_back (Other v) h = other_back v h

told_back : (o : Option DeliveryState) → where_present is_fair_state o ≡ true → state_in (value_told o) ≡ o
told_back None h = ap (λ x. state_opened x W.Null) out_null
told_back (Some s) h = state_back s h

-- # The map

item_back : (i : SuspendedItem) → is_tag i.tag ≡ true → is_fair_item i ≡ true → told_in (pair_of i) ≡ Some (told_as i)
item_back i t h =
    (λ j. option_map (λ tag. record { tag = tag; state = told_back i.state h j }) (tag_in (out_binary i.tag j)))
    ∙ (λ j. option_map (λ tag. record { tag = tag; state = i.state }) (cond (t j) (Some i.tag) None))

both : (a b : Bool) → (a && b) ≡ true → (a ≡ true) × (b ≡ true)
both true b h = (refl, h)
both false b h = absurd cc

items_back : (is : List SuspendedItem) → are_sendable is ≡ true → filter_map told_in (map pair_of is) ≡ map told_as is
items_back [] h = refl
items_back (i ∷ is) h =
    let first = both (is_tag i.tag && is_fair_item i) (are_sendable is) h in
    let fair = both (is_tag i.tag) (is_fair_item i) first.0 in
    (λ j. cons_option (item_back i fair.0 fair.1 j) (items_back is first.1 j))

pub map_back : (is : List SuspendedItem) → are_sendable is ≡ true → filter_map told_in (unwrap_or (map_of is) []) ≡ map told_as is
map_back [] h = refl
map_back (i ∷ is) h = items_back (i ∷ is) h
