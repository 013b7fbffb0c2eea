-- A state of a kind is made of that kind's fields, behind its descriptor.
use Rattle.std.proofs.Common.{◌≡◌, ℕ, ◌⊎◌, inl, inr, Bool, true, false, not, ◌&&◌, Option, refl}
use Rattle.std.specs.Prelude.{IsTrue}
use Rattle.amqp_types.specs.Datum.{Datum, number, octets, list, map, array, described}
use Rattle.amqp_types.specs.declared.value.Value.{Value}
use Rattle.amqp_performatives.specs.declared.error.AmqpError.{AmqpError}
use Rattle.amqp_performatives.specs.declared.state.DeliveryState.{DeliveryState}
use Rattle.amqp_performatives.specs.declared.state.DeliveryState.TheVariants.{Received, Accepted, Rejected, Released, Modified, Other}
use Rattle.amqp_performatives.specs.Part.{composite, IsDescriptor}
use Rattle.amqp_performatives.specs.Bodies.{state}
use Rattle.amqp_performatives.specs.Fair.{where_present, is_present, is_fair_error, is_fair_state, is_null, is_other_state, names_state}
use Rattle.amqp_decoder.specs.declared.fields.Cursor.{Cursor}
use Rattle.amqp_decoder.specs.declared.states.StateKind.{StateKind}
use Rattle.amqp_decoder.specs.declared.states.StateKind.TheVariants as kind
use Rattle.amqp_decoder.specs.Parts.{lone_error}
use Rattle.amqp_decoder.specs.Reading.{AreFields, every}
use Rattle.amqp_decoder.specs.States.{type_of, is_of, received_fields, modified_fields, state_fields}
use Rattle.amqp_decoder.proofs.StateTypes.{apart}

-- ---- the fields of a kind

pub none_received : (from : Cursor) → ((r : ℕ × ℕ) → IsTrue (every r) → AreFields from.depth from.left (received_fields r) from.octets.now → ⊥) → (s : DeliveryState) → IsTrue (is_of kind.Received s && is_fair_state s) → AreFields from.depth from.left (state_fields s) from.octets.now → ⊥
none_received from none (Received n o) fair h = none (n, o) refl h
none_received from none _ fair h = absurd cc

pub none_modified : (from : Cursor) → ((m : Option Bool × Option Bool × Option Value) → IsTrue (where_present is_present m.2) → AreFields from.depth from.left (modified_fields m) from.octets.now → ⊥) → (s : DeliveryState) → IsTrue (is_of kind.Modified s && is_fair_state s) → AreFields from.depth from.left (state_fields s) from.octets.now → ⊥
none_modified from none (Modified f u m) fair h = none (f, u, m) fair h
none_modified from none _ fair h = absurd cc

-- ---- the kind of a state

pub kind_part : (k : StateKind) (s : DeliveryState) → is_of k s ≡ true → state s ≡ composite (type_of k) (state_fields s)
kind_part kind.Received (Received n o) h = refl
kind_part kind.Accepted Accepted h = refl
kind_part kind.Rejected (Rejected e) h = refl
kind_part kind.Released Released h = refl
kind_part kind.Modified (Modified f u m) h = refl
kind_part _ _ h = absurd cc

pub kind_or_other : (s : DeliveryState) → ((k : StateKind) × (is_of k s ≡ true)) ⊎ ((v : Value) × (s ≡ Other v))
kind_or_other (Received n o) = inl (kind.Received, refl)
kind_or_other Accepted = inl (kind.Accepted, refl)
kind_or_other (Rejected e) = inl (kind.Rejected, refl)
kind_or_other Released = inl (kind.Released, refl)
kind_or_other (Modified f u m) = inl (kind.Modified, refl)
kind_or_other (Other v) = inr (v, refl)

pub same_kind : (j k : StateKind) (d : Datum) → IsDescriptor (type_of j) d → IsDescriptor (type_of k) d → j ≡ k
same_kind kind.Received kind.Received d a b = refl
same_kind kind.Accepted kind.Accepted d a b = refl
same_kind kind.Rejected kind.Rejected d a b = refl
same_kind kind.Released kind.Released d a b = refl
same_kind kind.Modified kind.Modified d a b = refl
same_kind j k d a b = absurd (apart (type_of j) (type_of k) d refl a b)

pub kind_named : (k : StateKind) (d : Datum) → IsDescriptor (type_of k) d → names_state d ≡ true
kind_named kind.Received d (inl e) = rw e refl
kind_named kind.Received d (inr e) = rw e refl
kind_named kind.Accepted d (inl e) = rw e refl
kind_named kind.Accepted d (inr e) = rw e refl
kind_named kind.Rejected d (inl e) = rw e refl
kind_named kind.Rejected d (inr e) = rw e refl
kind_named kind.Released d (inl e) = rw e refl
kind_named kind.Released d (inr e) = rw e refl
kind_named kind.Modified d (inl e) = rw e refl
kind_named kind.Modified d (inr e) = rw e refl

-- ---- a state that is none of the five

pub other_fair : (w : Datum) → not (is_null w) ≡ true → ((d v : Datum) → w ≡ described d v → names_state d ≡ false) → is_other_state w ≡ true
other_fair (described d v) n h = rw (h d v refl) refl
other_fair (number k m) n h = n
other_fair (octets r os) n h = n
other_fair (list ds) n h = n
other_fair (map ds) n h = n
other_fair (array c ds) n h = n
