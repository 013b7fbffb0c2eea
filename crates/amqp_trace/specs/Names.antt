-- The standard's names of composite types and of their fields, in order (part 2, 2.7 and 2.8.14; part 3, 3.4 and 3.5).
use Rattle.std.specs.Prelude.{ℕ, ◌≡◌, ◌==◌, Bool, true, false, if◌then◌else◌, Option, Some, None, List, [], ◌∷◌, codes, map}
use Rattle.std.specs.Borrow.{Bor}
use Rattle.std.specs.List.{list_all}
use Rattle.std.specs.Str.{bytes_eq}
use Rattle.amqp_types.specs.declared.value.Value.{Value}
use Rattle.amqp_types.specs.declared.value.Value.TheOpen.{Value-F}
use Rattle.amqp_performatives.specs.Composite.{type_of}
use Rattle.amqp_performatives.specs.declared.composite.Composite.{Composite}
use Rattle.amqp_performatives.specs.declared.composite.Composite.TheVariants.{Open, Begin, Attach, Flow, Transfer, Disposition, Detach, End, Close, Error, Received, Accepted, Rejected, Released, Modified}
use Rattle.amqp_trace.specs.declared.names.Named.{Named}
use Rattle.amqp_trace.specs.Printed.{are_printable}

abbrev pub type_name : Composite → List ℕ
type_name Open = codes "open"
type_name Begin = codes "begin"
type_name Attach = codes "attach"
type_name Flow = codes "flow"
type_name Transfer = codes "transfer"
type_name Disposition = codes "disposition"
type_name Detach = codes "detach"
type_name End = codes "end"
type_name Close = codes "close"
type_name Error = codes "error"
type_name Received = codes "received"
type_name Accepted = codes "accepted"
type_name Rejected = codes "rejected"
type_name Released = codes "released"
type_name Modified = codes "modified"

abbrev pub field_names : Composite → List (List ℕ)
field_names Open =
    codes "container-id"
    ∷ codes "hostname"
    ∷ codes "max-frame-size"
    ∷ codes "channel-max"
    ∷ codes "idle-time-out"
    ∷ codes "outgoing-locales"
    ∷ codes "incoming-locales"
    ∷ codes "offered-capabilities"
    ∷ codes "desired-capabilities"
    ∷ codes "properties"
    ∷ []
field_names Begin =
    codes "remote-channel"
    ∷ codes "next-outgoing-id"
    ∷ codes "incoming-window"
    ∷ codes "outgoing-window"
    ∷ codes "handle-max"
    ∷ codes "offered-capabilities"
    ∷ codes "desired-capabilities"
    ∷ codes "properties"
    ∷ []
field_names Attach =
    codes "name"
    ∷ codes "handle"
    ∷ codes "role"
    ∷ codes "snd-settle-mode"
    ∷ codes "rcv-settle-mode"
    ∷ codes "source"
    ∷ codes "target"
    ∷ codes "unsettled"
    ∷ codes "incomplete-unsettled"
    ∷ codes "initial-delivery-count"
    ∷ codes "max-message-size"
    ∷ codes "offered-capabilities"
    ∷ codes "desired-capabilities"
    ∷ codes "properties"
    ∷ []
field_names Flow =
    codes "next-incoming-id"
    ∷ codes "incoming-window"
    ∷ codes "next-outgoing-id"
    ∷ codes "outgoing-window"
    ∷ codes "handle"
    ∷ codes "delivery-count"
    ∷ codes "link-credit"
    ∷ codes "available"
    ∷ codes "drain"
    ∷ codes "echo"
    ∷ codes "properties"
    ∷ []
field_names Transfer =
    codes "handle"
    ∷ codes "delivery-id"
    ∷ codes "delivery-tag"
    ∷ codes "message-format"
    ∷ codes "settled"
    ∷ codes "more"
    ∷ codes "rcv-settle-mode"
    ∷ codes "state"
    ∷ codes "resume"
    ∷ codes "aborted"
    ∷ codes "batchable"
    ∷ []
field_names Disposition =
    codes "role"
    ∷ codes "first"
    ∷ codes "last"
    ∷ codes "settled"
    ∷ codes "state"
    ∷ codes "batchable"
    ∷ []
field_names Detach = codes "handle" ∷ codes "closed" ∷ codes "error" ∷ []
field_names End = codes "error" ∷ []
field_names Close = codes "error" ∷ []
field_names Error = codes "condition" ∷ codes "description" ∷ codes "info" ∷ []
field_names Received = codes "section-number" ∷ codes "section-offset" ∷ []
field_names Accepted = []
field_names Rejected = codes "error" ∷ []
field_names Released = []
field_names Modified = codes "delivery-failed" ∷ codes "undeliverable-here" ∷ codes "message-annotations" ∷ []

-- a type that values are described by: the number of its descriptor, its name, and the names of its fields
pub record NamedType : Type 0 where
  pub number : ℕ
  pub name : List ℕ
  pub fields : List (List ℕ)

abbrev pub composite_type : Composite → NamedType
composite_type kind = record { number = (type_of kind).0; name = type_name kind; fields = field_names kind }

-- part 3, 3.5.3
abbrev pub source_type : NamedType
source_type = record {
  number = 0x28;
  name = codes "source";
  fields =
      codes "address"
      ∷ codes "durable"
      ∷ codes "expiry-policy"
      ∷ codes "timeout"
      ∷ codes "dynamic"
      ∷ codes "dynamic-node-properties"
      ∷ codes "distribution-mode"
      ∷ codes "filter"
      ∷ codes "default-outcome"
      ∷ codes "outcomes"
      ∷ codes "capabilities"
      ∷ [];
}

-- part 3, 3.5.4
abbrev pub target_type : NamedType
target_type = record {
  number = 0x29;
  name = codes "target";
  fields =
      codes "address"
      ∷ codes "durable"
      ∷ codes "expiry-policy"
      ∷ codes "timeout"
      ∷ codes "dynamic"
      ∷ codes "dynamic-node-properties"
      ∷ codes "capabilities"
      ∷ [];
}

-- the value, opened by one level, is the descriptor: its number or its symbol
abbrev pub is_descriptor : ℕ × List ℕ → Value-F Value → Bool
is_descriptor type (Value-F.Ulong n) = n == type.0
is_descriptor type (Value-F.Symbol name) = bytes_eq name type.1
is_descriptor type _ = false

abbrev pub terminus_type : Value-F Value → Option NamedType
terminus_type d =
    if is_descriptor (0x28, codes "amqp:source:list") d
    then Some source_type
    else (if is_descriptor (0x29, codes "amqp:target:list") d then Some target_type else None)

-- a descriptor's type, if that is an error, a delivery state, a source or a target
abbrev pub described_type : Value-F Value → Option NamedType
described_type d =
    if is_descriptor (type_of Error) d
    then Some (composite_type Error)
    else (if is_descriptor (type_of Received) d
    then Some (composite_type Received)
    else (if is_descriptor (type_of Accepted) d
    then Some (composite_type Accepted)
    else (if is_descriptor (type_of Rejected) d
    then Some (composite_type Rejected)
    else (if is_descriptor (type_of Released) d
    then Some (composite_type Released)
    else (if is_descriptor (type_of Modified) d then Some (composite_type Modified) else terminus_type d)))))

-- the texts behind references
abbrev pub texts : List (Bor (List ℕ)) → List (List ℕ)
texts words = map (λ (word : Bor (List ℕ)). word.now) words

-- what is called so, and whose fields are
abbrev pub AreNames : List (Bor (List ℕ)) → Type 0
AreNames words = list_all are_printable (texts words) ≡ true

abbrev pub type_data : Named → NamedType
type_data type = record { number = type.number; name = type.name.now; fields = texts type.fields.now }

abbrev pub IsNamed : Named → Type 0
IsNamed type = (are_printable type.name.now ≡ true) × AreNames type.fields.now
