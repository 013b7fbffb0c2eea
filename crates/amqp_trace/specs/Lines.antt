-- The line of a frame.
use Rattle.std.specs.Prelude.{ℕ, ◌≡◌, suc, Bool, true, false, nat_lt, if◌then◌else◌, Option, Some, None, List, [], ◌∷◌, ◌++◌, length, take, codes, decimal}
use Rattle.amqp_performatives.specs.declared.composite.Composite.{Composite}
use Rattle.amqp_performatives.specs.declared.performative.Performative.{Performative}
use Rattle.amqp_performatives.specs.Composite.{type_of}
use Rattle.amqp_performatives.specs.Part.{Fields, no_field, field}
use Rattle.amqp_performatives.specs.Bodies.{composite_of, fields_of}
use Rattle.amqp_performatives.specs.Listed.{is_absent}
use Rattle.amqp_frames.specs.declared.frame.Frame.{Frame}
use Rattle.amqp_trace.specs.declared.frame.Direction.{Direction}
use Rattle.amqp_trace.specs.declared.frame.Protocol.{Protocol}
use Rattle.amqp_trace.specs.declared.frame.Direction.TheVariants.{Sent, Heard}
use Rattle.amqp_trace.specs.Printed.{escaped, type_text, comma, Continues}
use Rattle.amqp_trace.specs.Names.{type_name, field_names}

-- the names of the fields that are there
unfoldable pub present : List (List ℕ) → Fields → List (List ℕ)
present [] fs = []
present (name ∷ names) no_field = []
present (name ∷ names) (field part fs) = if is_absent part then present names fs else name ∷ present names fs

-- Behind the old text stands NAME=VALUE for each of these names, in their order, with `, ` between two.
abbrev pub Entries : Bool → List (List ℕ) → List ℕ → List ℕ → Type 0
Entries is_first [] old new = new ≡ old
Entries is_first (name ∷ names) old new = (next : List ℕ) × Continues (old ++ comma is_first ++ name ++ codes "=") next × Entries false names next new

-- behind the old text stands @TYPE(NUMBER) [ENTRIES]
abbrev pub IsListed : Composite → List (List ℕ) → List ℕ → List ℕ → Type 0
IsListed type names old new =
    (inside : List ℕ) × Entries true names (old ++ type_text (type_name type) (type_of type).0 ++ codes "[") inside × (new ≡ inside ++ codes "]")

-- the fields that are there stand by the standard's names
abbrev pub IsPerformative : Performative → List ℕ → List ℕ → Type 0
IsPerformative p old new = IsListed (composite_of p) (present (field_names (composite_of p)) (fields_of p)) old new

abbrev pub IsBody : Option Performative → List ℕ → List ℕ → Type 0
IsBody None old new = new ≡ old ++ codes "(EMPTY FRAME)"
IsBody (Some p) old new = IsPerformative p old new

-- more octets than are shown
abbrev pub dots : List ℕ → List ℕ
dots payload = if nat_lt 64 (length payload) then codes "..." else []

abbrev pub length_text : ℕ → List ℕ
length_text n = codes " (" ++ decimal n ++ codes ") "

-- how many octets the payload has, and the first 64 of them
abbrev pub payload_text : List ℕ → List ℕ
payload_text [] = []
payload_text (o ∷ os) = length_text (length (o ∷ os)) ++ escaped (take 64 (o ∷ os)) ++ dots (o ∷ os)

abbrev pub arrow : Direction → List ℕ
arrow Sent = codes " -> "
arrow Heard = codes " <- "

abbrev pub head : Direction → ℕ → List ℕ
head direction channel = codes "AMQP:FRAME:" ++ decimal channel ++ arrow direction

-- the head, what the frame says, and the payload
abbrev pub IsLine : Direction → Frame → List ℕ → Type 0
IsLine direction frame line =
    (body : List ℕ) × IsBody frame.body (head direction frame.channel) body × (line ≡ body ++ payload_text frame.payload)

-- What the octets of a protocol header say (part 2, 2.2): behind four of them, the protocol's id and its version.
abbrev pub protocol_of : List ℕ → Option Protocol
protocol_of (_ ∷ _ ∷ _ ∷ _ ∷ id ∷ major ∷ minor ∷ revision ∷ []) = Some (record { id = id; major = major; minor = minor; revision = revision })
protocol_of _ = None

abbrev pub version_text : Protocol → List ℕ
version_text p = decimal p.major ++ codes "." ++ decimal p.minor ++ codes "." ++ decimal p.revision

-- the line of a protocol header
abbrev pub header_text : Direction → Protocol → List ℕ
header_text direction p = codes "AMQP:HEADER" ++ arrow direction ++ codes "id=" ++ decimal p.id ++ codes " version=" ++ version_text p

-- how many fields there are, present or not
abbrev pub how_many : Fields → ℕ
how_many no_field = 0
how_many (field part fs) = suc (how_many fs)
