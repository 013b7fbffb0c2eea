-- The fields of a composite as the writer goes over them, and the sizes of what it writes.
use Rattle.std.specs.Prelude.{ℕ, ◌+◌, ◌^◌, ◌-◌, ◌==◌, ◌&&◌, nat_lt, nat_le, Option, Some, None, Result, Ok, Err, List, [], ◌∷◌, ◌++◌, length, min, if◌then◌else◌}
use Rattle.std.specs.Int.{to_be_bytes, w16, w32}
use Rattle.amqp_types.specs.declared.class.Kind.TheVariants as Kind
use Rattle.amqp_types.specs.Datum.{Datum, Data, number, list, described, depth_of, greatest_depth_of}
use Rattle.amqp_types.specs.Reading.{◌>>=◌}
use Rattle.amqp_types.specs.Canon.{part_form, parts_form}
use Rattle.amqp_frames.specs.declared.fault.FrameRefusal.{FrameRefusal}
use Rattle.amqp_frames.specs.declared.fault.FrameRefusal.TheVariants as refusal
use Rattle.amqp_frames.specs.Written.{within_size, framed}

-- the canonical encoding of a value nested at most `depth` deep, and of values one after the other
abbrev pub form_within : ℕ → Datum → Option (List ℕ)
form_within depth d = if nat_le (depth_of d) depth then part_form None d else None

abbrev pub forms_within : ℕ → Data → Option (List ℕ)
forms_within depth ds = if nat_le (greatest_depth_of ds) depth then parts_form ds None else None

-- the count of the values, and how many octets they take, or 2 ^ 64 - 1 for more
abbrev pub measured : ℕ → Option (List ℕ) → Option (ℕ × ℕ)
measured count form = form >>= λ x. Some (count, min (length x) (2 ^ 64 - 1))

-- the old octets and the new ones behind them, if there are any
abbrev pub added : List ℕ → Option (List ℕ) → Option (List ℕ)
added old form = form >>= λ x. Some (old ++ x)

-- octets under a code with a size of one octet, or under one with a size of four
abbrev pub run_octets : ℕ → ℕ → List ℕ → Option (List ℕ)
run_octets small large text =
    if nat_lt (length text) 256 then Some (small ∷ length text ∷ text)
    else if nat_lt (length text) (2 ^ 32) then Some (large ∷ to_be_bytes w32 (length text) ++ text)
    else None

-- the head of a list of `count` items that take `size` octets together
abbrev pub list_octets : ℕ → ℕ → Option (List ℕ)
list_octets count size =
    if count == 0 then Some (0x45 ∷ [])
    else if nat_lt (1 + size) 256 && nat_lt count 256 then Some (0xc0 ∷ (1 + size) ∷ count ∷ [])
    else if nat_lt (4 + size) (2 ^ 32) && nat_lt count (2 ^ 32) then Some (0xd0 ∷ to_be_bytes w32 (4 + size) ++ to_be_bytes w32 count)
    else None

-- how many octets the head and the items take
abbrev pub list_size : ℕ → ℕ → Option ℕ
list_size count size =
    if count == 0 then Some 1
    else if nat_lt (1 + size) 256 && nat_lt count 256 then Some (3 + size)
    else if nat_lt (4 + size) (2 ^ 32) && nat_lt count (2 ^ 32) then Some (9 + size)
    else None

abbrev pub composite_datum : ℕ → Data → Datum
composite_datum code ds = described (number Kind.Ulong code) (list ds)

-- ---- a frame

abbrev pub header : ℕ → ℕ → List ℕ
header size channel = to_be_bytes w32 size ++ (2 ∷ 0 ∷ []) ++ to_be_bytes w16 channel

abbrev pub size_answer : ℕ → ℕ → Result ℕ FrameRefusal
size_answer size max = if nat_lt size (2 ^ 32) then (if nat_le size max then Ok size else Err refusal.FrameTooBig) else Err refusal.NotWritable

abbrev pub with_payload : Option (List ℕ) → List ℕ → Option (List ℕ)
with_payload form payload = form >>= λ x. Some (x ++ payload)

-- the answer for a frame of a performative with this encoding, and a payload
abbrev pub body_answer : ℕ → ℕ → Option (List ℕ) → List ℕ → Result (List ℕ) FrameRefusal
body_answer channel max form payload = within_size max (with_payload form payload >>= framed channel)
