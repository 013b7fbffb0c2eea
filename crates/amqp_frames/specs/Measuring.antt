-- The result of measuring a frame: why it cannot be written, or its size and the measure of its fields.
use Rattle.std.specs.Prelude.{ℕ, ◌≡◌, ◌≤◌, Option, Some, None, Result, Ok, Err, List, length}
use Rattle.amqp_types.specs.Datum.{Data, none, count_of}
use Rattle.amqp_types.specs.Reading.{◌>>=◌}
use Rattle.amqp_types.specs.Canon.{canon}
use Rattle.amqp_performatives.specs.declared.performative.Performative.{Performative}
use Rattle.amqp_performatives.specs.Part.{canonical_fields}
use Rattle.amqp_performatives.specs.Bodies.{fields_of}
use Rattle.amqp_frames.specs.declared.fault.FrameRefusal.{FrameRefusal}
use Rattle.amqp_frames.specs.declared.frame.Frame.{Frame}
use Rattle.amqp_frames.specs.declared.measure.Measure.{Measure}
use Rattle.amqp_frames.specs.declared.measured.Measured.{Measured}
use Rattle.amqp_frames.specs.Written.{framed, frame_octets, write_answer}
use Rattle.amqp_frames.specs.Field.{forms_within, measured, composite_datum, with_payload, body_answer}

-- the values in a performative's list
abbrev pub listed : Option Performative → Data
listed None = none
listed (Some p) = canonical_fields (fields_of p)

-- how many values there are, and how many octets they take, each nested at most `depth` deep
abbrev pub IsListMeasure : ℕ → Measure → Data → Type 0
IsListMeasure depth m ds = Some (m.count, m.size) ≡ measured (count_of ds) (forms_within depth ds)

-- the measure of a frame that has these octets, and of the values in its performative's list
pub record IsMeasured (m : Measured) (ds : Data) (form : Option (List ℕ)) : Type 0 where
  pub octets : List ℕ
  pub written : form ≡ Some octets
  pub sized : m.size ≡ length octets
  pub list : IsListMeasure 30 m.list ds

-- the frame can be written, and this is its measure
abbrev pub IsMeasureOf : Frame → Measured → Type 0
IsMeasureOf f m = IsMeasured m (listed f.body) (frame_octets f)

-- the measure of a frame of at most max octets, or why it is not written
abbrev pub Measures : Result Measured FrameRefusal → Frame → ℕ → Type 0
Measures (Ok m) f max = IsMeasureOf f m × (m.size ≤ max)
Measures (Err e) f max = write_answer f max ≡ Err e

-- the result for a frame with the described list of these values and a payload
abbrev pub MeasuresList : Result Measured FrameRefusal → ℕ → ℕ → ℕ → Data → List ℕ → Type 0
MeasuresList (Ok m) channel max code ds payload = IsMeasured m ds (with_payload (canon (composite_datum code ds)) payload >>= framed channel) × (m.size ≤ max)
MeasuresList (Err e) channel max code ds payload = body_answer channel max (canon (composite_datum code ds)) payload ≡ Err e
