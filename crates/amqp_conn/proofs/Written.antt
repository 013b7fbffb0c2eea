-- The octets of a frame that was written.
use Rattle.std.proofs.Common.{◌≡◌, ℕ, Bool, true, false, Option, Some, None, Ok, Err, List, [], length, nat_le, unwrap_or, IsOk, refl, sym, ap, ◌∙◌, if◌then◌else◌, Result}
use Rattle.std.specs.Prelude.{IfOk}
use Rattle.amqp_frames.specs.declared.frame.Frame.{Frame}
use Rattle.amqp_frames.specs.declared.fault.FrameRefusal.{FrameRefusal}
use Rattle.amqp_frames.specs.declared.fault.FrameRefusal.TheVariants.{NotWritable, FrameTooBig, NoMemory}
use Rattle.amqp_frames.specs.Written.{Answers, within_size, write_answer, frame_octets}
use Rattle.amqp_rules.specs.Sending.{octets_of}
use Rattle.amqp_conn.specs.Writes.{Writes}

within : (max : ℕ) (octets : Option (List ℕ)) (x : List ℕ) → within_size max octets ≡ Ok x → x ≡ unwrap_or octets []
within max None x h = absurd (cc)
within max (Some y) x h = by_size (nat_le (length y) max) h
  where
    by_size : (b : Bool) → ◌≡◌ {A = Result (List ℕ) FrameRefusal} (if b then Ok y else Err FrameTooBig) (Ok x) → x ≡ y
    by_size true h = cc
    by_size false h = absurd (cc)

pub written : (f : Frame) (max : ℕ) (x : List ℕ) → write_answer f max ≡ Ok x → x ≡ octets_of f
unfolding octets_of
written f max x h = within max (frame_octets f) x h

-- memory is refused only where there are octets
memory : (max : ℕ) (octets : Option (List ℕ)) → Answers (Err NoMemory) (within_size max octets) → IsOk (within_size max octets)
memory max None h = absurd (cc)
memory max (Some y) h = by_size (nat_le (length y) max) h
  where
    by_size : (b : Bool) → Answers (Err NoMemory) (if b then Ok y else Err FrameTooBig) → IsOk (let r : Result (List ℕ) FrameRefusal = (if b then Ok y else Err FrameTooBig) in r)
    by_size true h = refl
    by_size false h = absurd (cc)

pub memory-last : (f : Frame) (max : ℕ) → Answers (Err NoMemory) (write_answer f max) → IsOk (write_answer f max)
memory-last f max h = memory max (frame_octets f) h

pub writes : (f : Frame) (max : ℕ) (result : Result (List ℕ) FrameRefusal) → Answers result (write_answer f max) → Writes f max result
writes f max (Ok x) h = let e = written f max x h in (h ∙ ap Ok e, e)
writes f max (Err NotWritable) h = h
writes f max (Err FrameTooBig) h = h
writes f max (Err NoMemory) h = memory-last f max h

-- the octets of a frame whose measure was known
pub known : {E : Type 0} → (f : Frame) (result : Result (List ℕ) E) → IfOk result (λ octets. frame_octets f ≡ Some octets) → IfOk result (λ octets. octets ≡ octets_of f)
unfolding octets_of
known f (Ok x) h = sym (ap (λ o. unwrap_or o []) h)
known f (Err e) h = tt
